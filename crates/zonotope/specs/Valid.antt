-- A given set that no cause refuses.
use Rattle.std.specs.Prelude.{◌≡◌, refl, Bool, true, false, cond, ◌||◌, ℕ}
use Rattle.std.proofs.Math.Option.{Option, none, some}
use Rattle.std.proofs.Common.{arith}
use Rattle.model.specs.Limits.{record_identifiers}
use Rattle.model.specs.Valid.{bad_counts, bad_range, bad_order, is_too_wide}
use Rattle.model.specs.Run.{first_of}
use Rattle.model.specs.Library.{Given, examine}
use Rattle.whole.specs.Tests.{or_left, or_right}

-- none of the causes 4, 6, 7 and 8 holds
pub record Unrefused (g : Given) : Type 0 where
  pub counts : bad_counts g.set ≡ false
  pub range : bad_range record_identifiers g.set ≡ false
  pub full : g.spare ≡ false
  pub order : bad_order g.set ≡ false
  pub narrow : is_too_wide g.set ≡ false

-- a cause that isn't the first one doesn't hold
pub passed : (b : Bool) (n : ℕ) {o : Option ℕ} → cond b (some n) o ≡ none → (b ≡ false) × (o ≡ none)
passed true n e = let z : ◌≡◌ {A = ℕ} 0 1 = cc in absurd (omega arith)
passed false n e = (refl, e)

pub valid : (g : Given) → examine g ≡ none → Unrefused g
unfolding examine first_of
valid g e =
    let a = passed (bad_counts g.set) 4 e in
    let b = passed (bad_range record_identifiers g.set) 6 a.1 in
    let c = passed (g.spare || bad_order g.set) 7 b.1 in
    let d = passed (is_too_wide g.set) 8 c.1 in
    record {
      counts = a.0;
      range = b.0;
      full = or_left g.spare (bad_order g.set) c.0;
      order = or_right g.spare (bad_order g.set) c.0;
      narrow = d.0;
    }
