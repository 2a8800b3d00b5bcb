-- A work slice that is cleared where it was used is as if it had been cleared at once.
use Rattle.std.specs.Prelude.{◌≡◌, refl, List, Bool, true, false, ℕ, length}
use Rattle.std.proofs.Common.{◌∙◌}
use Rattle.step.specs.Answer.{cleared_if}
use Rattle.step.specs.Left.{used-cleared}
use Rattle.advance.specs.Advanced.{Used}

pub given_back : {A : Type 0} {d : A} {n : ℕ} {xs ys zs : List A} (used : Bool) → Used used d n xs ys → length ys ≡ length xs
    → zs ≡ cleared_if used n d ys → zs ≡ cleared_if used n d xs
given_back {d = d} {n} {xs} true u l c = used-cleared d n xs refl u.kept l c
given_back {d = d} {n} {xs} false u l c = c ∙ u.untouched refl
