-- The numbers with which the calls refuse are those of their causes.
use Rattle.std.specs.Prelude.{◌≡◌, List, [], ◌∷◌, Bool, true, false, cond, ℕ, ⊤}
use Rattle.std.proofs.Common.{refl, subst}
use Rattle.std.proofs.Math.Option.{some}
use Rattle.model.specs.Run.{Cause as Asked, first_of}
use Rattle.model.specs.Library.{examine, check_refusal, disturb_refusal, reduce_refusal, tied_refusal, independent_refusal}
use Rattle.model.specs.Library.{hull_refusal, step_refusal, ranged_refusal}
use Rattle.zonotope.specs.Answer.{Numbered}
use Rattle.zonotope.specs.CallNumbers.{HasCause, CallNumbers}

AllNumbered : List Asked → Type 0
AllNumbered [] = ⊤
AllNumbered (c ∷ cs) = Numbered c.number × AllNumbered cs

first_numbered : (cs : List Asked) → AllNumbered cs → HasCause (first_of cs)
unfolding first_of AllNumbered
first_numbered [] k n e = absurd cc
first_numbered (c ∷ cs) k n e = go c.holds (first_numbered cs k.1 n) e
  where
    go : (b : Bool) → (first_of cs ≡ some n → Numbered n) → cond b (some c.number) (first_of cs) ≡ some n → Numbered n
    go true later e = let s : c.number ≡ n = cc in subst Numbered s k.0
    go false later e = later e

pub call_numbers : CallNumbers
unfolding examine check_refusal disturb_refusal reduce_refusal tied_refusal independent_refusal hull_refusal step_refusal ranged_refusal AllNumbered
call_numbers = record {
  examining = λ g. first_numbered _ (refl, (refl, (refl, (refl, tt))));
  checking = λ n count normals bounds g. first_numbered _ (refl, (refl, (refl, (refl, (refl, (refl, (refl, (refl, tt))))))));
  disturbing = λ n radii g. first_numbered _ (refl, (refl, (refl, (refl, (refl, (refl, (refl, (refl, (refl, (refl, tt))))))))));
  reducing = λ terms generators g. first_numbered _ (refl, (refl, (refl, (refl, (refl, (refl, tt))))));
  tied = λ g h. first_numbered _ (refl, (refl, (refl, (refl, (refl, (refl, (refl, (refl, (refl, (refl, (refl, tt)))))))))));
  independent = λ next g h.
      first_numbered _ (refl, (refl, (refl, (refl, (refl, (refl, (refl, (refl, (refl, (refl, (refl, (refl, tt))))))))))));
  hulling = λ next g h.
      first_numbered _ (refl, (refl, (refl, (refl, (refl, (refl, (refl, (refl, (refl, (refl, (refl, (refl, tt))))))))))));
  stepping = λ short p g. first_numbered _ (refl, (refl, (refl, (refl, (refl, (refl, (refl, (refl, (refl, (refl, tt))))))))));
  ranged = λ short p d g.
      first_numbered _ (refl, (refl, (refl, (refl, (refl, (refl, (refl, (refl, (refl, (refl, (refl, (refl, tt))))))))))));
}
