-- Where finishing folds nothing, the finished set has exactly the points of the set.
use mathlib.Core.Path.{◌≡◌, refl, sym, ◌∙◌, ap, ap₂, subst}
use mathlib.Core.List.{List, [], ◌∷◌}
use mathlib.Core.Bool.{Bool, false, not}
use mathlib.Core.Logic.{◌↔◌}
use Prim.Native.Nat.{ℕ}
use Rattle.rational.specs.Sum.{All, none, more}
use Rattle.rational.proofs.Sum.{All-imp}
use Rattle.model.specs.Set.{Zonotope}
use Rattle.model.specs.Finish.{core, those, fold_all, fold_term, too_high, with_terms}
use Rattle.model.specs.Finish.{fold_high, fold_terms, fold_generators, drop_unused, finish}
use Rattle.model.specs.Points.{Vector, Point}
use Rattle.model.specs.Precision.{cleaned, FoldsNothing}
use Rattle.model.proofs.Shape.{Low, not-high}
use Rattle.model.proofs.FirstBySize.{terms_few, generators_few}
use Rattle.model.proofs.Alike.{Alike, alike_trans}
use Rattle.model.proofs.FinishCovers.{cleaned_alike}
use Rattle.model.proofs.UnusedCovers.{unused_alike}

none_pass : {A : Type 0} (p : A → Bool) {l : List A} → All (λ a. p a ≡ false) l → those p l ≡ []
unfolding those
none_pass p none = refl
none_pass p (more h t) = rw (h, none_pass p t)

pub all_pass : {A : Type 0} (p : A → Bool) {l : List A} → All (λ a. p a ≡ false) l → those (λ a. not (p a)) l ≡ l
unfolding those
all_pass p none = refl
all_pass p (more {a = a} h t) = rw h (ap (a ∷◌) (all_pass p t))

pub high_stays : (s : Zonotope) → All Low s.terms → fold_high s ≡ s
unfolding fold_high fold_all
high_stays s a = let l = All-imp not-high a in
    ap₂ (λ ts us. with_terms s (record { core = fold_all fold_term ts (core s); kept = us })) (none_pass too_high l) (all_pass too_high l)

-- and so the finished set and the set are alike
pub finish_alike : (weights : List ℕ) (h q : ℕ) (s : Zonotope) → FoldsNothing h q s → Alike s (finish weights h q s)
unfolding finish
finish_alike weights h q s n =
    let a = cleaned s in let b = high_stays a n.low-exponents in
    let c = ap (fold_terms weights h) b ∙ terms_few weights h a n.few_terms in
    let d = ap (fold_generators weights q) c ∙ generators_few weights q a n.few_generators in
    subst (Alike s) (ap drop_unused (sym d)) (alike_trans (cleaned_alike s) (unused_alike a))

-- finishing that folds nothing leaves exactly the points, at any factor values
pub finish-exact : (weights : List ℕ) (h q : ℕ) {s : Zonotope} → FoldsNothing h q s → {α x : Vector}
    → Point s α x ↔ Point (finish weights h q s) α x
finish-exact weights h q {s} n = (finish_alike weights h q s n).same
