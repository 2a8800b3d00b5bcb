-- A fact of a choice, by the test that chooses.
use mathlib.Core.Bool.{Bool, true, false, not, cond}
use lib.Dec.{T}

pub by_test : {A : Type 0} (P : A → Type 0) (b : Bool) {x y : A} → (T b → P x) → (T (not b) → P y) → P (cond b x y)
by_test P true f g = f tt
by_test P false f g = g tt
