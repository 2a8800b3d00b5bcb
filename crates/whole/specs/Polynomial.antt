-- Polynomials with whole coefficients in a normal form that is computed: what the ring normaliser (`Normaliser.antt`) compares.
use Rattle.std.specs.Prelude.{List, [], ◌∷◌, Bool, true, false, ◌&&◌, leb, eqb, ℤ, pos, negsuc, ◌+ℤ◌, ◌*ℤ◌}
use Prim.Native.Nat.{ℕ, zero, suc, ◌+◌, ◌*◌, ◌^◌, compare, Ordering}

-- a ring expression over variables, which are numbered, and whole constants
infixl 6 ◌:+◌ ◌:-◌
infixl 7 ◌:*◌
pub data Expr : Type 0 where
  var : ℕ → Expr
  con : ℤ → Expr
  ◌:+◌ ◌:*◌ ◌:-◌ : Expr → Expr → Expr
  negated : Expr → Expr

-- A monomial is the sorted list of its variables, a polynomial the list of its monomials with their coefficients, sorted by a code.
-- The code of a monomial is one number, the sum of `2 ^ (8 * i)` over its variables i, so that two monomials are compared at once.
-- Nothing rests on it: where two codes are equal the lists are compared.
pub data Poly : Type 0 where
  nil : Poly
  term : ℕ → List ℕ → ℤ → Poly → Poly

abbrev pub place_var : Bool → ℕ → ℕ → List ℕ → List ℕ → List ℕ
place_var true i j m r = i ∷ j ∷ m
place_var false i j m r = j ∷ r

abbrev pub insert_var : ℕ → List ℕ → List ℕ
insert_var i [] = i ∷ []
insert_var i (j ∷ m) = place_var (leb i j) i j m (insert_var i m)

abbrev pub times_mono : List ℕ → List ℕ → List ℕ
times_mono [] m = m
times_mono (i ∷ l) m = insert_var i (times_mono l m)

abbrev pub same_mono : List ℕ → List ℕ → Bool
same_mono [] [] = true
same_mono [] (j ∷ n) = false
same_mono (i ∷ m) [] = false
same_mono (i ∷ m) (j ∷ n) = eqb i j && same_mono m n

-- the rest is handed over as a function, so that it is computed only where it is wanted
abbrev pub add_same : Bool → ℕ → List ℕ → ℤ → ℤ → Poly → (Unit {0} → Poly) → Poly
add_same true l n c d p r = term l n (c +ℤ d) p
add_same false l n c d p r = term l n d (r tt)

abbrev pub place : Ordering → ℕ → List ℕ → ℤ → ℕ → List ℕ → ℤ → Poly → (Unit {0} → Poly) → Poly
place Ordering.lt k m c l n d p r = term k m c (term l n d p)
place Ordering.eq k m c l n d p r = add_same (same_mono m n) l n c d p r
place Ordering.gt k m c l n d p r = term l n d (r tt)

abbrev pub insert : ℕ → List ℕ → ℤ → Poly → Poly
insert k m c nil = term k m c nil
insert k m c (term l n d p) = place (compare k l) k m c l n d p (λ (_ : Unit {0}). insert k m c p)

abbrev pub sum_poly : Poly → Poly → Poly
sum_poly nil q = q
sum_poly (term k m c p) q = insert k m c (sum_poly p q)

abbrev pub scaled : ℕ → List ℕ → ℤ → Poly → Poly
scaled k m c nil = nil
scaled k m c (term l n d q) = term (k + l) (times_mono m n) (c *ℤ d) (scaled k m c q)

abbrev pub times_poly : Poly → Poly → Poly
times_poly nil q = nil
times_poly (term k m c p) q = sum_poly (scaled k m c q) (times_poly p q)

abbrev pub keep_nonzero : ℤ → ℕ → List ℕ → Poly → Poly
keep_nonzero (pos zero) k m p = p
keep_nonzero (pos (suc j)) k m p = term k m (pos (suc j)) p
keep_nonzero (negsuc j) k m p = term k m (negsuc j) p

abbrev pub trim : Poly → Poly
trim nil = nil
trim (term k m c p) = keep_nonzero c k m (trim p)

abbrev pub raw : Expr → Poly
raw (var i) = term (2 ^ (8 * i)) (i ∷ []) (pos 1) nil
raw (con c) = term 0 [] c nil
raw (e :+ f) = sum_poly (raw e) (raw f)
raw (e :* f) = times_poly (raw e) (raw f)
raw (e :- f) = sum_poly (raw e) (scaled 0 [] (negsuc 0) (raw f))
raw (negated e) = scaled 0 [] (negsuc 0) (raw e)

abbrev pub norm : Expr → Poly
norm e = trim (raw e)
