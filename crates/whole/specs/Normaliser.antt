-- A normaliser for commutative rings, by reflection: expressions with one normal form have one value in every such ring (`solve`).
use Rattle.std.specs.Prelude.{◌≡◌, refl, List, [], ◌∷◌, Bool, true, false, T, leb, eqb, ℤ, pos, negsuc, ◌+ℤ◌, ◌*ℤ◌}
use Rattle.std.proofs.Common.{sym, ◌∙◌, ap, ap₂, eqb→eq}
use Prim.Native.Nat.{ℕ, zero, suc, compare, Ordering}
use Rattle.std.proofs.Math.Facts.{and_yes}
use Rattle.whole.specs.Polynomial.{Expr, var, con, ◌:+◌, ◌:*◌, ◌:-◌, negated, Poly, nil, term, place_var, insert_var, times_mono}
use Rattle.whole.specs.Polynomial.{same_mono, add_same, place, insert, sum_poly, scaled, times_poly, keep_nonzero, trim, raw, norm}

-- ---- a commutative ring, with the whole numbers as its constants
pub record Ring (A : Type 0) (of : ℤ → A) (add mul : A → A → A) (neg : A → A) : Type 0 where
  pub add_comm : (a b : A) → add a b ≡ add b a
  pub add_assoc : (a b c : A) → add (add a b) c ≡ add a (add b c)
  pub zero-add : (a : A) → add (of (pos 0)) a ≡ a
  pub mul_comm : (a b : A) → mul a b ≡ mul b a
  pub mul_assoc : (a b c : A) → mul (mul a b) c ≡ mul a (mul b c)
  pub one-mul : (a : A) → mul (of (pos 1)) a ≡ a
  pub zero-mul : (a : A) → mul (of (pos 0)) a ≡ of (pos 0)
  pub mul-add : (a b c : A) → mul a (add b c) ≡ add (mul a b) (mul a c)
  pub neg_is : (a : A) → neg a ≡ mul (of (negsuc 0)) a
  pub of_add : (a b : ℤ) → of (a +ℤ b) ≡ add (of a) (of b)
  pub of_mul : (a b : ℤ) → of (a *ℤ b) ≡ mul (of a) (of b)

same_mono→ : (m n : List ℕ) → T (same_mono m n) → m ≡ n
same_mono→ [] [] h = refl
same_mono→ [] (j ∷ n) h = absurd h
same_mono→ (i ∷ m) [] h = absurd h
same_mono→ (i ∷ m) (j ∷ n) h = ap₂ ◌∷◌ (eqb→eq i j (and_yes (eqb i j) (same_mono m n) h).0)
    (same_mono→ m n (and_yes (eqb i j) (same_mono m n) h).1)

module _ {A : Type 0} {of : ℤ → A} {add mul : A → A → A} {neg : A → A} (L : Ring A of add mul neg) where
  -- values
  abbrev pub at : List A → ℕ → A
  at [] i = of (pos 0)
  at (a ∷ ρ) zero = a
  at (a ∷ ρ) (suc i) = at ρ i

  abbrev pub eval : List A → Expr → A
  eval ρ (var i) = at ρ i
  eval ρ (con c) = of c
  eval ρ (e :+ f) = add (eval ρ e) (eval ρ f)
  eval ρ (e :* f) = mul (eval ρ e) (eval ρ f)
  eval ρ (e :- f) = add (eval ρ e) (neg (eval ρ f))
  eval ρ (negated e) = neg (eval ρ e)

  abbrev value_mono : List A → List ℕ → A
  value_mono ρ [] = of (pos 1)
  value_mono ρ (i ∷ m) = mul (at ρ i) (value_mono ρ m)

  abbrev value_poly : List A → Poly → A
  value_poly ρ nil = of (pos 0)
  value_poly ρ (term k m c p) = add (mul (of c) (value_mono ρ m)) (value_poly ρ p)

  add_left_comm : (a b c : A) → add a (add b c) ≡ add b (add a c)
  add_left_comm a b c = sym (L.add_assoc a b c) ∙ ap (λ x. add x c) (L.add_comm a b) ∙ L.add_assoc b a c

  mul_left_comm : (a b c : A) → mul a (mul b c) ≡ mul b (mul a c)
  mul_left_comm a b c = sym (L.mul_assoc a b c) ∙ ap (λ x. mul x c) (L.mul_comm a b) ∙ L.mul_assoc b a c

  add-mul : (a b c : A) → mul (add a b) c ≡ add (mul a c) (mul b c)
  add-mul a b c = L.mul_comm (add a b) c ∙ L.mul-add c a b ∙ ap₂ add (L.mul_comm c a) (L.mul_comm c b)

  module _ (ρ : List A) where
    insert_var_is : (i : ℕ) (m : List ℕ) → value_mono ρ (insert_var i m) ≡ mul (at ρ i) (value_mono ρ m)
    insert_var_is i [] = refl
    insert_var_is i (j ∷ m) = go (leb i j) (insert_var_is i m)
      where
        go : (b : Bool) → value_mono ρ (insert_var i m) ≡ mul (at ρ i) (value_mono ρ m) → value_mono ρ (place_var b i j m (insert_var i m)) ≡
            mul (at ρ i) (mul (at ρ j) (value_mono ρ m))
        go true ih = refl
        go false ih = ap (mul (at ρ j)) ih ∙ mul_left_comm (at ρ j) (at ρ i) (value_mono ρ m)

    times_mono_is : (l m : List ℕ) → value_mono ρ (times_mono l m) ≡ mul (value_mono ρ l) (value_mono ρ m)
    times_mono_is [] m = sym (L.one-mul (value_mono ρ m))
    times_mono_is (i ∷ l) m = insert_var_is i (times_mono l m) ∙ ap (mul (at ρ i)) (times_mono_is l m)
        ∙ sym (L.mul_assoc (at ρ i) (value_mono ρ l) (value_mono ρ m))

    insert_is : (k : ℕ) (m : List ℕ) (c : ℤ) (p : Poly) → value_poly ρ (insert k m c p) ≡ add (mul (of c) (value_mono ρ m)) (value_poly ρ p)
    insert_is k m c nil = refl
    insert_is k m c (term l n d p) = go (compare k l) (insert_is k m c p)
      where
        later : value_poly ρ (insert k m c p) ≡ add (mul (of c) (value_mono ρ m)) (value_poly ρ p) →
            add (mul (of d) (value_mono ρ n)) (value_poly ρ (insert k m c p)) ≡
            add (mul (of c) (value_mono ρ m)) (add (mul (of d) (value_mono ρ n)) (value_poly ρ p))
        later ih = ap (add (mul (of d) (value_mono ρ n))) ih ∙ add_left_comm (mul (of d) (value_mono ρ n)) (mul (of c) (value_mono ρ m))
            (value_poly ρ p)

        here : (b : Bool) → (T b → m ≡ n) → value_poly ρ (insert k m c p) ≡ add (mul (of c) (value_mono ρ m)) (value_poly ρ p) →
            value_poly ρ (add_same b l n c d p (λ (_ : Unit {0}). insert k m c p)) ≡
            add (mul (of c) (value_mono ρ m)) (add (mul (of d) (value_mono ρ n)) (value_poly ρ p))
        here true e ih =
            ap (λ x. add (mul x (value_mono ρ n)) (value_poly ρ p)) (L.of_add c d)
            ∙ ap (λ x. add x (value_poly ρ p)) (add-mul (of c) (of d) (value_mono ρ n))
            ∙ L.add_assoc (mul (of c) (value_mono ρ n)) (mul (of d) (value_mono ρ n)) (value_poly ρ p)
            ∙ ap (λ (x : List ℕ). add (mul (of c) (value_mono ρ x)) (add (mul (of d) (value_mono ρ n)) (value_poly ρ p))) (sym (e tt))
        here false e ih = later ih

        go : (o : Ordering) → value_poly ρ (insert k m c p) ≡ add (mul (of c) (value_mono ρ m)) (value_poly ρ p) →
            value_poly ρ (place o k m c l n d p (λ (_ : Unit {0}). insert k m c p)) ≡
            add (mul (of c) (value_mono ρ m)) (add (mul (of d) (value_mono ρ n)) (value_poly ρ p))
        go Ordering.lt ih = refl
        go Ordering.eq ih = here (same_mono m n) (same_mono→ m n) ih
        go Ordering.gt ih = later ih

    sum_is : (p q : Poly) → value_poly ρ (sum_poly p q) ≡ add (value_poly ρ p) (value_poly ρ q)
    sum_is nil q = sym (L.zero-add (value_poly ρ q))
    sum_is (term k m c p) q =
        insert_is k m c (sum_poly p q) ∙ ap (add (mul (of c) (value_mono ρ m))) (sum_is p q)
        ∙ sym (L.add_assoc (mul (of c) (value_mono ρ m)) (value_poly ρ p) (value_poly ρ q))

    -- (c m) (d n) = (c d) (m n)
    swap : (m n : List ℕ) (c d : ℤ) → mul (of (c *ℤ d)) (value_mono ρ (times_mono m n)) ≡
        mul (mul (of c) (value_mono ρ m)) (mul (of d) (value_mono ρ n))
    swap m n c d =
        ap₂ mul (L.of_mul c d) (times_mono_is m n)
        ∙ L.mul_assoc (of c) (of d) (mul (value_mono ρ m) (value_mono ρ n))
        ∙ ap (mul (of c)) (mul_left_comm (of d) (value_mono ρ m) (value_mono ρ n))
        ∙ sym (L.mul_assoc (of c) (value_mono ρ m) (mul (of d) (value_mono ρ n)))

    zero_r : (a : A) → mul a (of (pos 0)) ≡ of (pos 0)
    zero_r a = L.mul_comm a (of (pos 0)) ∙ L.zero-mul a

    scaled_is : (k : ℕ) (m : List ℕ) (c : ℤ) (q : Poly) → value_poly ρ (scaled k m c q) ≡ mul (mul (of c) (value_mono ρ m)) (value_poly ρ q)
    scaled_is k m c nil = sym (zero_r (mul (of c) (value_mono ρ m)))
    scaled_is k m c (term l n d q) =
        ap₂ add (swap m n c d) (scaled_is k m c q)
        ∙ sym (L.mul-add (mul (of c) (value_mono ρ m)) (mul (of d) (value_mono ρ n)) (value_poly ρ q))

    product_is : (p q : Poly) → value_poly ρ (times_poly p q) ≡ mul (value_poly ρ p) (value_poly ρ q)
    product_is nil q = sym (L.zero-mul (value_poly ρ q))
    product_is (term k m c p) q =
        sum_is (scaled k m c q) (times_poly p q) ∙ ap₂ add (scaled_is k m c q) (product_is p q)
        ∙ sym (add-mul (mul (of c) (value_mono ρ m)) (value_poly ρ p) (value_poly ρ q))

    trim_is : (p : Poly) → value_poly ρ (trim p) ≡ value_poly ρ p
    trim_is nil = refl
    trim_is (term k m c p) = go c (trim_is p)
      where
        go : (c : ℤ) → value_poly ρ (trim p) ≡ value_poly ρ p → value_poly ρ (keep_nonzero c k m (trim p)) ≡
            add (mul (of c) (value_mono ρ m)) (value_poly ρ p)
        go (pos zero) ih = ih ∙ sym (ap (λ x. add x (value_poly ρ p)) (L.zero-mul (value_mono ρ m)) ∙ L.zero-add (value_poly ρ p))
        go (pos (suc j)) ih = ap (add (mul (of (pos (suc j))) (value_mono ρ m))) ih
        go (negsuc j) ih = ap (add (mul (of (negsuc j)) (value_mono ρ m))) ih

    one_r : (a : A) → mul a (of (pos 1)) ≡ a
    one_r a = L.mul_comm a (of (pos 1)) ∙ L.one-mul a

    last-zero : (a : A) → add a (of (pos 0)) ≡ a
    last-zero a = L.add_comm a (of (pos 0)) ∙ L.zero-add a

    neg-scale : (p : Poly) → value_poly ρ (scaled 0 [] (negsuc 0) p) ≡ neg (value_poly ρ p)
    neg-scale p = scaled_is 0 [] (negsuc 0) p ∙ ap (λ x. mul x (value_poly ρ p)) (one_r (of (negsuc 0))) ∙ sym (L.neg_is (value_poly ρ p))

    raw_is : (e : Expr) → value_poly ρ (raw e) ≡ eval ρ e
    raw_is (var i) = last-zero (mul (of (pos 1)) (mul (at ρ i) (of (pos 1)))) ∙ L.one-mul (mul (at ρ i) (of (pos 1))) ∙ one_r (at ρ i)
    raw_is (con c) = last-zero (mul (of c) (of (pos 1))) ∙ one_r (of c)
    raw_is (e :+ f) = sum_is (raw e) (raw f) ∙ ap₂ add (raw_is e) (raw_is f)
    raw_is (e :* f) = product_is (raw e) (raw f) ∙ ap₂ mul (raw_is e) (raw_is f)
    raw_is (e :- f) = sum_is (raw e) (scaled 0 [] (negsuc 0) (raw f)) ∙ ap₂ add (raw_is e) (neg-scale (raw f) ∙ ap neg (raw_is f))
    raw_is (negated e) = neg-scale (raw e) ∙ ap neg (raw_is e)

    pub solve : (e f : Expr) → norm e ≡ norm f → eval ρ e ≡ eval ρ f
    solve e f h = sym (trim_is (raw e) ∙ raw_is e) ∙ ap (value_poly ρ) h ∙ (trim_is (raw f) ∙ raw_is f)
