-- The numbers of a set that is held in rows, as a record holds them.
use Rattle.std.specs.Prelude.{◌≡◌, List, [], ℕ, zero, suc, ◌+◌, ◌*◌, ◌/◌, ◌%◌, ◌≤◌, ◌<◌, length, get_or, take, ℤ, pos, nat_abs}
use Rattle.std.proofs.Common.{sym, ap, subst, ◌∙◌, arith, ext_get_or, length-take-le}
use Rattle.std.proofs.Math.Decide.{dec_lt}
use Rattle.whole.specs.Sum.{upto_by, upto_ℕ}
use Rattle.whole.specs.Tab.{tab, length-tab, get_d_tab, get_d_tab_past}
use Rattle.whole.specs.Write.{write, write-length, write-at, write-after, write_cong, get_d_take}
use Rattle.model.specs.Limits.{max_span}
use Rattle.model.specs.Set.{Radii, at, radius_of, with_folded}
use Rattle.zonotope.specs.declared.WideRadii.{WideRadii}
use Rattle.zonotope.specs.Record.{wide_parts_of}
use Rattle.rows.specs.Rows.{number_row}
use Rattle.finish.specs.declared.Reduced.{Reduced}
use Rattle.finish.specs.Held.{RowsLong}
use Rattle.finish.specs.Spans.{column_size, held_span}

-- no span exceeds the first n numbers
pub record WithinSpan (n : ℕ) (xs : List ℤ) : Type 0 where
  pub within : (x : ℕ) → x < n → nat_abs (at xs x) ≤ max_span

-- the numbers of the first n rows of s in an array of w, the other places 0
abbrev pub numbers_array : ℕ → List ℤ → ℕ → List ℤ
numbers_array w s n = tab w (λ x. at (get_or (tab n (number_row s)) (x / 6) []) (x % 6))

-- no span exceeds a part of radii of six coordinates
pub record PartsNarrow (r : Radii) : Type 0 where
  pub carried : (i : ℕ) → i < 6 → get_or r.carried i 0 ≤ max_span
  pub rounded : (i : ℕ) → i < 6 → get_or r.rounded i 0 ≤ max_span
  pub folded : (i : ℕ) → i < 6 → get_or r.folded i 0 ≤ max_span
  pub given : (i : ℕ) → i < 6 → get_or r.given i 0 ≤ max_span

-- the set's numbers but for its radii fit 32 bits
pub record Narrowable (k : Reduced) (s g : List ℤ) : Type 0 where
  pub terms_few : k.terms ≤ 40
  pub terms-long : k.terms * 6 ≤ length s
  pub generators_few : k.generators ≤ 24
  pub generators_long : k.generators * 6 ≤ length g
  pub centre-within : WithinSpan 6 k.centre
  pub terms-within : WithinSpan (k.terms * 6) s
  pub generators_within : WithinSpan (k.generators * 6) g

-- the arrays of the record
pub record Narrowed (k : Reduced) (s g centre coefficients vectors : List ℤ) : Type 0 where
  pub centre_is : centre ≡ tab 6 (at k.centre)
  pub coefficients_are : coefficients ≡ numbers_array 240 s k.terms
  pub vectors_are : vectors ≡ numbers_array 144 g k.generators

-- ---- rows written to an array of zeros
pub numbers-array : (zs : List ℤ) (w : ℕ) (s : List ℤ) (n : ℕ) → length zs ≡ w → ((x : ℕ) → at zs x ≡ pos 0) → n * 6 ≤ w
    → write zs 0 (at s) (n * 6) ≡ numbers_array w s n
numbers-array zs w s n l z h =
    let long = write-length zs 0 (at s) (n * 6) in
    let cell : ℕ → ℤ = λ x. at (get_or (tab n (number_row s)) (x / 6) []) (x % 6) in
    ext_get_or (pos 0) (write zs 0 (at s) (n * 6)) (numbers_array w s n) (long ∙ l ∙ sym (length-tab w cell))
    (λ x b.
    let d : x < w = omega (arith, long) in
    value x (dec_lt x (n * 6)) ∙ sym (get_d_tab w cell (pos 0) x d))
  where
    value : (x : ℕ) → Dec (x < n * 6) → at (write zs 0 (at s) (n * 6)) x ≡ at (get_or (tab n (number_row s)) (x / 6) []) (x % 6)
    value x (yes p) =
        let e : 0 + x ≡ x = omega arith in
        let q : x / 6 * 6 + x % 6 ≡ x = omega arith in
        ap (at (write zs 0 (at s) (n * 6))) (sym e)
        ∙ write-at zs 0 (at s) (pos 0) (n * 6) x p (omega arith)
        ∙ ap (at s) (sym q)
        ∙ sym (get_d_tab 6 (λ j. get_or s (x / 6 * 6 + j) (pos 0)) (pos 0) (x % 6) (omega arith))
        ∙ ap (λ (v : List ℤ). at v (x % 6)) (sym (get_d_tab n (number_row s) [] (x / 6) (omega arith)))
    value x (no p) =
        write-after zs 0 (at s) (pos 0) (n * 6) x (omega arith)
        ∙ z x
        ∙ ap (λ (v : List ℤ). at v (x % 6)) (sym (get_d_tab_past n (number_row s) [] (x / 6) (omega arith)))

-- the part of a slice that holds the first n numbers: no span exceeds them, and written they are those of the slice
module _ (n : ℕ) (s : List ℤ) (h : n ≤ length s) where
  pub taken-within : WithinSpan n s → WithinSpan (length (take n s)) (take n s)
  taken-within w = record {
    within = λ x l.
        let k : x < n = omega (arith, length-take-le n s h) in
        rw (get_d_take n s x (pos 0) k) (w.within x k);
  }

  pub written-taken : (zs : List ℤ) → write zs 0 (at (take n s)) (length (take n s)) ≡ write zs 0 (at s) n
  written-taken zs =
      ap (write zs 0 (at (take n s))) (length-take-le n s h) ∙ write_cong zs 0 _ _ n (λ k l. get_d_take n s k (pos 0) l)

-- ---- a span that isn't too wide bounds every number
upto_has : (f : ℕ → ℕ) (n t : ℕ) → t < n → f t ≤ upto_ℕ f n
unfolding upto_by
upto_has f zero t h = absurd (omega arith)
upto_has f (suc n) t h = go (λ l. upto_has f n t l) (dec_lt t n) where
  go : (t < n → f t ≤ upto_ℕ f n) → Dec (t < n) → f t ≤ upto_ℕ f n + f n
  go ih (yes l) = omega (arith, ih l)
  go ih (no l) = let e : t ≡ n = omega arith in rw e (omega arith)

column_within : (s : List ℤ) (n : ℕ) → ((i : ℕ) → i < 6 → column_size s n i ≤ max_span) → WithinSpan (n * 6) s
column_within s n h = record {
  within = λ x l.
      let q : x / 6 * 6 + x % 6 ≡ x = omega arith in
      let f : ℕ → ℕ = λ t. nat_abs (get_or s (t * 6 + x % 6) (pos 0)) in
      let a : nat_abs (get_or s (x / 6 * 6 + x % 6) (pos 0)) ≤ column_size s n (x % 6) = upto_has f n (x / 6) (omega arith) in
      let b = h (x % 6) (omega arith) in
      subst (λ (y : ℕ). nat_abs (at s y) ≤ max_span) q (omega arith);
}

pub narrowable : (r : WideRadii) {k : Reduced} {s g : List ℤ} → RowsLong k s g → ((i : ℕ) → i < 6 → held_span r k s g i ≤ max_span)
    → Narrowable k s g
narrowable r {k} {s} {g} v h = record {
  terms_few = v.terms_few;
  terms-long = v.terms-long;
  generators_few = v.generators_few;
  generators_long = v.generators_long;
  centre-within = record { within = λ i l. omega (arith, h i l) };
  terms-within = column_within s k.terms (λ i l. omega (arith, h i l));
  generators_within = column_within g k.generators (λ i l. omega (arith, h i l));
}

pub parts-narrow : (r : WideRadii) (k : Reduced) (s g : List ℤ) → ((i : ℕ) → i < 6 → held_span r k s g i ≤ max_span)
    → PartsNarrow (with_folded (wide_parts_of r) k.folded)
unfolding radius_of
parts-narrow r k s g h = record {
  carried = λ i l. omega (arith, h i l);
  rounded = λ i l. omega (arith, h i l);
  folded = λ i l. omega (arith, h i l);
  given = λ i l. omega (arith, h i l);
}
