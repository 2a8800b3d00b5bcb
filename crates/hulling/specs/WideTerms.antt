-- Half of a term with a power of the blending factor, in wide form.
use Rattle.std.specs.Prelude.{◌≡◌, refl, List, [], ◌∷◌, ◌++◌, map, Bool, true, false, cond, ℕ, zero, suc, eqb, length, get_or, ℤ, pos, neg_ℤ, ◌*ℤ◌}
use Rattle.std.proofs.Common.{sym, ap, ap₂, ◌∙◌, arith, eqb-true}
use Rattle.std.proofs.lemmas.Bool.{eqb-false}
use Rattle.whole.specs.Ring.{*ℤ-neg_ℤ, neg_ℤ-*ℤ}
use Rattle.whole.specs.Tab.{tab, tab_cong, get_d_tab}
use Rattle.rational.specs.Sum.{All, none, more}
use Rattle.model.specs.Set.{Term, at}
use Rattle.model.specs.Hull.{halved, blend}
use Rattle.model.proofs.Vectors.{at_map}
use Rattle.raw.specs.Append.{term-same}
use Rattle.finish.specs.Wide.{wide_term}

-- half, and half of the opposite, in raw units
abbrev pub half : ℤ
half = pos 8388608

abbrev pub turned_half : ℤ
turned_half = neg_ℤ (pos 8388608)

-- the opposite of a term
abbrev pub turned : Term → Term
turned t = record { exponents = t.exponents; coefficients = map neg_ℤ t.coefficients }

-- a term in wide form with the power p of factor n, its numbers times h
abbrev pub blend_wide : ℕ → ℕ → ℤ → Term → Term
blend_wide n p h t = record {
  exponents = tab 12 (λ k. cond (eqb k n) p (get_or t.exponents k 0));
  coefficients = tab 6 (λ j. h *ℤ at t.coefficients j);
}

-- ---- a power after the others
last-here : (xs : List ℕ) (p k : ℕ) → k ≡ length xs → get_or (xs ++ (p ∷ [])) k 0 ≡ p
last-here [] p zero e = refl
last-here [] p (suc k) e = absurd (omega arith)
last-here (x ∷ xs) p zero e = absurd (omega arith)
last-here (x ∷ xs) p (suc k) e = last-here xs p k (omega arith)

last_other : (xs : List ℕ) (p k : ℕ) → (k ≡ length xs → ⊥) → get_or (xs ++ (p ∷ [])) k 0 ≡ get_or xs k 0
last_other [] p zero e = absurd (e refl)
last_other [] p (suc k) e = refl
last_other (x ∷ xs) p zero e = refl
last_other (x ∷ xs) p (suc k) e = last_other xs p k (λ q. e (ap suc q))

last-at : (xs : List ℕ) (p n k : ℕ) → length xs ≡ n → get_or (xs ++ (p ∷ [])) k 0 ≡ cond (eqb k n) p (get_or xs k 0)
last-at xs p n k l = go (eqb k n) refl
  where
    go : (b : Bool) → eqb k n ≡ b → get_or (xs ++ (p ∷ [])) k 0 ≡ cond b p (get_or xs k 0)
    go true e = last-here xs p k (eqb-true k n e ∙ sym l)
    go false e = last_other xs p k (λ q. eqb-false k n e (q ∙ l))

-- ---- numbers halved
pub half_at : (v : List ℤ) (j : ℕ) → at (halved v) j ≡ half *ℤ at v j
half_at = at_map (half *ℤ◌) refl

turned-at : (v : List ℤ) (j : ℕ) → at (halved (map neg_ℤ v)) j ≡ turned_half *ℤ at v j
turned-at v j =
    half_at (map neg_ℤ v) j ∙ ap (half *ℤ◌) (at_map neg_ℤ refl v j) ∙ *ℤ-neg_ℤ half (at v j) ∙ sym (neg_ℤ-*ℤ half (at v j))

-- ---- terms
-- one of n factors
module _ (n p : ℕ) (t : Term) (l : length t.exponents ≡ n) where
  wide-with : (h : ℤ) (v : List ℤ) → ((j : ℕ) → at v j ≡ h *ℤ at t.coefficients j)
      → wide_term (record { exponents = t.exponents ++ (p ∷ []); coefficients = v }) ≡ blend_wide n p h (wide_term t)
  wide-with h v is =
      term-same
      (tab_cong 12 _ _ (λ k m. last-at t.exponents p n k l
      ∙ ap (cond (eqb k n) p) (sym (get_d_tab 12 (λ j. get_or t.exponents j 0) 0 k m))))
      (tab_cong 6 _ _ (λ j m. is j ∙ ap (h *ℤ◌) (sym (get_d_tab 6 (at t.coefficients) (pos 0) j m))))

  pub wide-blend : wide_term (blend p t) ≡ blend_wide n p half (wide_term t)
  wide-blend = wide-with half (halved t.coefficients) (half_at t.coefficients)

  wide_turn : wide_term (blend p (turned t)) ≡ blend_wide n p turned_half (wide_term t)
  wide_turn = wide-with turned_half (halved (map neg_ℤ t.coefficients)) (turned-at t.coefficients)

-- all of them
pub wide_blends : (n p : ℕ) {ts : List Term} → All (λ t. length t.exponents ≡ n) ts
    → map wide_term (map (blend p) ts) ≡ map (blend_wide n p half) (map wide_term ts)
wide_blends n p none = refl
wide_blends n p (more {a = t} l h) = ap₂ ◌∷◌ (wide-blend n p t l) (wide_blends n p h)

pub wide_turns : (n p : ℕ) {ts : List Term} → All (λ t. length t.exponents ≡ n) ts
    → map wide_term (map (blend p) (map turned ts)) ≡ map (blend_wide n p turned_half) (map wide_term ts)
wide_turns n p none = refl
wide_turns n p (more {a = t} l h) = ap₂ ◌∷◌ (wide_turn n p t l) (wide_turns n p h)
