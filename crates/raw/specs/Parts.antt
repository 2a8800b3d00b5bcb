-- The centre and the generators of the image, as the code makes them from the lines.
use Rattle.std.specs.Prelude.{List, [], ◌≡◌, ℕ, ◌+◌, ◌*◌, ◌/◌, ◌%◌, ◌<◌, ◌≤◌, T, ℤ, pos, nat_abs, ◌+ℤ◌, ◌*ℤ◌, length, get_or}
use Rattle.std.proofs.Common.{sym, ◌∙◌, ap, ext_get_or}
use Rattle.std.proofs.Math.Decide.{dec_lt}
use native.Mathlib.Omega.{arith}
use Rattle.whole.specs.Half.{half}
use Rattle.whole.specs.Size.{abs_add, abs_mul}
use Rattle.whole.specs.Round.{scale}
use Rattle.whole.specs.Tab.{tab, tab_cong, map-tab, length-tab, get_d_tab, get_d_tab_past}
use Rattle.whole.specs.Write.{write, write-length, write-after}
use Rattle.rows.specs.Rows.{Small}
use Rattle.model.specs.Set.{at}
use Rattle.model.specs.Valid.{zeros}
use Rattle.model.specs.Step.{dot, raw, raw_centre, raw_linear}
use Rattle.zonotope.specs.Record.{view}
use Rattle.zonotope.specs.declared.PolyZonotope.{PolyZonotope}
use Rattle.forms.specs.Dot.{dot_small}
use Rattle.forms.specs.Tables.{row_of, tab_small}
use Rattle.forms.specs.Filling.{first-at}
use Rattle.forms.specs.Numbers.{six, both_table, line_table, table_limit, round_limit, product_small, term-number, centre-number}
use Rattle.raw.specs.Zeros.{zeros-at}
use Rattle.raw.specs.Accepted.{InSpan}
use Rattle.raw.specs.Unused.{generator_at, counts_in, centre-row, generator-row}
use Rattle.raw.specs.PairRows.{half_small}

-- vectors in rows of six, 24 of them, continued by zeros
abbrev pub wide_vectors : List (List ℤ) → List ℤ
wide_vectors gs = tab 144 (λ x. at (get_or gs (x / 6) []) (x % 6))

-- r is the raw centre of the image of s under any step with this constant, this A and these lines
pub record RawCentre (c a lines : List ℤ) (s : PolyZonotope) (r : List ℤ) : Type 0 where
  pub numbers : (q : List ℤ) → lines ≡ line_table a (both_table q) s.centre → r ≡ tab 6 (raw_centre (six c a q) (view s))
  pub small : Small round_limit r

-- r has the raw generators of the image of s in rows of six, for any step with these lines
pub record RawGenerators (lines : List ℤ) (s : PolyZonotope) (r : List ℤ) : Type 0 where
  pub numbers : (c a q : List ℤ) → lines ≡ line_table a (both_table q) s.centre
      → r ≡ wide_vectors (raw (six c a q) (view s)).generators
  pub small : Small round_limit r

-- ---- the centre
-- what the line and A make of the centre k, twice what is wanted
abbrev pub centre_half : List ℤ → List ℤ → List ℤ → ℕ → ℤ
centre_half a lines k i = dot 6 (row_of k 0) (row_of lines i) +ℤ pos 4096 *ℤ dot 6 (row_of a i) (at k)

-- half of that, and the constant
unfoldable pub centre_number : List ℤ → List ℤ → List ℤ → List ℤ → ℕ → ℤ
centre_number c a lines k i = pos scale *ℤ at c i +ℤ half (centre_half a lines k i)

module _ (a lines k : List ℤ) (ha : Small 32768 a) (hl : Small table_limit lines) (hk : Small 1048576 k) (i : ℕ) where
  pub linear_room : nat_abs (dot 6 (row_of a i) (at k)) ≤ 206158430208
  linear_room = dot_small (row_of a i) (at k) 32768 1048576 (λ j. ha.small (i * 6 + j)) hk' 6
    where
      hk' : (j : ℕ) → nat_abs (at k j) ≤ 1048576
      hk' j = hk.small j

  pub half_room : nat_abs (centre_half a lines k i) ≤ 2595762235225669632
  half_room =
      omega (
        arith,
        abs_add (dot 6 (row_of k 0) (row_of lines i)) (pos 4096 *ℤ dot 6 (row_of a i) (at k)),
        abs_mul (pos 4096)
            (dot 6 (row_of a i) (at k)),
        product_small k lines hk hl 0 i,
        linear_room,
      )

  pub centre_room : (c : List ℤ) → Small 1048576 c → nat_abs (centre_number c a lines k i) ≤ round_limit
  unfolding centre_number
  centre_room c hc =
      omega (
        arith,
        abs_add (pos scale *ℤ at c i) (half (centre_half a lines k i)),
        abs_mul (pos scale) (at c i),
        hc.small i,
        half_small
            (centre_half a lines k i) 2595762235225669632 half_room,
      )

pub raw-centre : (c a lines : List ℤ) (s : PolyZonotope) (ok : InSpan s) → Small 1048576 c → Small 32768 a → Small table_limit lines
    → Small 1048576 s.centre → (r : List ℤ) → r ≡ tab 6 (centre_number c a lines s.centre) → RawCentre c a lines s r
unfolding centre_number
raw-centre c a lines s ok hc ha hl hk r e = record {
  numbers = λ q same. e ∙ ap (λ (ls : List ℤ). tab 6 (centre_number c a ls s.centre)) same
      ∙ tab_cong 6 (centre_number c a (line_table a (both_table q) s.centre) s.centre) (raw_centre (six c a q) (view s))
      (λ i h. centre-number c a q s.centre (view s) (centre-row s ok) i h);
  small = rw e (tab_small round_limit 6 (centre_number c a lines s.centre) (λ i h. centre_room a lines s.centre ha hl hk i c hc));
}

module _ (c a q : List ℤ) (s : PolyZonotope) (ok : InSpan s) where
  -- ---- the generators
  abbrev F : ℕ → ℤ
  F x = dot 6 (row_of s.vectors (x / 6)) (row_of (line_table a (both_table q) s.centre) (x % 6))

  abbrev images : List (List ℤ)
  images = (raw (six c a q) (view s)).generators

  images_are : images ≡ tab s.generators (λ t. tab 6 (raw_linear (six c a q) (view s) (generator_at s t)))
  unfolding raw view
  images_are = map-tab (λ g. tab 6 (raw_linear (six c a q) (view s) g)) s.generators (generator_at s)

  generators-at : (ws : List ℤ) → length ws ≡ 144 → ((x : ℕ) → at ws x ≡ pos 0) → (x : ℕ) → x < 144
      → at (write ws 0 F (s.generators * 6)) x ≡ at (get_or images (x / 6) []) (x % 6)
  generators-at ws l none x h = go (dec_lt (x / 6) s.generators)
    where
      go : Dec (x / 6 < s.generators) → at (write ws 0 F (s.generators * 6)) x ≡ at (get_or images (x / 6) []) (x % 6)
      go (yes p) =
          first-at ws F (pos 0) (s.generators * 6) x (omega arith) (omega (arith, counts_in s ok))
          ∙ term-number c a q s.centre (view s) (centre-row s ok) (x % 6) (omega arith) s.vectors (x / 6) (generator_at s (x / 6))
          (generator-row s ok (x / 6) (omega arith))
          ∙ sym (ap (λ (gs : List (List ℤ)). at (get_or gs (x / 6) []) (x % 6)) images_are
          ∙ ap (λ (g : List ℤ). at g (x % 6)) (get_d_tab s.generators (λ t. tab 6 (raw_linear (six c a q) (view s) (generator_at s t))) []
          (x / 6) p)
          ∙ get_d_tab 6 (raw_linear (six c a q) (view s) (generator_at s (x / 6))) (pos 0) (x % 6) (omega arith))
      go (no p) =
          write-after ws 0 F (pos 0) (s.generators * 6) x (omega arith)
          ∙ none x
          ∙ sym (ap (λ (gs : List (List ℤ)). at (get_or gs (x / 6) []) (x % 6)) images_are
          ∙ ap (λ (g : List ℤ). at g (x % 6)) (get_d_tab_past s.generators
          (λ t. tab 6 (raw_linear (six c a q) (view s) (generator_at s t))) [] (x / 6) (omega arith)))

  generators-from : (ws : List ℤ) → length ws ≡ 144 → ((x : ℕ) → at ws x ≡ pos 0) → write ws 0 F (s.generators * 6) ≡ wide_vectors images
  generators-from ws l none =
      let m : length (write ws 0 F (s.generators * 6)) ≡ 144 = write-length ws 0 F (s.generators * 6) ∙ l in
      let f : ℕ → ℤ = λ x. at (get_or images (x / 6) []) (x % 6) in
      ext_get_or (pos 0) (write ws 0 F (s.generators * 6)) (wide_vectors images) (m ∙ sym (length-tab 144 f))
      (λ x h. let b : x < 144 = omega (arith, m) in generators-at ws l none x b ∙ sym (get_d_tab 144 f (pos 0) x b))

generators_small : (lines : List ℤ) (s : PolyZonotope) → InSpan s → Small 1048576 s.vectors → Small table_limit lines → (ws : List ℤ)
    → length ws ≡ 144 → ((x : ℕ) → at ws x ≡ pos 0)
    → Small round_limit (write ws 0 (λ x. dot 6 (row_of s.vectors (x / 6)) (row_of lines (x % 6))) (s.generators * 6))
generators_small lines s ok hv hl ws l none = record { small = λ x. go x (dec_lt x (s.generators * 6)) }
  where
    F : ℕ → ℤ
    F x = dot 6 (row_of s.vectors (x / 6)) (row_of lines (x % 6))

    go : (x : ℕ) → Dec (x < s.generators * 6) → nat_abs (at (write ws 0 F (s.generators * 6)) x) ≤ round_limit
    go x (yes p) =
        rw (first-at ws F (pos 0) (s.generators * 6) x p (omega (arith, counts_in s ok)))
        (omega (arith, product_small s.vectors lines hv hl (x / 6) (x % 6)))
    go x (no p) = rw (write-after ws 0 F (pos 0) (s.generators * 6) x (omega arith), none x) (omega arith)

-- an array of zeros that is written
pub raw_generators : (lines : List ℤ) (s : PolyZonotope) → InSpan s → Small 1048576 s.vectors → Small table_limit lines
    → (ws w : List ℤ) → length ws ≡ 144 → T (zeros ws)
    → w ≡ write ws 0 (λ x. dot 6 (row_of s.vectors (x / 6)) (row_of lines (x % 6))) (s.generators * 6) → RawGenerators lines s w
raw_generators lines s ok hv hl ws w l none e = record {
  numbers = λ c a q same.
      e
      ∙ ap (λ (ls : List ℤ). write ws 0 (λ x. dot 6 (row_of s.vectors (x / 6)) (row_of ls (x % 6))) (s.generators * 6)) same
      ∙ generators-from c a q s ok ws l (zeros-at ws none);
  small = rw e (generators_small lines s ok hv hl ws l (zeros-at ws none));
}
