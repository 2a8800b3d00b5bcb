-- The identifiers of a hull: those of both sets and the next after them.
use Rattle.std.specs.Prelude.{◌≡◌, ℕ, ◌+◌, ◌<◌, ◌≤◌, length, set}
use Rattle.std.proofs.Common.{sym, ◌∙◌, arith, get_or-set_same}
use Rattle.std.proofs.Math.Path.{ap₂}
use mathlib.Core.List.{List, [], ◌∷◌, ◌++◌}
use Rattle.std.proofs.Math.ListN.{get_or}
use Rattle.std.proofs.Math.Seq.{get_or-set_other}
use Rattle.whole.specs.Tab.{tab, tab_cong, tab-more, length-tab, get_d_tab}
use Rattle.model.specs.Set.{Zonotope}
use Rattle.model.specs.Operations.{joined}
use Rattle.model.specs.Hull.{blended}
use Rattle.align.specs.declared.Identifiers.{Identifiers}
use Rattle.align.specs.Sum.{Common}

-- the first twelve numbers, with `next` after `count` of them
abbrev pub with_next : List ℕ → ℕ → ℕ → List ℕ
with_next numbers count next = set (tab 12 (λ i. get_or numbers i 0)) count next

module _ (s u : Zonotope) (next : ℕ) (all : Identifiers) (o : Common (joined s u) all) (few : all.count < 12) where
  abbrev own : List ℕ
  own = tab 12 (λ i. get_or all.numbers i 0)

  -- they are those of the blend
  pub ids_are : tab (all.count + 1) (λ i. get_or (with_next all.numbers all.count next) i 0) ≡ (blended next s u).identifiers
  unfolding blended
  ids_are =
      tab-more all.count (λ i. get_or (with_next all.numbers all.count next) i 0)
      ∙ ap₂ (λ (xs : List ℕ) (x : ℕ). xs ++ (x ∷ []))
      (tab_cong all.count _ _ (λ i l.
      get_or-set_other own all.count i next 0 (λ q. omega arith)
      ∙ get_d_tab 12 (λ i. get_or all.numbers i 0) 0 i (omega arith))
      ∙ o.identifiers)
      (get_or-set_same own all.count next 0 (omega (arith, length-tab 12 (λ i. get_or all.numbers i 0))))

  pub ids_few : length (blended next s u).identifiers ≤ 12
  ids_few = rw (sym ids_are, length-tab (all.count + 1) _) (omega arith)
