-- What S of each coordinate gains from outside the step, before it is rounded: small numbers, and 0 past the coordinates; nothing for
-- a step, and for a ranged step what its half-widths add.
use Rattle.std.specs.Prelude.{List, ◌≡◌, ℕ, ◌≤◌, get_or, replicate}
use Rattle.std.proofs.Common.{arith}
use Rattle.whole.specs.Tab.{tab, get_d_tab}
use Rattle.model.specs.Set.{Zonotope}
use Rattle.model.specs.Step.{Step, RawImage, step}
use Rattle.model.specs.Ranged.{Widths, gain, gaining_raw, gaining_step, ranged_step}
use Rattle.model.proofs.Ranged.{gaining_cong, nothing-gained}
use Rattle.image.specs.Remainder.{Below, zeros-at, zeros-below}

-- the largest gain: 36 products of 2^15, 2^20 and 2^20, and six of 2^12, 2^15 and 2^20
abbrev pub gain_limit : ℕ
gain_limit = 1297881117612834816

pub record Gaining (m : ℕ) (gains : List ℕ) : Type 0 where
  pub below : Below gain_limit gains
  pub past : (i : ℕ) → m ≤ i → get_or gains i 0 ≡ 0

-- the image in raw units, with what S gains
abbrev pub gained_image : List ℕ → Step → Zonotope → RawImage
gained_image gains p z = gaining_raw (λ i. get_or gains i 0) p z

-- ---- the two kinds of step
pub none_gaining : (m : ℕ) → Gaining m (replicate 6 0)
none_gaining m = record { below = zeros-below gain_limit 6; past = λ i _. zeros-at 6 i }

module _ (weights : List ℕ) (p : Step) (z : Zonotope) where
  pub none_gained : gaining_step weights (λ i. get_or (replicate 6 0) i 0) p z ≡ step weights p z
  none_gained = nothing-gained weights p z (λ i _. zeros-at 6 i)

  pub widths-gained : (d : Widths) → p.rows ≤ 6
      → gaining_step weights (λ i. get_or (tab 6 (gain p.columns d z)) i 0) p z ≡ ranged_step weights p d z
  unfolding ranged_step
  widths-gained d few = gaining_cong weights p z (λ i h. get_d_tab 6 (gain p.columns d z) 0 i (omega arith))
