-- What a work slice is left with.
use Rattle.std.specs.Prelude.{◌≡◌, List, ◌++◌, Bool, true, false, ℕ, ◌+◌, ◌-◌, length, drop, replicate}
use Rattle.std.proofs.Common.{sym, ap, ◌∙◌, arith, length-drop, ext_get_or}
use Rattle.whole.specs.Write.{get_d_drop}
use Rattle.raw.specs.Append.{KeptFrom}
use Rattle.step.specs.Answer.{cleared, cleared_if}

module _ {A : Type 0} (d : A) (n : ℕ) (before : List A) where
  -- a slice that wasn't used
  pub not-used : {used : Bool} → used ≡ false → before ≡ cleared_if used n d before
  not-used e = ap (λ b. cleared_if b n d before) (sym e)

  -- one that was cleared
  pub now_cleared : {used : Bool} → used ≡ true → {last : List A} → last ≡ cleared n d before → last ≡ cleared_if used n d before
  now_cleared e c = c ∙ ap (λ b. cleared_if b n d before) (sym e)

  -- clearing forgets what was written before
  pub written-cleared : {after last : List A} → KeptFrom d n before after → length after ≡ length before → last ≡ cleared n d after
      → last ≡ cleared n d before
  written-cleared {after} h l c =
      c
      ∙ ap (replicate n d ++◌) (ext_get_or d (drop n after) (drop n before)
      (length-drop n after ∙ ap (◌- n) l ∙ sym (length-drop n before))
      (λ i m. get_d_drop n after i d ∙ h.place (n + i) (omega arith) ∙ sym (get_d_drop n before i d)))

  pub used-cleared : {used : Bool} → used ≡ true → {after last : List A} → KeptFrom d n before after → length after ≡ length before
      → last ≡ cleared n d after → last ≡ cleared_if used n d before
  used-cleared e h l c = now_cleared e (written-cleared h l c)
