-- Terms of which some of zeros, after the others, are left out: what is asked of a result's rows, since finishing drops such terms.
use Rattle.std.specs.Prelude.{true, List, [], ◌++◌, ◌≡◌}
use Rattle.std.proofs.Common.{append-nil, sym, ◌∙◌}
use Rattle.rational.specs.Sum.{All, none}
use Rattle.model.specs.Set.{Term}
use Rattle.model.specs.Valid.{zeros}

-- all coefficients are 0
abbrev pub Zero : Term → Type 0
Zero t = zeros t.coefficients ≡ true

-- xs are the terms ys but for some of zeros at their end
pub record Kept (xs ys : List Term) : Type 0 where
  pub rest : List Term
  pub whole : ys ≡ xs ++ rest
  pub zero : All Zero rest

pub kept-all : {xs ys : List Term} → xs ≡ ys → Kept xs ys
kept-all {xs} e = record { rest = []; whole = sym e ∙ sym (append-nil xs); zero = none }

pub kept_to : {xs ys zs : List Term} → Kept xs ys → ys ≡ zs → Kept xs zs
kept_to k e = record { rest = k.rest; whole = sym e ∙ k.whole; zero = k.zero }
