-- A set covers another where every point of the other, at any factor values, is one of it at the same values.
use mathlib.Core.Path.{◌≡◌, subst}
use Rattle.model.specs.Set.{Zonotope}
use Rattle.model.specs.Points.{Vector, Point, InRange}

pub record Covers (s u : Zonotope) : Type 0 where
  pub keeps : {α x : Vector} → InRange α → Point s α x → Point u α x

pub covers_refl : (s : Zonotope) → Covers s s
covers_refl s = record { keeps = λ w p. p }

pub covers_trans : {s t u : Zonotope} → Covers s t → Covers t u → Covers s u
covers_trans c d = record { keeps = λ w p. d.keeps w (c.keeps w p) }

pub covers_as : {s t u : Zonotope} → Covers s t → t ≡ u → Covers s u
covers_as {s} c e = subst (Covers s) e c
