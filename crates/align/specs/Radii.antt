-- The sums of like parts of two records' radii, at 64 bits.
use Rattle.std.specs.Prelude.{List, ℕ, ◌+◌, get_or}
use Rattle.whole.specs.Tab.{tab}
use Rattle.zonotope.specs.declared.Radii.{Radii}
use Rattle.zonotope.specs.declared.WideRadii.{WideRadii}

abbrev pub added_parts : List ℕ → List ℕ → List ℕ
added_parts a b = tab 6 (λ i. get_or a i 0 + get_or b i 0)

abbrev pub added_radii : Radii → Radii → WideRadii
added_radii a b = record {
  carried = added_parts a.carried b.carried;
  rounded = added_parts a.rounded b.rounded;
  folded = added_parts a.folded b.folded;
  given = added_parts a.given b.given;
}
