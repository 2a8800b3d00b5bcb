-- Finishing keeps every point.
use mathlib.Core.List.{List}
use Prim.Native.Nat.{ℕ}
use Rattle.model.specs.Set.{Zonotope}
use Rattle.model.specs.Finish.{collect_terms, drop_zero_terms, fold_high, fold_terms, fold_generators, finish}
use Rattle.model.specs.Precision.{cleaned}
use Rattle.model.proofs.Covers.{Covers, covers_trans}
use Rattle.model.proofs.Alike.{Alike, alike_trans, alike_covers}
use Rattle.model.proofs.CollectCovers.{collect_alike, zero-terms_alike}
use Rattle.model.proofs.ZeroGenerators.{zero_generators_alike}
use Rattle.model.proofs.FoldStages.{fold-high_covers, fold-terms_covers, fold_generators_covers}
use Rattle.model.proofs.UnusedCovers.{unused_alike}

-- with equal terms added and zeros dropped, a set has the same points
pub cleaned_alike : (s : Zonotope) → Alike s (cleaned s)
cleaned_alike s = alike_trans (collect_alike s)
    (alike_trans (zero-terms_alike (collect_terms s)) (zero_generators_alike (drop_zero_terms (collect_terms s))))

-- every point of a set is a point of the finished set, whatever the weights and limits
pub finish_covers : (weights : List ℕ) (h q : ℕ) (s : Zonotope) → Covers s (finish weights h q s)
unfolding finish
finish_covers weights h q s =
    let a = cleaned s in let b = fold_high a in let c = fold_terms weights h b in let d = fold_generators weights q c in
    covers_trans (alike_covers (cleaned_alike s)) (covers_trans (fold-high_covers a) (covers_trans (fold-terms_covers weights h b)
    (covers_trans (fold_generators_covers weights q c) (alike_covers (unused_alike d)))))
