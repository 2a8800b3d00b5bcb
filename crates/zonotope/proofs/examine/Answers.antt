-- `examine` meets its contract: each answer follows from the causes that were asked.
use Rattle.std.specs.Prelude.{◌≡◌, Bool, false, cond, ◌||◌}
use Rattle.std.proofs.Math.Option.{none, some}
use Rattle.std.proofs.Common.{sym, ap, ap₂, ◌∙◌}
use Rattle.model.specs.Valid.{bad_counts, bad_range, bad_order, is_too_wide}
use Rattle.model.specs.Limits.{record_identifiers}
use Rattle.model.specs.Run.{first_of}
use Rattle.model.specs.Library.{examine}
use Rattle.zonotope.specs.Record.{view, spare, given}
use Rattle.zonotope.specs.Counts.{InLimits, in_limits}
use Rattle.zonotope.specs.declared.PolyZonotope.{PolyZonotope}
use Rattle.zonotope.specs.Answer.{examined, refused}
use Rattle.zonotope.proofs.examine.Goals as goal

-- what a test found
found : {r b q : Bool} → r ≡ q → r ≡ b → q ≡ b
found e t = sym e ∙ t

-- counts that aren't refused
few : (s : PolyZonotope) {r : Bool} → r ≡ bad_counts (view s) → r ≡ false → InLimits s
few s e t = in_limits s (found e t)

pub returns-then-counts_out : goal.returns-then-counts_out
unfolding examine first_of
returns-then-counts_out c = record { value = rw (found c.counts_out.ensures c.if-counts_out.true); sized = refused 4 }

pub range_out-requires : goal.range_out-requires
range_out-requires c = few c.args.s c.counts_out.ensures c.if-counts_out.false

pub returns-then-range_out : goal.returns-then-range_out
unfolding examine first_of
returns-then-range_out c = record {
  value = rw (found c.counts_out.ensures c.if-counts_out.false, found c.range_out.ensures c.if-range_out.true);
  sized = refused 6;
}

pub has_spare-requires : goal.has_spare-requires
has_spare-requires c = few c.args.s c.counts_out.ensures c.if-counts_out.false

pub order_out-requires : goal.order_out-requires
order_out-requires c = few c.args.s c.counts_out.ensures c.if-counts_out.false

pub returns-then-has_spare-order_out : goal.returns-then-has_spare-order_out
unfolding examine first_of
returns-then-has_spare-order_out c = record {
  value =
      rw (
        found c.counts_out.ensures c.if-counts_out.false,
        found c.range_out.ensures c.if-range_out.false,
        found (ap₂ ◌||◌ c.has_spare.ensures.value c.order_out.ensures) c.if-has_spare-order_out.true,
      );
  sized = refused 7;
}

pub too_wide-requires : goal.too_wide-requires
too_wide-requires c = few c.args.s c.counts_out.ensures c.if-counts_out.false

-- what is answered where only the last test is left
last : (s : PolyZonotope) {b : Bool} → bad_counts (view s) ≡ false → bad_range record_identifiers (view s) ≡ false
    → (spare s || bad_order (view s)) ≡ false → is_too_wide (view s) ≡ b → examine (given s) ≡ cond b (some 8) none
unfolding examine first_of
last s a b d e = rw (a, b, d, e)

pub returns-then-too_wide : goal.returns-then-too_wide
returns-then-too_wide c = record {
  value =
      ap examined (sym (last c.args.s (found c.counts_out.ensures c.if-counts_out.false) (found c.range_out.ensures c.if-range_out.false)
      (found (ap₂ ◌||◌ c.has_spare.ensures.value c.order_out.ensures) c.if-has_spare-order_out.false)
      (found c.too_wide.ensures c.if-too_wide.true)));
  sized = refused 8;
}

pub returns : goal.returns
returns c = record {
  value =
      ap examined (sym (last c.args.s (found c.counts_out.ensures c.if-counts_out.false) (found c.range_out.ensures c.if-range_out.false)
      (found (ap₂ ◌||◌ c.has_spare.ensures.value c.order_out.ensures) c.if-has_spare-order_out.false)
      (found c.too_wide.ensures c.if-too_wide.false)));
  sized = λ e. c.has_spare.ensures.lengths;
}
