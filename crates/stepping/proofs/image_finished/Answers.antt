-- `image_finished` meets its contract.
use mathlib.Core.Path.{sym}
use native.Mathlib.Omega.{arith}
use Rattle.image.specs.StepAccepted.{step_of}
use Rattle.stepping.specs.Held.{for_image, image-vectors, image_finishable, image-step, numbers-kept, exponents-kept}
use Rattle.stepping.proofs.image_finished.Goals as goal

pub of_step-image-requires : goal.of_step-image-requires
of_step-image-requires c = let s = c in (s.requires.1, for_image s.requires.0, s.requires.2, s.requires.3, s.requires.4)

pub slice_bounds-finish_rows-end-3 : goal.slice_bounds-finish_rows-end-3
slice_bounds-finish_rows-end-3 c = sym (image-vectors c.of_step-image.ensures)

pub finish_rows-requires : goal.finish_rows-requires
finish_rows-requires c =
    let o = c in
    let s = o in
    let rows =
    image_finishable (step_of c.args.m c.args.n c.args.c.now c.args.a.now c.args.q.now) s.args.gains.now s.args.s s.requires.0 s.requires.1 o.of_step-image.ensures
    (omega (arith, o.of_step-image.auto, s.requires.4)) (omega (arith, o.of_step-image.auto, s.requires.3)) c.anew.ensures in
    (rows, omega arith, omega arith)

pub returns : goal.returns
returns c =
    let o = c in
    let s = o in record {
      value = image-step (step_of c.args.m c.args.n c.args.c.now c.args.a.now c.args.q.now) s.args.gains.now s.args.s s.requires.0 s.requires.1 o.of_step-image.ensures
          (omega (arith, o.of_step-image.auto, s.requires.4)) (omega (arith, o.of_step-image.auto, s.requires.3))
          c.anew.ensures c.finish_rows.ensures;
      numbers = numbers-kept o.of_step-image.ensures;
      exponents = exponents-kept o.of_step-image.ensures;
    }
