use Rattle.std.proofs.Common.{rules, length, ap}
use Rattle.places.specs.Frames.{nearest_frame}
use Rattle.places.proofs.Framing.{is_first_bytes, nearest_in_parallel, nearest_in_sequential, nearest_in_pruning}
use Rattle.places.proofs.frames.part_at.Goals as goal

pub returns-in-Parallel : goal.returns-in-Parallel
returns-in-Parallel c =
    let head = c.in-Parallel.ensures in
    nearest_in_parallel c.args.form.bytes.now c.args.place c.in-Parallel.f c.in-Parallel.g head.forms head.expression head.longer c.part_with.result c.part_with.ensures

pub returns-in-Sequential : goal.returns-in-Sequential
returns-in-Sequential c =
    let head = c.in-Sequential.ensures in
    nearest_in_sequential c.args.form.bytes.now c.args.place c.in-Sequential.f c.in-Sequential.g head.forms _ (is_first_bytes _ _ _ (ap length c.as_bytes.ensures)) c.in-Sequential.field-0 head.longer c.part_with-in-Sequential.result head.expression c.part_with-in-Sequential.ensures

pub returns-in-Pruning : goal.returns-in-Pruning
returns-in-Pruning c =
    let head = c.in-Pruning.ensures in
    nearest_in_pruning c.args.form.bytes.now c.args.place c.in-Pruning.f c.in-Pruning.g head.forms _ (is_first_bytes _ _ _ (ap length c.as_bytes.ensures)) c.in-Pruning.field-0 head.longer c.part_with-in-Pruning.result head.expression c.part_with-in-Pruning.ensures

pub returns-in_default : goal.returns-in_default
unfolding nearest_frame
returns-in_default c = search rules
