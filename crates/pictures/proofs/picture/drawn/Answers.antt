use Rattle.std.proofs.Common.{append_assoc, string_bytes}
use Rattle.std.proofs.lemmas.Result.{IfOk-weaker}
use Rattle.pictures.proofs.picture.drawn.Goals as goal

pub returns : goal.returns
returns c =
    let drawing = c.in_ok-drawing in
    let lines = c.in_ok-lines.lines in
    IfOk-weaker c.format.result _ _ (λ t is. (drawing.drawing.spacing.ticks, drawing.ensures, (string_bytes lines, simp append_assoc is))) c.format.ensures.ok
