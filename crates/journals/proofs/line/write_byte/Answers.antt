use Rattle.std.proofs.Common.{rules, ◌<◌, false, arith}
use Rattle.std.proofs.Output.{has_written_of_eq}
use Rattle.std.proofs.lemmas.Fmt.{hex_byte}
use Rattle.journals.proofs.line.write_byte.Goals as goal

pub returns : goal.returns
returns g c = λ plain ok.
    let small : c.args.byte < 256 = omega (arith, c.ranges.byte) in
    has_written_of_eq _ _ _ _ _ (hex_byte false c.args.byte small) (search rules)
