use Rattle.std.proofs.Common.{rules}
use Rattle.sheets.specs.Format.{no_command}
use Rattle.sheets.proofs.read.Place.read.Goals as goal

pub returns-in-Err : goal.returns-in-Err
returns-in-Err c = search (rules, no_command)
