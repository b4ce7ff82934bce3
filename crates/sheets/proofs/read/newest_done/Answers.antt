use Rattle.std.proofs.Common.{rules}
use Rattle.sheets.proofs.Newest.{done_shown}
use Rattle.sheets.proofs.read.newest_done.Goals as goal

pub returns : goal.returns
returns c = done_shown c.args.rows.now c.last.result c.is_none_or.result c.last.ensures (search rules)
