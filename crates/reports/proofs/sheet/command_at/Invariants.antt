use Rattle.std.proofs.Common.{◌-◌, length}
use Rattle.reports.proofs.sheet.command_at.Given as goal

-- the bytes behind the command
abbrev pub decreases-loop-next : goal.decreases-loop-next
decreases-loop-next l = length l.bytes - l.at
