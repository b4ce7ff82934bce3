use Rattle.std.proofs.Common.{rules}
use Rattle.walks.proofs.Sizes.{size_by_head}
use Rattle.walks.proofs.rooms.head_of.Goals as goal

pub returns : goal.returns
returns c = record { expression = search rules; longer = search rules; sized = size_by_head c.head.result c.head.ensures.expression }
