use Rattle.std.proofs.Common.{ap, ◌∙◌}
use Rattle.formats.specs.Widths.{width_of}
use Rattle.forms.specs.Commands.{byte_of}
use Rattle.walks.proofs.Sizes.{width_by_head}
use Rattle.walks.proofs.rooms.own_width.Goals as goal

pub returns : goal.returns
returns c = c.width.ensures ∙ ap (λ d. width_of (byte_of d)) c.command.ensures ∙ width_by_head c.args.head
