use Rattle.std.proofs.Common.{◌≡◌, ℕ, Option, Some, None, IfSome, MatchOption}
use Rattle.forms.proofs.Halves.{size_there}
use Rattle.forms.proofs.form.Form.size.Goals as goal

pub returns : goal.returns
returns c = size_there c.args.self.bytes.now c.end.result c.end.ensures.found c.end.ensures.only
