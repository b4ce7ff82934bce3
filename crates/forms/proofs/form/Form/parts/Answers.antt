use Rattle.std.proofs.Common.{sym}
use Rattle.forms.proofs.Halves.{two_parts, ends_within}
use Rattle.forms.proofs.form.Form.parts.Goals as goal

pub before-requires : goal.before-requires
before-requires c = rw c.unwrap_or-end.ensures (ends_within c.behind-both.result.bytes.now c.end.result c.end.ensures.found)

pub behind-requires : goal.behind-requires
behind-requires c = rw c.unwrap_or-end.ensures (ends_within c.behind-both.result.bytes.now c.end.result c.end.ensures.found)

pub returns : goal.returns
returns c =
    let both = c.behind-both.ensures in
    rw (c.before-2.ensures, c.behind.ensures, c.unwrap_or-end.ensures, sym both) (two_parts c.behind-both.result.bytes.now c.end.result c.end.ensures.found c.end.ensures.only)
