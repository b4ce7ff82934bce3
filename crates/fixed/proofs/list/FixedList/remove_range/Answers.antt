use Rattle.std.proofs.Common.{◌-◌, take, ap, ◌∙◌, arith}
use Rattle.fixed.proofs.Removing.{removed}
use Rattle.fixed.proofs.list.FixedList.remove_range.Goals as goal

pub returns-then-start-end : goal.returns-then-start-end
returns-then-start-end g c =
    let list = c.args.self.now in
    let last = c.min-end.result in
    ap (take (list.len - (last - c.args.start))) c.copy_within.ensures.after
    ∙ removed list.slots c.args.start c.args.end list.len (search arith) last c.min-end.ensures c.if-start-end.true
