use Rattle.std.proofs.Common.{append_assoc, rules}
use Rattle.walks.proofs.Changing.{changed_stop, changed_site_call, changed_definition_call, changed_parallel, changed_sequential, changed_pruning, changed_pending}
use Rattle.walks.proofs.copies.+put.Goals as goal

pub returns-in-Stop : goal.returns-in-Stop
returns-in-Stop t c = let is = changed_stop c.args.change c.in-Stop.ensures.expression in search rules

pub returns-in-SiteCall : goal.returns-in-SiteCall
returns-in-SiteCall t c = let is = changed_site_call c.args.change _ _ c.in-SiteCall.ensures.expression in search rules

pub returns-in-DefinitionCall : goal.returns-in-DefinitionCall
returns-in-DefinitionCall t c = let is = changed_definition_call c.args.change _ _ c.in-DefinitionCall.ensures.expression in search rules

pub returns-in-Parallel : goal.returns-in-Parallel
returns-in-Parallel t c = let is = changed_parallel c.args.change _ _ c.in-Parallel.ensures.expression in search (rules, append_assoc)

pub returns-in-Sequential : goal.returns-in-Sequential
returns-in-Sequential t c = let is = changed_sequential c.args.change _ _ _ c.in-Sequential.ensures.expression in search (rules, append_assoc)

pub returns-in-Pruning : goal.returns-in-Pruning
returns-in-Pruning t c = let is = changed_pruning c.args.change _ _ _ c.in-Pruning.ensures.expression in search (rules, append_assoc)

pub returns-in-Pending : goal.returns-in-Pending
returns-in-Pending t c = let is = changed_pending c.args.change _ _ _ _ c.in-Pending.ensures.expression in search rules
