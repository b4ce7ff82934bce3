use Rattle.std.proofs.Common.{◌≡◌, ◌+◌, ◌<◌, sym, refl, ap, ◌∙◌, arith}
use Rattle.std.proofs.lemmas.Result.{err_from_is_err_and}
use Rattle.orc.specs.Expressions.{stop, parallel, sequential, pruning}
use Rattle.formats.specs.Operands.{byte_at}
use Rattle.forms.specs.Commands.{byte_of}
use Rattle.files.specs.Judgement.{binding, of_two, none_there}
use Rattle.files.specs.Scopes.{bits}
use Rattle.files.proofs.Commands.{no_command, sound_there, broken_there}
use Rattle.formats.specs.declared.fault.Fault.TheVariants.{UnknownCommand}
use Rattle.files.proofs.check.Judge.command.Goals as goal

pub returns-in_err-byte-clause-judged : goal.returns-in_err-byte-clause-judged
returns-in_err-byte-clause-judged g c =
    let p = err_from_is_err_and c.from_residual.result c.from_residual.ensures.1 in
    rw (p.1, p.2, c.in_err-byte.ensures.1) (none_there (omega (arith, c.in_err-byte.ensures.0)))

pub returns-in_err-site_call-in-SiteCall-clause-judged : goal.returns-in_err-site_call-in-SiteCall-clause-judged
returns-in_err-site_call-in-SiteCall-clause-judged g c =
    let is : byte_at c.args.self.now.bytes.now c.args.at ≡ 1 = sym c.in_ok-byte.ensures.1 ∙ (let z : byte_of c.in_ok-command.command ≡ c.in_ok-byte.byte = grind arith in sym z) ∙ ap byte_of c.in-SiteCall.is in
    let p = err_from_is_err_and (c.from_residual-in_err-site_call-in-SiteCall).result (c.from_residual-in_err-site_call-in-SiteCall).ensures.1 in
    rw (p.1, p.2) (broken_there _ _ _ _ _ (omega arith) 1 is _ refl c.in_err-site_call-in-SiteCall.ensures)

pub returns-in_err-definition_call-in-DefinitionCall-clause-judged : goal.returns-in_err-definition_call-in-DefinitionCall-clause-judged
returns-in_err-definition_call-in-DefinitionCall-clause-judged g c =
    let is : byte_at c.args.self.now.bytes.now c.args.at ≡ 2 = sym c.in_ok-byte.ensures.1 ∙ (let z : byte_of c.in_ok-command.command ≡ c.in_ok-byte.byte = grind arith in sym z) ∙ ap byte_of c.in-DefinitionCall.is in
    let p = err_from_is_err_and (c.from_residual-in_err-definition_call-in-DefinitionCall).result (c.from_residual-in_err-definition_call-in-DefinitionCall).ensures.1 in
    rw (p.1, p.2) (broken_there _ _ _ _ _ (omega arith) 2 is _ refl c.in_err-definition_call-in-DefinitionCall.ensures)

pub returns-in_err-variable-in-Sequential-clause-judged : goal.returns-in_err-variable-in-Sequential-clause-judged
returns-in_err-variable-in-Sequential-clause-judged g c =
    let is : byte_at c.args.self.now.bytes.now c.args.at ≡ 4 = sym c.in_ok-byte.ensures.1 ∙ (let z : byte_of c.in_ok-command.command ≡ c.in_ok-byte.byte = grind arith in sym z) ∙ ap byte_of c.in-Sequential.is in
    let p = err_from_is_err_and (c.from_residual-in_err-variable-in-Sequential).result (c.from_residual-in_err-variable-in-Sequential).ensures.1 in
    rw (p.1, p.2) (broken_there _ _ _ _ _ (omega arith) 4 is _ refl c.in_err-variable-in-Sequential.ensures.rules)

pub returns-in_err-variable-in-Pruning-clause-judged : goal.returns-in_err-variable-in-Pruning-clause-judged
returns-in_err-variable-in-Pruning-clause-judged g c =
    let is : byte_at c.args.self.now.bytes.now c.args.at ≡ 5 = sym c.in_ok-byte.ensures.1 ∙ (let z : byte_of c.in_ok-command.command ≡ c.in_ok-byte.byte = grind arith in sym z) ∙ ap byte_of c.in-Pruning.is in
    let p = err_from_is_err_and (c.from_residual-in_err-variable-in-Pruning).result (c.from_residual-in_err-variable-in-Pruning).ensures.1 in
    rw (p.1, p.2) (broken_there _ _ _ _ _ (omega arith) 5 is _ refl c.in_err-variable-in-Pruning.ensures.rules)

pub returns-in-Stop-clause-judged : goal.returns-in-Stop-clause-judged
returns-in-Stop-clause-judged g c =
    let is : byte_at c.args.self.now.bytes.now c.args.at ≡ 0 = sym c.in_ok-byte.ensures.1 ∙ (let z : byte_of c.in_ok-command.command ≡ c.in_ok-byte.byte = grind arith in sym z) ∙ ap byte_of c.in-Stop.is in
    (stop, sound_there _ _ _ _ _ (omega arith) 0 is _ refl refl refl)

pub returns-in_ok-site_call-in-SiteCall-clause-judged : goal.returns-in_ok-site_call-in-SiteCall-clause-judged
returns-in_ok-site_call-in-SiteCall-clause-judged g c =
    let is : byte_at c.args.self.now.bytes.now c.args.at ≡ 1 = sym c.in_ok-byte.ensures.1 ∙ (let z : byte_of c.in_ok-command.command ≡ c.in_ok-byte.byte = grind arith in sym z) ∙ ap byte_of c.in-SiteCall.is in
    (_, sound_there _ _ _ _ _ (omega arith) 1 is _ refl (c.in_ok-site_call-in-SiteCall).ensures refl)

pub returns-in_ok-definition_call-in-DefinitionCall-clause-judged : goal.returns-in_ok-definition_call-in-DefinitionCall-clause-judged
returns-in_ok-definition_call-in-DefinitionCall-clause-judged g c =
    let is : byte_at c.args.self.now.bytes.now c.args.at ≡ 2 = sym c.in_ok-byte.ensures.1 ∙ (let z : byte_of c.in_ok-command.command ≡ c.in_ok-byte.byte = grind arith in sym z) ∙ ap byte_of c.in-DefinitionCall.is in
    (_, sound_there _ _ _ _ _ (omega arith) 2 is _ refl (c.in_ok-definition_call-in-DefinitionCall).ensures refl)

pub returns-in-Parallel-clause-judged : goal.returns-in-Parallel-clause-judged
returns-in-Parallel-clause-judged g c =
    let is : byte_at c.args.self.now.bytes.now c.args.at ≡ 3 = sym c.in_ok-byte.ensures.1 ∙ (let z : byte_of c.in_ok-command.command ≡ c.in_ok-byte.byte = grind arith in sym z) ∙ ap byte_of c.in-Parallel.is in
    (parallel, sound_there _ _ _ _ _ (omega arith) 3 is _ refl refl refl)

pub returns-in_ok-variable-in-Sequential-clause-judged : goal.returns-in_ok-variable-in-Sequential-clause-judged
returns-in_ok-variable-in-Sequential-clause-judged g c =
    let is : byte_at c.args.self.now.bytes.now c.args.at ≡ 4 = sym c.in_ok-byte.ensures.1 ∙ (let z : byte_of c.in_ok-command.command ≡ c.in_ok-byte.byte = grind arith in sym z) ∙ ap byte_of c.in-Sequential.is in
    let x = byte_at c.args.self.now.bytes.now (c.args.at + 1) in
    let scope = bits c.args.scope.bound in
    let binder = (c.in_ok-variable-in-Sequential).ensures in
    let bound : bits c.with.result.bound ≡ binding x scope = c.with.ensures ∙ ap (λ x. binding x scope) binder.number in
    (sequential x, sound_there _ _ _ _ _ (omega arith) 4 is _ refl binder.rules (ap (λ right. of_two scope right (sequential x)) (sym bound)))

pub returns-in_ok-variable-in-Pruning-clause-judged : goal.returns-in_ok-variable-in-Pruning-clause-judged
returns-in_ok-variable-in-Pruning-clause-judged g c =
    let is : byte_at c.args.self.now.bytes.now c.args.at ≡ 5 = sym c.in_ok-byte.ensures.1 ∙ (let z : byte_of c.in_ok-command.command ≡ c.in_ok-byte.byte = grind arith in sym z) ∙ ap byte_of c.in-Pruning.is in
    let x = byte_at c.args.self.now.bytes.now (c.args.at + 1) in
    let scope = bits c.args.scope.bound in
    let binder = (c.in_ok-variable-in-Pruning).ensures in
    let bound : bits c.with-in-Pruning.result.bound ≡ binding x scope = c.with-in-Pruning.ensures ∙ ap (λ x. binding x scope) binder.number in
    (pruning x, sound_there _ _ _ _ _ (omega arith) 5 is _ refl binder.rules (ap (λ left. of_two left scope (pruning x)) (sym bound)))

pub returns-in_err-command-clause-judged : goal.returns-in_err-command-clause-judged
returns-in_err-command-clause-judged g c =
    let p = err_from_is_err_and c.from_residual-in_err-command.result c.from_residual-in_err-command.ensures.1 in
    let far : 6 < c.in_ok-byte.byte = grind arith in
    let fault : c.in_err-command.field-0.0 ≡ UnknownCommand c.args.at = grind arith in
    rw (p.1, p.2, fault) (no_command _ _ _ _ _ (omega arith) (omega (arith, c.in_ok-byte.ensures.1, far)))

pub returns-in-Pending-clause-judged : goal.returns-in-Pending-clause-judged
returns-in-Pending-clause-judged g c =
    let is : byte_at c.args.self.now.bytes.now c.args.at ≡ 6 = sym c.in_ok-byte.ensures.1 ∙ (let z : byte_of c.in_ok-command.command ≡ c.in_ok-byte.byte = grind arith in sym z) ∙ ap byte_of c.in-Pending.is in
    no_command _ _ _ _ _ (omega arith) (omega arith)
