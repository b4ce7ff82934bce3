use Rattle.std.proofs.Common.{◌≡◌, [], ◌∷◌, sym, refl, ap, ◌∙◌}
use Rattle.std.proofs.lemmas.Option.{MatchOption-at_some}
use Rattle.orc.specs.Expressions.{stop, site_call, definition_call, parallel, sequential, pruning, bytes}
use Rattle.formats.specs.Operands.{byte_at}
use Rattle.forms.specs.Commands.{byte_of}
use Rattle.forms.proofs.Fronts.{headed_none, headed_alone, headed_two, reaches, one_in_front, two_in_front, parts_are_forms, headed_pending}
use Rattle.forms.proofs.form.Form.head.Goals as goal

pub returns-in_default-clause-expression : goal.returns-in_default-clause-expression
returns-in_default-clause-expression c = headed_none _ c.in_default.ensures

pub returns-in-Stop-clause-expression : goal.returns-in-Stop-clause-expression
returns-in-Stop-clause-expression c =
    let command = c.in-Some.ensures in
    headed_alone c.args.self.bytes.now command.1 0 (sym command.0 ∙ ap byte_of c.in-Stop.is) stop refl

pub returns-in-SiteCall-clause-expression : goal.returns-in-SiteCall-clause-expression
returns-in-SiteCall-clause-expression c =
    let bs = c.args.self.bytes.now in
    let command = c.in-Some.ensures in
    ap (site_call (byte_at bs 1)) c.read.ensures ∙ headed_alone bs command.1 1 (sym command.0 ∙ ap byte_of c.in-SiteCall.is) _ refl

pub returns-in-DefinitionCall-clause-expression : goal.returns-in-DefinitionCall-clause-expression
returns-in-DefinitionCall-clause-expression c =
    let bs = c.args.self.bytes.now in
    let command = c.in-Some.ensures in
    ap (definition_call (byte_at bs 1)) c.read-in-DefinitionCall.ensures ∙ headed_alone bs command.1 2 (sym command.0 ∙ ap byte_of c.in-DefinitionCall.is) _ refl

pub returns-in-Parallel-clause-expression : goal.returns-in-Parallel-clause-expression
returns-in-Parallel-clause-expression c =
    let bs = c.args.self.bytes.now in
    let command = c.in-Some.ensures in
    headed_two bs command.1 3 (sym command.0 ∙ ap byte_of c.in-Parallel.is) parallel refl c.parts.ensures

pub returns-in-Parallel-clause-forms : goal.returns-in-Parallel-clause-forms
unfolding bytes
returns-in-Parallel-clause-forms c =
    let bs = c.args.self.bytes.now in
    let command = c.in-Some.ensures in
    let is : byte_at bs 0 ≡ 3 = sym command.0 ∙ ap byte_of c.in-Parallel.is in
    let there = one_in_front bs 3 is (reaches bs command.1 3 is) in
    parts_are_forms bs command.1 3 is (3 ∷ []) parallel refl (λ f g. refl) there c.parts.ensures

pub returns-in-Sequential-clause-expression : goal.returns-in-Sequential-clause-expression
returns-in-Sequential-clause-expression c =
    let bs = c.args.self.bytes.now in
    let command = c.in-Some.ensures in
    headed_two bs command.1 4 (sym command.0 ∙ ap byte_of c.in-Sequential.is) (sequential (byte_at bs 1)) refl c.parts-in-Sequential.ensures

pub returns-in-Sequential-clause-forms : goal.returns-in-Sequential-clause-forms
unfolding bytes
returns-in-Sequential-clause-forms c =
    let bs = c.args.self.bytes.now in
    let command = c.in-Some.ensures in
    let is : byte_at bs 0 ≡ 4 = sym command.0 ∙ ap byte_of c.in-Sequential.is in
    let there = two_in_front bs 4 is (reaches bs command.1 4 is) in
    parts_are_forms bs command.1 4 is (4 ∷ byte_at bs 1 ∷ []) (sequential (byte_at bs 1)) refl (λ f g. refl) there c.parts-in-Sequential.ensures

pub returns-in-Pruning-clause-expression : goal.returns-in-Pruning-clause-expression
returns-in-Pruning-clause-expression c =
    let bs = c.args.self.bytes.now in
    let command = c.in-Some.ensures in
    headed_two bs command.1 5 (sym command.0 ∙ ap byte_of c.in-Pruning.is) (pruning (byte_at bs 1)) refl c.parts-in-Pruning.ensures

pub returns-in-Pruning-clause-forms : goal.returns-in-Pruning-clause-forms
unfolding bytes
returns-in-Pruning-clause-forms c =
    let bs = c.args.self.bytes.now in
    let command = c.in-Some.ensures in
    let is : byte_at bs 0 ≡ 5 = sym command.0 ∙ ap byte_of c.in-Pruning.is in
    let there = two_in_front bs 5 is (reaches bs command.1 5 is) in
    parts_are_forms bs command.1 5 is (5 ∷ byte_at bs 1 ∷ []) (pruning (byte_at bs 1)) refl (λ f g. refl) there c.parts-in-Pruning.ensures

pub returns-in-Pending-clause-expression : goal.returns-in-Pending-clause-expression
returns-in-Pending-clause-expression c =
    let bs = c.args.self.bytes.now in
    let command = c.in-Some.ensures in
    headed_pending bs command.1 6 (sym command.0 ∙ ap byte_of c.in-Pending.is) refl c.unwrap.result (MatchOption-at_some _ _ c.unwrap.result c.unwrap.ensures c.read-in-Pending.ensures).1
