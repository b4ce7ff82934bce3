use Rattle.std.proofs.Common.{List, ℕ, [], ap, ◌∙◌}
use Rattle.std.proofs.lemmas.Result.{err_from_is_err_and}
use Rattle.scripts.specs.Operands.{operands, followed_by}
use Rattle.scripts.proofs.Splitting.{no_word, next_word}
use Rattle.scripts.proofs.number.last_number.Goals as goal

pub returns-in_err-n : goal.returns-in_err-n
returns-in_err-n g c = let p = err_from_is_err_and c.from_residual.result c.from_residual.ensures.1 in rw (p.1, p.2) (c.in_err-n.ensures [])

pub returns-in-None : goal.returns-in-None
returns-in-None g c =
    let ended = no_word c.next_number.new.words c.next.new.self c.in-None.ensures.steps in
    c.in_ok-n.ensures [] ∙ ap (λ (ws : List (List ℕ)). followed_by (g.T.Operand.value c.in_ok-n.n) (operands [] ws)) ended

pub returns-in-Some : goal.returns-in-Some
returns-in-Some g c =
    let more = next_word c.next_number.new.words c.next.new.self c.in-Some.field-0 c.in-Some.ensures.steps in
    c.in_ok-n.ensures [] ∙ ap (λ (ws : List (List ℕ)). followed_by (g.T.Operand.value c.in_ok-n.n) (operands [] ws)) more
