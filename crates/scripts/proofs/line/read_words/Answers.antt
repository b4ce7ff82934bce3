use Rattle.std.proofs.Common.{[], ◌∷◌, ap, ◌∙◌, slice_index, lit<, true-eqb, false-eqb}
use Rattle.runs.specs.declared.call.Call.TheVariants.{Go, Answer, Wait}
use Rattle.scripts.specs.Words.{words_left}
use Rattle.scripts.specs.Operands.{followed_by}
use Rattle.scripts.specs.Lines.{go, answer, wait, is_blank, is_comment, is_unknown}
use Rattle.scripts.proofs.Splitting.{no_word, next_word}
use Rattle.scripts.proofs.Sayings.{says_call, says_fault}
use Rattle.scripts.proofs.line.read_words.Goals as goal

pub returns-in_default : goal.returns-in_default
returns-in_default c = is_blank (no_word c.args.words c.next.new.self c.in_default.ensures.steps)

pub returns-in_err-last_number-in-go : goal.returns-in_err-last_number-in-go
returns-in_err-last_number-in-go c =
    says_fault c.args.words c.next.new.self c.in-Some.word go _ _ c.in-Some.ensures.steps c.in-go.is c.in_err-last_number-in-go.ensures c.from_residual.ensures.1

pub returns-in_err-ticket-in-answer : goal.returns-in_err-ticket-in-answer
returns-in_err-ticket-in-answer c =
    says_fault c.args.words c.next.new.self c.in-Some.word answer _ _ c.in-Some.ensures.steps c.in-answer.is (c.in_err-ticket-in-answer.ensures (65535 ∷ [])) c.from_residual-in_err-ticket-in-answer.ensures.1

pub returns-in_err-value-in-answer : goal.returns-in_err-value-in-answer
returns-in_err-value-in-answer c =
    let ticket = c.in_ok-ticket-in-answer in
    let wrong = ticket.ensures (65535 ∷ []) ∙ ap (followed_by ticket.ticket) c.in_err-value-in-answer.ensures in
    says_fault c.args.words c.next.new.self c.in-Some.word answer _ _ c.in-Some.ensures.steps c.in-answer.is wrong c.from_residual-in_err-value-in-answer.ensures.1

pub returns-in_err-last_number-in-wait : goal.returns-in_err-last_number-in-wait
returns-in_err-last_number-in-wait c =
    says_fault c.args.words c.next.new.self c.in-Some.word wait _ _ c.in-Some.ensures.steps c.in-wait.is c.in_err-last_number-in-wait.ensures c.from_residual-in_err-last_number-in-wait.ensures.1

pub returns-in_ok-last_number-in-go : goal.returns-in_ok-last_number-in-go
returns-in_ok-last_number-in-go c =
    let last = c.in_ok-last_number-in-go in
    says_call c.args.words c.next.new.self c.in-Some.word (Go last.field-0) c.in-Some.ensures.steps c.in-go.is last.ensures

pub returns-in_ok-value-in-answer : goal.returns-in_ok-value-in-answer
returns-in_ok-value-in-answer c =
    let ticket = c.in_ok-ticket-in-answer in
    let value = c.in_ok-value-in-answer in
    let ns = ticket.ensures (65535 ∷ []) ∙ ap (followed_by ticket.ticket) value.ensures in
    says_call c.args.words c.next.new.self c.in-Some.word (Answer ticket.ticket value.value) c.in-Some.ensures.steps c.in-answer.is ns

pub returns-in_ok-last_number-in-wait : goal.returns-in_ok-last_number-in-wait
returns-in_ok-last_number-in-wait c =
    let last = c.in_ok-last_number-in-wait in
    says_call c.args.words c.next.new.self c.in-Some.word (Wait last.field-0) c.in-Some.ensures.steps c.in-wait.is last.ensures

pub returns-in_default-word : goal.returns-in_default-word
returns-in_default-word c =
    let word = c.in-Some.word in
    let first = c.if-starts_with.ensures.byte (lit< tt) (lit< tt) (λ w o h. h) in
    is_comment word.now (words_left c.next.new.self) (next_word c.args.words c.next.new.self word c.in-Some.ensures.steps) (true-eqb (slice_index word.now 0) 35 first)

pub returns-in_default-2 : goal.returns-in_default-2
returns-in_default-2 c =
    let word = c.in-Some.word in
    let first = c.if-starts_with.ensures.byte (lit< tt) (lit< tt) (λ w o h. h) in
    let no_verb = c.in_default-word in
    is_unknown word.now (words_left c.next.new.self) (next_word c.args.words c.next.new.self word c.in-Some.ensures.steps) (false-eqb (slice_index word.now 0) 35 first)
    (elim [ go ↦ no_verb.not-go | answer ↦ no_verb.not-answer | wait ↦ no_verb.not-wait ])
