use Rattle.std.proofs.Common.{◌≡◌, ◌∷◌, ap, None, Some, Ok, Err, arith}
use Rattle.std.proofs.lemmas.Result.{MatchResult-weaker, err_from_is_err_and}
use Rattle.scripts.specs.declared.fault.LineFault.TheVariants.{NumberMissing}
use Rattle.scripts.specs.Operands.{operands}
use Rattle.scripts.proofs.Splitting.{no_word}
use Rattle.scripts.proofs.Sayings.{next_operand}
use Rattle.scripts.proofs.number.next_number.Goals as goal

pub returns-in_err-ok_or : goal.returns-in_err-ok_or
returns-in_err-ok_or g c =
    let ended : c.next.result ≡ None = grind arith in
    let missing : c.in_err-ok_or.field-0.0 ≡ NumberMissing = grind arith in
    let step = rw ended at c.next.ensures.steps in
    let p = err_from_is_err_and c.from_residual.result c.from_residual.ensures.1 in
    rw (p.1, p.2, missing) (λ ms. ap (operands (g.T.Operand.MOST ∷ ms)) (no_word c.args.words.now c.next.new.self step))

pub returns : goal.returns
returns g c =
    let most = g.T.Operand.MOST in
    let word = c.in_ok-ok_or.field-0 in
    let next : c.next.result ≡ Some word = grind arith in
    let step = rw next at c.next.ensures.steps in
    MatchResult-weaker c.number.result c.number.ensures
    (λ n is ms. next_operand most c.args.words.now c.next.new.self word (Ok (g.T.Operand.value n)) step is ms)
    (λ f is ms. next_operand most c.args.words.now c.next.new.self word (Err f) step is ms)
