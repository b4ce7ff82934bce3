use Rattle.std.proofs.Common.{arith}
use Rattle.std.proofs.lemmas.Result.{err_from_is_err_and}
use Rattle.files.specs.Judgement.{too_long, bad_count}
use Rattle.files.proofs.Filewise.{at_goal, of_file, file_judged}
use Rattle.files.proofs.Verdicts.{outcome, not_encoded, verdict}
use Rattle.files.proofs.check.check_file.Goals as goal

pub returns-then-file-gt-LONGEST : goal.returns-then-file-gt-LONGEST
returns-then-file-gt-LONGEST g c =
    let refused = too_long (omega arith) in
    record { outcome = refused; encoded = not_encoded _ _ (λ i. (c.type_inv.file i).fits) refused }

pub returns-in_err-read_count : goal.returns-in_err-read_count
returns-in_err-read_count g c =
    let p = err_from_is_err_and c.from_residual.result c.from_residual.ensures.1 in
    let refused = bad_count (omega arith) c.in_err-read_count.ensures.rules in
    rw (p.1, p.2) (record { outcome = refused; encoded = not_encoded _ _ (λ i. (c.type_inv.file i).fits) refused })

pub returns-in_err-at : goal.returns-in_err-at
returns-in_err-at g c =
    let p = err_from_is_err_and c.from_residual-in_err-at.result c.from_residual-in_err-at.ensures.1 in
    let count = c.in_ok-read_count.ensures in
    let refused = of_file _ _ count.count.0 (omega arith) count.rules c.in_err-at.ensures in
    rw (p.1, p.2) (record { outcome = refused; encoded = not_encoded _ _ (λ i. (c.type_inv.file i).fits) refused })

pub returns : goal.returns
returns g c =
    let count = c.in_ok-read_count.ensures in
    let r = c.whole.result in
    let judged = outcome _ _ (λ i. (c.type_inv.file i).fits) r (file_judged _ _ count.count.0 (omega arith) count.rules r (at_goal _ _ _ c.in_ok-at.ensures c.empty.ensures r c.whole.ensures)) in
    record { outcome = judged; encoded = verdict _ _ (λ i. (c.type_inv.file i).fits) r judged }
