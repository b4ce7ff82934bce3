use Rattle.std.proofs.Common.{◌≡◌, ℕ, List, Ok, Err, arith}
use Rattle.std.proofs.lemmas.Result.{err_from_is_err_and}
use Rattle.formats.specs.declared.fault.Fault.{Fault}
use Rattle.sheets.specs.Format.{SheetRow, SheetOutcome}
use Rattle.sheets.proofs.Decoded.{decoded}
use Rattle.sheets.proofs.Encoded.{encoded}
use Rattle.sheets.proofs.OneOutcome.{one_outcome}
use Rattle.sheets.proofs.rows.read_sheet.Goals as goal

-- a sheet that is refused is not accepted too
not_both : (bs : List ℕ) (f : Fault) (rows : List SheetRow) → SheetOutcome bs (Err f) → SheetOutcome bs (Ok rows) → ⊥
not_both bs f rows refused accepted =
    let one = one_outcome bs in
    let a = one.2 (Err f) refused in
    let b = one.2 (Ok rows) accepted in
    let z : ◌≡◌ {A = ℕ} 0 1 = cc in
    omega arith

pub returns-in_err-list : goal.returns-in_err-list
returns-in_err-list c =
    let p = err_from_is_err_and c.from_residual.result c.from_residual.ensures.1 in
    let refused = c.in_err-list.ensures in
    rw (p.1, p.2) (record { outcome = refused; encoded = λ rows sound is. not_both c.args.bytes.now _ rows refused (encoded c.args.bytes.now rows (sound, is)) })

pub invariant_of-result : goal.invariant_of-result
invariant_of-result c = record { sound = (decoded c.args.bytes.now (λ i. (c.type_inv.bytes i).fits) c.in_ok-list.ensures).0 }

pub returns : goal.returns
returns c =
    let accepted = c.in_ok-list.ensures in
    record { outcome = accepted; encoded = decoded c.args.bytes.now (λ i. (c.type_inv.bytes i).fits) accepted }
