-- Commands as they are written: which bytes begin a form of which expression. Assumes nothing.
use Rattle.std.proofs.Common.{◌≡◌, ℕ, ◌+◌, ◌≤◌, cond, eqb, List, ◌∷◌, ◌++◌, length, drop, ap, ◌∙◌, add-zero, add_assoc, arith}
use Rattle.std.proofs.lemmas.Bool.{eqb-true, eqb-false, cond_both}
use Rattle.orc.specs.Expressions.{value, variable, stop, site_call, definition_call, pending, two_bytes, parameter_bytes, bytes}
use Rattle.formats.specs.Operands.{byte_at, Bytes, two_at, four_at}
use Rattle.formats.proofs.Left.{byte_by_byte, two_back, four_back}
use Rattle.forms.specs.Reading.{parameter_at}

-- a mark and a number are written as they stood, if the mark is 0 or 1
pub parameter_written : (m n : ℕ) → m ≤ 1 → parameter_bytes (cond (eqb m 0) (value n) (variable n)) ≡ m ∷ two_bytes n
parameter_written m n fits =
    cond_both (eqb m 0) (value n) (variable n) (λ p. parameter_bytes p ≡ m ∷ two_bytes n)
    (λ is. let zero : m ≡ 0 = eqb-true m 0 is in cc)
    (λ is. let one : m ≡ 1 = omega (arith, eqb-false m 0 is) in cc)

module _ (bs : List ℕ) (fit : Bytes bs) (at : ℕ) where
  pub stop_written : byte_at bs at ≡ 0 → at + 1 ≤ length bs → bytes stop ++ drop (at + 1) bs ≡ drop at bs
  unfolding bytes
  stop_written is within = cc (byte_by_byte bs at 1 within, add-zero at)

  call_written : (b : ℕ) → byte_at bs at ≡ b → at + 5 ≤ length bs → byte_at bs (at + 2) ≤ 1 → (b ∷ byte_at bs (at + 1) ∷ parameter_bytes (parameter_at bs (at + 2))) ++ drop (at + 5) bs ≡ drop at bs
  call_written b is within fits =
      let parameter = parameter_written (byte_at bs (at + 2)) (two_at bs (at + 2 + 1)) fits in
      let written : b ∷ byte_at bs (at + 1) ∷ byte_at bs (at + 2) ∷ (two_bytes (two_at bs (at + 2 + 1)) ++ drop (at + 5) bs) ≡ drop at bs
      = cc (byte_by_byte bs at 5 within, two_back bs fit (at + 2 + 1), add-zero at, add_assoc at 2 1, add_assoc at 3 1) in
      ap (λ p. b ∷ byte_at bs (at + 1) ∷ (p ++ drop (at + 5) bs)) parameter ∙ written

  pub site_call_written : byte_at bs at ≡ 1 → at + 5 ≤ length bs → byte_at bs (at + 2) ≤ 1 → bytes (site_call (byte_at bs (at + 1)) (parameter_at bs (at + 2))) ++ drop (at + 5) bs ≡ drop at bs
  unfolding bytes
  site_call_written is within fits = call_written 1 is within fits

  pub definition_call_written : byte_at bs at ≡ 2 → at + 5 ≤ length bs → byte_at bs (at + 2) ≤ 1 → bytes (definition_call (byte_at bs (at + 1)) (parameter_at bs (at + 2))) ++ drop (at + 5) bs ≡ drop at bs
  unfolding bytes
  definition_call_written is within fits = call_written 2 is within fits

  pub pending_written : byte_at bs at ≡ 6 → at + 12 ≤ length bs → bytes (pending (four_at bs (at + 1)) (byte_at bs (at + 5)) (two_at bs (at + 6)) (four_at bs (at + 8))) ++ drop (at + 12) bs ≡ drop at bs
  unfolding bytes
  pending_written is within =
      cc (
        byte_by_byte bs at 12 within,
        four_back bs fit (at + 1),
        two_back bs fit (at + 6),
        four_back bs fit (at + 8),
        add-zero at,
        add_assoc at 1 1,
        add_assoc at 1 2,
        add_assoc at 1 3,
        add_assoc at 6 1,
        add_assoc at 8 1,
        add_assoc at 8 2,
        add_assoc at 8 3,
      )

  -- a command with parts, in front of these
  pub one_written : (b : ℕ) → byte_at bs at ≡ b → at + 1 ≤ length bs → b ∷ drop (at + 1) bs ≡ drop at bs
  one_written b is within = cc (byte_by_byte bs at 1 within, add-zero at)

  pub two_written : (b : ℕ) → byte_at bs at ≡ b → at + 2 ≤ length bs → b ∷ byte_at bs (at + 1) ∷ drop (at + 2) bs ≡ drop at bs
  two_written b is within = cc (byte_by_byte bs at 2 within, add-zero at)
