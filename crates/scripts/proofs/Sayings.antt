-- What a line says by its first word and the numbers after it. Assumes nothing.
use Rattle.std.proofs.Common.{◌≡◌, ℕ, List, ◌∷◌, Some, Ok, Err, Result, Bor, IsErrAnd, ap, ◌∙◌}
use Rattle.std.proofs.lemmas.Result.{err_from_is_err_and}
use Rattle.std.specs.Str.Iter.{split_ascii_whitespace_steps}
use Rattle.std.specs.declared.str.SplitAsciiWhitespace.{SplitAscii}
use Rattle.runs.specs.declared.call.Call.{Call}
use Rattle.scripts.specs.declared.fault.LineFault.{LineFault}
use Rattle.scripts.specs.Words.{words_left}
use Rattle.scripts.specs.Operands.{number_of, operands, first_then}
use Rattle.scripts.specs.Lines.{Outcome, Verb, Says, is_call, is_faulty, verb_of, spelling, numbers, limits}
use Rattle.scripts.proofs.Splitting.{next_word}

-- the next word is the first operand
pub next_operand : (most : ℕ) (s t : SplitAscii) (x : Bor (List ℕ)) (r : Result ℕ LineFault) → split_ascii_whitespace_steps s (Some x) t → number_of most x.now ≡ r → (ms : List ℕ) → operands (most ∷ ms) (words_left s) ≡ first_then r (operands ms (words_left t))
next_operand most s t x r step is ms =
    ap (operands (most ∷ ms)) (next_word s t x step) ∙ ap (λ (q : Result ℕ LineFault). first_then q (operands ms (words_left t))) is

-- a line whose first word is that of a call, with the call's numbers, or with a fault in them
pub says_call : (s t : SplitAscii) (x : Bor (List ℕ)) (c : Call) → split_ascii_whitespace_steps s (Some x) t → x.now ≡ spelling (verb_of c) → operands (limits (verb_of c)) (words_left t) ≡ Ok (numbers c) → Says (words_left s) (Ok (Some c))
says_call s t x c step is ns = is_call c (words_left t) (next_word s t x step ∙ ap (λ (w : List ℕ). w ∷ words_left t) is) ns

pub says_fault : (s t : SplitAscii) (x : Bor (List ℕ)) (v : Verb) (f : LineFault) (r : Outcome) → split_ascii_whitespace_steps s (Some x) t → x.now ≡ spelling v → operands (limits v) (words_left t) ≡ Err f → IsErrAnd r (λ e. e ≡ f) → Says (words_left s) r
says_fault s t x v f r step is wrong passed =
    let p = err_from_is_err_and r passed in
    rw (p.1, p.2) (is_faulty v (words_left t) f (next_word s t x step ∙ ap (λ (w : List ℕ). w ∷ words_left t) is) wrong)
