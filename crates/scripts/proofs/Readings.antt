-- A line says one thing, and what is written of a call says that call. Assumes nothing.
use Rattle.std.proofs.Common.{◌≡◌, ℕ, ◌^◌, ◌<◌, ◌≤◌, false, cond, eqb, List, [], ◌∷◌, ◌++◌, map, get_or, Some, None, Ok, Err, decimal, Result, sym, refl, ap, ◌∙◌, append-nil, arith, eq-eqb, ne_eqb}
use Rattle.std.proofs.lemmas.Fmt.{decimal_is_IsNumeral, decimal_nonempty, digits_decimal}
use Rattle.std.proofs.ByRecursion.{All-from_get_or}
use Rattle.std.proofs.lemmas.Slice.Eq.{bytes_eq-Decides}
use Rattle.std.proofs.lemmas.Str.Parse.{numerals_by_value, tells_all_ascii_digits, digit_at}
use Rattle.std.proofs.lemmas.Bool.{false_from_ne_true}
use Rattle.std.proofs.lemmas.Bool.Decides.{nat_tests}
use Rattle.std.specs.Int.{IsInRange}
use Rattle.std.specs.Char.{is_ascii_whitespace}
use Rattle.std.specs.List.{AllByRecursion}
use Rattle.std.specs.Str.{bytes_eq}
use Rattle.runs.specs.declared.call.Call.{Call}
use Rattle.runs.specs.declared.call.Call.TheVariants.{Go, Answer, Wait}
use Rattle.runs.specs.Calls.{line_of}
use Rattle.runs.specs.Recording.{InRange}
use Rattle.scripts.specs.declared.fault.LineFault.{LineFault}
use Rattle.scripts.specs.declared.fault.LineFault.TheVariants.{UnknownWord}
use Rattle.scripts.specs.Words.{words, opens, Dark}
use Rattle.scripts.specs.Operands.{operands, followed_by, first_then, number_of}
use Rattle.scripts.specs.Lines.{Outcome, Verb, go, answer, wait, Says, is_blank, is_comment, is_call, is_faulty, is_unknown, verb_of, spelling, numbers, limits}
use Rattle.scripts.specs.Parsing.{reads}
use Rattle.scripts.proofs.Splitting.{words_of_gap, words_of_front, words_from_front, words_of_nothing}

-- what a line says, computed from its words
made_call : Verb → List ℕ → Outcome
made_call go [] = Ok None
made_call go (n ∷ ns) = Ok (Some (Go n))
made_call answer [] = Ok None
made_call answer (k ∷ []) = Ok None
made_call answer (k ∷ v ∷ ns) = Ok (Some (Answer k v))
made_call wait [] = Ok None
made_call wait (d ∷ ds) = Ok (Some (Wait d))

called : Verb → Result (List ℕ) LineFault → Outcome
called v (Ok ns) = made_call v ns
called v (Err f) = Err f

by_verb : List ℕ → List (List ℕ) → Outcome
by_verb w ws =
    cond (bytes_eq w (spelling go)) (called go (operands (limits go) ws))
    (cond (bytes_eq w (spelling answer)) (called answer (operands (limits answer) ws))
    (cond (bytes_eq w (spelling wait)) (called wait (operands (limits wait) ws)) (Err UnknownWord)))

meant : List (List ℕ) → Outcome
meant [] = Ok None
meant (w ∷ ws) = cond (eqb (get_or w 0 0) 35) (Ok None) (by_verb w ws)

at_verb : (v : Verb) (ws : List (List ℕ)) → meant (spelling v ∷ ws) ≡ called v (operands (limits v) ws)
unfolding meant by_verb
at_verb go ws = refl
at_verb answer ws = refl
at_verb wait ws = refl

at_call : (c : Call) → called (verb_of c) (Ok (numbers c)) ≡ Ok (Some c)
unfolding called made_call
at_call (Go n) = refl
at_call (Answer k v) = refl
at_call (Wait d) = refl

at_fault : (v : Verb) (f : LineFault) → called v (Err f) ≡ Err f
unfolding called
at_fault v f = refl

not_same : (w : List ℕ) (v : Verb) → (w ≡ spelling v → ⊥) → bytes_eq w (spelling v) ≡ false
not_same w v differ = false_from_ne_true (bytes_eq w (spelling v)) (λ h. differ ((bytes_eq-Decides w (spelling v)).0 h))

at_other : (w : List ℕ) (ws : List (List ℕ)) → (get_or w 0 0 ≡ 35 → ⊥) → ((v : Verb) → w ≡ spelling v → ⊥) → meant (w ∷ ws) ≡ Err UnknownWord
unfolding meant by_verb
at_other w ws no-comment no-verb =
    let a = ne_eqb (get_or w 0 0) 35 no-comment in
    let b = not_same w go (no-verb go) in
    let d = not_same w answer (no-verb answer) in
    let e = not_same w wait (no-verb wait) in
    rw (a, b, d, e)

at_comment : (w : List ℕ) (ws : List (List ℕ)) → get_or w 0 0 ≡ 35 → meant (w ∷ ws) ≡ Ok None
unfolding meant
at_comment w ws is = let a = eq-eqb (get_or w 0 0) 35 is in rw a

at_none : meant [] ≡ Ok None
unfolding meant
at_none = refl

says_meant : (ws : List (List ℕ)) (o : Outcome) → Says ws o → o ≡ meant ws
says_meant ws _ (is_blank none) = sym (ap meant none ∙ at_none)
says_meant ws _ (is_comment w rest split is) = sym (ap meant split ∙ at_comment w rest is)
says_meant ws _ (is_call c rest split ns) = sym (ap meant split ∙ (at_verb (verb_of c) rest ∙ (ap (called (verb_of c)) ns ∙ at_call c)))
says_meant ws _ (is_faulty v rest f split wrong) = sym (ap meant split ∙ (at_verb v rest ∙ (ap (called v) wrong ∙ at_fault v f)))
says_meant ws _ (is_unknown w rest split no-comment no-verb) = sym (ap meant split ∙ at_other w rest no-comment no-verb)

pub only_one : (ws : List (List ℕ)) (o p : Outcome) → Says ws o → Says ws p → o ≡ p
only_one ws o p a b = says_meant ws o a ∙ sym (says_meant ws p b)

-- a decimal is a word, and is read as the number that it was written of
digit_is_dark : (c : ℕ) → IsInRange 48 57 c → is_ascii_whitespace c ≡ false
digit_is_dark c digit = grind (arith, nat_tests)

decimal_is_dark : (n : ℕ) → n < 2 ^ 64 → AllByRecursion Dark (decimal n)
decimal_is_dark n small = All-from_get_or Dark (decimal n) 0 (λ i h. digit_is_dark (get_or (decimal n) i 0) (digit_at (decimal n) i (decimal_is_IsNumeral n small).0.1 h))

words_of_number : (n : ℕ) (rest : List ℕ) → n < 2 ^ 64 → opens rest ≡ false → words (32 ∷ (decimal n ++ rest)) ≡ decimal n ∷ words rest
words_of_number n rest small ends = words_of_gap (32 ∷ []) (decimal n ++ rest) (refl, tt) ∙ words_from_front (decimal n) rest (decimal_nonempty n small) (decimal_is_dark n small) ends

words_of_last : (n : ℕ) → n < 2 ^ 64 → words (32 ∷ decimal n) ≡ decimal n ∷ []
words_of_last n small =
    ap (λ (l : List ℕ). words (32 ∷ l)) (sym (append-nil (decimal n))) ∙ (words_of_number n [] small refl ∙ ap (λ (l : List (List ℕ)). decimal n ∷ l) (words_of_nothing [] refl))

words_of_line : (c : Call) → InRange c → words (line_of c) ≡ spelling (verb_of c) ∷ map decimal (numbers c)
words_of_line (Go n) fits = words_of_front 103 (111 ∷ []) (32 ∷ decimal n) (refl, (refl, tt)) refl ∙ ap (λ (l : List (List ℕ)). spelling go ∷ l) (words_of_last n (omega arith))
words_of_line (Answer k v) fits =
    words_of_front 97 (110 ∷ 115 ∷ 119 ∷ 101 ∷ 114 ∷ []) (32 ∷ (decimal k ++ (32 ∷ decimal v))) (refl, (refl, (refl, (refl, (refl, (refl, tt)))))) refl
    ∙ ap (λ (l : List (List ℕ)). spelling answer ∷ l) (words_of_number k (32 ∷ decimal v) (omega arith) refl ∙ ap (λ (l : List (List ℕ)). decimal k ∷ l) (words_of_last v (omega arith)))
words_of_line (Wait d) fits = words_of_front 119 (97 ∷ 105 ∷ 116 ∷ []) (32 ∷ decimal d) (refl, (refl, (refl, (refl, tt)))) refl ∙ ap (λ (l : List (List ℕ)). spelling wait ∷ l) (words_of_last d (omega arith))

number_back : (most n : ℕ) → n < 2 ^ 64 → n ≤ most → number_of most (decimal n) ≡ Ok n
number_back most n small within = reads most (decimal n) n (digits_decimal (numerals_by_value _ tells_all_ascii_digits) n small) (decimal_is_IsNumeral n small).1 within

operands_back : (most n : ℕ) (ms : List ℕ) (ws : List (List ℕ)) → n < 2 ^ 64 → n ≤ most → operands (most ∷ ms) (decimal n ∷ ws) ≡ followed_by n (operands ms ws)
operands_back most n ms ws small within = ap (λ (r : Result ℕ LineFault). first_then r (operands ms ws)) (number_back most n small within)

numbers_back : (c : Call) → InRange c → operands (limits (verb_of c)) (map decimal (numbers c)) ≡ Ok (numbers c)
numbers_back (Go n) fits = operands_back 4294967295 n [] [] (omega arith) (omega arith)
numbers_back (Answer k v) fits = operands_back 4294967295 k (65535 ∷ []) (decimal v ∷ []) (omega arith) (omega arith) ∙ ap (followed_by k) (operands_back 65535 v [] [] (omega arith) (omega arith))
numbers_back (Wait d) fits = operands_back 4294967295 d [] [] (omega arith) (omega arith)

pub back : (line : List ℕ) (c : Call) (r : Outcome) → InRange c → line ≡ line_of c → Says (words line) r → r ≡ Ok (Some c)
back line c r fits written says =
    only_one (words line) r (Ok (Some c)) says (is_call c (map decimal (numbers c)) (ap words written ∙ words_of_line c fits) (numbers_back c fits))
