-- How a line splits into its words. Assumes nothing.
use Rattle.std.proofs.Common.{◌≡◌, ℕ, ◌<◌, ◌≤◌, true, false, not, List, [], ◌∷◌, ◌++◌, length, get_or, Some, None, Bor, sym, refl, ap, ◌∙◌, append-nil, arith, ⊎_elim}
use Rattle.std.proofs.lemmas.Bool.{cases_lt}
use Rattle.std.proofs.lemmas.Bool.Decides.{nat_tests}
use Rattle.std.proofs.lemmas.Str.{NoCharPasses-byte}
use Rattle.std.proofs.ByRecursion.{All-from_get_or}
use Rattle.std.specs.Char.{is_ascii_whitespace}
use Rattle.std.specs.List.{AllByRecursion, AllPass}
use Rattle.std.specs.Str.{NoCharPasses}
use Rattle.std.specs.Str.Iter.{split_ascii_whitespace_text, split_ascii_whitespace_steps, IsAsciiSeparator}
use Rattle.std.specs.declared.str.SplitAsciiWhitespace.{SplitAscii}
use Rattle.scripts.specs.Words.{words, words_left, opens, onto, Dark}

-- white space in front of a line does not count
pub words_of_gap : (gap rest : List ℕ) → AllByRecursion (λ c. is_ascii_whitespace c ≡ true) gap → words (gap ++ rest) ≡ words rest
unfolding words
words_of_gap [] rest white = refl
words_of_gap (c ∷ cs) rest white = simp white.0 (words_of_gap cs rest white.1)

-- a byte before a word is the first of the word
before_a_word : (c : ℕ) (cs : List ℕ) → Dark c → opens cs ≡ true → words (c ∷ cs) ≡ onto c (words cs)
unfolding words
before_a_word c cs dark on = simp (dark, on)

before_a_gap : (c : ℕ) (cs : List ℕ) → Dark c → opens cs ≡ false → words (c ∷ cs) ≡ (c ∷ []) ∷ words cs
unfolding words
before_a_gap c cs dark off = simp (dark, off)

-- bytes with no white space, and then none or white space, are a word
pub words_of_front : (c : ℕ) (cs rest : List ℕ) → AllByRecursion Dark (c ∷ cs) → opens rest ≡ false → words ((c ∷ cs) ++ rest) ≡ (c ∷ cs) ∷ words rest
words_of_front c [] rest dark ends = before_a_gap c rest dark.0 ends
words_of_front c (d ∷ ds) rest dark ends =
    before_a_word c ((d ∷ ds) ++ rest) dark.0 (ap not dark.1.0) ∙ ap (onto c) (words_of_front d ds rest dark.1 ends)

pub words_from_front : (w rest : List ℕ) → 0 < length w → AllByRecursion Dark w → opens rest ≡ false → words (w ++ rest) ≡ w ∷ words rest
words_from_front [] rest some dark ends = absurd (omega arith)
words_from_front (c ∷ cs) rest some dark ends = words_of_front c cs rest dark ends

-- a line of no bytes has no words
pub words_of_nothing : (bs : List ℕ) → length bs ≡ 0 → words bs ≡ []
unfolding words
words_of_nothing [] none = refl
words_of_nothing (c ∷ cs) none = absurd (omega arith)

white : (bs : List ℕ) → AllPass is_ascii_whitespace bs → AllByRecursion (λ c. is_ascii_whitespace c ≡ true) bs
white bs all = All-from_get_or (λ c. is_ascii_whitespace c ≡ true) bs 0 (λ i within. all i 0 within)

dark : (w : List ℕ) → NoCharPasses is_ascii_whitespace w → AllByRecursion Dark w
dark w none = All-from_get_or Dark w 0 (λ i within. ⊎_elim (λ low. NoCharPasses-byte is_ascii_whitespace w i none within low) (λ high. beyond (get_or w i 0) high) (cases_lt (get_or w i 0) 128))
  where
    beyond : (c : ℕ) → 128 ≤ c → Dark c
    beyond c high = grind (arith, nat_tests)

ends : (sep rest : List ℕ) → IsAsciiSeparator sep rest → opens (sep ++ rest) ≡ false
ends [] [] s = refl
ends [] (c ∷ cs) s = absurd (omega (arith, s.2 refl))
ends (c ∷ cs) rest s = ap not (s.0 0 0 (omega arith))

-- an iterator over the words of a line gives the first of them, and goes on with the others
pub next_word : (s t : SplitAscii) (x : Bor (List ℕ)) → split_ascii_whitespace_steps s (Some x) t → words_left s ≡ x.now ∷ words_left t
next_word s t x step =
    let rest = split_ascii_whitespace_text t in
    let gap = step.3.0 in
    let sep = step.3.1 in
    ap words step.3.2
    ∙ (words_of_gap gap (x.now ++ (sep ++ rest)) (white gap step.3.3)
    ∙ (words_from_front x.now (sep ++ rest) step.0 (dark x.now step.1) (ends sep rest step.3.4)
    ∙ ap (λ (ws : List (List ℕ)). x.now ∷ ws) (words_of_gap sep rest (white sep step.3.4.0))))

pub no_word : (s t : SplitAscii) → split_ascii_whitespace_steps s None t → words_left s ≡ []
no_word s t step =
    let bs = split_ascii_whitespace_text s in
    ap words (sym (append-nil bs)) ∙ (words_of_gap bs [] (white bs step.0) ∙ words_of_nothing [] refl)
