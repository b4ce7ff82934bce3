-- The words of a line. Assumes nothing.
use Rattle.std.specs.Prelude.{◌≡◌, ℕ, Bool, false, cond, not, List, [], ◌∷◌}
use Rattle.std.specs.Char.{is_ascii_whitespace}
use Rattle.std.specs.Str.Iter.{split_ascii_whitespace_text}
use Rattle.std.specs.declared.str.SplitAsciiWhitespace.{SplitAscii}

-- a byte that is no white space: no space, tab, carriage return, line feed or form feed
abbrev pub Dark : ℕ → Type 0
Dark c = is_ascii_whitespace c ≡ false

-- bytes go on with a word
abbrev pub opens : List ℕ → Bool
opens [] = false
opens (c ∷ cs) = not (is_ascii_whitespace c)

-- a byte put in front of the first word
abbrev pub onto : ℕ → List (List ℕ) → List (List ℕ)
onto c [] = (c ∷ []) ∷ []
onto c (w ∷ ws) = (c ∷ w) ∷ ws

-- The words are the longest runs of bytes with no white space. A byte that is none is a word of its own where white
-- space or nothing follows, and else the first of the word that follows.
unfoldable pub words : List ℕ → List (List ℕ)
words [] = []
words (c ∷ cs) = cond (is_ascii_whitespace c) (words cs) (cond (opens cs) (onto c (words cs)) ((c ∷ []) ∷ words cs))

-- the words that are left of a line
abbrev pub words_left : SplitAscii → List (List ℕ)
words_left s = words (split_ascii_whitespace_text s)
