-- What a buffer holds, and what it is to write into one. Assumes nothing.
use Rattle.std.specs.Prelude.{◌≡◌, ℕ, ◌+◌, ◌<◌, ◌≤◌, List, ◌++◌, length, Result, MatchResult}
use Rattle.fixed.specs.declared.list.FixedList.{FixedList}
use Rattle.fixed.specs.declared.full.Full.{Full}
use Rattle.fixed.specs.Items.{items_of}
use Rattle.walks.specs.Capacity.{capacity}

abbrev pub Buffer : Type 0
Buffer = FixedList ℕ capacity

abbrev pub content : Buffer → List ℕ
content b = items_of b

-- There is room for n more bytes.
abbrev pub HasRoom : Buffer → ℕ → Type 0
HasRoom b n = length (content b) + n ≤ capacity

-- There was room for n more bytes, and w, of at most n bytes, was written behind what the buffer held.
pub record Written (before after : Buffer) (n : ℕ) (w : List ℕ) : Type 0 where
  pub room : HasRoom before n
  pub written : content after ≡ content before ++ w
  pub within : length (content after) ≤ length (content before) + n

-- There was no room for n more bytes, and the buffer holds what it held.
pub record Unwritten (before after : Buffer) (n : ℕ) : Type 0 where
  pub no_room : capacity < length (content before) + n
  pub kept : content after ≡ content before

-- to write w, for which n bytes are asked: one of the two
abbrev pub Writes : {T : Type 0} → Buffer → Buffer → Result T Full → ℕ → List ℕ → Type 0
Writes before after r n w = MatchResult r (λ _. Written before after n w) (λ _. Unwritten before after n)
