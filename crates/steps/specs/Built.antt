-- What it is to build bytes in a buffer. Assumes nothing.
use Rattle.std.specs.Prelude.{◌≡◌, ℕ, ◌+◌, ◌<◌, List, ◌++◌, length, Result, MatchResult}
use Rattle.std.specs.Borrow.{Bor}
use Rattle.walks.specs.Capacity.{capacity}
use Rattle.walks.specs.Contents.{Buffer, content}
use Rattle.fixed.specs.declared.full.Full.{Full}

-- the buffer holds the bytes, or there is no room for them
abbrev pub Built : Result (Bor Buffer) Full → List ℕ → Type 0
Built r bs = MatchResult r (λ b. content b.now ≡ bs) (λ _. capacity < length bs)

-- the bytes are written behind what a buffer held, or there is no room for them
abbrev pub Added : Buffer → Buffer → Result (Unit {0}) Full → List ℕ → Type 0
Added before after r bs = MatchResult r (λ _. content after ≡ content before ++ bs) (λ _. capacity < length (content before) + length bs)
