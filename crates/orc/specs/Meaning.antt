-- What the sites of a host can reply, and when. Assumes nothing.
--
-- Time is counted in ticks. A site is called with a value at some tick, the clock of the call; the age of the call is the
-- ticks that have passed since. A window is one chance of a reply: an interval of ages and an interval of values, all four
-- ends included. A handle is all that one call can come to: its windows, and whether the site may stay silent for ever.
-- A meaning says of each site that it is unknown, or gives for each value the handle of a call with it.
use Rattle.std.specs.Prelude.{◌≡◌, ℕ, ◌+◌, ◌<◌, ◌≤◌, Bool, true, false, ◌&&◌, ◌||◌, List, [], ◌∷◌, length, ◌==◌, nat_le}
use Rattle.std.specs.List.{AllByRecursion}

pub record Window : Type 0 where
  pub earliest : ℕ
  pub latest : ℕ
  pub lowest : ℕ
  pub highest : ℕ

pub record Handle : Type 0 where
  pub windows : List Window
  pub silent : Bool

pub data Replies : Type 0 where
  unknown : Replies
  known : (ℕ → Handle) → Replies

abbrev pub Meaning : Type 0
Meaning = ℕ → Replies

-- the latest age of a window that has no end
abbrev pub no_end : ℕ
no_end = 4294967295

-- The two tests that open a window. Everything that depends on an age goes through them.
-- A window of a call made at tick c reaches tick n: it has no end, or n is not past its latest age.
abbrev pub reaches : ℕ → ℕ → Window → Bool
reaches c n w = w.latest == no_end || nat_le n (c + w.latest)

-- A window of a call made at tick c admits the reply v at tick n.
abbrev pub admits : ℕ → ℕ → ℕ → Window → Bool
admits c n v w = nat_le (c + w.earliest) n && (reaches c n w && (nat_le w.lowest v && nat_le v w.highest))

-- some element passes the test
abbrev pub some : {X : Type 0} → (X → Bool) → List X → Bool
some f [] = false
some f (x ∷ xs) = f x || some f xs

-- some window of the handle reaches tick n
unfoldable pub within_reach : Handle → ℕ → ℕ → Bool
within_reach h c n = some (reaches c n) h.windows

-- a call made at tick c can still be unanswered at tick n
unfoldable pub can_stand : Handle → ℕ → ℕ → Bool
can_stand h c n = h.silent || within_reach h c n

-- a call made at tick c can be answered with v at tick n
unfoldable pub can_reply : Handle → ℕ → ℕ → ℕ → Bool
can_reply h c n v = some (admits c n v) h.windows

-- no window and no silence: what is left to say of a call of an unknown site
abbrev pub no_handle : Handle
no_handle = record { windows = []; silent = false }

abbrev pub handle_of : Replies → ℕ → Handle
handle_of unknown v = no_handle
handle_of (known h) v = h v

abbrev pub is_known : Replies → Bool
is_known unknown = false
is_known (known h) = true

abbrev pub handle : Meaning → ℕ → ℕ → Handle
handle m s v = handle_of (m s) v

-- a window's ends are in range and in order
pub record SoundWindow (w : Window) : Type 0 where
  pub ticks_ordered : w.earliest ≤ w.latest
  pub begins : w.earliest < 4294967295
  pub latest_fits : w.latest ≤ 4294967295
  pub values_ordered : w.lowest ≤ w.highest
  pub highest_fits : w.highest ≤ 65535

pub record SoundHandle (h : Handle) : Type 0 where
  pub few : length h.windows ≤ 4
  pub sound : AllByRecursion SoundWindow h.windows

abbrev pub nonempty : {X : Type 0} → List X → Bool
nonempty [] = false
nonempty (x ∷ xs) = true

-- a handle under which a call comes to something: a reply or silence
abbrev pub comes_to_something : Handle → Bool
comes_to_something h = h.silent || nonempty h.windows

-- What a meaning keeps: the ranges of its handles, and that each call of a known site comes to something. Values are
-- those that fit 16 bits; nothing is said of others. Nothing more is ever assumed of a host.
pub record Lawful (m : Meaning) : Type 0 where
  pub ranges : (s v : ℕ) → v < 65536 → SoundHandle (handle m s v)
  pub answers : (s v : ℕ) → v < 65536 → is_known (m s) ≡ true → comes_to_something (handle m s v) ≡ true
