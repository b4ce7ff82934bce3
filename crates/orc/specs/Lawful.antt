-- How a meaning is shown to keep the ranges and laws, and that the local sites do. Assumes nothing.
use Rattle.std.specs.Prelude.{◌≡◌, ℕ, ◌<◌, ◌≤◌, Bool, true, false, cond, ◌==◌, refl}
use Rattle.std.proofs.Common.{arith}
use Rattle.std.proofs.lemmas.Bool.{false≢true}
use Rattle.orc.specs.Meaning.{Replies, Meaning, unknown, known, handle_of, is_known, SoundHandle, comes_to_something, Lawful}
use Rattle.orc.specs.Local.{local, exactly, never, let_replies, if_replies, signal_replies, rtimer_replies}

-- what a meaning keeps, at one site
pub record LawfulSite (r : Replies) : Type 0 where
  pub ranges : (v : ℕ) → v < 65536 → SoundHandle (handle_of r v)
  pub answers : (v : ℕ) → v < 65536 → is_known r ≡ true → comes_to_something (handle_of r v) ≡ true

pub by_sites : (m : Meaning) → ((s : ℕ) → LawfulSite (m s)) → Lawful m
by_sites m at = record { ranges = λ s. (at s).ranges; answers = λ s. (at s).answers }

pub at_site : (m : Meaning) → Lawful m → (s : ℕ) → LawfulSite (m s)
at_site m laws s = record { ranges = laws.ranges s; answers = laws.answers s }

-- one of two, by a test
pub either : (b : Bool) (p q : Replies) → LawfulSite p → LawfulSite q → LawfulSite (cond b p q)
either true p q good _ = good
either false p q _ good = good

pub unknown_site : LawfulSite unknown
unknown_site = record { ranges = λ v fits. record { few = omega arith; sound = tt }; answers = λ v fits is. absurd (false≢true is) }

pub never_sound : SoundHandle never
never_sound = record { few = omega arith; sound = tt }

exactly_sound : (n v : ℕ) → n ≤ 65535 → v ≤ 65535 → SoundHandle (exactly n v)
exactly_sound n v age fits = record {
  few = omega arith;
  sound = (record { ticks_ordered = omega arith; begins = omega arith; latest_fits = omega arith; values_ordered = omega arith; highest_fits = fits }, tt);
}

let_lawful : LawfulSite (known let_replies)
let_lawful = record { ranges = λ v fits. exactly_sound 0 v (omega arith) (omega arith); answers = λ v fits is. refl }

if_sound : (b : Bool) → SoundHandle (cond b never (exactly 0 0))
if_sound true = never_sound
if_sound false = exactly_sound 0 0 (omega arith) (omega arith)

if_answers : (b : Bool) → comes_to_something (cond b never (exactly 0 0)) ≡ true
if_answers true = refl
if_answers false = refl

if_lawful : LawfulSite (known if_replies)
if_lawful = record { ranges = λ v fits. if_sound (v == 0); answers = λ v fits is. if_answers (v == 0) }

signal_lawful : LawfulSite (known signal_replies)
signal_lawful = record { ranges = λ v fits. if_sound false; answers = λ v fits is. refl }

rtimer_lawful : LawfulSite (known rtimer_replies)
rtimer_lawful = record { ranges = λ v fits. exactly_sound v 0 (omega arith) (omega arith); answers = λ v fits is. refl }

pub local_lawful : Lawful local
local_lawful =
    by_sites local (λ s. either (s == 0) _ _ let_lawful (either (s == 1) _ _ if_lawful (either (s == 2) _ _ signal_lawful (either (s == 3) _ _ rtimer_lawful unknown_site))))
