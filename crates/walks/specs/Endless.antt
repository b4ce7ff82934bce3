-- A meaning by which no call ever lapses. Assumes nothing.
use Rattle.std.specs.Prelude.{false, [], ◌∷◌, refl}
use Rattle.std.proofs.Common.{arith}
use Rattle.orc.specs.Meaning.{Handle, Meaning, known, no_end, Lawful}

-- any value, at any age
abbrev pub ever : Handle
ever = record { windows = record { earliest = 0; latest = no_end; lowest = 0; highest = 65535 } ∷ []; silent = false }

abbrev pub endless : Meaning
endless s = known (λ v. ever)

pub endless_lawful : Lawful endless
endless_lawful = record {
  ranges = λ s v fits. record {
    few = omega arith;
    sound = (record { ticks_ordered = omega arith; begins = omega arith; latest_fits = omega arith; values_ordered = omega arith; highest_fits = omega arith }, tt);
  };
  answers = λ s v fits is. refl;
}
