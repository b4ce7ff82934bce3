-- Whatever can happen can be made to happen. Assumes nothing.
use Rattle.std.proofs.Common.{◌≡◌, suc, ◌+◌, ◌<◌, ◌≤◌, true, ◌⊎◌, List, length, Ok, refl, inl, inr, arith}
use Rattle.std.proofs.ByRecursion.{all-has}
use Rattle.std.proofs.lemmas.Bool.{cases_lt, leb-true}
use Rattle.orc.specs.Meaning.{Meaning, Lawful}
use Rattle.orc.specs.Expressions.{Expression, size}
use Rattle.orc.specs.Calls.{Pending, pending_calls}
use Rattle.orc.specs.Steps.{Act, Leaf, due, reply, Step}
use Rattle.orc.specs.Laws.{Answered, none_answered, one_answered}
use Rattle.orc.proofs.Keeping.{kept_by_steps}
use Rattle.runs.specs.declared.call.Call.{Call}
use Rattle.runs.specs.States.{State, world_of}
use Rattle.runs.specs.Outcomes.{largest_form, longest_record, last_clock, Takes, by_go, by_answer, settled, stepped, is_record_full, is_outgrown, is_clock_end, Outcome, refuses, takes, passes}
use Rattle.runs.specs.Bounds.{Keeps}
use Rattle.runs.specs.Recording.{InRange, MeetsLimit}
use Rattle.runs.specs.Moving.{call_of, CanBeMade, CanBeWaited}
use Rattle.runs.proofs.Sizes.{due_fewer}
use Rattle.runs.proofs.Ranging.{pending_pass, replies_fit}

-- A transition that go or answer names is made, or meets a limit.
pub made_or_limited : {m : Meaning} {s : State} {c : Call} {a : Act} {gone : List Pending} {e : Expression} → s.loaded ≡ true → Takes m s c a gone e → Outcome m s c (Ok tt) (stepped m s c a gone e) ⊎ MeetsLimit m s c
made_or_limited {m} {s} {c} {a} {gone} {e} l t = room (cases_lt (length s.events) longest_record) (cases_lt largest_form (size (settled m s c e)))
  where
    room : (length s.events < longest_record) ⊎ (longest_record ≤ length s.events) → (largest_form < size (settled m s c e)) ⊎ (size (settled m s c e) ≤ largest_form) → Outcome m s c (Ok tt) (stepped m s c a gone e) ⊎ MeetsLimit m s c
    room (inr full) fits = inr (record { refusal = _; limit = refl; refused = refuses (is_record_full l t full) })
    room (inl short) (inl large) = inr (record { refusal = _; limit = refl; refused = refuses (is_outgrown l t short large) })
    room (inl short) (inr fits) = inl (takes l t short fits)

-- Time that can pass is waited, or meets the clock's end.
pub can_be_waited : {m : Meaning} {s : State} → s.loaded ≡ true → CanBeWaited m s
can_be_waited {m} {s} l d p = elim (cases_lt last_clock (s.clock + d)) [ inl far ↦ inr (refuses (is_clock_end l p far)) | inr near ↦ inl (passes l p near) ]

-- a leaf that stands has numbers that a caller can give
leaf_in_range : {m : Meaning} {s : State} {l : Leaf} {ps : List Pending} → Lawful m → Keeps s → Answered (world_of m s) s.clock s.expression l ps → InRange (call_of l)
leaf_in_range {m} {s} laws h (none_answered b) = omega (arith, due_fewer s.expression, h.form_fits)
leaf_in_range {m} {s} laws h (one_answered {p} {w} b r) =
    let issued = all-has _ (pending_calls s.expression) p h.expression_kept.tickets_issued b in
    let call = all-has _ (pending_calls s.expression) p (pending_pass _ _ _ s.expression h.expression_kept.ranged) b in
    (omega (arith, h.tickets_recorded, h.record_fits), omega (arith, leb-true w 65535 (replies_fit m laws p.site p.argument p.since s.clock w call.1 r)))

pub takes_leaf : {m : Meaning} {s : State} {a : Act} {gone : List Pending} {e : Expression} (l : Leaf) → Step (world_of m s) s.clock (suc s.issued) s.expression l a gone e → Takes m s (call_of l) a gone e
takes_leaf (due n) st = by_go st
takes_leaf (reply k v) st = by_answer st

pub can_be_made : {m : Meaning} {s : State} → Lawful m → Keeps s → s.loaded ≡ true → CanBeMade m s
can_be_made {m} {s} laws h l =
    record {
      in_range = λ {l = l} st. leaf_in_range {l = l} laws h ((kept_by_steps (world_of m s) h.definitions_kept.sound).accounted st h.expression_kept.unbegun).by_the_leaf;
      made = λ {l = f} st. made_or_limited l (takes_leaf f st);
    }
