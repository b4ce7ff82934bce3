-- The theorems on runs, from what is proved of their states. Assumes nothing.
use Rattle.std.proofs.Common.{◌≡◌, refl, ap}
use Rattle.orc.specs.Meaning.{Meaning, Lawful}
use Rattle.orc.specs.Steps.{Act, called, inner, out}
use Rattle.runs.specs.States.{shows}
use Rattle.runs.specs.Faithful.{ReadingsTellActs, EveryCallHasOneOutcome, Faithful, CallsHaveOneHistory, EveryStepCanBeMade, PassableTimeCanBeWaited, StatesKeepTheirBounds, KeptStatesGoOn, ForAllFiles}
use Rattle.runs.proofs.Keeping.{kept, kept_at_begin}
use Rattle.runs.proofs.Holding.{held, held_at_begin, held_unloaded}
use Rattle.runs.proofs.Single.{one_outcome}
use Rattle.runs.proofs.Lasting.{kept_along, loaded_along, one_history}
use Rattle.runs.proofs.Making.{can_be_made, can_be_waited}
use Rattle.runs.proofs.Tracing.{every_record_is_a_trace}
use Rattle.runs.proofs.Following.{every_trace_is_recorded}
use Rattle.runs.proofs.Tallying.{every_ticket_is_counted}

-- kind, number and value one by one
same_act : (a b : Act) → (shows a).kind ≡ (shows b).kind → (shows a).number ≡ (shows b).number → (shows a).value ≡ (shows b).value → a ≡ b
same_act (called s v) (called s' v') k n q = cc
same_act (called s v) inner k n q = cc
same_act (called s v) (out w) k n q = cc
same_act inner (called s v) k n q = cc
same_act inner inner k n q = refl
same_act inner (out w) k n q = cc
same_act (out w) (called s v) k n q = cc
same_act (out w) inner k n q = cc
same_act (out w) (out w') k n q = cc

pub readings_tell_acts : ReadingsTellActs
readings_tell_acts a b q = same_act a b (ap (λ x. x.kind) q) (ap (λ x. x.number) q) (ap (λ x. x.value) q)

pub every_call_has_one_outcome : ForAllFiles EveryCallHasOneOutcome
every_call_has_one_outcome m file laws w cs rs s h c = one_outcome m s (kept_along laws (kept_at_begin m file w) h) c

pub every_run_is_faithful : ForAllFiles Faithful
every_run_is_faithful m file laws w =
    record {
      every_record_is_a_trace = every_record_is_a_trace m file laws w;
      every_trace_is_recorded = every_trace_is_recorded m file laws w;
      every_ticket_is_counted = every_ticket_is_counted m file laws w;
      every_call_has_one_outcome = every_call_has_one_outcome m file laws w;
    }

pub calls_have_one_history : ForAllFiles CallsHaveOneHistory
calls_have_one_history m file laws w = one_history laws (kept_at_begin m file w)

pub every_step_can_be_made : ForAllFiles EveryStepCanBeMade
every_step_can_be_made m file laws w cs rs s h = can_be_made laws (kept_along laws (kept_at_begin m file w) h) (loaded_along h)

pub passable_time_can_be_waited : ForAllFiles PassableTimeCanBeWaited
passable_time_can_be_waited m file laws w cs rs s h = can_be_waited (loaded_along h)

pub states_keep_their_bounds : (m : Meaning) → Lawful m → StatesKeepTheirBounds m
states_keep_their_bounds m laws = record { at_begin = held_at_begin m; unloaded_too = held_unloaded m; kept = λ h o. held laws h o }

pub kept_states_go_on : (m : Meaning) → Lawful m → KeptStatesGoOn m
kept_states_go_on m laws = record { kept = λ k o. kept laws k o; one_outcome = λ {s} k c. one_outcome m s k c; can_be_made = λ k l. can_be_made laws k l; can_be_waited = λ l. can_be_waited l }
