-- The worked runs. Assumes nothing.
use Rattle.std.proofs.Common.{◌≡◌, ℕ, ◌≤◌, true, List, length, sym, refl, ap, ◌∙◌, subst, arith}
use Rattle.std.proofs.lemmas.Bool.{eqb-true}
use Rattle.orc.specs.Meaning.{within_reach, can_stand, can_reply}
use Rattle.orc.specs.Local.{local}
use Rattle.orc.specs.Lawful.{local_lawful}
use Rattle.orc.specs.Expressions.{Expression, stop, bytes}
use Rattle.orc.specs.Variables.{substitute, free}
use Rattle.orc.specs.Simplified.{parallel_of, sequential_of, pruning_of, simplified}
use Rattle.orc.specs.Calls.{due_count, pending_calls, lapsed}
use Rattle.orc.specs.Sound.{Closed}
use Rattle.orc.specs.Files.{File, file_bytes, proper, WellFormed}
use Rattle.runs.specs.declared.call.Call.{Call}
use Rattle.runs.specs.States.{begun}
use Rattle.runs.specs.Outcomes.{Response}
use Rattle.runs.specs.Histories.{History, start}
use Rattle.runs.specs.Cases.{goal_alone, metronome, HypothesesCanBeMet, Left, left_by, ComesTo, itself, growing, WorkedCases, CasesAtTheEdge}
use Rattle.runs.proofs.Computing.{moving}
use Rattle.runs.proofs.Finding.{find}
use Rattle.runs.proofs.Keeping.{kept_at_begin}
use Rattle.runs.proofs.Lasting.{play, played, only_played}

-- a goal with no definitions
goal_well_formed : (e : Expression) → proper local 0 e ≡ true → Closed e → length (file_bytes (goal_alone e)) ≤ 4096 → WellFormed local (goal_alone e)
goal_well_formed e p c s = record { few = omega arith; definitions_well_formed = tt; goal_proper = p; goal_closed = c; short = s }

-- what is played is what the calls come to
comes_to : (bs : List ℕ) (file : File) (cs : List Call) (rs : List Response) (site : ℕ) (left : Left) → file_bytes file ≡ bs → WellFormed local file → (play local (begun file) cs).0 ≡ rs → left_by (play local (begun file) cs).1 site ≡ left → ComesTo bs file cs rs site left
comes_to bs file cs rs site left b w q r =
    let h = kept_at_begin local file w in
    record {
      bytes_of_file = b;
      well_formed = w;
      last = (play local (begun file) cs).1;
      history = subst (λ rs. History local (begun file) cs rs (play local (begun file) cs).1) q (played local_lawful cs h start);
      only = λ l. let p = sym (only_played local_lawful h l) in (ap (λ x. x.0) p ∙ q, ap (λ x. x.1) p);
      leaves = r;
    }

metronome_well_formed : WellFormed local metronome
unfolding file_bytes bytes proper free
metronome_well_formed = record {
  few = omega arith;
  definitions_well_formed = (record { formal_fits = omega arith; body_proper = refl; closed_but_formal = λ x h. eqb-true x 0 (grind arith) }, tt);
  goal_proper = refl;
  goal_closed = λ x. refl;
  short = omega arith;
}

itself_well_formed : WellFormed local itself
unfolding file_bytes bytes proper free
itself_well_formed = record {
  few = omega arith;
  definitions_well_formed = (record { formal_fits = omega arith; body_proper = refl; closed_but_formal = λ x h. eqb-true x 0 h }, tt);
  goal_proper = refl;
  goal_closed = λ x. refl;
  short = omega arith;
}

growing_well_formed : WellFormed local growing
unfolding file_bytes bytes proper free
growing_well_formed = record {
  few = omega arith;
  definitions_well_formed = (record { formal_fits = omega arith; body_proper = refl; closed_but_formal = λ x h. eqb-true x 0 (grind arith) }, tt);
  goal_proper = refl;
  goal_closed = λ x. refl;
  short = omega arith;
}

pub hypotheses_can_be_met : HypothesesCanBeMet
hypotheses_can_be_met = record { lawful = local_lawful; well_formed = metronome_well_formed }

pub worked_cases : WorkedCases
unfolding play moving find due_count pending_calls lapsed simplified parallel_of sequential_of pruning_of substitute free bytes within_reach can_stand can_reply file_bytes proper
worked_cases =
    record {
      stop_waits = comes_to _ _ _ _ _ _ refl (goal_well_formed stop refl (λ x. refl) (omega arith)) refl refl;
      clock_ends = comes_to _ _ _ _ _ _ refl (goal_well_formed stop refl (λ x. refl) (omega arith)) refl refl;
      let_replies = comes_to _ _ _ _ _ _ refl (goal_well_formed _ refl (λ x. refl) (omega arith)) refl refl;
      if_lapses = comes_to _ _ _ _ _ _ refl (goal_well_formed _ refl (λ x. refl) (omega arith)) refl refl;
      timer_rings = comes_to _ _ _ _ _ _ refl (goal_well_formed _ refl (λ x. refl) (omega arith)) refl refl;
      leftmost_is_overdue = comes_to _ _ _ _ _ _ refl (goal_well_formed _ refl (λ x. refl) (omega arith)) refl refl;
      sequential_spawns = comes_to _ _ _ _ _ _ refl (goal_well_formed _ refl (λ x. grind arith) (omega arith)) refl refl;
      sequential_size = refl;
      sequential_due = refl;
      pruning_withdraws = comes_to _ _ _ _ _ _ refl (goal_well_formed _ refl (λ x. grind arith) (omega arith)) refl refl;
      inner_pruning_shadows = comes_to _ _ _ _ _ _ refl (goal_well_formed _ refl (λ x. grind arith) (omega arith)) refl refl;
      record_fills = comes_to _ _ _ _ _ _ refl itself_well_formed refl refl;
      form_fills = comes_to _ _ _ _ _ _ refl growing_well_formed refl refl;
      form_filled = refl;
    }

pub cases_at_the_edge : CasesAtTheEdge
unfolding play moving find due_count pending_calls lapsed simplified parallel_of sequential_of pruning_of substitute free bytes within_reach can_stand can_reply file_bytes proper
cases_at_the_edge =
    record {
      call_comes_first = comes_to _ _ _ _ _ _ refl (goal_well_formed _ refl (λ x. refl) (omega arith)) refl refl;
      leftmost_is_late = comes_to _ _ _ _ _ _ refl (goal_well_formed _ refl (λ x. refl) (omega arith)) refl refl;
    }
