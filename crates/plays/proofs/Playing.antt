-- Histories that are played call by call. Assumes nothing.
use Rattle.std.proofs.Common.{◌≡◌, ℕ, ◌+◌, ◌<◌, ◌≤◌, List, [], ◌∷◌, ◌++◌, length, get_or, take, IfOk, Ok, Err, Result, sym, subst, MatchResult}
use Rattle.std.proofs.lemmas.List.{take_more, take_all}
use Rattle.orc.specs.Meaning.{Meaning}
use Rattle.files.specs.Contents.{file_of}
use Rattle.formats.specs.declared.fault.Fault.{Fault}
use Rattle.runs.specs.declared.call.Call.{Call}
use Rattle.runs.specs.States.{State, begun, unloaded}
use Rattle.runs.specs.Outcomes.{Response, Outcome}
use Rattle.runs.specs.Histories.{History, start, after}
use Rattle.runs.specs.Recording.{TraceOfGoal}
use Rattle.runs.specs.Faithful.{EveryRecordIsATrace}

-- none yet
pub nothing_played : (m : Meaning) (s : State) (rs : List Response) → rs ≡ [] → History m s [] rs s
nothing_played m s rs is = subst (λ l. History m s [] l s) (sym is) start

-- one call more
pub played_on : (m : Meaning) (s₀ s s' : State) (cs : List Call) (i : ℕ) (d : Call) (r : Response) (rs rs' : List Response) → i < length cs → History m s₀ (take i cs) rs s → Outcome m s (get_or cs i d) r s' → rs' ≡ rs ++ (r ∷ []) → History m s₀ (take (i + 1) cs) rs' s'
played_on m s₀ s s' cs i d r rs rs' within h o is =
    subst (λ l. History m s₀ (take (i + 1) cs) l s') (sym is) (subst (λ l. History m s₀ l (rs ++ (r ∷ [])) s') (sym (take_more cs i d within)) (after h o))

-- all of them, from where the run began
pub all_played : (m : Meaning) (s₀ s : State) (cs : List Call) (i : ℕ) (rs : List Response) → length cs ≤ i → History m s₀ (take i cs) rs s → History m s₀ cs rs s
all_played m s₀ s cs i rs past = subst (λ l. History m s₀ l rs s) (take_all i cs past)

module _ (m : Meaning) (bs : List ℕ) (s₀ s : State) (cs : List Call) (rs : List Response) (h : History m s₀ cs rs s) where
  pub whole_history : (judged : Result (Unit {0}) Fault) → MatchResult judged (λ _. s₀ ≡ begun (file_of bs)) (λ _. s₀ ≡ unloaded) → MatchResult judged (λ _. History m (begun (file_of bs)) cs rs s) (λ _. History m unloaded cs rs s)
  whole_history (Ok x) is = subst (λ z. History m z cs rs s) is h
  whole_history (Err f) is = subst (λ z. History m z cs rs s) is h

  pub record_is_trace : (judged : Result (Unit {0}) Fault) → MatchResult judged (λ _. s₀ ≡ begun (file_of bs)) (λ _. s₀ ≡ unloaded) → IfOk judged (λ _. EveryRecordIsATrace m (file_of bs)) → IfOk judged (λ _. TraceOfGoal m (file_of bs) s.events s.clock)
  record_is_trace (Ok x) is every = every cs rs s (subst (λ z. History m z cs rs s) is h)
  record_is_trace (Err f) is every = tt
