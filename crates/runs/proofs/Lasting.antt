-- What lasts over a history, and that a list of calls has exactly one. Assumes nothing.
use Rattle.std.proofs.Common.{◌≡◌, true, false, ◌⊎◌, List, [], ◌∷◌, ◌++◌, Err, sym, refl, ap, ◌∙◌, subst₂, inl, inr, append_assoc}
use Rattle.std.specs.List.{AllByRecursion}
use Rattle.std.proofs.ByRecursion.{All-push}
use Rattle.std.proofs.lemmas.List.{append-nil}
use Rattle.std.proofs.lemmas.Bool.{both_ways}
use Rattle.orc.specs.Meaning.{Meaning, Lawful}
use Rattle.runs.specs.declared.call.Call.{Call}
use Rattle.runs.specs.declared.refusal.Refusal.{Refusal}
use Rattle.runs.specs.declared.refusal.Refusal.TheVariants.{NotLoaded}
use Rattle.runs.specs.States.{State, unloaded}
use Rattle.runs.specs.Outcomes.{Response, Refuses, is_not_loaded, is_none_due, is_not_standing, is_outside_every_window, is_record_full, is_outgrown, is_due_first, is_overdue, is_clock_end, Outcome, refuses, takes, passes}
use Rattle.runs.specs.Histories.{History, start, after}
use Rattle.runs.specs.Bounds.{Keeps, Holds}
use Rattle.runs.specs.Moving.{OneHistory, NotLoadedStays}
use Rattle.runs.proofs.Computing.{outcome}
use Rattle.runs.proofs.Keeping.{kept}
use Rattle.runs.proofs.Holding.{held}
use Rattle.runs.proofs.Single.{computed_is, only_computed}

pub kept_along : {m : Meaning} {s₀ s : State} {cs : List Call} {rs : List Response} → Lawful m → Keeps s₀ → History m s₀ cs rs s → Keeps s
kept_along laws h start = h
kept_along laws h (after r o) = kept laws (kept_along laws h r) o

pub held_along : {m : Meaning} {s₀ s : State} {cs : List Call} {rs : List Response} → Lawful m → Holds m s₀ → History m s₀ cs rs s → Holds m s
held_along laws h start = h
held_along laws h (after r o) = held laws (held_along laws h r) o

loaded_kept : {m : Meaning} {s s' : State} {c : Call} {r : Response} → Outcome m s c r s' → s'.loaded ≡ s.loaded
loaded_kept (refuses x) = refl
loaded_kept (takes l t short fits) = refl
loaded_kept (passes l p near) = refl

pub loaded_along : {m : Meaning} {s₀ s : State} {cs : List Call} {rs : List Response} → History m s₀ cs rs s → s.loaded ≡ s₀.loaded
loaded_along start = refl
loaded_along (after r o) = loaded_kept o ∙ loaded_along r

-- what a list of calls answers and leaves, computed
unfoldable pub play : Meaning → State → List Call → List Response × State
play m s [] = ([], s)
play m s (c ∷ cs) = let x = outcome m s c in let y = play m x.1 cs in (x.0 ∷ y.0, y.1)

-- it goes on with any history
pub played : {m : Meaning} {s₀ : State} → Lawful m → (cs : List Call) {s : State} {cs₀ : List Call} {rs₀ : List Response} → Keeps s → History m s₀ cs₀ rs₀ s → History m s₀ (cs₀ ++ cs) (rs₀ ++ (play m s cs).0) (play m s cs).1
unfolding play
played laws [] {s} {cs₀} {rs₀} h r = rw (append-nil cs₀, append-nil rs₀) r
played {m} {s₀} laws (c ∷ cs) {s} {cs₀} {rs₀} h r =
    let o = computed_is m s h c in
    let x = outcome m s c in
    subst₂ (λ ds qs. History m s₀ ds qs (play m x.1 cs).1) (append_assoc cs₀ (c ∷ []) cs) (append_assoc rs₀ (x.0 ∷ []) (play m x.1 cs).0) (played laws cs (kept laws h o) (after r o))

play_push : (m : Meaning) (s : State) (cs : List Call) (c : Call) → let x = play m s cs in let y = outcome m x.1 c in play m s (cs ++ (c ∷ [])) ≡ (x.0 ++ (y.0 ∷ []), y.1)
unfolding play
play_push m s [] c = refl
play_push m s (b ∷ cs) c = let x = outcome m s b in ap (λ y. (x.0 ∷ y.0, y.1)) (play_push m x.1 cs c)

-- every history is the one that is played
pub only_played : {m : Meaning} {s₀ s : State} {cs : List Call} {rs : List Response} → Lawful m → Keeps s₀ → History m s₀ cs rs s → play m s₀ cs ≡ (rs, s)
unfolding play
only_played laws h start = refl
only_played {m} {s₀} laws h (after {cs} {rs} {s} {c} {r} {s'} l o) =
    let p = only_played laws h l in
    let q = only_computed m s (kept_along laws h l) o in
    play_push m s₀ cs c ∙ (ap (λ x. let y = outcome m x.1 c in (x.0 ++ (y.0 ∷ []), y.1)) p ∙ ap (λ y. (rs ++ (y.0 ∷ []), y.1)) q)

pub one_history : {m : Meaning} {s₀ : State} → Lawful m → Keeps s₀ → (cs : List Call) → OneHistory m s₀ cs
one_history {m} {s₀} laws h cs =
    record {
      responses = (play m s₀ cs).0;
      last = (play m s₀ cs).1;
      history = played laws cs h start;
      only = λ l. let q = sym (only_played laws h l) in (ap (λ x. x.0) q, ap (λ x. x.1) q);
    }

-- every refusal but Not loaded is that of a loaded run
refused_loaded : {m : Meaning} {s : State} {c : Call} {r : Refusal} → Refuses m s c r → (r ≡ NotLoaded) ⊎ (s.loaded ≡ true)
refused_loaded (is_not_loaded l) = inl refl
refused_loaded (is_none_due l b) = inr l
refused_loaded (is_not_standing l b) = inr l
refused_loaded (is_outside_every_window p l b r) = inr l
refused_loaded (is_record_full l t full) = inr l
refused_loaded (is_outgrown l t short large) = inr l
refused_loaded (is_due_first l a b) = inr l
refused_loaded (is_overdue l c f) = inr l
refused_loaded (is_clock_end l p far) = inr l

only_not_loaded : {m : Meaning} {s s' : State} {c : Call} {r : Response} → s.loaded ≡ false → Outcome m s c r s' → (r ≡ Err NotLoaded) × (s' ≡ s)
only_not_loaded {m} {s} l (refuses x) = elim (refused_loaded x) [ inl q ↦ (ap Err q, refl) | inr q ↦ absurd (both_ways s.loaded l q) ]
only_not_loaded {m} {s} l (takes l' t short fits) = absurd (both_ways s.loaded l l')
only_not_loaded {m} {s} l (passes l' p near) = absurd (both_ways s.loaded l l')

stays_unloaded : {m : Meaning} {s : State} {cs : List Call} {rs : List Response} → History m unloaded cs rs s → AllByRecursion (λ r. r ≡ Err NotLoaded) rs × (s ≡ unloaded)
stays_unloaded start = (tt, refl)
stays_unloaded (after {rs = rs} {r = r} h o) =
    let p = stays_unloaded h in
    let q = only_not_loaded (loaded_along h) o in
    (All-push (λ r. r ≡ Err NotLoaded) rs r p.0 q.0, q.1 ∙ p.1)

pub not_loaded_stays : (m : Meaning) → NotLoadedStays m
not_loaded_stays m = record { refused = λ s l c. refuses (is_not_loaded l); only = only_not_loaded; throughout = stays_unloaded }
