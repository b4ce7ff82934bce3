-- What a state keeps by itself, every outcome keeps. Assumes nothing.
use Rattle.std.proofs.Common.{◌≡◌, ℕ, suc, ◌+◌, ◌≤◌, Bool, true, false, cond, not, List, [], ◌∷◌, length, count_by, filter, refl, ap, ◌∙◌, arith, length-append}
use Rattle.std.specs.List.{AllByRecursion}
use Rattle.std.proofs.ByRecursion.{All-weaker, all_kept_by}
use Rattle.std.proofs.lemmas.List.{length_push}
use Rattle.std.proofs.lemmas.List.Sums.{count_by-le-length}
use Rattle.std.proofs.lemmas.Bool.{eq-eqb}
use Rattle.std.proofs.lemmas.Bool.Decides.{Decides-and}
use Rattle.orc.specs.Meaning.{Meaning, Lawful}
use Rattle.orc.specs.Expressions.{Expression, Definition, World, bytes, size}
use Rattle.orc.specs.Variables.{free}
use Rattle.orc.specs.Simplified.{simplified}
use Rattle.orc.specs.Calls.{Pending, pending_calls, lapses, lapsed, RightsUnbegun}
use Rattle.orc.specs.Steps.{Act, called, inner, out, Leaf, due, reply, Step}
use Rattle.orc.specs.Sound.{DistinctTickets, NumbersWithin, Sound}
use Rattle.orc.specs.Laws.{begun as made, Answered, none_answered, one_answered}
use Rattle.orc.specs.Files.{File, definition_bytes, definitions_bytes, file_bytes, WellFormed}
use Rattle.orc.proofs.Keeping.{kept_by_steps}
use Rattle.orc.proofs.Lapsing.{pending_lapsed, soundness_kept}
use Rattle.orc.proofs.Simplifying.{simplified_twice, pending_simplified, size_simplified, nothing_unbegun}
use Rattle.runs.specs.declared.call.Call.{Call}
use Rattle.runs.specs.declared.call.Call.TheVariants.{Go, Answer, Wait}
use Rattle.runs.specs.States.{State, world_of, begun, unloaded}
use Rattle.runs.specs.Tickets.{counted, of_site, has_ticket}
use Rattle.runs.specs.Outcomes.{Response, Takes, by_go, by_answer, settled, Outcome, refuses, takes, passes}
use Rattle.runs.specs.Histories.{tickets}
use Rattle.runs.specs.Counting.{ended}
use Rattle.runs.specs.Bounds.{operands_pass, KeptDefinitions, KeptExpression, Keeps}
use Rattle.runs.proofs.Counts.{count_cons}
use Rattle.runs.proofs.Finding.{kept_only}
use Rattle.runs.proofs.Sizes.{size_lapsed}
use Rattle.runs.proofs.Ranging.{simplified_passes, lapsed_passes, ranged_step, proper_ranged, proper_numbers, proper_nothing_pending}
use Rattle.runs.proofs.Standing.{carried, decides_leb, not_issued}

-- What an expression keeps makes it sound, over any meaning.
pub sound_over : {ds : List Definition} {n t : ℕ} {e : Expression} (m : Meaning) → KeptExpression ds n t e → Sound (record { meaning = m; definitions = ds }) e
sound_over m k = record { distinct = k.distinct; unbegun = k.unbegun; numbers = k.numbers }

kept_lapsed : {ds : List Definition} {n t : ℕ} {e : Expression} (m : Meaning) (u : ℕ) → KeptExpression ds n t e → KeptExpression ds n t (lapsed m u e)
kept_lapsed {ds} {n} {t} {e} m u k =
    let sound = soundness_kept.sound_when_lapsed (record { meaning = m; definitions = ds }) m u e (sound_over m k) in
    let ps = pending_lapsed m u e in
    record {
      distinct = sound.distinct;
      unbegun = sound.unbegun;
      numbers = sound.numbers;
      closed = soundness_kept.closed_when_lapsed m u e k.closed;
      ranged = lapsed_passes _ _ _ m u e k.ranged;
      tickets_issued = rw ps (all_kept_by _ _ (pending_calls e) k.tickets_issued);
      made_before = rw ps (all_kept_by _ _ (pending_calls e) k.made_before);
    }

kept_simplified : {ds : List Definition} {n t : ℕ} {e : Expression} (m : Meaning) → KeptExpression ds n t e → KeptExpression ds n t (simplified e)
kept_simplified {ds} {n} {t} {e} m k =
    let sound = soundness_kept.sound_when_simplified (record { meaning = m; definitions = ds }) e (sound_over m k) in
    let ps = pending_simplified e k.unbegun in
    record {
      distinct = sound.distinct;
      unbegun = sound.unbegun;
      numbers = sound.numbers;
      closed = soundness_kept.closed_when_simplified e k.closed;
      ranged = simplified_passes _ _ _ e k.ranged;
      tickets_issued = rw ps k.tickets_issued;
      made_before = rw ps k.made_before;
    }

-- the pending call that an act begins has the next ticket, and is made now
next_issued : (t i : ℕ) (a : Act) → AllByRecursion (λ p. (1 ≤ p.ticket) × (p.ticket ≤ i + length (made t (suc i) a))) (made t (suc i) a)
next_issued t i (called s v) = ((omega arith, omega arith), tt)
next_issued t i inner = tt
next_issued t i (out w) = tt

made_now : (t k : ℕ) (a : Act) → AllByRecursion (λ p. p.since ≤ t) (made t k a)
made_now t k (called s v) = (omega arith, tt)
made_now t k inner = tt
made_now t k (out w) = tt

made_few : (t k : ℕ) (a : Act) → length (made t k a) ≤ 1
made_few t k (called s v) = omega arith
made_few t k inner = omega arith
made_few t k (out w) = omega arith

module _ {m : Meaning} {s : State} (laws : Lawful m) (k : Keeps s) where
  -- A transition of the state's expression keeps what it keeps.
  pub kept_stepped : {l : Leaf} {a : Act} {gone : List Pending} {e : Expression} → Step (world_of m s) s.clock (suc s.issued) s.expression l a gone e → KeptExpression s.definitions (s.issued + length (made s.clock (suc s.issued) a)) s.clock e
  kept_stepped {l} {a} {gone} {e} st =
      let x = k.expression_kept in
      let keep = kept_by_steps (world_of m s) k.definitions_kept.sound in
      let n = s.issued + length (made s.clock (suc s.issued) a) in
      let b = keep.accounted st x.unbegun in
      let sound = keep.sound st (not_issued s.issued (suc s.issued) (pending_calls s.expression) (omega arith) x.tickets_issued) (sound_over m x) in
      let older = All-weaker _ (λ p. (1 ≤ p.ticket) × (p.ticket ≤ n)) (λ p q. (q.0, omega arith)) (pending_calls s.expression) x.tickets_issued in
      record {
        distinct = sound.distinct;
        unbegun = sound.unbegun;
        numbers = sound.numbers;
        closed = keep.closed st x.closed;
        ranged = (ranged_step laws k.definitions_kept.ranged st x.ranged).0;
        tickets_issued = carried _ (λ p. (1 ≤ p.ticket) × (p.ticket ≤ n)) (λ p. Decides-and _ _ (decides_leb 1 p.ticket) (decides_leb p.ticket n)) b older (next_issued s.clock s.issued a);
        made_before = carried _ (λ p. p.since ≤ s.clock) (λ p. decides_leb p.since s.clock) b x.made_before (made_now s.clock (suc s.issued) a);
      }

  kept_taken : {c : Call} {a : Act} {gone : List Pending} {e : Expression} → Takes m s c a gone e → KeptExpression s.definitions (s.issued + length (made s.clock (suc s.issued) a)) s.clock (settled m s c e)
  kept_taken (by_go st) = kept_simplified m (kept_lapsed m s.clock (kept_stepped st))
  kept_taken (by_answer st) = kept_simplified m (kept_stepped st)

settled_simple : (m : Meaning) (s : State) (c : Call) (e : Expression) → simplified (settled m s c e) ≡ settled m s c e
settled_simple m s (Go n) e = simplified_twice (lapsed m s.clock e)
settled_simple m s (Answer k v) e = simplified_twice e
settled_simple m s (Wait d) e = simplified_twice (lapsed m (s.clock + d) e)

-- lapsing and simplification leave the pending calls that a window reaches
pub pending_settled : {ds : List Definition} {n t : ℕ} {e : Expression} (m : Meaning) (u : ℕ) → KeptExpression ds n t e → pending_calls (simplified (lapsed m u e)) ≡ filter (λ p. not (lapses m u p)) (pending_calls e)
pending_settled {e = e} m u k = pending_simplified (lapsed m u e) (kept_lapsed m u k).unbegun ∙ pending_lapsed m u e

-- a list is what passes a test, and what does not
count_split : {X : Type 0} (f g : X → Bool) (xs : List X) → count_by f xs ≡ count_by f (filter g xs) + count_by f (filter (λ x. not (g x)) xs)
count_split f g [] = omega arith
count_split f g (x ∷ xs) = at (g x) (count_split f g xs)
  where
    at : (b : Bool) → count_by f xs ≡ count_by f (filter g xs) + count_by f (filter (λ x. not (g x)) xs) → count_by f (x ∷ xs) ≡ count_by f (cond b (x ∷ filter g xs) (filter g xs)) + count_by f (cond (not b) (x ∷ filter (λ x. not (g x)) xs) (filter (λ x. not (g x)) xs))
    at true h = omega (arith, count_cons f x xs, count_cons f x (filter g xs))
    at false h = omega (arith, count_cons f x xs, count_cons f x (filter (λ x. not (g x)) xs))

-- the pending call that answer answers, by the rules and by its ticket
same_answered : {W : World} {t : ℕ} {e : Expression} {k v : ℕ} {ps : List Pending} → DistinctTickets e → Answered W t e (reply k v) ps → filter (has_ticket k) (pending_calls e) ≡ ps
same_answered {e = e} d (one_answered {p} b r) = kept_only (has_ticket p.ticket) (pending_calls e) p (d p.ticket) b (eq-eqb p.ticket p.ticket refl)

go_answers_none : {W : World} {t : ℕ} {e : Expression} {n : ℕ} {ps : List Pending} → Answered W t e (due n) ps → ps ≡ []
go_answers_none (none_answered b) = refl

-- Over one call: what stood before and what was issued is what ended and what stands after.
pub even : {m : Meaning} {s s' : State} {c : Call} {r : Response} → Lawful m → Keeps s → (f : Pending → Bool) (o : Outcome m s c r s') → count_by f (pending_calls s.expression) + count_by f (tickets o).called ≡ ended (counted f (tickets o)) + count_by f (pending_calls s'.expression)
even laws k f (refuses x) = omega arith
even {m} {s} laws k f (takes {e = e} l (by_go st) short fits) =
    let b = (kept_by_steps (world_of m s) k.definitions_kept.sound).accounted st k.expression_kept.unbegun in
    let none = ap (count_by f) (go_answers_none b.by_the_leaf) in
    let after-it = ap (count_by f) (pending_settled m s.clock (kept_stepped laws k st)) in
    let two = count_split f (lapses m s.clock) (pending_calls e) in
    omega (arith, b.balance f)
even {m} {s} laws k f (takes {e = e} l (by_answer st) short fits) =
    let b = (kept_by_steps (world_of m s) k.definitions_kept.sound).accounted st k.expression_kept.unbegun in
    let one = ap (count_by f) (same_answered k.expression_kept.distinct b.by_the_leaf) in
    let after-it = ap (count_by f) (pending_simplified e (kept_stepped laws k st).unbegun) in
    omega (arith, b.balance f)
even {m} {s} laws k f (passes {d} l p near) =
    let after-it = ap (count_by f) (pending_settled m (s.clock + d) k.expression_kept) in
    let two = count_split f (lapses m (s.clock + d)) (pending_calls s.expression) in
    omega arith

-- Every outcome keeps what a state keeps.
pub kept : {m : Meaning} {s s' : State} {c : Call} {r : Response} → Lawful m → Keeps s → Outcome m s c r s' → Keeps s'
kept laws k (refuses x) = k
kept {m} {s} laws k (takes {c} {a} {gone} {e} l t short fits) =
    let one = made_few s.clock (suc s.issued) a in
    let more = length_push s.events (record { tick = s.clock; act = a }) in
    let o : Outcome m s c _ _ = takes l t short fits in
    record {
      definitions_kept = k.definitions_kept;
      expression_kept = kept_taken laws k t;
      simple = settled_simple m s c e;
      form_fits = fits;
      record_fits = omega arith;
      clock_fits = k.clock_fits;
      tickets_recorded = omega (arith, k.tickets_recorded);
      balanced = λ site. omega (arith, k.balanced site, even laws k (of_site site) o);
      called_issued = λ site. omega (arith, k.called_issued site, count_by-le-length (of_site site) (made s.clock (suc s.issued) a));
    }
kept {m} {s} laws k (passes {d} l p near) =
    let n = s.clock + d in
    let e = s.expression in
    let x = k.expression_kept in
    let o : Outcome m s (Wait d) _ _ = passes l p near in
    let later : KeptExpression s.definitions s.issued n e = record {
      distinct = x.distinct;
      unbegun = x.unbegun;
      numbers = x.numbers;
      closed = x.closed;
      ranged = x.ranged;
      tickets_issued = x.tickets_issued;
      made_before = All-weaker _ (λ p. p.since ≤ n) (λ p q. omega arith) (pending_calls e) x.made_before;
    } in
    record {
      definitions_kept = k.definitions_kept;
      expression_kept = kept_simplified m (kept_lapsed m n later);
      simple = settled_simple m s (Wait d) e;
      form_fits = omega (arith, k.form_fits, size_lapsed m n e, size_simplified (lapsed m n e));
      record_fits = k.record_fits;
      clock_fits = near;
      tickets_recorded = k.tickets_recorded;
      balanced = λ site. omega (arith, k.balanced site, even laws k (of_site site) o);
      called_issued = λ site. omega (arith, k.called_issued site);
    }

-- A well-formed file's goal, and its definitions.
pub goal_nothing_pending : (m : Meaning) (file : File) → WellFormed m file → pending_calls file.goal ≡ []
goal_nothing_pending m file w = proper_nothing_pending m (length file.definitions) file.goal w.goal_proper

-- what holds the bytes of definitions is no shorter than the form of each
bodies_fit : (n : ℕ) (ds : List Definition) → length (definitions_bytes ds) ≤ n → AllByRecursion (λ d. size d.body ≤ n) ds
bodies_fit n [] h = tt
bodies_fit n (d ∷ ds) h = let q = length-append (definition_bytes d) (definitions_bytes ds) in (omega arith, bodies_fit n ds (omega arith))

pub definitions_kept : (m : Meaning) (file : File) → WellFormed m file → KeptDefinitions file.definitions
unfolding file_bytes
definitions_kept m file w =
    let ds = file.definitions in
    let well = w.definitions_well_formed in
    record {
      sound = record {
        closed = All-weaker _ _ (λ d h. h.closed_but_formal) ds well;
        nothing_pending = All-weaker _ _ (λ d h. proper_nothing_pending m (length ds) d.body h.body_proper) ds well;
        numbers = All-weaker _ _ (λ d h. proper_numbers m ds d.body h.body_proper) ds well;
      };
      ranged = All-weaker _ _ (λ d h. proper_ranged m (length ds) d.body h.body_proper) ds well;
      fit = bodies_fit 4096 ds (omega (arith, w.short, length-append (definitions_bytes ds) (bytes file.goal)));
    }

pub kept_at_begin : (m : Meaning) (file : File) → WellFormed m file → Keeps (begun file)
unfolding file_bytes
kept_at_begin m file w =
    let ds = file.definitions in
    let e = file.goal in
    let none = goal_nothing_pending m file w in
    let ps = pending_simplified e (nothing_unbegun e none) ∙ none in
    let whole = length-append (definitions_bytes ds) (bytes e) in
    record {
      definitions_kept = definitions_kept m file w;
      expression_kept = kept_simplified m (record {
        distinct = λ k. rw none (omega arith);
        unbegun = nothing_unbegun e none;
        numbers = proper_numbers m ds e w.goal_proper;
        closed = w.goal_closed;
        ranged = proper_ranged m (length ds) e w.goal_proper;
        tickets_issued = rw none tt;
        made_before = rw none tt;
      });
      simple = simplified_twice e;
      form_fits = omega (arith, w.short, size_simplified e);
      record_fits = omega arith;
      clock_fits = omega arith;
      tickets_recorded = omega arith;
      balanced = λ site. omega (arith, ap (count_by (of_site site)) ps);
      called_issued = λ site. omega arith;
    }

-- and a run with nothing loaded
pub kept_unloaded : Keeps unloaded
unfolding free simplified RightsUnbegun NumbersWithin pending_calls operands_pass bytes
kept_unloaded =
    record {
      definitions_kept = record { sound = record { closed = tt; nothing_pending = tt; numbers = tt }; ranged = tt; fit = tt };
      expression_kept = record { distinct = λ k. omega arith; unbegun = tt; numbers = tt; closed = λ x. refl; ranged = refl; tickets_issued = tt; made_before = tt };
      simple = refl;
      form_fits = omega arith;
      record_fits = omega arith;
      clock_fits = omega arith;
      tickets_recorded = omega arith;
      balanced = λ site. omega arith;
      called_issued = λ site. omega arith;
    }
