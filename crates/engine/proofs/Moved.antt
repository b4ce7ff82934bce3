-- What a run holds after a transition. Assumes nothing.
use Rattle.std.proofs.Common.{◌≡◌, ℕ, suc, ◌+◌, ◌<◌, ◌≤◌, Bool, not, eqb, leb, List, [], ◌∷◌, ◌++◌, length, Ok, count_by, filter, sym, refl, ap, ◌∙◌, add-zero, arith}
use Rattle.std.specs.List.{ContainsAt as Has, AllByRecursion}
use Rattle.std.proofs.ByRecursion.{All-weaker, all-has, all_kept_by}
use Rattle.std.proofs.lemmas.Bool.{leb-true, eq-eqb, not_from_true}
use Rattle.orc.specs.Meaning.{Meaning, Lawful}
use Rattle.orc.specs.Expressions.{Expression}
use Rattle.orc.specs.Calls.{Pending, pending_calls, lapses}
use Rattle.orc.specs.Steps.{Act, called, inner, out, Leaf, due, reply, Step}
use Rattle.orc.specs.Laws.{begun as made}
use Rattle.forms.specs.Reading.{expression_of}
use Rattle.forms.specs.Heads.{IsForm}
use Rattle.forms.proofs.ReadBack.{read_back}
use Rattle.walks.specs.Contents.{Buffer, content}
use Rattle.events.specs.Acts.{act_of}
use Rattle.events.specs.declared.act.Act.{Act as Shown}
use Rattle.events.specs.declared.act.Act.TheVariants.{Inner, Out}
use Rattle.runs.specs.declared.call.Call.{Call}
use Rattle.runs.specs.declared.call.Call.TheVariants.{Go, Answer, Wait}
use Rattle.runs.specs.States.{State, world_of}
use Rattle.runs.specs.Tickets.{of_site}
use Rattle.runs.specs.Outcomes.{Takes, by_go, by_answer, settled, answering, stepped, waited, Outcome, takes, passes}
use Rattle.runs.specs.Counting.{ended}
use Rattle.runs.specs.Bounds.{KeptExpression, Keeps}
use Rattle.runs.proofs.Keeping.{kept, kept_stepped}
use Rattle.orc.proofs.Keeping.{kept_by_steps}
use Rattle.runs.proofs.Counts.{none_passes, all_pass}
use Rattle.runs.proofs.Finding.{kept_only}
use Rattle.runs.proofs.Standing.{reply_begins}
use Rattle.runs.proofs.Ranging.{pending_pass, ranged_step}
use Rattle.engine.specs.declared.table.Table.{Table}
use Rattle.engine.specs.declared.table.Cause.TheVariants.{Called, Answered, Withdrawn, Lapsed}
use Rattle.engine.specs.declared.plain.Plain.{Plain}
use Rattle.engine.specs.Tallies.{totals_at, by_cause, CountsIn, Room}
use Rattle.engine.specs.Held.{Record, held, entries}
use Rattle.engine.specs.Stands.{state_of}
use Rattle.engine.specs.Moves.{MayBeMade, MayBeWaited}
use Rattle.engine.proofs.Counting.{same_totals, none_counted}
use Rattle.engine.proofs.Given.{same_state, keeps}
use Rattle.engine.proofs.Beginning.{is_form}

-- the transition that a call takes
leaf : {m : Meaning} {s : State} {c : Call} {a : Act} {gone : List Pending} {e : Expression} → Takes m s c a gone e → (l : Leaf) × Step (world_of m s) s.clock (suc s.issued) s.expression l a gone e
leaf (by_go {n} st) = (due n, st)
leaf (by_answer {k} {v} st) = (reply k v, st)

-- sites in range, of what stands
pub standing_sited : {ds : _} {n t : ℕ} (e : Expression) → KeptExpression ds n t e → AllByRecursion (λ p. p.site < 32) (pending_calls e)
standing_sited e k = All-weaker _ _ (λ p q. omega (arith, leb-true p.site 31 q.0)) (pending_calls e) (pending_pass _ _ _ e k.ranged)

-- and of what a transition withdraws that begins nothing
ended_sited : {m : Meaning} {s : State} {l : Leaf} {a : Act} {gone : List Pending} {e : Expression} → Keeps s → Lawful m → Step (world_of m s) s.clock (suc s.issued) s.expression l a gone e → ((t k : ℕ) → made t k a ≡ []) → AllByRecursion (λ q. q.site < 32) gone
ended_sited {m} {s} {l} {a} {gone} {e} k laws st none =
    let far : Pending → Bool = λ q. not (leb q.site 31) in
    let x = k.expression_kept in
    let b = (kept_by_steps (world_of m s) k.definitions_kept.sound).accounted st x.unbegun in
    let old = none_passes far (pending_calls s.expression) (All-weaker _ _ (λ q h. not_from_true (leb q.site 31) h.0) (pending_calls s.expression) (pending_pass _ _ _ s.expression x.ranged)) in
    All-weaker _ _ (λ q h. omega (arith, leb-true q.site 31 h)) gone (all_pass (λ q. leb q.site 31) gone (omega (arith, b.balance far, ap (count_by far) (none s.clock (suc s.issued)))))

-- A transition of the run p, over the meaning m.
module _ (m : Meaning) (laws : Lawful m) (p : Plain) (c : Call) (a : Act) (gone : List Pending) (bs bs' : List ℕ) (may : MayBeMade m (state_of p) c a gone bs bs') where
  s : State
  s = state_of p

  abbrev e : Expression
  e = expression_of bs

  abbrev after : State
  after = stepped m (state_of p) c a gone (expression_of bs)

  pub outcome : Outcome m (state_of p) c (Ok tt) (stepped m (state_of p) c a gone (expression_of bs))
  outcome = let move = may.move in takes move.loaded move.takes move.room may.fits

  pub kept_after : Keeps (stepped m (state_of p) c a gone (expression_of bs))
  kept_after = kept laws (keeps p) outcome

  pub kept_left : KeptExpression (state_of p).definitions (p.issued + length (made p.clock (suc p.issued) a)) p.clock (expression_of bs)
  kept_left = kept_stepped laws (keeps p) (leaf may.move.takes).1

  -- counts stay far below what a counter can hold
  few_called : (site : ℕ) → ((stepped m (state_of p) c a gone (expression_of bs)).totals site).called ≤ 512
  few_called site = let k = kept_after in omega (arith, k.called_issued site, k.tickets_recorded, k.record_fits)

  few_ended : (site : ℕ) → ended ((stepped m (state_of p) c a gone (expression_of bs)).totals site) ≤ 512
  few_ended site = let k = kept_after in omega (arith, k.balanced site, few_called site)

  pub room_called : (site value : ℕ) → a ≡ called site value → (site < 32) × ((totals_at p.table site).called < 65535)
  room_called site value is =
      let acts = rw is at (ranged_step laws (keeps p).definitions_kept.ranged (leaf may.move.takes).1 (keeps p).expression_kept.ranged).1 in
      (omega (arith, leb-true site 31 acts.0), omega (arith, (keeps p).called_issued site, (keeps p).tickets_recorded, (keeps p).record_fits))

  -- the state after it, by the parts of the run
  module _ (form : Buffer) (issued : ℕ) (events : Record) (table : Table) where
    pub moved_state : issued ≡ p.issued + length (made p.clock (suc p.issued) a) → entries events ≡ entries p.events ++ (record { tick = p.clock; act = a } ∷ []) → content form ≡ bs'
        → ((site : ℕ) → totals_at table site ≡ (stepped m (state_of p) c a gone (expression_of bs)).totals site)
        → held p.file p.clock form issued events table ≡ stepped m (state_of p) c a gone (expression_of bs)
    moved_state i n f t = same_state refl refl refl (ap expression_of (f ∙ may.settles) ∙ read_back (settled m (state_of p) c (expression_of bs))) i n t

  pub moved_form : (form : Buffer) → content form ≡ bs' → IsForm (content form)
  moved_form form f = is_form (settled m (state_of p) c (expression_of bs)) (content form) (f ∙ may.settles)

-- The call that an act made, if it made one, is counted, and has its ticket.
pub record CallCounted (p : Plain) (a : Act) (issued : ℕ) (table : Table) : Type 0 where
  pub counted : (t k : ℕ) → CountsIn p.table table (by_cause Called (made t k a))
  pub many : (t k : ℕ) → issued ≡ p.issued + length (made t k a)

pub one_call : (p : Plain) (act : Shown) {s v : ℕ} {table : Table} → act ≡ Shown.Called s v → ((q : Pending) → q.site ≡ s → CountsIn p.table table (by_cause Called (q ∷ []))) → CallCounted p (act_of act) (p.issued + 1) table
one_call p act {s} {v} is counts = rw is (record { counted = λ t k. counts (record { ticket = k; site = s; argument = v; since = t }) refl; many = λ t k. refl })

pub no_call : (p : Plain) (act : Shown) → ((s v : ℕ) → act ≡ Shown.Called s v → ⊥) → CallCounted p (act_of act) p.issued p.table
no_call p (Shown.Called s v) none = absurd (none s v refl)
no_call p Inner none = record { counted = λ t k site. sym (none_counted (of_site site) Called _); many = λ t k. sym (add-zero _) }
no_call p (Out v) none = record { counted = λ t k site. sym (none_counted (of_site site) Called _); many = λ t k. sym (add-zero _) }

-- A due call: what it called is counted, and then what lapses.
module _ (m : Meaning) (laws : Lawful m) (p : Plain) (n : ℕ) (a : Act) (bs bs' : List ℕ) (may : MayBeMade m (state_of p) (Go n) a [] bs bs') (issued : ℕ) (called : Table) (first : CallCounted p a issued called) where
  pub room_lapsed : Room called Lapsed (filter (lapses m p.clock) (pending_calls (expression_of bs)))
  room_lapsed =
      record {
        sited = all_kept_by (lapses m p.clock) _ (pending_calls (expression_of bs)) (standing_sited (expression_of bs) (kept_left m laws p (Go n) a [] bs bs' may));
        enough = λ site. omega (arith, few_ended m laws p (Go n) a [] bs bs' may site, ap (λ t. t.lapsed) (first.counted 0 0 site));
      }

  pub gone_state : (form : Buffer) (events : Record) (table : Table) → CountsIn called table (by_cause Lapsed (filter (lapses m p.clock) (pending_calls (expression_of bs))))
      → entries events ≡ entries p.events ++ (record { tick = p.clock; act = a } ∷ []) → content form ≡ bs'
      → held p.file p.clock form issued events table ≡ stepped m (state_of p) (Go n) a [] (expression_of bs)
  gone_state form events table second es f =
      moved_state m laws p (Go n) a [] bs bs' may form issued events table (first.many p.clock (suc p.issued)) es f (λ site.
      let x = first.counted p.clock (suc p.issued) site in
      let y = second site in
      same_totals
      (ap (λ t. t.called) y ∙ add-zero _ ∙ ap (λ t. t.called) x)
      (ap (λ t. t.answered) y ∙ add-zero _ ∙ ap (λ t. t.answered) x)
      (ap (λ t. t.withdrawn) y ∙ add-zero _ ∙ ap (λ t. t.withdrawn) x)
      (ap (λ t. t.lapsed) y ∙ ap (λ n. n + count_by (of_site site) (filter (lapses m p.clock) (pending_calls (expression_of bs)))) (ap (λ t. t.lapsed) x ∙ add-zero _)))

-- an answer begins no call
answer_begins : {m : Meaning} {s : State} {k v : ℕ} {a : Act} {gone : List Pending} {e : Expression} → Takes m s (Answer k v) a gone e → made s.clock (suc s.issued) a ≡ []
answer_begins {k = k} {v = v} (by_answer st) = reply_begins k v refl st

nothing_made : (i n t j : ℕ) (a : Act) → made i n a ≡ [] → made t j a ≡ []
nothing_made i n t j (called x w) h = absurd (let z : ◌≡◌ {A = ℕ} 1 0 = ap length h in omega arith)
nothing_made i n t j inner h = refl
nothing_made i n t j (out w) h = refl

-- An answer: the call that it answers is counted, and then those that end with it.
module _ (m : Meaning) (laws : Lawful m) (p : Plain) (k v : ℕ) (a : Act) (gone : List Pending) (bs bs' : List ℕ) (may : MayBeMade m (state_of p) (Answer k v) a gone bs bs') (call : Pending) (stands : Has (pending_calls (state_of p).expression) call) (has_ticket : call.ticket ≡ k) where
  -- it is the only one with the ticket
  pub one_answered : answering (state_of p) (Answer k v) ≡ call ∷ []
  one_answered = kept_only (λ q. eqb k q.ticket) (pending_calls (state_of p).expression) call ((keeps p).expression_kept.distinct k) stands (eq-eqb k call.ticket (sym has_ticket))

  -- no site call is made
  pub none_called : (t j : ℕ) → made t j a ≡ []
  none_called t j = nothing_made p.clock (suc p.issued) t j a (answer_begins may.move.takes)

  pub room_answered : Room p.table Answered (call ∷ [])
  room_answered =
      record {
        sited = (all-has _ (pending_calls (state_of p).expression) call (standing_sited (state_of p).expression (keeps p).expression_kept) stands, tt);
        enough = λ site. omega (arith, few_ended m laws p (Answer k v) a gone bs bs' may site, ap (count_by (of_site site)) one_answered);
      }

  gone_sited : AllByRecursion (λ q. q.site < 32) gone
  gone_sited = ended_sited (keeps p) laws (leaf may.move.takes).1 (λ t j. none_called t j)

  module _ (answered : Table) (first : CountsIn p.table answered (by_cause Answered (call ∷ []))) where
    pub room_withdrawn : Room answered Withdrawn gone
    room_withdrawn =
        record {
          sited = gone_sited;
          enough = λ site. omega (arith, few_ended m laws p (Answer k v) a gone bs bs' may site, ap (λ t. t.withdrawn) (first site));
        }

    pub answered_state : (form : Buffer) (events : Record) (table : Table) → CountsIn answered table (by_cause Withdrawn gone)
        → entries events ≡ entries p.events ++ (record { tick = p.clock; act = a } ∷ []) → content form ≡ bs'
        → held p.file p.clock form p.issued events table ≡ stepped m (state_of p) (Answer k v) a gone (expression_of bs)
    answered_state form events table second es f =
        let none = none_called p.clock (suc p.issued) in
        moved_state m laws p (Answer k v) a gone bs bs' may form p.issued events table (sym (add-zero p.issued) ∙ ap (λ l. p.issued + length l) (sym none)) es f (λ site.
        let x = first site in
        let y = second site in
        same_totals
        (ap (λ t. t.called) y ∙ add-zero _ ∙ ap (λ t. t.called) x ∙ ap (λ l. (totals_at p.table site).called + count_by (of_site site) l) (sym none))
        (ap (λ t. t.answered) y ∙ add-zero _ ∙ ap (λ t. t.answered) x ∙ ap (λ l. (totals_at p.table site).answered + count_by (of_site site) l) (sym one_answered))
        (ap (λ t. t.withdrawn) y ∙ ap (λ n. n + count_by (of_site site) gone) (ap (λ t. t.withdrawn) x ∙ add-zero _))
        (ap (λ t. t.lapsed) y ∙ add-zero _ ∙ ap (λ t. t.lapsed) x))

-- Time that passes: what lapses is counted.
module _ (m : Meaning) (laws : Lawful m) (p : Plain) (d : ℕ) (bs' : List ℕ) (may : MayBeWaited m (state_of p) d bs') where
  pub waited_outcome : Outcome m (state_of p) (Wait d) (Ok tt) (waited m (state_of p) d)
  waited_outcome = let can = may.can_pass in passes can.loaded can.passes can.in_time

  pub kept_waited : Keeps (waited m (state_of p) d)
  kept_waited = kept laws (keeps p) waited_outcome

  pub room_waited : Room p.table Lapsed (filter (lapses m (p.clock + d)) (pending_calls (expression_of (content p.form))))
  room_waited =
      record {
        sited = all_kept_by (lapses m (p.clock + d)) _ (pending_calls (state_of p).expression) (standing_sited (state_of p).expression (keeps p).expression_kept);
        enough = λ site. let k = kept_waited in omega (arith, k.balanced site, k.called_issued site, k.tickets_recorded, k.record_fits);
      }

  pub waited_state : (form : Buffer) (table : Table) → CountsIn p.table table (by_cause Lapsed (filter (lapses m (p.clock + d)) (pending_calls (expression_of (content p.form))))) → content form ≡ bs'
      → held p.file (p.clock + d) form p.issued p.events table ≡ waited m (state_of p) d
  waited_state form table counts f = same_state refl refl refl (ap expression_of (f ∙ may.settles) ∙ read_back (settled m (state_of p) (Wait d) (state_of p).expression)) refl refl counts

  pub waited_form : (form : Buffer) → content form ≡ bs' → IsForm (content form)
  waited_form form f = is_form (settled m (state_of p) (Wait d) (state_of p).expression) (content form) (f ∙ may.settles)
