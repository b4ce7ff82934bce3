-- The transitions that go and answer find in the form of a run. Assumes nothing.
use Rattle.std.proofs.Common.{◌≡◌, ℕ, suc, ◌+◌, ◌<◌, ◌≤◌, Bool, true, false, cond, eqb, ltb, List, [], ◌∷◌, ◌++◌, filter, length, drop, is_some, Some, None, Option, IfSome, MatchOption, sym, refl, ap, ◌∙◌, subst, add-one, arith, length-append}
use Rattle.std.specs.List.{find, ContainsAt as Has}
use Rattle.std.specs.Option.{option_map}
use Rattle.std.proofs.ByRecursion.{has_append_right, has_append_left}
use Rattle.std.proofs.lemmas.List.{drop_at}
use Rattle.std.proofs.lemmas.Bool.{ltb-false, eq-eqb}
use Rattle.std.proofs.lemmas.Bool.Decides.{nat_tests}
use Rattle.orc.specs.Meaning.{Meaning, handle, can_reply}
use Rattle.orc.specs.Expressions.{Expression, pending, bytes}
use Rattle.orc.specs.Calls.{due_count, Pending, pending_calls, handle_at}
use Rattle.orc.specs.Steps.{Act}
use Rattle.orc.specs.Sound.{standing}
use Rattle.forms.specs.Reading.{expression_of}
use Rattle.forms.specs.Heads.{IsForm}
use Rattle.forms.specs.Pendings.{pending_of}
use Rattle.forms.specs.declared.pending.Pending.{Pending as PendingCall}
use Rattle.forms.proofs.ReadBack.{bytes_read}
use Rattle.files.specs.Contents.{file_of}
use Rattle.walks.specs.Capacity.{capacity}
use Rattle.walks.specs.Contents.{Buffer, content}
use Rattle.places.specs.Places.{due_place}
use Rattle.places.specs.Scans.{ticket_place}
use Rattle.places.specs.Frames.{nearest_frame}
use Rattle.places.specs.declared.stretch.Stretch.{Stretch}
use Rattle.places.specs.declared.tickets.Placed.{Placed}
use Rattle.places.proofs.Gaps.{before, after, bytes_filled, calls_before, calls_after, calls_filled}
use Rattle.places.proofs.Locating.{ticket_located}
use Rattle.runs.specs.declared.call.Call.TheVariants.{Go, Answer}
use Rattle.runs.specs.declared.refusal.Refusal.{Refusal}
use Rattle.runs.specs.declared.refusal.Refusal.TheVariants.{NoneDue, OutsideEveryWindow, RecordFull}
use Rattle.runs.specs.States.{State}
use Rattle.runs.proofs.Finding.{kept_only}
use Rattle.runs.specs.Outcomes.{Takes, by_go, by_answer, longest_record, Refuses, is_none_due, is_outside_every_window, is_record_full}
use Rattle.steps.specs.Made.{Made}
use Rattle.steps.specs.Replied.{Replied, publishes, spawns, binds}
use Rattle.steps.specs.Laws.{withdrawn_with}
use Rattle.steps.proofs.Transitions.{made_calls_are_transitions, due_calls_can_be_made, replies_are_transitions, replies_can_be_made}
use Rattle.engine.specs.declared.plain.Plain.{Plain}
use Rattle.engine.specs.Held.{definitions_held}
use Rattle.engine.specs.Stands.{state_of}
use Rattle.engine.specs.Moves.{Move, FormWithin, StandsThere, ReplyStep}
use Rattle.engine.proofs.Given.{keeps}

-- the form of a run is no larger than a form may be
form_short : (p : Plain) → length (content p.form) ≤ 4096
form_short p = omega (arith, (keeps p).form_fits, ap length p.whole_form)

-- Go looks for the due call n. The form and the file are read from their bytes again.
module _ (p : Plain) (loaded : (state_of p).loaded ≡ true) (n : ℕ) (bs : List ℕ) (same : bs ≡ content p.form) where
  pub none_due : (due : ℕ) → false ≡ ltb n (due_count (expression_of bs)) → due ≡ due_count (expression_of bs) → (m : Meaning) → Refuses m (state_of p) (Go n) (NoneDue due)
  none_due due few count m =
      let is : due ≡ due_count (state_of p).expression = count ∙ ap (λ l. due_count (expression_of l)) same in
      let le : due_count (state_of p).expression ≤ n = omega (arith, ltb-false n (due_count (expression_of bs)) (sym few), ap (λ l. due_count (expression_of l)) same) in
      subst (λ d. Refuses m (state_of p) (Go n) (NoneDue d)) (sym is) (is_none_due loaded le)

  module _ (place : ℕ) (there : IsForm bs → Some place ≡ due_place n (expression_of bs)) where
    at : due_place n (state_of p).expression ≡ Some place
    at = ap (λ l. due_place n (expression_of l)) (sym same) ∙ sym (there (subst IsForm (sym same) p.whole_form))

    pub can_be_made : (a : Act) × (bs' : List ℕ) × Made (state_of p).definitions p.clock (suc p.issued) (content p.form) place a bs' × (length bs' ≤ capacity)
    can_be_made = due_calls_can_be_made (content p.form) n place (state_of p).definitions p.clock (suc p.issued) p.whole_form (form_short p) at (keeps p).expression_kept.numbers (keeps p).definitions_kept.fit

    made_takes : (a : Act) (bs' : List ℕ) → Made (state_of p).definitions p.clock (suc p.issued) (content p.form) place a bs' → (m : Meaning) → Takes m (state_of p) (Go n) a [] (expression_of bs') × IsForm bs'
    made_takes a bs' made m =
        let t = made_calls_are_transitions (content p.form) n place p.whole_form at (state_of p).definitions p.clock (suc p.issued) a bs' made m in
        (by_go t.step, t.form)

    pub go_full : longest_record ≤ length (state_of p).events → (m : Meaning) → Refuses m (state_of p) (Go n) RecordFull
    go_full full m = is_record_full loaded (made_takes can_be_made.0 can_be_made.1 can_be_made.2 m).0 full

    -- the call that was made, from the file's definitions, with the ticket as the code has it
    module _ (buffer : Buffer) (is_loaded : p.file ≡ Some buffer) (file : List ℕ) (same-file : file ≡ content buffer) where
      same_definitions : (file_of file).definitions ≡ (state_of p).definitions
      same_definitions = ap (λ f. (file_of f).definitions) same-file ∙ ap definitions_held (sym is_loaded)

      of_run : {a : Act} {bs' : List ℕ} → Made (file_of file).definitions p.clock (p.issued + 1) bs place a bs' → Made (state_of p).definitions p.clock (suc p.issued) (content p.form) place a bs'
      of_run {a} {bs'} made =
          subst (λ ds. Made ds p.clock (suc p.issued) (content p.form) place a bs') same_definitions
          (subst (λ l. Made (file_of file).definitions p.clock (suc p.issued) l place a bs') same
          (subst (λ k. Made (file_of file).definitions p.clock k bs place a bs') (add-one p.issued) made))

      to_run : {a : Act} {bs' : List ℕ} → Made (state_of p).definitions p.clock (suc p.issued) (content p.form) place a bs' → Made (file_of file).definitions p.clock (p.issued + 1) bs place a bs'
      to_run {a} {bs'} made =
          subst (λ k. Made (file_of file).definitions p.clock k bs place a bs') (sym (add-one p.issued))
          (subst (λ l. Made (file_of file).definitions p.clock (suc p.issued) l place a bs') (sym same)
          (subst (λ ds. Made ds p.clock (suc p.issued) (content p.form) place a bs') (sym same_definitions) made))

      pub always_made : ((a : Act) (bs' : List ℕ) → Made (file_of file).definitions p.clock (p.issued + 1) bs place a bs' → capacity < length bs') → ⊥
      always_made none = omega (arith, none can_be_made.0 can_be_made.1 (to_run can_be_made.2), can_be_made.3)

      pub go_move : (a : Act) (bs' : List ℕ) → length (state_of p).events < longest_record → Made (file_of file).definitions p.clock (p.issued + 1) bs place a bs' → (m : Meaning) → Move m (state_of p) (Go n) a [] bs'
      go_move a bs' room made m =
          let t = made_takes a bs' (of_run made) m in
          record { loaded = loaded; takes = t.0; room = room; form = t.1 }

-- the stretch that ends is a form
form_within : {bs : List ℕ} {place v : ℕ} {frame : Option Stretch} {a : Act} {q : Option Stretch} {bs' : List ℕ} → Replied bs place v frame a q bs' → FormWithin bs q
form_within (publishes h) = tt
form_within (spawns s h e) = tt
form_within (binds s q h e same f) = (f.within, f.form)

-- what a search for a ticket finds
pub stands_there : (s : State) (k : ℕ) (r : Option Placed) → is_some r ≡ ltb 0 (standing k s.expression) → option_map (λ p. p.place) r ≡ ticket_place k s.expression → option_map (λ p. pending_of p.call) r ≡ find (λ q. eqb k q.ticket) (pending_calls s.expression) → IfSome r (λ p. p.call.ticket ≡ k) → MatchOption r (standing k s.expression ≡ 0) (λ p. (p.call.ticket ≡ k) × StandsThere s k p)
stands_there s k None found place call ticket = grind (arith, nat_tests)
stands_there s k (Some p) found place call ticket = (ticket, record { place = sym place; call = sym call })

-- what refuses a reply to a call refuses one to its ticket
pub refused_of_ticket : {m : Meaning} {s : State} {k j v : ℕ} {f : Refusal} → k ≡ j → Refuses m s (Answer k v) f → Refuses m s (Answer j v) f
refused_of_ticket {m} {s} {k} {j} {v} {f} = subst (λ k. Refuses m s (Answer k v) f)

-- the first that passes, where only one does
first_kept : {X : Type 0} (f : X → Bool) (xs : List X) (y x : X) → find f xs ≡ Some y → filter f xs ≡ x ∷ [] → y ≡ x
first_kept f [] y x found kept = absurd (omega (arith, ap length kept))
first_kept f (z ∷ zs) y x found kept = by (f z) (first_kept f zs y x) found kept
  where
    by : (b : Bool) → (find f zs ≡ Some y → filter f zs ≡ x ∷ [] → y ≡ x) → cond b (Some z) (find f zs) ≡ Some y → cond b (z ∷ filter f zs) (filter f zs) ≡ x ∷ [] → y ≡ x
    by true rest found kept = cc
    by false rest found kept = rest found kept

-- Answer looks for the ticket j, and finds it at a place.
module _ (p : Plain) (loaded : (state_of p).loaded ≡ true) (j place : ℕ) (found : ticket_place j (state_of p).expression ≡ Some place) where
  -- the pending call that stands there
  read_there : (e : Expression) (rest : List ℕ) → expression_of (bytes e ++ rest) ≡ e
  unfolding expression_of
  read_there e rest = ap (λ r. r.expression) (bytes_read e (length (bytes e ++ rest)) rest (omega (arith, length-append (bytes e) rest)))

  pub located : (q : Pending) × Has (pending_calls (state_of p).expression) q × (q.ticket ≡ j) × (expression_of (drop place (content p.form)) ≡ pending j q.site q.argument q.since)
  unfolding pending_calls
  located =
      let (i, is, d) = ticket_located j (state_of p).expression 0 place (keeps p).expression_kept.unbegun found in
      let call = pending j d.site d.argument d.since in
      let q : Pending = record { ticket = j; site = d.site; argument = d.argument; since = d.since } in
      let in-form : content p.form ≡ before d.gap ++ (bytes call ++ after d.gap) = sym p.whole_form ∙ ap bytes d.filled ∙ bytes_filled d.gap call in
      let from : length (before d.gap) ≡ place = d.place ∙ omega arith in (
        q,
        subst (λ l. Has l q) (sym (ap pending_calls d.filled ∙ calls_filled d.gap call)) (has_append_right (calls_before d.gap) _ q (has_append_left (q ∷ []) (calls_after d.gap) q (0, omega arith, λ d. refl))),
        refl,
        ap expression_of (ap (drop place) in-form ∙ drop_at (before d.gap) (bytes call ++ after d.gap) place from) ∙ read_there call (after d.gap),
      )

  -- it is the one that a search for the ticket finds
  module _ (call : PendingCall) (search_finds : find (λ q. eqb j q.ticket) (pending_calls (state_of p).expression) ≡ Some (pending_of call)) where
    same_call : pending_of call ≡ located.0
    same_call =
        first_kept (λ (q : Pending). eqb j q.ticket) (pending_calls (state_of p).expression) (pending_of call) located.0 search_finds
        (kept_only (λ (q : Pending). eqb j q.ticket) (pending_calls (state_of p).expression) located.0 ((keeps p).expression_kept.distinct j) located.1 (eq-eqb j located.0.ticket (sym located.2)))

    pub found_call : pending call.ticket call.site call.value call.clock ≡ pending j located.0.site located.0.argument located.0.since
    found_call = ap (λ (q : Pending). pending q.ticket q.site q.argument q.since) same_call ∙ ap (λ k. pending k located.0.site located.0.argument located.0.since) located.2

  -- the reply is v, and the call has been read
  module _ (v site argument since k : ℕ) (is : pending k site argument since ≡ pending j located.0.site located.0.argument located.0.since) where
    same_site : located.0.site ≡ site
    same_site = let e = is in cc

    same_argument : located.0.argument ≡ argument
    same_argument = let e = is in cc

    same_since : located.0.since ≡ since
    same_since = let e = is in cc

    admitted : (m : Meaning) → can_reply (handle m site argument) since p.clock v ≡ can_reply (handle_at m located.0) located.0.since p.clock v
    admitted m = let a = same_site in let b = same_argument in let c = same_since in cc

    pub outside : (m : Meaning) → can_reply (handle m site argument) since p.clock v ≡ false → Refuses m (state_of p) (Answer j v) (OutsideEveryWindow j)
    outside m no_window = subst (λ k. Refuses m (state_of p) (Answer k v) (OutsideEveryWindow k)) located.2 (is_outside_every_window located.0 loaded located.1 (sym (admitted m) ∙ no_window))

    module _ (m : Meaning) (yes : can_reply (handle m site argument) since p.clock v ≡ true) where
      bs : List ℕ
      bs = content p.form

      pub can_be_answered : (a : Act) × (q : Option Stretch) × (bs' : List ℕ) × Replied (content p.form) place v (nearest_frame place (state_of p).expression) a q bs' × (length bs' ≤ capacity)
      can_be_answered = replies_can_be_made (content p.form) j place p.whole_form (keeps p).expression_kept.unbegun (keeps p).expression_kept.distinct found (form_short p) v

      answer_takes : (a : Act) (q : Option Stretch) (bs' : List ℕ) → Replied (content p.form) place v (nearest_frame place (state_of p).expression) a q bs' → Takes m (state_of p) (Answer j v) a (withdrawn_with j (content p.form) q) (expression_of bs') × IsForm bs'
      answer_takes a q bs' replied =
          let r = replies_are_transitions (content p.form) j place p.whole_form (keeps p).expression_kept.unbegun (keeps p).expression_kept.distinct found in
          let again : pending k site argument since ≡ pending j r.site r.value r.since = is ∙ sym located.3 ∙ r.is in
          let admits : can_reply (handle m r.site r.value) r.since p.clock v ≡ true = (let a = again in let y = yes in let sa : r.site ≡ site = cc in let sb : r.value ≡ argument = cc in let sc : r.since ≡ since = cc in cc) in
          let t = r.moves (record { meaning = m; definitions = (state_of p).definitions }) p.clock (suc p.issued) v admits replied in
          (by_answer t.step, t.form)

      pub answer_full : longest_record ≤ length (state_of p).events → Refuses m (state_of p) (Answer j v) RecordFull
      answer_full full = let x = can_be_answered in is_record_full loaded (answer_takes x.0 x.1 x.2 x.3).0 full

      module _ (again : List ℕ) (same : again ≡ content p.form) where
        in_run : {a : Act} {q : Option Stretch} {bs' : List ℕ} → Replied again place v (nearest_frame place (expression_of again)) a q bs' → Replied (content p.form) place v (nearest_frame place (state_of p).expression) a q bs'
        in_run {a} {q} {bs'} = subst (λ l. Replied l place v (nearest_frame place (expression_of l)) a q bs') same

        pub always_answered : ((a : Act) (q : Option Stretch) (bs' : List ℕ) → Replied again place v (nearest_frame place (expression_of again)) a q bs' → capacity < length bs') → ⊥
        always_answered none =
            let x = can_be_answered in
            omega (arith, none x.0 x.1 x.2 (subst (λ l. Replied l place v (nearest_frame place (expression_of l)) x.0 x.1 x.2) (sym same) x.3), x.4)

        pub reply_step : (a : Act) (q : Option Stretch) (bs' : List ℕ) → length (state_of p).events < longest_record → Replied again place v (nearest_frame place (expression_of again)) a q bs' → ReplyStep m (state_of p) j v site a (content p.form) q bs'
        reply_step a q bs' room replied =
            let t = answer_takes a q bs' (in_run replied) in
            record {
              move = record { loaded = loaded; takes = t.0; room = room; form = t.1 };
              names = record { call = located.0; stands = located.1; has_ticket = located.2; has_site = same_site; ends = form_within (in_run replied) };
            }
