-- Every ticket is counted. Assumes nothing.
use Rattle.std.proofs.Common.{◌≡◌, ℕ, suc, ◌+◌, ◌≤◌, Bool, true, false, cond, ◌&&◌, ltb, leb, List, length, count_by, sym, refl, ap, ◌∙◌, add-zero, arith}
use Rattle.std.proofs.lemmas.Bool.Decides.{nat_tests}
use Rattle.orc.specs.Meaning.{Meaning, Lawful}
use Rattle.orc.specs.Calls.{Pending, pending_calls}
use Rattle.orc.specs.Steps.{Act, called, inner, out}
use Rattle.orc.specs.Sound.{standing}
use Rattle.orc.specs.Laws.{begun as made}
use Rattle.orc.specs.Files.{File}
use Rattle.orc.proofs.Simplifying.{pending_simplified, nothing_unbegun}
use Rattle.runs.specs.declared.call.Call.{Call}
use Rattle.runs.specs.States.{Totals, State, begun}
use Rattle.runs.specs.Tickets.{no_tickets, counted, added, of_site, has_ticket}
use Rattle.runs.specs.Outcomes.{Response, is_not_standing, Outcome, refuses, takes, passes}
use Rattle.runs.specs.Histories.{History, start, after, tickets, tally}
use Rattle.runs.specs.Bounds.{Keeps}
use Rattle.runs.specs.Counting.{ended, GoneForGood}
use Rattle.runs.specs.Faithful.{EveryTicketIsCounted, ForAllFiles}
use Rattle.runs.proofs.Keeping.{even, goal_nothing_pending, kept_at_begin}
use Rattle.runs.proofs.Lasting.{kept_along, loaded_along}

-- What stood before a history and what it issued is what it ended and what stands after it.
even_along : {m : Meaning} {s₀ s : State} {cs : List Call} {rs : List Response} → Lawful m → Keeps s₀ → (f : Pending → Bool) (h : History m s₀ cs rs s) → count_by f (pending_calls s₀.expression) + (tally f h).called ≡ ended (tally f h) + count_by f (pending_calls s.expression)
even_along laws h f start = omega arith
even_along laws h f (after r o) = omega (arith, even_along laws h f r, even laws (kept_along laws h r) f o)

-- the tickets that are issued are those up to the new number
abbrev between : ℕ → ℕ → ℕ → ℕ
between i k j = cond (ltb i k && leb k j) 1 0

issues : {m : Meaning} {s s' : State} {c : Call} {r : Response} (k : ℕ) (o : Outcome m s c r s') → (s.issued ≤ s'.issued) × (count_by (has_ticket k) (tickets o).called ≡ between s.issued k s'.issued)
issues {m} {s} k (refuses x) = (omega arith, grind (arith, nat_tests))
issues {m} {s} k (takes {a = a} l t short fits) = by a
  where
    by : (a : Act) → (s.issued ≤ s.issued + length (made s.clock (suc s.issued) a)) × (count_by (has_ticket k) (made s.clock (suc s.issued) a) ≡ between s.issued k (s.issued + length (made s.clock (suc s.issued) a)))
    by (called x v) = (omega arith, grind (arith, nat_tests))
    by inner = (omega arith, grind (arith, nat_tests))
    by (out v) = (omega arith, grind (arith, nat_tests))
issues {m} {s} k (passes l p near) = (omega arith, grind (arith, nat_tests))

between_joined : (i j n k : ℕ) → i ≤ j → j ≤ n → between i k j + between j k n ≡ between i k n
between_joined i j n k a b = grind (arith, nat_tests)

issues_along : {m : Meaning} {s₀ s : State} {cs : List Call} {rs : List Response} (k : ℕ) (h : History m s₀ cs rs s) → (s₀.issued ≤ s.issued) × ((tally (has_ticket k) h).called ≡ between s₀.issued k s.issued)
issues_along k start = (omega arith, grind (arith, nat_tests))
issues_along {s₀ = s₀} {s = s'} k (after {s = s} r o) =
    let p = issues_along k r in
    let q = issues k o in
    (omega arith, omega (arith, between_joined s₀.issued s.issued s'.issued k p.0 q.0))

-- The totals are the counts.
nothing_added : (t : Totals) → t ≡ added t (counted (λ p. false) no_tickets)
nothing_added t = λ i. record { called = sym (add-zero t.called) i; answered = sym (add-zero t.answered) i; withdrawn = sym (add-zero t.withdrawn) i; lapsed = sym (add-zero t.lapsed) i }

totals_kept : {m : Meaning} {s s' : State} {c : Call} {r : Response} (site : ℕ) (o : Outcome m s c r s') → s'.totals site ≡ added (s.totals site) (counted (of_site site) (tickets o))
totals_kept {s = s} site (refuses x) = nothing_added (s.totals site)
totals_kept site (takes l t short fits) = refl
totals_kept site (passes l p near) = refl

totals_are_counts : {m : Meaning} (file : File) {s : State} {cs : List Call} {rs : List Response} (site : ℕ) (h : History m (begun file) cs rs s) → s.totals site ≡ tally (of_site site) h
totals_are_counts file site start = refl
totals_are_counts file site (after r o) = totals_kept site o ∙ ap (λ t. added t (counted (of_site site) (tickets o))) (totals_are_counts file site r)

-- a ticket that was issued and does not stand is gone for good
gone_for_good : {m : Meaning} {s : State} → Lawful m → Keeps s → s.loaded ≡ true → (k : ℕ) → k ≤ s.issued → standing k s.expression ≡ 0 → GoneForGood m k s
gone_for_good {m} {s} laws h l k issued none = record { stands_nowhere = nowhere; answers_refused = λ r v. refuses (is_not_standing (loaded_along r ∙ l) (nowhere r)) }
  where
    nowhere : {cs : List Call} {rs : List Response} {s' : State} → History m s cs rs s' → standing k s'.expression ≡ 0
    nowhere {s' = s'} r =
        let none-new : between s.issued k s'.issued ≡ 0 = grind (arith, nat_tests) in
        omega (arith, even_along laws h (has_ticket k) r, issues_along k r)

pub every_ticket_is_counted : ForAllFiles EveryTicketIsCounted
every_ticket_is_counted m file laws w cs rs s h =
    let begins = kept_at_begin m file w in
    let none = pending_simplified file.goal (nothing_unbegun file.goal (goal_nothing_pending m file w)) ∙ goal_nothing_pending m file w in
    let balanced : (f : Pending → Bool) → (tally f h).called ≡ ended (tally f h) + count_by f (pending_calls s.expression) = λ f. omega (arith, even_along laws begins f h, ap (count_by f) none) in
    record {
      totals_are_counts = λ site. totals_are_counts file site h;
      balanced = balanced;
      sites_balanced = (kept_along laws begins h).balanced;
      issued_once = λ k a b. let q = issues_along k h in grind (arith, nat_tests);
      no_other_issued = λ k a. let q = (issues_along k h).1 in (grind (arith, nat_tests), grind (arith, nat_tests));
      ended_for_good = λ k a.
          let q = (issues_along k h).1 in
          let one : between 0 k s.issued ≤ 1 = grind (arith, nat_tests) in
          let e = balanced (has_ticket k) in
          gone_for_good laws (kept_along laws begins h) (loaded_along h) k (grind (arith, nat_tests)) (omega arith);
    }
