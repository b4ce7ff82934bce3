-- Tickets counted in, one by one, and by cause. Assumes nothing.
use Rattle.std.proofs.Common.{◌≡◌, ℕ, ◌+◌, ◌<◌, Bool, true, false, cond, eqb, List, [], ◌∷◌, count_by, filter, sym, refl, ap, ◌∙◌, subst, add-zero, arith}
use Rattle.std.proofs.lemmas.Bool.{eq-eqb}
use Rattle.orc.specs.Calls.{Pending}
use Rattle.runs.proofs.Counts.{count_cons}
use Rattle.runs.specs.States.{Totals}
use Rattle.runs.specs.Tickets.{of_site, counted, added}
use Rattle.engine.specs.declared.table.Table.{Table}
use Rattle.engine.specs.declared.table.Cause.{Cause}
use Rattle.engine.specs.declared.table.Cause.TheVariants.{Called, Answered, Withdrawn, Lapsed}
use Rattle.engine.specs.Tallies.{totals_at, amount, by_cause, CountsIn, Room}

-- totals with equal counts are equal
pub same_totals : {t u : Totals} → t.called ≡ u.called → t.answered ≡ u.answered → t.withdrawn ≡ u.withdrawn → t.lapsed ≡ u.lapsed → t ≡ u
same_totals c a w l = λ i. record { called = c i; answered = a i; withdrawn = w i; lapsed = l i }

-- tickets of one cause: none, and one before the others
module _ (f : Pending → Bool) where
  pub none_counted : (cause : Cause) (t : Totals) → added t (counted f (by_cause cause [])) ≡ t
  none_counted Called t = same_totals (add-zero _) (add-zero _) (add-zero _) (add-zero _)
  none_counted Answered t = same_totals (add-zero _) (add-zero _) (add-zero _) (add-zero _)
  none_counted Withdrawn t = same_totals (add-zero _) (add-zero _) (add-zero _) (add-zero _)
  none_counted Lapsed t = same_totals (add-zero _) (add-zero _) (add-zero _) (add-zero _)

  pub one_counted : (cause : Cause) (t : Totals) (p : Pending) (ps : List Pending) → added (added t (counted f (by_cause cause (p ∷ [])))) (counted f (by_cause cause ps)) ≡ added t (counted f (by_cause cause (p ∷ ps)))
  one_counted cause t p ps = by cause
    where
      -- the one that counts, and each other
      here : (n : ℕ) → (n + count_by f (p ∷ [])) + count_by f ps ≡ n + count_by f (p ∷ ps)
      here n = omega (arith, count_cons f p ps, count_cons f p [])

      by : (cause : Cause) → added (added t (counted f (by_cause cause (p ∷ [])))) (counted f (by_cause cause ps)) ≡ added t (counted f (by_cause cause (p ∷ ps)))
      by Called = same_totals (here _) (add-zero _) (add-zero _) (add-zero _)
      by Answered = same_totals (add-zero _) (here _) (add-zero _) (add-zero _)
      by Withdrawn = same_totals (add-zero _) (add-zero _) (here _) (add-zero _)
      by Lapsed = same_totals (add-zero _) (add-zero _) (add-zero _) (here _)

  pub amount_added : (cause : Cause) (t : Totals) (ps : List Pending) → amount cause (added t (counted f (by_cause cause ps))) ≡ amount cause t + count_by f ps
  amount_added Called t ps = refl
  amount_added Answered t ps = refl
  amount_added Withdrawn t ps = refl
  amount_added Lapsed t ps = refl

-- the first that ends is left to count: it has its room
pub first_has_room : (t : Table) (cause : Cause) (p : Pending) (ps : List Pending) → Room t cause (p ∷ ps) → (p.site < 32) × (amount cause (totals_at t p.site) < 65535)
first_has_room t cause p ps room =
    let here : eqb p.site p.site ≡ true = eq-eqb p.site p.site refl in
    let one : ◌≡◌ {A = ℕ} (cond (eqb p.site p.site) 1 0) 1 = ap (λ b. cond {A = ℕ} b 1 0) here in
    (room.sited.0, omega (arith, room.enough p.site, count_cons (of_site p.site) p ps, one))

-- once it is counted, the others have theirs
pub others_have_room : (t u : Table) (cause : Cause) (p : Pending) (ps : List Pending) → Room t cause (p ∷ ps) → CountsIn t u (by_cause cause (p ∷ [])) → Room u cause ps
others_have_room t u cause p ps room counts =
    record {
      sited = room.sited.1;
      enough = λ site. omega (arith, room.enough site, ap (amount cause) (counts site), amount_added (of_site site) cause (totals_at t site) (p ∷ []), count_cons (of_site site) p ps, count_cons (of_site site) p []);
    }

-- Of all pending calls some are left: those of them that pass the test are left to count, and there is room for them.
pub record LeftToCount (f : Pending → Bool) (cause : Cause) (all left : List Pending) (first now : Table) : Type 0 where
  pub room : Room now cause (filter f left)
  pub rest : (site : ℕ) → added (totals_at now site) (counted (of_site site) (by_cause cause (filter f left))) ≡ added (totals_at first site) (counted (of_site site) (by_cause cause (filter f all)))

module _ (f : Pending → Bool) (cause : Cause) (all left : List Pending) (first now : Table) (l : LeftToCount f cause all left first now) where
  module _ (p : Pending) (next : List Pending) (met : left ≡ p ∷ next) where
    kept_first : f p ≡ true → filter f left ≡ p ∷ filter f next
    kept_first t = ap (filter f) met ∙ ap (λ b. cond b (p ∷ filter f next) (filter f next)) t

    kept_not : f p ≡ false → filter f left ≡ filter f next
    kept_not t = ap (filter f) met ∙ ap (λ b. cond b (p ∷ filter f next) (filter f next)) t

    pub can_count : f p ≡ true → (p.site < 32) × (amount cause (totals_at now p.site) < 65535)
    can_count t = first_has_room now cause p _ (subst (Room now cause) (kept_first t) l.room)

    pub counted_first : (then : Table) → f p ≡ true → CountsIn now then (by_cause cause (p ∷ [])) → LeftToCount f cause all next first then
    counted_first then t counts =
        record {
          room = others_have_room now then cause p _ (subst (Room now cause) (kept_first t) l.room) counts;
          rest = λ site.
              ap (λ x. added x (counted (of_site site) (by_cause cause (filter f next)))) (counts site)
              ∙ one_counted (of_site site) cause (totals_at now site) p (filter f next)
              ∙ ap (λ ps. added (totals_at now site) (counted (of_site site) (by_cause cause ps))) (sym (kept_first t))
              ∙ l.rest site;
        }

    pub passed_first : f p ≡ false → LeftToCount f cause all next first now
    passed_first t =
        record {
          room = subst (Room now cause) (kept_not t) l.room;
          rest = λ site. ap (λ ps. added (totals_at now site) (counted (of_site site) (by_cause cause ps))) (sym (kept_not t)) ∙ l.rest site;
        }

  pub all_counted : left ≡ [] → CountsIn first now (by_cause cause (filter f all))
  all_counted end =
      λ site.
      sym (none_counted (of_site site) cause (totals_at now site))
      ∙ ap (λ ps. added (totals_at now site) (counted (of_site site) (by_cause cause (filter f ps)))) (sym end)
      ∙ l.rest site
