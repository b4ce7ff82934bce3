-- The totals of a site as they are read. Assumes nothing.
use Rattle.std.proofs.Common.{◌≡◌, ℕ, ◌<◌, ◌≤◌, Some, None, sym, ◌∙◌, ap, arith}
use Rattle.orc.specs.Expressions.{entry}
use Rattle.runs.specs.States.{State}
use Rattle.engine.specs.Shown.{Shows}
use Rattle.engine.specs.declared.shown.SiteTotals.{SiteTotals}
use Rattle.controllers.specs.declared.totals.Totals.{Totals}
use Rattle.controllers.specs.Counts.{counts_of}
use Rattle.controllers.specs.Shown.{totals_of, all_totals}
use Rattle.controllers.proofs.Laying.{entry_range, entry_range_past}

made : ℕ → ℕ → ℕ → ℕ → ℕ → Totals
made c a w l s = record { called = c; answered = a; withdrawn = w; lapsed = l; standing = s }

same_totals : {c a w l s c' a' w' l' s' : ℕ} → c ≡ c' → a ≡ a' → w ≡ w' → l ≡ l' → s ≡ s' → made c a w l s ≡ made c' a' w' l' s'
same_totals {c} {a} {w} {l} {s} {c'} {a'} {w'} {l'} {s'} p q r t u =
    ap (λ x. made x a w l s) p ∙ (ap (λ x. made c' x w l s) q ∙ (ap (λ x. made c' a' x l s) r ∙ (ap (λ x. made c' a' w' x s) t ∙ ap (λ x. made c' a' w' l' x) u)))

counts_shown : (s : State) (site : ℕ) (t : SiteTotals) → Shows s site t → counts_of t ≡ totals_of s site
unfolding made
counts_shown s site t h = same_totals h.called h.answered h.withdrawn h.lapsed h.standing

pub counted_there : (s : State) (site : ℕ) (t : SiteTotals) → site < 32 → Shows s site t → Some (counts_of t) ≡ entry (all_totals s) site
unfolding all_totals
counted_there s site t within h = ap Some (counts_shown s site t h) ∙ sym (entry_range (totals_of s) 0 32 site within ∙ ap (λ k. Some (totals_of s k)) (omega arith))

pub counted_past : (s : State) (site : ℕ) → 32 ≤ site → None ≡ entry (all_totals s) site
unfolding all_totals
counted_past s site past = sym (entry_range_past (totals_of s) 0 32 site past)
