-- The state that a run's parts stand for, part by part, and the facts in its type. Assumes nothing.
use Rattle.std.proofs.Common.{◌≡◌, ℕ, Option, Some, None, IsSome, MatchOption, sym, refl, subst}
use Rattle.forms.specs.Heads.{IsForm}
use Rattle.walks.specs.Contents.{Buffer, content}
use Rattle.runs.specs.States.{State}
use Rattle.runs.specs.Bounds.{Keeps}
use Rattle.runs.specs.Facts.{FormalsBind, BodiesFit, StateFits, Facts}
use Rattle.runs.proofs.Stating.{facts_of, kept_from}
use Rattle.engine.specs.declared.table.Table.{Table}
use Rattle.engine.specs.declared.plain.Plain.{Plain}
use Rattle.engine.specs.Held.{Record, definitions_held, WholeFile, held}
use Rattle.engine.specs.Stands.{state_of}

-- there is a value where none is refuted
pub there_is : {A P : Type 0} (Q : A → Type 0) (o : Option A) → MatchOption o P Q → (P → ⊥) → IsSome o
there_is Q None none refuted = absurd (refuted none)
there_is Q (Some x) holds refuted = refl

-- states with equal parts are equal
pub same_state : {s t : State} → s.loaded ≡ t.loaded → s.definitions ≡ t.definitions → s.clock ≡ t.clock → s.expression ≡ t.expression → s.issued ≡ t.issued → s.events ≡ t.events → ((site : ℕ) → s.totals site ≡ t.totals site) → s ≡ t
same_state l d c e n m t = λ i. record { loaded = l i; definitions = d i; clock = c i; expression = e i; issued = n i; events = m i; totals = λ site. t site i }

-- The facts in the type of a run, by its parts, from a state that keeps its bounds.
module _ (file : Option Buffer) (clock : ℕ) (form : Buffer) (issued : ℕ) (events : Record) (table : Table) where
  pub given : {s : State} → held file clock form issued events table ≡ s → Keeps s → WholeFile file → IsForm (content form) → WholeFile file × IsForm (content form) × FormalsBind (definitions_held file) × BodiesFit (definitions_held file) × StateFits (held file clock form issued events table)
  given is keeps whole_file whole_form =
      let facts = subst Facts (sym is) (facts_of keeps) in
      (whole_file, whole_form, facts.0, facts.1, facts.2)

-- They say that its state keeps its bounds.
pub keeps : (p : Plain) → Keeps (state_of p)
keeps p = kept_from (state_of p) (p.formals, p.bodies, p.fits)
