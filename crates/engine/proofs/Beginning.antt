-- The states in which a run begins. Assumes nothing.
use Rattle.std.proofs.Common.{◌≡◌, ℕ, ◌≤◌, Some, None, List, [], ◌∷◌, length, sym, refl, ap, ◌∙◌, arith, length-append}
use Rattle.orc.specs.Expressions.{Expression, bytes, size}
use Rattle.orc.specs.Simplified.{simplified}
use Rattle.orc.specs.Files.{File, file_bytes, definitions_bytes}
use Rattle.forms.specs.Reading.{expression_of, read}
use Rattle.forms.specs.Heads.{IsForm}
use Rattle.forms.proofs.ReadBack.{read_back}
use Rattle.files.specs.Contents.{file_of}
use Rattle.walks.specs.Contents.{Buffer, content}
use Rattle.runs.specs.States.{no_totals, begun, unloaded}
use Rattle.engine.specs.declared.table.Table.{Table}
use Rattle.engine.specs.declared.plain.Plain.{Plain}
use Rattle.engine.specs.Tallies.{totals_at}
use Rattle.engine.specs.Held.{Record, held, entries}
use Rattle.engine.specs.Stands.{state_of}
use Rattle.engine.proofs.Given.{same_state}

pub unloaded_state : (form : Buffer) (events : Record) (table : Table) → entries events ≡ [] → ((site : ℕ) → totals_at table site ≡ no_totals) → content form ≡ 0 ∷ [] → held None 0 form 0 events table ≡ unloaded
unfolding expression_of read
unloaded_state form events table none zero e = same_state refl refl refl (ap expression_of e) refl none zero

-- with a file and a form in what is not loaded
pub begun_state : (p : Plain) → state_of p ≡ unloaded → (file form : Buffer) (x : File) → file_of (content file) ≡ x → content form ≡ bytes (simplified x.goal) → held (Some file) p.clock form p.issued p.events p.table ≡ begun x
begun_state p is file form x f e =
    same_state refl (ap (λ y. y.definitions) f) (ap (λ s. s.clock) is) (ap expression_of e ∙ read_back (simplified x.goal)) (ap (λ s. s.issued) is) (ap (λ s. s.events) is) (λ site. ap (λ s. s.totals site) is)

-- bytes that an expression has are a form
pub is_form : (e : Expression) (bs : List ℕ) → bs ≡ bytes e → IsForm bs
is_form e bs is = ap (λ bs. bytes (expression_of bs)) is ∙ ap bytes (read_back e) ∙ sym is

pub unloaded_form : (form : Buffer) → content form ≡ 0 ∷ [] → IsForm (content form)
unfolding bytes expression_of read
unloaded_form form is = ap (λ bs. bytes (expression_of bs)) is ∙ sym is

-- the goal is no longer than the file
pub goal_short : (x : File) → size x.goal ≤ length (file_bytes x)
unfolding file_bytes
goal_short x = omega (arith, length-append (definitions_bytes x.definitions) (bytes x.goal))
