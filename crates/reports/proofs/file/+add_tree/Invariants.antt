use Rattle.std.proofs.Common.{◌≤◌, length}
use Rattle.reports.proofs.file.+add_tree.Given as goal

-- the parts of a form are shorter than the form
abbrev pub decreases-add_tree : goal.decreases-add_tree
decreases-add_tree l = length l.form.bytes.now

abbrev pub decreases-loop-first : goal.decreases-loop-first
decreases-loop-first l = length l.rest.bytes.now

-- what is left of the form is not longer than the form
abbrev pub invariant-loop-first : goal.invariant-loop-first
invariant-loop-first l = length l.rest.bytes.now ≤ length l.form.bytes.now
