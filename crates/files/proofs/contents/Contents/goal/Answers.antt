use Rattle.std.proofs.Common.{◌≡◌, List, ℕ, drop, sym, ap, ◌∙◌, subst}
use Rattle.formats.specs.Operands.{byte_at}
use Rattle.forms.specs.Reading.{expression_of}
use Rattle.forms.specs.Heads.{IsForm}
use Rattle.files.specs.Contents.{goal_bytes, behind_definitions, file_of}
use Rattle.files.proofs.Numbers.{count_of}
use Rattle.files.proofs.Recovered.{goal_whole}
use Rattle.files.proofs.contents.Contents.goal.Goals as goal

pub returns : goal.returns
unfolding file_of
returns c =
    let bs = c.args.self.bytes.now in
    let there : c.new.result.bytes.now ≡ goal_bytes bs
    = c.new.ensures ∙ c.behind_definitions.ensures ∙ ap (λ n. behind_definitions n (drop 1 bs)) (c.definition_count.ensures ∙ count_of (byte_at bs 0) (drop 1 bs)) in
    record { goal = ap expression_of there; whole = λ file is. subst (λ (l : List ℕ). IsForm l) (sym there) (goal_whole bs file is) }
