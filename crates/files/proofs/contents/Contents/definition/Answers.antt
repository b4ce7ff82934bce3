use Rattle.std.proofs.Common.{◌≡◌, ℕ, ◌<◌, List, drop, Some, sym, ap, ◌∙◌, subst, arith}
use Rattle.orc.specs.Expressions.{Expression, Definition}
use Rattle.formats.specs.Operands.{byte_at}
use Rattle.forms.specs.Reading.{expression_of}
use Rattle.forms.specs.Heads.{IsForm}
use Rattle.files.specs.Contents.{body_bytes, behind_definitions, file_of}
use Rattle.files.proofs.Numbers.{count_of, entry_past, entry_within}
use Rattle.files.proofs.Recovered.{body_whole}
use Rattle.files.proofs.contents.Contents.definition.Goals as goal

pub returns-then-number-definition_count : goal.returns-then-number-definition_count
unfolding file_of
returns-then-number-definition_count c =
    let bs = c.args.self.bytes.now in
    let count = c.definition_count.ensures ∙ count_of (byte_at bs 0) (drop 1 bs) in
    record { found = sym (entry_past (byte_at bs 0) (drop 1 bs) c.args.number (omega arith)); whole = λ file is. tt }

pub returns : goal.returns
unfolding file_of
returns c =
    let bs = c.args.self.bytes.now in
    let i = c.args.number in
    let count = c.definition_count.ensures ∙ count_of (byte_at bs 0) (drop 1 bs) in
    let within : i < byte_at bs 0 = omega arith in
    let behind = c.behind_definitions-definition.ensures in
    let there : c.new.result.bytes.now ≡ body_bytes (behind_definitions i (drop 1 bs)) = c.new.ensures ∙ c.split_definition.ensures.body ∙ ap body_bytes behind in
    let formal : c.byte_or_zero.result ≡ byte_at (behind_definitions i (drop 1 bs)) 0 = c.byte_or_zero.ensures ∙ ap (λ l. byte_at l 0) behind in
    let body : expression_of c.new.result.bytes.now ≡ expression_of (body_bytes (behind_definitions i (drop 1 bs))) = ap expression_of there in
    let made : ℕ → Expression → Definition = λ f e. record { formal = f; body = e } in
    record {
      found = (λ k. Some (made (formal k) (body k))) ∙ sym (entry_within (byte_at bs 0) (drop 1 bs) i within);
      whole = λ file is. subst (λ (l : List ℕ). IsForm l) (sym there) (body_whole bs file is i within);
    }
