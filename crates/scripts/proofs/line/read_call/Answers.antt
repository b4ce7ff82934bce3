use Rattle.std.proofs.Common.{ℕ, List, subst}
use Rattle.scripts.specs.Words.{words}
use Rattle.scripts.specs.Lines.{Says}
use Rattle.scripts.proofs.Readings.{only_one, back}
use Rattle.scripts.proofs.line.read_call.Goals as goal

pub returns : goal.returns
returns c =
    let line = c.args.line.now in
    let r = c.read_words.result in
    let says : Says (words line) r = subst (λ (bs : List ℕ). Says (words bs) r) c.split_ascii_whitespace.ensures.text c.read_words.ensures in
    record {
      says = says;
      only = λ o other. only_one (words line) o r other says;
      back = λ call fits written. back line call r fits written says;
    }
