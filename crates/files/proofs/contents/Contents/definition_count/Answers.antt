use Rattle.std.proofs.Common.{drop, sym, ◌∙◌}
use Rattle.formats.specs.Operands.{byte_at}
use Rattle.files.specs.Contents.{file_of}
use Rattle.files.proofs.Numbers.{count_of}
use Rattle.files.proofs.contents.Contents.definition_count.Goals as goal

pub returns : goal.returns
unfolding file_of
returns c = let bs = c.args.self.bytes.now in c.from.ensures ∙ c.byte_or_zero.ensures ∙ sym (count_of (byte_at bs 0) (drop 1 bs))
