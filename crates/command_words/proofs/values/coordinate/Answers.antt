use Rattle.std.proofs.Common.{◌∙◌}
use Rattle.command_words.proofs.Words.{operand_read}
use Rattle.command_words.proofs.values.coordinate.Goals as goal

pub returns-clause-value : goal.returns-clause-value
returns-clause-value c =
    let read = c.read_grid.ensures in
    c.ok.ensures.value ∙ operand_read c.args.digits c.args.word.now c.as_bytes.result.now c.read_grid.result c.as_bytes.ensures.value read.ok read.not_a_number read.out_of_grid
