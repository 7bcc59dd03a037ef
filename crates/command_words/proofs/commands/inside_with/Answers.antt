use Rattle.std.proofs.Common.{◌∙◌, map, sym}
use Rattle.std.proofs.lemmas.List.{length-map}
use Rattle.command_words.proofs.Reading.{not_four}
use Rattle.command_words.proofs.commands.inside_with.Goals as goal

pub returns-then-operands-ne4-clause-command : goal.returns-then-operands-ne4-clause-command
returns-then-operands-ne4-clause-command c =
    let operands = c.args.operands.now in
    sym (not_four c.args.digits (map (λ w. w.now) operands) (λ four. c.if-operands-ne4.true (sym (length-map operands (λ w. w.now)) ∙ four)))
