use Rattle.std.proofs.Common.{arith}
use Rattle.command_words.proofs.Operands.{one_of, run_named}
use Rattle.command_words.proofs.commands.run_with.Goals as goal

pub returns-in-len1-clause-command : goal.returns-in-len1-clause-command
returns-in-len1-clause-command c =
    run_named c.args.digits _ _ _ (one_of (λ w. w.now) c.args.operands.now _ (omega (arith, c.in-len1.len_at_least, c.in-len1.len_below))) c.is_empty.ensures c.if-not-is_empty.true
