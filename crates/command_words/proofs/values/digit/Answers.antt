use Rattle.std.proofs.Common.{arith}
use Rattle.command_words.proofs.Words.{one_digit}
use Rattle.command_words.proofs.values.digit.Goals as goal

pub returns-in-len1-clause-value : goal.returns-in-len1-clause-value
returns-in-len1-clause-value c = one_digit c.args.text.now c.in-len1.len_at_least c.in-len1.len_below (omega arith) (omega arith)

pub returns-in-len1-clause-few : goal.returns-in-len1-clause-few
returns-in-len1-clause-few c = omega arith
