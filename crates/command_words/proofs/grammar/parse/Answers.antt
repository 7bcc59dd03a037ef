use Rattle.std.proofs.Common.{◌∙◌}
use Rattle.clap.specs.Words.{app_of, kind_of}
use Rattle.command_words.proofs.Reading.{matches_read, refusal_read}
use Rattle.command_words.proofs.grammar.parse.Goals as goal

pub returns-in-Ok-clause-given : goal.returns-in-Ok-clause-given
returns-in-Ok-clause-given c =
    matches_read (app_of c.in_ok-grammar.field-0) c.args.words.now c.in-Ok.matches c.in_ok-grammar.ensures c.in-Ok.ensures.kinds c.in-Ok.ensures.matches

pub returns-in_ok-refusal-in-Err-clause-refused : goal.returns-in_ok-refusal-in-Err-clause-refused
returns-in_ok-refusal-in-Err-clause-refused c none =
    refusal_read (app_of c.in_ok-grammar.field-0) c.args.words.now (kind_of c.in-Err.error) c.in_ok-grammar.ensures c.in-Err.ensures.kinds
    (λ memory. c.in_ok-refusal-in-Err.ensures.told (c.kind.ensures ∙ memory))
