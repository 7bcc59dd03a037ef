use Rattle.std.proofs.Common.{◌≡◌, ◌∙◌, Some, ap}
use Rattle.std.proofs.lemmas.Result.{IfOk-weaker}
use Rattle.clap.specs.Words.{Rule, app_of, rule_of, with_rule}
use Rattle.clap.specs.declared.builder.action.ArgAction.TheVariants.{Append}
use Rattle.clap.specs.declared.builder.arg.Arg.{Arg}
use Rattle.command_words.specs.ClapGrammar.{operands_rule}
use Rattle.command_words.proofs.clap_grammar.with_operands.Goals as goal

abbrev appending : Rule → Rule
appending r = record r { action = Some Append }

pub returns : goal.returns
returns c =
    let made = c.action-operands.ensures in
    let rule : rule_of c.action-operands.result ≡ operands_rule = ap rule_of made ∙ ap appending c.new.ensures.rule in
    IfOk-weaker c.arg.result _ _ (λ r adds. adds.shape (ap (λ (a : Arg). a.global) made ∙ c.new.ensures.optional.1) ∙ ap (with_rule (app_of c.args.command)) rule) c.arg.ensures
