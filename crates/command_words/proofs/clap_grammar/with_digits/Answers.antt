use Rattle.std.proofs.Common.{◌≡◌, ◌∙◌, Some, codes, ap}
use Rattle.std.proofs.lemmas.Result.{IfOk-weaker}
use Rattle.clap.specs.Words.{Rule, app_of, rule_of, with_rule}
use Rattle.clap.specs.declared.builder.action.ArgAction.TheVariants.{Set}
use Rattle.clap.specs.declared.builder.arg.Arg.{Arg}
use Rattle.command_words.specs.ClapGrammar.{digits_rule}
use Rattle.command_words.proofs.clap_grammar.with_digits.Goals as goal

abbrev as_option : Rule → Rule
as_option r = record r { long = Some (codes "digits"); action = Some Set }

abbrev setting : Arg → Arg
setting a = record a { action = Some Set }

pub returns : goal.returns
returns c =
    let made = c.action-digits.ensures ∙ ap setting c.long.ensures in
    let rule : rule_of c.action-digits.result ≡ digits_rule = ap rule_of made ∙ ap as_option c.new.ensures.rule in
    IfOk-weaker c.arg.result _ _ (λ r adds. adds.shape (ap (λ (a : Arg). a.global) made ∙ c.new.ensures.optional.1) ∙ ap (with_rule (app_of c.args.command)) rule) c.arg.ensures
