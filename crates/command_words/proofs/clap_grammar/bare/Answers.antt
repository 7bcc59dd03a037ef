use Rattle.std.proofs.Common.{◌≡◌, ◌∙◌, true, codes, ap}
use Rattle.clap.specs.Words.{App, app_of, new_app}
use Rattle.clap.specs.Simple.{app_of_fields}
use Rattle.command_words.proofs.clap_grammar.bare.Goals as goal

abbrev nameless : App → App
nameless a = record a { top = record a.top { no_binary_name = true } }

abbrev helpless : App → App
helpless a = record a { top = record a.top { disable_help_flag = true } }

pub returns : goal.returns
returns c =
    let named : app_of c.no_binary_name.result ≡ nameless (new_app (codes "command")) = ap app_of_fields c.no_binary_name.ensures ∙ ap nameless c.new.ensures.app in
    ap app_of_fields c.disable_help_flag.ensures ∙ ap helpless named
