-- What the words after the first give, and what clap's matches say of it.
use Rattle.std.specs.Prelude.{◌≡◌, [], List, Option, None, option_map, unwrap_or, codes}
use Rattle.run_terms.specs.Files.{Bytes}
use Rattle.clap.specs.Words.{first_value, matched_of, raw_values}
use Rattle.clap.specs.declared.parser.matches.Found.{Found}
use Rattle.play_terms.specs.Words.{Given, after_end, before_end, command_by, given, with_more}
use Rattle.command_words.specs.Values.{listed}

-- what clap found
abbrev pub given_in : Found → Given
given_in f = record { operands = unwrap_or (option_map raw_values (matched_of f (codes "operands"))) []; digits = listed (first_value f (codes "digits")) }

-- what the words after the first give
abbrev pub given_by : List Bytes → Option Given
given_by ws = with_more (after_end ws) (given (before_end ws))

-- whatever the first word, this gives no command
abbrev pub IsNoCommand : Option Given → Type 0
IsNoCommand o = (w : Bytes) → command_by w o ≡ None
