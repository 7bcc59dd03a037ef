-- What two lists of commands name together.
use Rattle.std.proofs.Common.{◌≡◌, Bool, true, false, List, [], ◌∷◌, ◌++◌, Option, Some, None, refl}
use Rattle.std.specs.Prelude.{if◌then◌else◌, bytes_eq}
use Rattle.run_terms.specs.Files.{Bytes}
use Rattle.play_terms.specs.ScriptCommands.{ScriptCommand, named_in}

-- a command is named by the word before it, or else further on
here_or_on : (b : Bool) (d c : ScriptCommand) (on all : Option ScriptCommand) → (Some c ≡ on → Some c ≡ all) →
    Some c ≡ (if b then Some d else on) → Some c ≡ (if b then Some d else all)
here_or_on true d c on all further named = named
here_or_on false d c on all further named = further named

-- what the first list names
pub named_first : (cs ds : List ScriptCommand) (w : Bytes) (c : ScriptCommand) → Some c ≡ named_in cs w → Some c ≡ named_in (cs ++ ds) w
named_first [] ds w c named = absurd (cc)
named_first (d ∷ cs) ds w c named = here_or_on (bytes_eq w d.word) d c (named_in cs w) (named_in (cs ++ ds) w) (named_first cs ds w c) named

-- where neither this word nor one further on names any
only_on : (b : Bool) (d : ScriptCommand) (on all is : Option ScriptCommand) → (None ≡ on → is ≡ all) → None ≡ (if b then Some d else on) → is ≡ (if b then Some d else all)
only_on true d on all is further none = absurd (cc)
only_on false d on all is further none = further none

-- what the second list names, where the first names none
pub named_second : (cs ds : List ScriptCommand) (w : Bytes) → None ≡ named_in cs w → named_in ds w ≡ named_in (cs ++ ds) w
named_second [] ds w none = refl
named_second (d ∷ cs) ds w none = only_on (bytes_eq w d.word) d (named_in cs w) (named_in (cs ++ ds) w) (named_in ds w) (named_second cs ds w) none
