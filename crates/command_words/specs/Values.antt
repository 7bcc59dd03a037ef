-- The value of an option, as a list.
use Rattle.std.specs.Prelude.{◌∷◌, [], List, Option, Some, None}
use Rattle.run_terms.specs.Files.{Bytes}

-- a value, where there is one
abbrev pub listed : Option Bytes → List Bytes
listed None = []
listed (Some v) = v ∷ []
