-- What names hold, as far as lines of a script tell it.
use Rattle.std.specs.Prelude.{List, [], ◌∷◌, Option, Some, None, if◌then◌else◌, bytes_eq}
use Rattle.run_terms.specs.Files.{Bytes}

-- what stands beside the first name that is this
abbrev pub beside : {X : Type 0} → List (Bytes × X) → Bytes → Option X
beside [] n = None
beside (e ∷ es) n = if bytes_eq n e.0 then Some e.1 else beside es n

-- a name gets something in place of what it had
abbrev pub with_more : {X : Type 0} → Bytes → X → (Bytes → Option X) → Bytes → Option X
with_more name x had = λ n. if bytes_eq n name then Some x else had n
