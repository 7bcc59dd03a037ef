-- What a name holds, from a map of references to names.
use Rattle.std.proofs.Common.{◌≡◌, List, Bor}
use Rattle.std.specs.Option.{option_map}
use Rattle.std.specs.Map.{lookup}
use Rattle.indexmap.specs.IndexMap.{insert_entry}
use Rattle.run_terms.specs.Files.{Bytes}
use Rattle.play_terms.specs.Plays.{with_held}
use Rattle.script_lang.proofs.NameKinds.{found, listed, more_all, same}
use Rattle.script_runs.specs.Held.{held_of}
use Rattle.script_runs.specs.Names.{named_in}
use Rattle.script_runs.specs.declared.names.Held.{Held}

-- what each name holds once another holds this
pub named_all : (es fs : List (Bor Bytes × Held)) (k : Bor Bytes) (h : Held) → fs ≡ insert_entry same es k h
    → named_in (listed held_of fs) ≡ with_held k.now (held_of h) (named_in (listed held_of es))
named_all es fs k h is = more_all held_of es fs k h is

-- what is looked up at a name is what it holds
pub looked_up : (es : List (Bor Bytes × Held)) (k : Bor Bytes) → option_map held_of (lookup (same k) es) ≡ named_in (listed held_of es) k.now
looked_up es k = found held_of es k
