use Rattle.std.proofs.Common.{◌≡◌, ◌++◌, map, take}
use Rattle.source_faces.specs.Entries.{entry_of}
use Rattle.source_faces.proofs.lists.entries.push_stands.Given as goal

abbrev pub invariant-loop-stand : goal.invariant-loop-stand
invariant-loop-stand l = l.entries.items ≡ l.fn.entries.items ++ map entry_of (take l.stand-index l.stands)
