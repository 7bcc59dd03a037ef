use Rattle.std.proofs.Common.{◌≡◌, [], take}
use Rattle.edge_pairing.specs.Entries.{ends_of, starts_of}
use Rattle.cross_section.proofs.segments.fill_entries.Given as goal

abbrev pub invariant-loop-from : goal.invariant-loop-from
invariant-loop-from l = record { starts : starts_of l.entries.items ≡ take l.from-index l.starts; ends : ends_of l.entries.items ≡ [] }

abbrev pub invariant-loop-to : goal.invariant-loop-to
invariant-loop-to l = record { starts : starts_of l.entries.items ≡ l.starts; ends : ends_of l.entries.items ≡ take l.to-index l.ends }
