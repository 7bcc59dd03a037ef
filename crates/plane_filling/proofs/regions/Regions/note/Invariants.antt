use Rattle.std.proofs.Common.{◌≡◌, ◌++◌, List, ℕ, length, take}
use Rattle.sheet_terms.specs.Needless.{walk_edges}
use Rattle.plane_filling.specs.Ways.{Notes}
use Rattle.plane_filling.proofs.regions.Regions.note.Given as goal

-- the walks so far are noted
abbrev pub invariant-loop-walk : goal.invariant-loop-walk
invariant-loop-walk l = record {
  count : length l.ways.leads.items ≡ length l.fn.ways.leads.items;
  notes : (es : List (ℕ × ℕ)) → Notes es l.fn.ways → Notes (es ++ walk_edges (take l.walk l.self.walks.0)) l.ways;
}
