use Rattle.std.proofs.Common.{◌≡◌, ◌<◌, drop, length}
use Rattle.plane_filling.specs.Rounds.{round_from}
use Rattle.plane_filling.specs.Ways.{with_edges}
use Rattle.plane_filling.proofs.needless.Ways.note_round.Given as goal

-- the edges left, noted after those so far, are all
abbrev pub invariant-loop-place : goal.invariant-loop-place
invariant-loop-place l = record {
  noted : with_edges (round_from l.first l.last (drop l.place-index l.rest)) l.self.leads.items ≡
      with_edges (round_from l.first l.first l.rest) l.fn.self.leads.items;
  count : length l.self.leads.items ≡ length l.fn.self.leads.items;
  last : l.last < length l.self.leads.items;
}
