use Rattle.std.proofs.Common.{◌≡◌, take}
use Rattle.plane_filling.specs.Pieces.{Adds, forced_of, region_pieces}
use Rattle.plane_filling.proofs.filling.fill_some.Given as goal

-- the regions so far are filled
abbrev pub invariant-loop-number : goal.invariant-loop-number
invariant-loop-number l = record {
  unforced : forced_of (region_pieces l.points l.regions l.ways (take l.number-index l.numbers)) ≡ 0;
  adds : Adds (region_pieces l.points l.regions l.ways (take l.number-index l.numbers)) l.fn.filled l.filled;
}
