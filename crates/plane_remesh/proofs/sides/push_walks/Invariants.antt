use Rattle.std.proofs.Common.{[], ◌++◌, take}
use Rattle.plane_filling.specs.Regions.{AreSeen, all_walks, waiting}
use Rattle.plane_remesh.proofs.sides.push_walks.Given as goal

-- the walks so far wait
abbrev pub invariant-loop-walk : goal.invariant-loop-walk
invariant-loop-walk l =
    AreSeen l.regions l.initial.regions.all.items (all_walks l.initial.regions) (waiting l.initial.regions ++ take l.walk-index l.walks) []
