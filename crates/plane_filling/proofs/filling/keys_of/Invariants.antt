use Rattle.std.proofs.Common.{◌≡◌, take}
use Rattle.plane_filling.specs.Pieces.{first_keys}
use Rattle.plane_filling.proofs.filling.keys_of.Given as goal

-- the keys so far
abbrev pub invariant-loop-region : goal.invariant-loop-region
invariant-loop-region l = l.keys.items ≡ first_keys (take l.region-index l.regions)
