use Rattle.std.proofs.Common.{◌≡◌, take, map}
use Rattle.lean.specs.Leans.{is_up}
use Rattle.lean.proofs.short.short_marks.Given as goal

abbrev pub invariant-loop-normal : goal.invariant-loop-normal
invariant-loop-normal l = l.ups.items ≡ map (map (is_up l.op)) (take l.normal-index l.normals)
