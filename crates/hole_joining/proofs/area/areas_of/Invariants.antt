use Rattle.std.proofs.Common.{◌≡◌, ◌*◌, ◌^◌, ◌++◌, ◌+ℤ◌, drop, take, length, map}
use Rattle.std.specs.List.{concat}
use Rattle.chain_terms.specs.Sums.{total}
use Rattle.chain_laws.specs.Sums.{IsWithin}
use Rattle.face_plane.specs.Planes.{area}
use Rattle.hole_joining.specs.Seen.{plane_at}
use Rattle.hole_joining.proofs.area.areas_of.Given as goal

abbrev pub invariant-loop-one : goal.invariant-loop-one
invariant-loop-one l = record {
  each : l.each.items ++ map (area (plane_at l.flat)) (drop l.one-index l.loops) ≡ map (area (plane_at l.flat)) l.loops;
  value : l.sum +ℤ total (area (plane_at l.flat)) (drop l.one-index l.loops) ≡ total (area (plane_at l.flat)) l.loops;
  small : IsWithin l.sum (2 ^ 61 * length (concat (take l.one-index l.loops)));
}
