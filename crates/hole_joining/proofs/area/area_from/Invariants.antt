use Rattle.std.proofs.Common.{◌≡◌, ◌*◌, ◌^◌, ◌+ℤ◌, drop}
use Rattle.chain_terms.specs.Sums.{total}
use Rattle.chain_laws.specs.Sums.{IsWithin}
use Rattle.face_plane.specs.Planes.{across}
use Rattle.hole_joining.specs.Seen.{plane_at, flat_vertex}
use Rattle.hole_joining.proofs.Rounds.{round_from}
use Rattle.hole_joining.proofs.area.area_from.Given as goal

abbrev pub invariant-loop-vertex : goal.invariant-loop-vertex
invariant-loop-vertex l = record {
  seen : l.last ≡ flat_vertex (plane_at l.flat) l.last.vertex;
  value : l.sum +ℤ total (across (plane_at l.flat)) (round_from l.first l.last.vertex (drop l.vertex-index l.rest)) ≡
      total (across (plane_at l.flat)) (round_from l.first l.first l.rest);
  small : IsWithin l.sum (2 ^ 61 * l.vertex-index);
}
