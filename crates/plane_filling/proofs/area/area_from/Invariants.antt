use Rattle.std.proofs.Common.{◌≡◌, ◌*◌, ◌^◌, ◌+ℤ◌, drop}
use Rattle.chain_terms.specs.Sums.{total}
use Rattle.chain_laws.specs.Sums.{IsWithin}
use Rattle.face_plane.specs.Planes.{across}
use Rattle.plane_filling.specs.Begun.{seen_in}
use Rattle.plane_filling.specs.Rounds.{round_from}
use Rattle.plane_filling.proofs.area.area_from.Given as goal

-- the sum so far and that of the edges left are all
abbrev pub invariant-loop-place : goal.invariant-loop-place
invariant-loop-place l = record {
  value : l.sum +ℤ total (across (seen_in l.flat)) (round_from l.first l.last (drop l.place-index l.rest)) ≡
      total (across (seen_in l.flat)) (round_from l.first l.first l.rest);
  small : IsWithin l.sum (2 ^ 61 * l.place-index);
}
