-- The mesh whose vertices are the fans.
use Rattle.std.proofs.Common.{length, refl, subst, sym, ap, arith}
use Rattle.std.proofs.lemmas.List.{length-map}
use Rattle.face_plane.specs.Planes.{point_at}
use Rattle.mesh_terms.specs.Meshes.{IsAccepted}
use Rattle.pinch_split.specs.Back.{named_by}
use Rattle.fan_laws.specs.Fanned.{FannedIsClean}
use Rattle.fan_laws.specs.Laws.{parted}
use Rattle.fan_laws.proofs.Parted.{fans_part}

pub fanned_is_clean : FannedIsClean
fanned_is_clean s can =
    let is = fans_part s.points s.triples can in
    let p = parted s.points s.triples in
    let many = length-map p.from (point_at s.points) in
    let as_many = ap length is.back in
    record {
      accepted = subst (λ k. IsAccepted k p.triples) (sym many) is.accepted;
      clean = is.clean;
      once = is.once;
      from = p.from;
      below = is.from;
      places = refl;
      back = is.back;
      labels = refl;
      few = omega (arith, is.few, many, as_many, length-map p.triples (named_by p.from));
    }
