use Rattle.std.proofs.Common.{List, map, ◌≡◌}
use Rattle.face_plane.specs.Planes.{face_plane}
use Rattle.sheet_terms.specs.Faces.{Face}
use Rattle.plane_chains.specs.Listed.{label_number}
use Rattle.plane_chains.specs.Webs.{IsWeb}
use Rattle.plane_chains.proofs.Freeing.{IsOnWay}
use Rattle.plane_chains.proofs.telling.freed.Given as goal

abbrev pub invariant-loop-round : goal.invariant-loop-round
invariant-loop-round l = record {
  web : IsWeb (face_plane l.flat.plane.drop l.flat.turned l.flat.points.now) l.faces.rims.0 l.faces.labels.of.items l.marks l.web;
  way : (fs : List Face) → l.faces.rims.0 ≡ map (λ f. f.rim) fs → l.faces.labels.of.items ≡ map (label_number fs) fs →
      IsOnWay (face_plane l.flat.plane.drop l.flat.turned l.flat.points.now) fs l.marks l._round;
}
