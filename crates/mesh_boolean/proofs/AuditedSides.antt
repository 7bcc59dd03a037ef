-- What an outcome has to do with two sides and their numbers, for the sides and numbers of two meshes.
use Rattle.std.proofs.Common.{◌≤◌, ◌↔◌, List, length, sym, ap, subst, arith}
use Rattle.std.proofs.lemmas.List.{length-map}
use Rattle.mb_base.specs.declared.op.Op.{Op}
use Rattle.mb_base.specs.declared.results.Hits.{Hits}
use Rattle.mb_base.specs.declared.results.Windings.{Windings}
use Rattle.mesh_terms.specs.Limits.{most_points}
use Rattle.mesh_terms.specs.Meshes.{Mesh, Triple}
use Rattle.side_terms.specs.Sides.{IsSide, Side}
use Rattle.side_terms.specs.Prescribed.{Numbers}
use Rattle.retained_verts.specs.Handed.{copies, numbers}
use Rattle.retained_verts.specs.Listed.{ArePrescribed}
use Rattle.retained_verts.proofs.Balance.{balanced}
use Rattle.mesh_boolean.specs.GivenSegments.{AreGiven}
use Rattle.mesh_boolean.specs.Assembly.{AreNumbers}
use Rattle.mesh_boolean.specs.Audited.{AgreesWithMeshes, AgreesWithSides}
use Rattle.mesh_boolean.specs.Operation.{Tests, first_side, second_side}
use Rattle.mesh_boolean.specs.Results.{HasOrigins}
use Rattle.mesh_boolean.specs.declared.outcome.Outcome.{Outcome}
use Rattle.mesh_boolean.proofs.Audited.{few_old}
use Rattle.mesh_boolean.proofs.Finished.{AreSidesOf, same_numbers}

-- what agrees with the sides agrees with the meshes whose sides they are
to_meshes : (t : Tests) (op : Op) (m k : Mesh) (p q : Side) (n : Numbers) (r : Outcome) (us : List Triple) →
    AreSidesOf t op m k p q n → AgreesWithSides op p q n r us → AgreesWithMeshes t op m k r us
to_meshes t op m k p q n r us known agrees =
    subst (λ l. AgreesWithSides op (first_side op m) (second_side k) l r us) (same_numbers t op m k p q n known)
    (subst (λ s. AgreesWithSides op (first_side op m) s n r us) known.second (subst (λ s. AgreesWithSides op s q n r us) known.first agrees))

-- and the other way round
to_sides : (t : Tests) (op : Op) (m k : Mesh) (p q : Side) (n : Numbers) (r : Outcome) (us : List Triple) →
    AreSidesOf t op m k p q n → AgreesWithMeshes t op m k r us → AgreesWithSides op p q n r us
to_sides t op m k p q n r us known agrees =
    subst (λ s. AgreesWithSides op s q n r us) (sym known.first)
    (subst (λ s. AgreesWithSides op (first_side op m) s n r us) (sym known.second)
    (subst (λ l. AgreesWithSides op (first_side op m) (second_side k) l r us) (sym (same_numbers t op m k p q n known)) agrees))

pub as_meshes : (t : Tests) (op : Op) (m k : Mesh) (p q : Side) (n : Numbers) (r : Outcome) (us : List Triple) → AreSidesOf t op m k p q n →
    (AgreesWithSides op p q n r us) ↔ (AgreesWithMeshes t op m k r us)
as_meshes t op m k p q n r us known = (to_meshes t op m k p q n r us known, to_sides t op m k p q n r us known)

-- prescribed vertices that all occur among the vertices of a mesh, as they are handed over
pub given : (op : Op) (p q : Side) (windings : Windings) (hits : Hits) (r : Outcome) → IsSide p → IsSide q → AreNumbers p q windings hits → HasOrigins r →
    length r.mesh.points ≤ most_points → ArePrescribed op p q (numbers windings hits) r.prescribed → AreGiven op p q windings hits r.prescribed
given op p q windings hits r p_side q_side known come few is = record {
  fit = known.fit;
  points = is.points;
  kept = is.kept;
  balance = balanced op p q (numbers windings hits) p_side q_side known.fit.x12 known.fit.x21 known.conserved;
  few =
      let old = few_old r.mesh.points r.prescribed.points.items r.from.items come in
      omega (arith, old, few, ap length is.points, length-map (copies op p q windings hits) (λ c. c.point));
}
