-- What an operation on two meshes gives, from what was assembled of their sides.
use Rattle.std.proofs.Common.{◌≡◌, ℕ, Result, Ok, Err, IfErr, IfOk, length, sym, ◌∙◌, ap, subst}
use Rattle.std.proofs.lemmas.List.{length-map}
use Rattle.mb_base.specs.declared.op.Op.{Op}
use Rattle.mesh_terms.specs.Meshes.{Mesh}
use Rattle.side_terms.specs.Sides.{Side}
use Rattle.side_terms.specs.Prescribed.{Numbers, prescribed_halfedges}
use Rattle.side_terms.specs.Standing.{AreConserved}
use Rattle.source_face_terms.specs.Filled.{points_of_copies}
use Rattle.pinch_split.specs.Split.{split_from, split_points, split_triples}
use Rattle.retained_verts.specs.declared.list.PrescribeFault.{PrescribeFault}
use Rattle.retained_verts.specs.declared.list.Prescribed.{Prescribed}
use Rattle.source_faces.specs.declared.triangles.SourceTriangles.{SourceTriangles}
use Rattle.mesh_boolean.specs.declared.outcome.Outcome.{Outcome}
use Rattle.mesh_boolean.specs.Assembly.{IsAssembled, IsOfMeshes, IsSplit}
use Rattle.mesh_boolean.specs.Faults.{IsTooLarge}
use Rattle.mesh_boolean.specs.Operation.{Tests, first_side, numbers_of, second_side}
use Rattle.mesh_boolean.specs.Results.{ConserveIn, IsBounded, IsFilled, IsPrescribed, copies_in, halfedges_in, numbers_in}
use Rattle.mesh_boolean.proofs.Faces.{are_bounded}

-- two sides with their numbers are those of two meshes
pub record AreSidesOf (t : Tests) (op : Op) (m k : Mesh) (p q : Side) (n : Numbers) : Type 0 where
  pub first : p ≡ first_side op m
  pub second : q ≡ second_side k
  pub numbers : n ≡ numbers_of t p q

-- so the numbers are those of the meshes
pub same_numbers : (t : Tests) (op : Op) (m k : Mesh) (p q : Side) (n : Numbers) → AreSidesOf t op m k p q n → n ≡ numbers_in t op m k
same_numbers t op m k p q n known = known.numbers ∙ (λ i. numbers_of t (known.first i) (known.second i))

-- what is assembled of the sides is what is assembled of the meshes
of_meshes : (t : Tests) (op : Op) (m k : Mesh) (p q : Side) (n : Numbers) (r : Prescribed) (all : SourceTriangles) → AreSidesOf t op m k p q n →
    IsAssembled op p q n r all → IsOfMeshes t op m k r all
of_meshes t op m k p q n r all known assembled =
    subst (λ l. IsAssembled op (first_side op m) (second_side k) l r all) (same_numbers t op m k p q n known)
    (subst (λ s. IsAssembled op (first_side op m) s n r all) known.second (subst (λ s. IsAssembled op s q n r all) known.first assembled))

-- so an answer that is assembled of the sides is assembled of the meshes
pub all_of_meshes : (t : Tests) (op : Op) (m k : Mesh) (p q : Side) (n : Numbers) (r : Result (Prescribed × SourceTriangles) PrescribeFault) →
    AreSidesOf t op m k p q n → IfOk r (λ x. IsAssembled op p q n x.0 x.1) → IfOk r (λ x. IsOfMeshes t op m k x.0 x.1)
all_of_meshes t op m k p q n (Ok x) known assembled = of_meshes t op m k p q n x.0 x.1 known assembled
all_of_meshes t op m k p q n (Err e) known assembled = tt

-- numbers that are conserved over the sides are conserved over the meshes
pub conserve_in : {X : Type 0} (t : Tests) (op : Op) (m k : Mesh) (p q : Side) (n : Numbers) (r : Result X PrescribeFault) → AreSidesOf t op m k p q n →
    AreConserved p q n → IfOk r (λ _. ConserveIn t op m k)
conserve_in t op m k p q n (Ok x) known conserved =
    subst (λ l. AreConserved (first_side op m) (second_side k) l) (same_numbers t op m k p q n known)
    (subst (λ s. AreConserved (first_side op m) s n) known.second (subst (λ s. AreConserved s q n) known.first conserved))
conserve_in t op m k p q n (Err e) known conserved = tt

pub is_prescribed : (t : Tests) (op : Op) (m k : Mesh) (r : Prescribed) (all : SourceTriangles) (o : Outcome) → IsOfMeshes t op m k r all → IsSplit r all o →
    IsPrescribed t op m k o
is_prescribed t op m k r all o assembled made = subst (λ s. IsPrescribed t op m k (record o { prescribed = s })) (sym made.prescribed) assembled.prescribed

pub is_bounded : (t : Tests) (op : Op) (m k : Mesh) (r : Prescribed) (all : SourceTriangles) (o : Outcome) → IsOfMeshes t op m k r all → IsSplit r all o → IsBounded t op m k o
is_bounded t op m k r all o assembled made =
    are_bounded (first_side op m) (second_side k) (copies_in t op m k) o.from.items o.source.items o.mesh.triples assembled.fillings
    (ap (λ v. v.items) made.source ∙ assembled.source) (made.back ∙ assembled.triples)

pub is_filled : (t : Tests) (op : Op) (m k : Mesh) (r : Prescribed) (all : SourceTriangles) (o : Outcome) → IsOfMeshes t op m k r all → IsSplit r all o → IsFilled t op m k o
is_filled t op m k r all o assembled made = record {
  points = made.points ∙ (λ i. split_points (points i) (assembled.triples i));
  triples = made.triples ∙ (λ i. split_triples (count i) (assembled.triples i));
  from = made.from ∙ (λ i. split_from (count i) (assembled.triples i));
  source = ap (λ v. v.items) made.source ∙ assembled.source;
  forced = made.forced ∙ assembled.forced;
}
  where
    points : r.points.items ≡ points_of_copies (copies_in t op m k)
    points = assembled.prescribed.points

    count : length r.points.items ≡ length (copies_in t op m k)
    count = ap length points ∙ length-map (copies_in t op m k) (λ c. c.point)

-- half-edges that are too many for the sides are so for the meshes
pub too_large : {X : Type 0} (t : Tests) (op : Op) (m k : Mesh) (p q : Side) (n : Numbers) (limit : ℕ) (r : Result X PrescribeFault) →
    AreSidesOf t op m k p q n → IfErr r (IsTooLarge limit (prescribed_halfedges op p q n)) → IfErr r (IsTooLarge limit (halfedges_in t op m k))
too_large t op m k p q n limit r known large =
    subst (λ h. IfErr r (IsTooLarge limit h)) (λ i. prescribed_halfedges op (known.first i) (known.second i) (same_numbers t op m k p q n known i)) large
