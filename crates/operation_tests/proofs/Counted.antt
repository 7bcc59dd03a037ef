-- The components of the sides of an operation are those of its reduced meshes.
use Rattle.std.proofs.Common.{◌≡◌, false, List, [], ◌∷◌, Bool, length, map, replicate, ap, ◌∙◌}
use Rattle.std.proofs.lemmas.List.{length-map, length-replicate}
use Rattle.chain_terms.specs.Chains.{all_edges}
use Rattle.chain_terms.specs.Sums.{upto}
use Rattle.chain_laws.proofs.Places.{length-up_from}
use Rattle.component_terms.specs.Counts.{component_count}
use Rattle.lean.proofs.Corners.{corners_long}
use Rattle.lean.specs.Leans.{is_up, leans_of, normals_of, vertex_normal}
use Rattle.mb_base.specs.declared.op.Op.{Op}
use Rattle.mesh_boolean.specs.Operation.{first_side, reduced_mesh, second_side}
use Rattle.mesh_terms.specs.Meshes.{Mesh}
use Rattle.side_terms.specs.Sides.{side_of}
use Rattle.winding.specs.Windings.{components_of}

-- of a side with marks for all points
counted : (m : Mesh) (ups : List (List Bool)) → length ups ≡ length m.points → components_of (side_of m ups) ≡ component_count (length m.points) (all_edges m.triples)
counted m ups long = ap (λ n. component_count n (all_edges m.triples)) (corners_long m.points ups long)

-- a mark for each point
length-leans : (op : Op) (m : Mesh) → length (leans_of op m) ≡ length m.points
length-leans op m =
    length-map (normals_of m.points m.triples) (map (is_up op))
    ∙ length-map (upto (length m.points)) (vertex_normal m.points m.triples) ∙ length-up_from 0 (length m.points)

-- those of the first side
pub first_counted : (op : Op) (m : Mesh) → components_of (first_side op m) ≡ component_count (length (reduced_mesh m).points) (all_edges (reduced_mesh m).triples)
first_counted op m = counted (reduced_mesh m) (leans_of op (reduced_mesh m)) (length-leans op (reduced_mesh m))

-- those of the second
pub second_counted : (m : Mesh) → components_of (second_side m) ≡ component_count (length (reduced_mesh m).points) (all_edges (reduced_mesh m).triples)
second_counted m =
    counted (reduced_mesh m) (replicate (length (reduced_mesh m).points) (false ∷ false ∷ false ∷ []))
    (length-replicate (length (reduced_mesh m).points) (false ∷ false ∷ false ∷ []))
