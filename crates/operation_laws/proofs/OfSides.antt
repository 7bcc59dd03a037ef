-- What an operation makes of two sides with conserved numbers comes from the prescribed vertices, face by face, and is clean.
use Rattle.std.proofs.Common.{◌≡◌, ◌≤◌, ℕ, List, length, map, refl, subst}
use Rattle.std.proofs.lemmas.List.{length-map}
use Rattle.chain_terms.specs.Chains.{all_edges}
use Rattle.halfedge.specs.Clean.{IsClean}
use Rattle.mb_base.specs.declared.op.Op.{Op}
use Rattle.mesh_terms.specs.Limits.{most_halfedges}
use Rattle.mesh_terms.specs.Meshes.{IsAccepted, Triple}
use Rattle.mesh_terms.specs.Twins.{twins_of}
use Rattle.side_terms.specs.Sides.{Side}
use Rattle.side_terms.specs.Lists.{Copy}
use Rattle.side_terms.specs.Prescribed.{Numbers, prescribed, prescribed_halfedges}
use Rattle.source_face_terms.specs.Filled.{all_filled, all_triples, points_of_copies, sources_of}
use Rattle.source_face_laws.specs.FillingLaws.{FacesAreFilled}
use Rattle.pinch_split.specs.Back.{ComeFrom, named_by}
use Rattle.pinch_split.specs.Split.{split_from, split_points, split_triples}
use Rattle.mesh_boolean.specs.Operation.{Outcome, outcome_of}
use Rattle.mesh_boolean.specs.Results.{AreBounded, IsCleanOver}
use Rattle.mesh_boolean.proofs.Faces.{are_bounded}
use Rattle.mesh_boolean.proofs.Pairs.{is_clean_over}
use Rattle.operation_laws.proofs.Made.{AreFilled, AreNumbersOf, can_be_assembled, fillings_split}
use Rattle.operation_laws.proofs.ReducedSides.{IsKnown}

-- where its vertices come from, what bounds its faces, and its fans
pub record IsResultOfSides (p q : Side) (o : Outcome) : Type 0 where
  pub from : ComeFrom o.points (points_of_copies o.copies) o.from
  pub faces : AreBounded p q o.copies o.from o.source o.triples
  pub clean : IsCleanOver o.from o.triples

pub result_of_sides : AreFilled → FacesAreFilled → (labels : List (List ℕ)) → (op : Op) (p q : Side) (n : Numbers) → IsKnown p → IsKnown q → AreNumbersOf p q n
    → prescribed_halfedges op p q n ≤ most_halfedges → IsResultOfSides p q (outcome_of labels op p q n)
result_of_sides laws filled labels op p q n p_known q_known known few =
    let cs : List Copy = prescribed op p q n in
    let ts : List Triple = all_triples (all_filled p q cs) in
    let points = points_of_copies cs in
    let count : length points ≡ length cs = length-map cs (λ c. c.point) in
    let split = fillings_split laws op p q n p_known q_known known few in
    let back : map (named_by (split_from (length cs) ts)) (split_triples (length cs) ts) ≡ ts =
    subst (λ k. map (named_by (split_from k ts)) (split_triples k ts) ≡ ts) count split.back in record {
      from = subst (λ k. ComeFrom (split_points points ts) points (split_from k ts)) count split.from;
      faces = are_bounded p q cs (split_from (length cs) ts) (sources_of 0 (all_filled p q cs)) (split_triples (length cs) ts)
          (filled p q cs (can_be_assembled op p q n p_known q_known known few)) refl back;
      clean =
          is_clean_over (length (split_points points ts)) (split_from (length cs) ts) (split_triples (length cs) ts) ts
          (subst (λ k. IsAccepted (length (split_points points ts)) (split_triples k ts)) count split.accepted)
          (subst (λ k. IsClean (all_edges (split_triples k ts))) count split.clean) (subst (λ k. twins_of (split_triples k ts) ≡ twins_of ts) count split.twins) back;
    }
