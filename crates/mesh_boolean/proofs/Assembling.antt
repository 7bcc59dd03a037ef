-- That numbers of two sides give vertices which can be assembled, and what then is assembled.
use Rattle.std.proofs.Common.{◌≡◌, ◌≤◌, ℕ, List, length, sym, ◌∙◌, ap, subst, arith}
use Rattle.std.proofs.lemmas.List.{length-map}
use Rattle.mb_base.specs.declared.op.Op.{Op}
use Rattle.mb_base.specs.declared.results.Hits.{Hits}
use Rattle.mb_base.specs.declared.results.Windings.{Windings}
use Rattle.mesh_check.specs.Reduced.{NoOpposite}
use Rattle.mesh_terms.specs.Limits.{IsLawful, Limits}
use Rattle.mesh_terms.specs.Meshes.{IsAccepted, triple_of, triples_of}
use Rattle.side_terms.specs.Sides.{IsSide, Side}
use Rattle.side_terms.specs.Lists.{Copy}
use Rattle.side_terms.specs.Standing.{StandInLists, count_all_starts}
use Rattle.retained_verts.specs.Handed.{AreBalanced, copies, numbers}
use Rattle.retained_verts.specs.declared.list.Prescribed.{Prescribed}
use Rattle.source_face_laws.proofs.Named.{are_named}
use Rattle.source_face_terms.specs.Assembling.{CanBeAssembled}
use Rattle.source_face_terms.specs.Filled.{all_filled, all_triples, forced_of, sources_of}
use Rattle.source_face_laws.specs.FillingLaws.{FacesAreFilled, FillingsAreAccepted, FillingsAreFew}
use Rattle.source_faces.specs.declared.triangles.SourceTriangles.{SourceTriangles}
use Rattle.mesh_boolean.specs.Assembly.{AreNumbers, IsAssembled}
use Rattle.retained_verts.specs.Listed.{ArePrescribed}

-- two sides without opposite triangles, with their numbers
pub record AreReady (p q : Side) (windings : Windings) (hits : Hits) : Type 0 where
  pub p_side : IsSide p
  pub q_side : IsSide q
  pub p_apart : NoOpposite p.triples
  pub q_apart : NoOpposite q.triples
  pub known : AreNumbers p q windings hits

-- the vertices that the numbers prescribe, within lawful limits
pub record ArePlaced (op : Op) (p q : Side) (windings : Windings) (hits : Hits) (l : Limits) (r : Prescribed) : Type 0 where
  pub prescribed : ArePrescribed op p q (numbers windings hits) r
  pub few : length r.origins.items ≤ r.halfedges
  pub within : r.halfedges ≤ l.halfedges
  pub lawful : IsLawful l
  pub two_lists : StandInLists p q (copies op p q windings hits)
  pub all_starts : r.halfedges ≡ count_all_starts p q (copies op p q windings hits)
  pub balance : AreBalanced op p q windings hits

-- there are at most sixty million half-edges
few_halfedges : (l : Limits) (n : ℕ) → IsLawful l → n ≤ l.halfedges → n ≤ 60000000
few_halfedges l n lawful within = omega (arith, within, lawful.triangles_enough, lawful.few_triangles)

-- as many points as copies
pub length-points : (op : Op) (p q : Side) (windings : Windings) (hits : Hits) (l : Limits) (r : Prescribed) → ArePlaced op p q windings hits l r →
    length r.points.items ≡ length (copies op p q windings hits)
length-points op p q windings hits l r placed = ap length placed.prescribed.points ∙ length-map (copies op p q windings hits) (λ c. c.point)

-- so they can be assembled
pub can_be_assembled : (op : Op) (p q : Side) (windings : Windings) (hits : Hits) (l : Limits) (r : Prescribed) → AreReady p q windings hits →
    ArePlaced op p q windings hits l r → CanBeAssembled p q (copies op p q windings hits)
can_be_assembled op p q windings hits l r ready placed = record {
  p_side = ready.p_side;
  q_side = ready.q_side;
  p_apart = ready.p_apart;
  q_apart = ready.q_apart;
  two_lists = placed.two_lists;
  balance = placed.balance;
  named = are_named op p q (numbers windings hits) ready.known.fit.x12 ready.known.fit.x21;
  few = omega (arith, few_halfedges l r.halfedges placed.lawful placed.within, placed.all_starts);
}

-- the laws of fillings
pub record AreLaws : Type 0 where
  pub filled : FacesAreFilled
  pub accepted : FillingsAreAccepted
  pub few : FillingsAreFew

-- the triangles of all faces
pub record AreTriangles (op : Op) (p q : Side) (windings : Windings) (hits : Hits) (all : SourceTriangles) : Type 0 where
  pub triples : triples_of all.triples.items ≡ all_triples (all_filled p q (copies op p q windings hits))
  pub source : all.source.items ≡ sources_of 0 (all_filled p q (copies op p q windings hits))
  pub forced : all.forced ≡ forced_of (all_filled p q (copies op p q windings hits))

-- are assembled from the vertices
pub is_assembled : (op : Op) (p q : Side) (windings : Windings) (hits : Hits) (l : Limits) (r : Prescribed) (all : SourceTriangles) →
    AreReady p q windings hits → ArePlaced op p q windings hits l r → AreLaws → AreTriangles op p q windings hits all →
    IsAssembled op p q (numbers windings hits) r all
is_assembled op p q windings hits l r all ready placed laws made = record {
  prescribed = placed.prescribed;
  triples = made.triples;
  source = made.source;
  forced = made.forced;
  fillings = laws.filled p q cs can;
  accepted = subst (λ n. IsAccepted n (triples_of all.triples.items)) (sym (length-points op p q windings hits l r placed))
      (subst (IsAccepted (length cs)) (sym made.triples) (laws.accepted p q cs can));
  few =
      let most = (laws.few p q cs can).0 in
      omega (arith, most, ap length made.triples, length-map all.triples.items triple_of, placed.all_starts);
}
  where
    cs : List Copy
    cs = copies op p q windings hits

    can : CanBeAssembled p q (copies op p q windings hits)
    can = can_be_assembled op p q windings hits l r ready placed
