-- What an operation makes of two sides with conserved numbers: an accepted mesh at points of the grid, not much longer than prescribed.
use Rattle.std.proofs.Common.{◌≡◌, ◌≤◌, ◌*◌, ℕ, ℤ, pos, nat_abs, List, [], ◌∷◌, ◌++◌, length, get_or, sym, ap, subst, arith}
use Rattle.std.specs.List.{All, flat_map}
use Rattle.std.proofs.lemmas.List.{length-map}
use Rattle.std.proofs.lemmas.List.Elements.{All-append, All-head, All-map, All-nil, All-replicate, All-tail}
use Rattle.chain_terms.specs.Chains.{all_edges}
use Rattle.chain_terms.specs.Sums.{upto}
use Rattle.mesh_terms.specs.Limits.{most_halfedges}
use Rattle.mb_base.specs.declared.op.Op.{Op}
use Rattle.mb_base.specs.declared.results.Hit.{Hit}
use Rattle.mb_base.specs.declared.results.Origin.{Origin}
use Rattle.mb_base.specs.declared.results.Origin.TheVariants.{PVertex, QVertex, PEdge, QEdge}
use Rattle.mesh_terms.specs.Labels.{AreLabels, IsLabel}
use Rattle.mesh_terms.specs.Meshes.{IsAccepted, Triple}
use Rattle.mesh_terms.specs.Points.{IsPoint}
use Rattle.side_terms.specs.Hits.{AreHits}
use Rattle.side_terms.specs.Sides.{Side}
use Rattle.side_terms.specs.Lists.{Copy}
use Rattle.side_terms.specs.Points.{point_of, points_of}
use Rattle.side_terms.specs.Prescribed.{Prescription, Numbers, copies_of, copy_of, hit_number_of, prescribed_hits}
use Rattle.side_terms.specs.Prescribed.{prescribed_vertices, p_hits, p_number, p_vertices, prescribed}
use Rattle.side_terms.specs.Prescribed.{prescribed_halfedges, q_hits, q_number, q_vertices}
use Rattle.side_terms.specs.Standing.{AreConserved}
use Rattle.retained_verts.proofs.AllStarts.{all_starts}
use Rattle.retained_verts.proofs.Balance.{balanced}
use Rattle.retained_verts.proofs.TwoLists.{stand_in_lists}
use Rattle.source_face_laws.proofs.FaceLists.{all_upto}
use Rattle.source_face_laws.proofs.Named.{are_named}
use Rattle.source_face_terms.specs.Assembling.{CanBeAssembled}
use Rattle.source_face_terms.specs.Filled.{all_filled, all_triples, points_of_copies, sources_of}
use Rattle.source_face_laws.specs.FillingLaws.{FillingsAreAccepted, FillingsAreFew}
use Rattle.mesh_boolean.specs.Operation.{Outcome, outcome_of}
use Rattle.mesh_boolean.proofs.Parts.{length-sources}
use Rattle.pinch_split.specs.Split.{split_points, split_triples}
use Rattle.split_laws.proofs.Labels.{of_sources}
use Rattle.operation_laws.proofs.ReducedSides.{IsKnown}
use Rattle.split_laws.proofs.SplitMesh.{IsSplit, is_split}

-- what the numbers of two sides are known to be
pub record AreNumbersOf (p q : Side) (n : Numbers) : Type 0 where
  pub w03 : length n.w03 ≡ length p.corners
  pub w30 : length n.w30 ≡ length q.corners
  pub x12 : AreHits (all_edges p.triples) (length q.triples) n.x12
  pub x21 : AreHits (all_edges q.triples) (length p.triples) n.x21
  pub conserved : AreConserved p q n
  pub x12_on_grid : All (λ h. IsPoint h.at) n.x12
  pub x21_on_grid : All (λ h. IsPoint h.at) n.x21

-- the laws of fillings that are cited
pub record AreFilled : Type 0 where
  pub accepted : FillingsAreAccepted
  pub few : FillingsAreFew

-- an accepted mesh at points of the grid, with labels, with at most five triangles for three half-edges and three points for two triangles
pub record IsMade (o : Outcome) : Type 0 where
  pub accepted : IsAccepted (length o.points) o.triples
  pub on_grid : All IsPoint o.points
  pub few_triples : 3 * length o.triples ≤ 5 * o.halfedges
  pub few_points : 2 * length o.points ≤ 3 * length o.triples
  pub labels : AreLabels (length o.triples) o.labels

-- so the vertices that they prescribe can be assembled
pub can_be_assembled : (op : Op) (p q : Side) (n : Numbers) → IsKnown p → IsKnown q → AreNumbersOf p q n →
    prescribed_halfedges op p q n ≤ most_halfedges → CanBeAssembled p q (prescribed op p q n)
can_be_assembled op p q n p_known q_known known few = record {
  p_side = p_known.kept;
  q_side = q_known.kept;
  p_apart = p_known.apart;
  q_apart = q_known.apart;
  two_lists = stand_in_lists op p q n p_known.kept q_known.kept known.x12 known.x21;
  balance = balanced op p q n p_known.kept q_known.kept known.x12 known.x21 known.conserved;
  named = are_named op p q n known.x12 known.x21;
  few = omega (arith, few, all_starts op p q n p_known.kept q_known.kept known.w03 known.w30 known.x12 known.x21);
}

-- what holds of the point of each that is prescribed holds of the points of all copies
copies_at : (is : List Prescription) → All (λ i. IsPoint i.point) is → All (λ c. IsPoint c.point) (flat_map copies_of is)
copies_at [] on = All-nil (λ c. IsPoint c.point)
copies_at (i ∷ is) on =
    All-append (λ c. IsPoint c.point) (copies_of i) (flat_map copies_of is)
    (All-replicate (λ c. IsPoint c.point) (nat_abs i.number) (copy_of i) (All-head (λ k. IsPoint k.point) i is on))
    (copies_at is (All-tail (λ k. IsPoint k.point) i is on))

-- the points of vertices
vertices_at : (origin : ℕ → Origin) (number : ℤ → ℤ) (ws : List ℤ) (points : List (List ℤ)) (n : ℕ) → n ≤ length points → All IsPoint points →
    All (λ i. IsPoint i.point) (prescribed_vertices origin number ws points n)
vertices_at origin number ws points n few on =
    All-map (λ i. IsPoint i.point) (λ v. record { origin = origin v; number = number (get_or ws v (pos 0)); point = get_or points v [] }) (upto n)
    (all_upto (λ v. IsPoint (get_or points v [])) n (λ v below. on v [] (omega (arith, few, below))))

-- and of hits
hits_at : (origin : ℕ → ℕ → Origin) (number : ℤ → ℤ) (hs : List Hit) → All (λ h. IsPoint h.at) hs → All (λ i. IsPoint i.point) (prescribed_hits origin number hs)
hits_at origin number hs on = All-map (λ i. IsPoint i.point) (λ h. record { origin = origin h.edge h.face; number = number h.number; point = h.at }) hs on

-- the prescribed vertices lie on the grid
pub prescribed_at : (op : Op) (p q : Side) (n : Numbers) → IsKnown p → IsKnown q → AreNumbersOf p q n → All IsPoint (points_of_copies (prescribed op p q n))
prescribed_at op p q n p_known q_known known =
    let On : Prescription → Type 0 = λ i. IsPoint i.point in
    let pv = vertices_at PVertex (p_number op) n.w03 (points_of p.corners) (length p.corners) (omega (arith, length-map p.corners point_of)) p_known.on_grid in
    let qv = vertices_at QVertex (q_number op) n.w30 (points_of q.corners) (length q.corners) (omega (arith, length-map q.corners point_of)) q_known.on_grid in
    let ph = hits_at PEdge (hit_number_of op) n.x12 known.x12_on_grid in
    let qh = hits_at QEdge (hit_number_of op) n.x21 known.x21_on_grid in
    let all =
    All-append On (p_vertices op p n) (q_vertices op q n ++ (p_hits op n ++ q_hits op n)) pv
    (All-append On (q_vertices op q n) (p_hits op n ++ q_hits op n) qv (All-append On (p_hits op n) (q_hits op n) ph qh)) in
    All-map IsPoint (λ c. c.point) (prescribed op p q n) (copies_at (p_vertices op p n ++ (q_vertices op q n ++ (p_hits op n ++ q_hits op n))) all)

-- the fillings of all faces, over one vertex for each fan
pub fillings_split : AreFilled → (op : Op) (p q : Side) (n : Numbers) → IsKnown p → IsKnown q → AreNumbersOf p q n → prescribed_halfedges op p q n ≤ most_halfedges
    → IsSplit (points_of_copies (prescribed op p q n)) (all_triples (all_filled p q (prescribed op p q n)))
fillings_split laws op p q n p_known q_known known few =
    let cs : List Copy = prescribed op p q n in
    let ts : List Triple = all_triples (all_filled p q cs) in
    let count : length (points_of_copies cs) ≡ length cs = length-map cs (λ c. c.point) in
    is_split (points_of_copies cs) ts (subst (λ k. IsAccepted k ts) (sym count) (laws.accepted p q cs (can_be_assembled op p q n p_known q_known known few)))

-- what is made of the sides
pub is_made : AreFilled → (labels : List (List ℕ)) → All IsLabel labels → (op : Op) (p q : Side) (n : Numbers) → IsKnown p → IsKnown q →
    AreNumbersOf p q n → prescribed_halfedges op p q n ≤ most_halfedges → IsMade (outcome_of labels op p q n)
is_made laws labels are op p q n p_known q_known known few =
    let cs : List Copy = prescribed op p q n in
    let ts : List Triple = all_triples (all_filled p q cs) in
    let points = points_of_copies cs in
    let count : length points ≡ length cs = length-map cs (λ c. c.point) in
    let can = can_be_assembled op p q n p_known q_known known few in
    let split = fillings_split laws op p q n p_known q_known known few in
    let same : split_triples (length points) ts ≡ split_triples (length cs) ts = ap (λ k. split_triples k ts) count in record {
      accepted = subst (IsAccepted (length (split_points points ts))) same split.accepted;
      on_grid = split.on_grid (prescribed_at op p q n p_known q_known known);
      few_triples =
          omega (arith, (laws.few p q cs can).0, split.as_many, ap length same, all_starts op p q n p_known.kept q_known.kept known.w03 known.w30 known.x12 known.x21);
      few_points = omega (arith, split.few, split.as_many, ap length same);
      labels = of_sources labels are (sources_of 0 (all_filled p q cs)) (length (split_triples (length cs) ts))
          (omega (arith, length-sources 0 (all_filled p q cs), split.as_many, ap length same));
    }
