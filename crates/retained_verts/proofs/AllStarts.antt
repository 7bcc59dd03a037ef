-- The starts of all lists of all faces are as many as the prescribed half-edges.
use Rattle.std.proofs.Common.{◌≡◌, ℕ, ◌+◌, ◌*◌, ◌/◌, ◌<◌, Bool, ℤ, pos, ◌+ℤ◌, ◌*ℤ◌, List, [], ◌++◌, length, get_or, nat_abs, int_lt, inl, inr, refl, arith, ap, sym, ◌∙◌}
use Rattle.std.specs.List.{All, flat_map, sum_by}
use Rattle.std.proofs.lemmas.Int.{ints}
use Rattle.std.proofs.lemmas.Bool.{cases_Bool}
use Rattle.std.proofs.lemmas.List.Elements.{All-weaker}
use Rattle.chain_terms.specs.Chains.{all_edges, one_if}
use Rattle.chain_terms.specs.Ranks.{twin}
use Rattle.chain_terms.specs.Sums.{total, upto}
use Rattle.chain_laws.specs.Counts.{total-count_by}
use Rattle.chain_laws.specs.Products.{total-times}
use Rattle.chain_laws.specs.Sums.{total-add, total-append, total-flat_map, total-map, total-same, total-same_all, total-swap, total-zero}
use Rattle.chain_laws.proofs.Places.{one_hit, total-places, total-upto_same, where_same}
use Rattle.mesh_terms.specs.Meshes.{Triple, HasThree, has}
use Rattle.mb_base.specs.declared.op.Op.{Op}
use Rattle.mb_base.specs.declared.results.Hit.{Hit}
use Rattle.mb_base.specs.declared.results.Origin.{Origin}
use Rattle.mb_base.specs.declared.results.Origin.TheVariants.{PVertex, QVertex, PEdge, QEdge}
use Rattle.side_terms.specs.Hits.{AreHits}
use Rattle.side_terms.specs.Sides.{Side, IsSide}
use Rattle.side_terms.specs.Lists.{Copy, ListName, lists_of_p, lists_of_q, no_copy, standing, starts}
use Rattle.side_terms.specs.Prescribed.{Prescription, Numbers, copies_of, copy_of, hit_count, hit_number_of, prescribed_hits, prescribed_vertices, p_hits, p_number, p_vertices, prescribed, prescribed_halfedges, q_hits, q_number, q_vertices, triples_at, vertex_halfedges}
use Rattle.side_terms.specs.Standing.{count_all_starts, count_starts, start_count}
use Rattle.retained_verts.proofs.Corners.{total_pos}
use Rattle.retained_verts.proofs.Origins.{IsFrom, all_from}
use Rattle.retained_verts.proofs.TwoLists.{corner_count, no_corner, p_count, p_starts, q_count, q_starts, two_faces}
use Rattle.retained_verts.proofs.Ways.{at_same_is, same}
use Rattle.retained_verts.proofs.Weights.{length-places, total-replicate}

-- the starts of some lists, copy by copy
by_copy : (p q : Side) (cs : List Copy) (names : List ListName) → pos (count_starts p q cs names) ≡ total (λ c. pos (start_count p q names c)) cs
by_copy p q cs names =
    let P = all_edges p.triples in
    let Q = all_edges q.triples in
    let test : ListName → Copy → Bool = λ name c. int_lt (pos 0) (standing P Q name c) in
    sym (total_pos (λ name. length (starts P Q cs name)) names)
    ∙ total-same (λ name. pos (length (starts P Q cs name))) (λ name. total (λ c. pos (one_if (test name c))) cs)
    (λ name. ap pos (length-places (test name) no_copy cs) ∙ sym (total-count_by (test name) cs)) names
    ∙ total-swap (λ name c. pos (one_if (test name c))) names cs
    ∙ total-same (λ c. total (λ name. pos (one_if (test name c))) names) (λ c. pos (start_count p q names c)) (λ c. total-count_by (λ name. test name c) names) cs

-- and of the lists of many faces
by_face : (p q : Side) (cs : List Copy) (lists : ℕ → List ListName) (n : ℕ) →
    pos (sum_by (λ f. count_starts p q cs (lists f)) (upto n)) ≡ total (λ c. total (λ f. pos (start_count p q (lists f) c)) (upto n)) cs
by_face p q cs lists n =
    sym (total_pos (λ f. count_starts p q cs (lists f)) (upto n))
    ∙ total-same (λ f. pos (count_starts p q cs (lists f))) (λ f. total (λ c. pos (start_count p q (lists f) c)) cs) (λ f. by_copy p q cs (lists f)) (upto n)
    ∙ total-swap (λ f c. pos (start_count p q (lists f) c)) (upto n) cs

-- in how many faces a copy is a start
abbrev faces_of : Side → Side → Origin → ℕ
faces_of p q (PVertex v) = triples_at p.triples v
faces_of p q (QVertex v) = triples_at q.triples v
faces_of p q (PEdge e g) = 3
faces_of p q (QEdge e f) = 3

-- the triangles that have a vertex
corner_sum : (t : Triple) (v : ℕ) → HasThree t → same t.0 v + (same t.1 v + same t.2 v) ≡ one_if (has t v)
corner_sum t v three = elim (cases_Bool (has t v)) as (λ _. same t.0 v + (same t.1 v + same t.2 v) ≡ one_if (has t v)) [
  | inl y ↦ corner_count t v three y ∙ sym (ap one_if y)
  | inr n ↦ no_corner t v n ∙ sym (ap one_if n)
]

corners_sum : (ts : List Triple) (v : ℕ) → All HasThree ts → total (λ f. let t = get_or ts f (0, 0, 0) in pos (same t.0 v + (same t.1 v + same t.2 v)))
    (upto (length ts)) ≡ pos (triples_at ts v)
corners_sum ts v three =
    let corners : Triple → ℤ = λ t. pos (same t.0 v + (same t.1 v + same t.2 v)) in
    sym (total-places corners (0, 0, 0) ts)
    ∙ total-same_all corners (λ t. pos (one_if (has t v))) ts (All-weaker HasThree (λ t. corners t ≡ pos (one_if (has t v))) (λ t h. ap pos (corner_sum t v h)) ts three)
    ∙ total-count_by (λ t. has t v) ts

-- one face among many
one_face : (a n : ℕ) → a < n → total (λ f. pos (same f a)) (upto n) ≡ pos 1
one_face a n below = total-same (λ f. pos (same f a)) (λ f. where_same f a (pos 1)) (λ f. sym (at_same_is f a)) (upto n) ∙ one_hit (pos 1) a n below

-- the two faces of an edge
two_of : (a b n : ℕ) → a < n → b < n → total (λ f. pos (same f a + same f b)) (upto n) ≡ pos 2
two_of a b n one other =
    let split = total-same (λ f. pos (same f a + same f b)) (λ f. pos (same f a) +ℤ pos (same f b)) (λ f. refl) (upto n) in
    omega (arith, ints, split, total-add (λ f. pos (same f a)) (λ f. pos (same f b)) (upto n), one_face a n one, one_face b n other)

-- over all faces of both sides
over_faces : (p q : Side) → IsSide p → IsSide q → (x : Origin) → IsFrom p q x →
    total (λ f. pos (p_count p q x f)) (upto (length p.triples)) +ℤ total (λ g. pos (q_count p q x g)) (upto (length q.triples)) ≡ pos (faces_of p q x)
over_faces p q p_known q_known (PVertex v) from = omega (arith, ints, corners_sum p.triples v p_known.accepted.mesh.three, total-zero (upto (length q.triples)))
over_faces p q p_known q_known (QVertex v) from = omega (arith, ints, corners_sum q.triples v q_known.accepted.mesh.three, total-zero (upto (length p.triples)))
over_faces p q p_known q_known (PEdge e g) from =
    let faces = two_faces p e p_known from.0 in
    omega (arith, ints, two_of (e / 3) (twin (all_edges p.triples) e / 3) (length p.triples) faces.one faces.other, one_face g (length q.triples) from.1)
over_faces p q p_known q_known (QEdge e f) from =
    let faces = two_faces q e q_known from.0 in
    omega (arith, ints, two_of (e / 3) (twin (all_edges q.triples) e / 3) (length q.triples) faces.one faces.other, one_face f (length p.triples) from.1)

-- of one copy
of_copy : (p q : Side) → IsSide p → IsSide q → (c : Copy) → IsFrom p q c.origin →
    total (λ f. pos (start_count p q (lists_of_p (length q.triples) f) c)) (upto (length p.triples)) +ℤ total
    (λ g. pos (start_count p q (lists_of_q (length p.triples) g) c)) (upto (length q.triples)) ≡ pos (faces_of p q c.origin)
of_copy p q p_known q_known c from =
    let m = length p.triples in
    let n = length q.triples in
    let at_p = total-upto_same (λ f. pos (start_count p q (lists_of_p n f) c)) (λ f. pos (p_count p q c.origin f)) m
    (λ f below. ap pos (p_starts p q p_known q_known c from f below)) in
    let at_q = total-upto_same (λ g. pos (start_count p q (lists_of_q m g) c)) (λ g. pos (q_count p q c.origin g)) n
    (λ g below. ap pos (q_starts p q p_known q_known c from g below)) in
    omega (arith, ints, at_p, at_q, over_faces p q p_known q_known c.origin from)

-- the copies of what is prescribed
of_prescriptions : (p q : Side) (is : List Prescription) →
    total (λ c. pos (faces_of p q c.origin)) (flat_map copies_of is) ≡ total (λ i. pos (nat_abs i.number * faces_of p q i.origin)) is
of_prescriptions p q is =
    total-flat_map (λ c. pos (faces_of p q c.origin)) copies_of is
    ∙ total-same (λ i. total (λ c. pos (faces_of p q c.origin)) (copies_of i)) (λ i. pos (nat_abs i.number * faces_of p q i.origin))
    (λ i. total-replicate (λ c. pos (faces_of p q c.origin)) (nat_abs i.number) (copy_of i) ∙ product (nat_abs i.number) (faces_of p q i.origin)) is
  where
    product : (a b : ℕ) → pos a *ℤ pos b ≡ pos (a * b)
    product a b = omega (arith, ints)

-- vertices and hits
of_vertices : (p q : Side) (origin : ℕ → Origin) (number : ℤ → ℤ) (ws : List ℤ) (ps : List (List ℤ)) (n : ℕ) (ts : List Triple) → n ≡ length ws →
    ((v : ℕ) → faces_of p q (origin v) ≡ triples_at ts v) →
    total (λ i. pos (nat_abs i.number * faces_of p q i.origin)) (prescribed_vertices origin number ws ps n) ≡ pos (vertex_halfedges number ws ts)
of_vertices p q origin number ws ps n ts long faces =
    let s : ℕ → ℕ = λ v. nat_abs (number (get_or ws v (pos 0))) in
    total-map (λ (i : Prescription). pos (nat_abs i.number * faces_of p q i.origin))
    (λ v. record { origin = origin v; number = number (get_or ws v (pos 0)); point = get_or ps v [] }) (upto n)
    ∙ total-same (λ v. pos (s v * faces_of p q (origin v))) (λ v. pos (s v * triples_at ts v)) (λ v. ap (λ k. pos (s v * k)) (faces v)) (upto n)
    ∙ ap (λ m. total (λ v. pos (s v * triples_at ts v)) (upto m)) long ∙ total_pos (λ v. s v * triples_at ts v) (upto (length ws))

of_hits : (p q : Side) (op : Op) (origin : ℕ → ℕ → Origin) (hs : List Hit) → ((e f : ℕ) → faces_of p q (origin e f) ≡ 3) →
    total (λ i. pos (nat_abs i.number * faces_of p q i.origin)) (prescribed_hits origin (hit_number_of op) hs) ≡ pos (3 * hit_count op hs)
of_hits p q op origin hs three =
    let s : Hit → ℕ = λ h. nat_abs (hit_number_of op h.number) in
    let listed = total-map (λ (i : Prescription). pos (nat_abs i.number * faces_of p q i.origin))
    (λ h. record { origin = origin h.edge h.face; number = hit_number_of op h.number; point = h.at }) hs in
    let each = total-same (λ h. pos (s h * faces_of p q (origin h.edge h.face))) (λ h. pos 3 *ℤ pos (s h)) (λ h. ap (λ k. pos (s h * k)) (three h.edge h.face) ∙ thrice (s h)) hs in
    omega (arith, ints, listed, each, total-times (pos 3) (λ h. pos (s h)) hs, total_pos s hs)
  where
    thrice : (n : ℕ) → pos (n * 3) ≡ pos 3 *ℤ pos n
    thrice n = omega (arith, ints)

-- so the half-edges are counted by the starts
pub all_starts : (op : Op) (p q : Side) (n : Numbers) → IsSide p → IsSide q → length n.w03 ≡ length p.corners → length n.w30 ≡ length q.corners →
    AreHits (all_edges p.triples) (length q.triples) n.x12 → AreHits (all_edges q.triples) (length p.triples) n.x21 →
    prescribed_halfedges op p q n ≡ count_all_starts p q (prescribed op p q n)
all_starts op p q n p_known q_known p_long q_long x12 x21 =
    let cs = prescribed op p q n in
    let pv = p_vertices op p n in
    let qv = q_vertices op q n in
    let ph = p_hits op n in
    let qh = q_hits op n in
    let w : Prescription → ℤ = λ i. pos (nat_abs i.number * faces_of p q i.origin) in
    let at_p : Copy → ℤ = λ c. total (λ f. pos (start_count p q (lists_of_p (length q.triples) f) c)) (upto (length p.triples)) in
    let at_q : Copy → ℤ = λ c. total (λ g. pos (start_count p q (lists_of_q (length p.triples) g) c)) (upto (length q.triples)) in
    let both = total-add at_p at_q cs in
    let each = total-same_all (λ c. at_p c +ℤ at_q c) (λ c. pos (faces_of p q c.origin)) cs
    (All-weaker (λ c. IsFrom p q c.origin) (λ c. at_p c +ℤ at_q c ≡ pos (faces_of p q c.origin)) (of_copy p q p_known q_known) cs (all_from op p q n x12 x21)) in
    let one : total w pv ≡ pos (vertex_halfedges (p_number op) n.w03 p.triples) = of_vertices p q PVertex (p_number op) n.w03 _ (length p.corners) p.triples
    (sym p_long) (λ v. refl) in
    let two : total w qv ≡ pos (vertex_halfedges (q_number op) n.w30 q.triples) = of_vertices p q QVertex (q_number op) n.w30 _ (length q.corners) q.triples
    (sym q_long) (λ v. refl) in
    let three : total w ph ≡ pos (3 * hit_count op n.x12) = of_hits p q op PEdge n.x12 (λ e f. refl) in
    let four : total w qh ≡ pos (3 * hit_count op n.x21) = of_hits p q op QEdge n.x21 (λ e f. refl) in
    omega (
      arith,
      ints,
      by_face p q cs (lists_of_p (length q.triples)) (length p.triples),
      by_face p q cs (lists_of_q (length p.triples)) (length q.triples),
      both,
      each,
      of_prescriptions p q (pv ++ (qv ++ (ph ++ qh))),
      total-append w pv (qv ++ (ph ++ qh)),
      total-append w qv (ph ++ qh),
      total-append w ph qh,
      one,
      two,
      three,
      four,
    )
