-- Each copy stands in none or two of the lists of each source face, and in two of some face.
use Rattle.std.proofs.Common.{◌≡◌, ℕ, ◌+◌, ◌*◌, ◌/◌, ◌<◌, ◌≤◌, ◌⊎◌, inl, inr, Bool, true, false, cond, ◌==◌, ◌||◌, ℤ, pos, neg_ℤ, List, length, get_or, int_lt, count_by, refl, arith, ap, sym, ◌∙◌, subst}
use Rattle.std.proofs.lemmas.Int.{ints}
use Rattle.std.proofs.lemmas.Bool.{cases_eq, eq-eqb, ne_eqb, eqb-false, eqb-true, or_cases, or_parts}
use Rattle.std.proofs.lemmas.List.Elements.{All-weaker}
use Rattle.chain_terms.specs.Chains.{all_edges, one_if}
use Rattle.chain_terms.specs.Ranks.{twin}
use Rattle.chain_laws.specs.Counts.{total-count_by}
use Rattle.chain_laws.specs.Sums.{total-same}
use Rattle.halfedge.proofs.Around.{pair_up}
use Rattle.halfedge.proofs.Edges.{length-all_edges}
use Rattle.mesh_terms.specs.Meshes.{Triple, HasThree, has}
use Rattle.mb_base.specs.declared.op.Op.{Op}
use Rattle.mb_base.specs.declared.results.Origin.{Origin}
use Rattle.mb_base.specs.declared.results.Origin.TheVariants.{PVertex, QVertex, PEdge, QEdge}
use Rattle.side_terms.specs.Hits.{AreHits}
use Rattle.side_terms.specs.Sides.{Side, IsSide}
use Rattle.side_terms.specs.Lists.{Copy, ListName, HalfP, HalfQ, PairP, PairQ, incidence, lists_of_p, lists_of_q, way_round}
use Rattle.side_terms.specs.Prescribed.{Numbers, prescribed}
use Rattle.side_terms.specs.Standing.{StandInLists, StandsInNone, StandsInTwo, StandsSomewhere, start_count}
use Rattle.retained_verts.proofs.Faces.{CountsTo, at_most_one, counted_none, edge_counts, face_counts, vertex_counts}
use Rattle.retained_verts.proofs.Origins.{IsFrom, all_from, passes}
use Rattle.retained_verts.proofs.Units.{above_neg, below_neg}
use Rattle.retained_verts.proofs.Ways.{not_both, same, same_few, same_no, same_yes}

-- tests that agree have one count
count_alike : {X : Type 0} (s t : X → Bool) → ((x : X) → s x ≡ t x) → (xs : List X) → count_by s xs ≡ count_by t xs
count_alike s t h xs =
    omega (arith, ints, total-same (λ x. pos (one_if (s x))) (λ x. pos (one_if (t x))) (λ x. ap (λ b. pos (one_if b)) (h x)) xs, total-count_by s xs, total-count_by t xs)

-- in how many of the lists a copy's origin stands either way
abbrev Counts : Side → Side → List ListName → Origin → ℕ → Type 0
Counts p q names x s = CountsTo (λ name. incidence (all_edges p.triples) (all_edges q.triples) name x) names s

-- so stands the copy, whatever its sign
signed : (value : ListName → ℤ) (names : List ListName) (s : ℕ) → CountsTo value names s → (b : Bool) →
    (count_by (λ name. int_lt (pos 0) (cond b (neg_ℤ (value name)) (value name))) names
    ≡ s) × (count_by (λ name. int_lt (cond b (neg_ℤ (value name)) (value name)) (pos 0)) names ≡ s)
signed value names s known true = (
  count_alike (λ name. int_lt (pos 0) (neg_ℤ (value name))) (λ name. int_lt (value name) (pos 0)) (λ name. above_neg (value name)) names ∙ known.downs,
  count_alike (λ name. int_lt (neg_ℤ (value name)) (pos 0)) (λ name. int_lt (pos 0) (value name)) (λ name. below_neg (value name)) names ∙ known.ups,
)
signed value names s known false = (known.ups, known.downs)

in_two : (p q : Side) (names : List ListName) (c : Copy) → Counts p q names c.origin 1 → StandsInTwo p q names c
in_two p q names c known =
    let both = signed (λ name. incidence (all_edges p.triples) (all_edges q.triples) name c.origin) names 1 known c.negative in
    record { one_start = both.0; one_end = both.1 }

in_none : (p q : Side) (names : List ListName) (c : Copy) → Counts p q names c.origin 0 → StandsInNone p q names c
in_none p q names c known =
    let both = signed (λ name. incidence (all_edges p.triples) (all_edges q.triples) name c.origin) names 0 known c.negative in
    record { no_start = both.0; no_end = both.1 }

none_or_two : (p q : Side) (names : List ListName) (c : Copy) (s : ℕ) → s ≤ 1 → Counts p q names c.origin s → StandsInNone p q names c ⊎ StandsInTwo p q names c
none_or_two p q names c s few known = elim (cases_eq s 0) as (λ _. StandsInNone p q names c ⊎ StandsInTwo p q names c) [
  | inl e ↦ inl (in_none p q names c (subst (λ (k : ℕ). Counts p q names c.origin k) e known))
  | inr d ↦ let one : s ≡ 1 = omega (arith, d, few) in inr (in_two p q names c (subst (λ (k : ℕ). Counts p q names c.origin k) one known))
]

-- the triangle of a face has three different vertices
three_at : (side : Side) (f : ℕ) → IsSide side → f < length side.triples → HasThree (get_or side.triples f (0, 0, 0))
three_at side f known below = known.accepted.mesh.three f (0, 0, 0) below

-- the two faces of an edge are different faces of the side
pub record TwoFaces (side : Side) (e : ℕ) : Type 0 where
  pub apart : e / 3 ≡ twin (all_edges side.triples) e / 3 → ⊥
  pub one : e / 3 < length side.triples
  pub other : twin (all_edges side.triples) e / 3 < length side.triples

pub two_faces : (side : Side) (e : ℕ) → IsSide side → e < length (all_edges side.triples) → TwoFaces side e
two_faces side e known below =
    let pairs = pair_up side.triples known.accepted.mesh.three known.accepted.closed in
    let back = (pairs.run_back e below).within in
    let long = length-all_edges side.triples in
    record { apart = λ same. pairs.other e below (sym same); one = omega (arith, below, long); other = omega (arith, back, long) }

-- of how many lists of a face of P a copy is a start, and of as many an end
abbrev pub p_count : Side → Side → Origin → ℕ → ℕ
p_count p q (PVertex v) f = let t = get_or p.triples f (0, 0, 0) in same t.0 v + (same t.1 v + same t.2 v)
p_count p q (QVertex v) f = 0
p_count p q (PEdge e g) f = same f (e / 3) + same f (twin (all_edges p.triples) e / 3)
p_count p q (QEdge e face) f = same f face

-- and of a face of Q
abbrev pub q_count : Side → Side → Origin → ℕ → ℕ
q_count p q (PVertex v) g = 0
q_count p q (QVertex v) g = let t = get_or q.triples g (0, 0, 0) in same t.0 v + (same t.1 v + same t.2 v)
q_count p q (PEdge e face) g = same g face
q_count p q (QEdge e f) g = same g (e / 3) + same g (twin (all_edges q.triples) e / 3)

-- both are at most 1
p_few : (p q : Side) → IsSide p → IsSide q → (x : Origin) → IsFrom p q x → (f : ℕ) → f < length p.triples → p_count p q x f ≤ 1
p_few p q p_known q_known (PVertex v) from f below = at_most_one (get_or p.triples f (0, 0, 0)) v (three_at p f p_known below)
p_few p q p_known q_known (QVertex v) from f below = omega arith
p_few p q p_known q_known (PEdge e g) from f below = not_both f (e / 3) (twin (all_edges p.triples) e / 3) (two_faces p e p_known from.0).apart
p_few p q p_known q_known (QEdge e face) from f below = same_few f face

q_few : (p q : Side) → IsSide p → IsSide q → (x : Origin) → IsFrom p q x → (g : ℕ) → g < length q.triples → q_count p q x g ≤ 1
q_few p q p_known q_known (PVertex v) from g below = omega arith
q_few p q p_known q_known (QVertex v) from g below = at_most_one (get_or q.triples g (0, 0, 0)) v (three_at q g q_known below)
q_few p q p_known q_known (PEdge e face) from g below = same_few g face
q_few p q p_known q_known (QEdge e f) from g below = not_both g (e / 3) (twin (all_edges q.triples) e / 3) (two_faces q e q_known from.0).apart

-- in the lists of a face of P
in_p_face : (p q : Side) → IsSide p → IsSide q → (x : Origin) → IsFrom p q x → (f : ℕ) → f < length p.triples → Counts p q (lists_of_p (length q.triples) f) x (p_count p q x f)
in_p_face p q p_known q_known (PVertex v) from f below =
    vertex_counts (λ name. incidence (all_edges p.triples) (all_edges q.triples) name (PVertex v)) (λ i. HalfP (3 * f + i)) (PairP f)
    (length q.triples) p.triples f v below (three_at p f p_known below) (λ i. refl) (λ k. refl)
in_p_face p q p_known q_known (QVertex v) from f below =
    counted_none (λ name. incidence (all_edges p.triples) (all_edges q.triples) name (QVertex v)) (λ i. HalfP (3 * f + i)) (PairP f) (length q.triples)
    (λ i. refl) (λ k. refl)
in_p_face p q p_known q_known (PEdge e g) from f below =
    let es = all_edges p.triples in
    let faces = two_faces p e p_known from.0 in
    edge_counts (λ name. incidence es (all_edges q.triples) name (PEdge e g)) (λ i. HalfP (3 * f + i)) (PairP f) (length q.triples) es f e g from.1 faces.apart
    (λ i. refl) (λ k. refl)
in_p_face p q p_known q_known (QEdge e face) from f below =
    let es = all_edges q.triples in
    let faces = two_faces q e q_known from.0 in
    let value : ListName → ℤ = λ name. incidence (all_edges p.triples) es name (QEdge e face) in
    let names = lists_of_p (length q.triples) f in
    elim (cases_eq face f) as (λ _. CountsTo value names (same f face)) [
      | inl y ↦ subst (λ (s : ℕ). CountsTo value names s) (sym (same_yes f face (sym y)))
          (face_counts value (λ i. HalfP (3 * f + i)) (PairP f) (length q.triples) es e faces.one faces.other faces.apart (λ i. refl)
          (λ k. ap (λ t. cond t (neg_ℤ (way_round es k e)) (pos 0)) (eq-eqb face f y)))
      | inr n ↦ subst (λ (s : ℕ). CountsTo value names s) (sym (same_no f face (λ x. n (sym x))))
          (counted_none value (λ i. HalfP (3 * f + i)) (PairP f) (length q.triples) (λ i. refl) (λ k. ap (λ t. cond t (neg_ℤ (way_round es k e)) (pos 0)) (ne_eqb face f n)))
    ]

-- twice a minus
minus_twice : (t : Bool) (w : ℤ) → neg_ℤ (cond t (neg_ℤ w) (pos 0)) ≡ cond t w (pos 0)
minus_twice true w = omega (arith, ints)
minus_twice false w = refl

-- in the lists of a face of Q
in_q_face : (p q : Side) → IsSide p → IsSide q → (x : Origin) → IsFrom p q x → (g : ℕ) → g < length q.triples → Counts p q (lists_of_q (length p.triples) g) x (q_count p q x g)
in_q_face p q p_known q_known (PVertex v) from g below =
    counted_none (λ name. incidence (all_edges p.triples) (all_edges q.triples) name (PVertex v)) (λ i. HalfQ (3 * g + i)) (PairQ g) (length p.triples)
    (λ i. refl) (λ k. refl)
in_q_face p q p_known q_known (QVertex v) from g below =
    vertex_counts (λ name. incidence (all_edges p.triples) (all_edges q.triples) name (QVertex v)) (λ i. HalfQ (3 * g + i)) (PairQ g)
    (length p.triples) q.triples g v below (three_at q g q_known below) (λ i. refl) (λ k. refl)
in_q_face p q p_known q_known (PEdge e face) from g below =
    let es = all_edges p.triples in
    let faces = two_faces p e p_known from.0 in
    let value : ListName → ℤ = λ name. incidence es (all_edges q.triples) name (PEdge e face) in
    let names = lists_of_q (length p.triples) g in
    elim (cases_eq face g) as (λ _. CountsTo value names (same g face)) [
      | inl y ↦ subst (λ (s : ℕ). CountsTo value names s) (sym (same_yes g face (sym y)))
          (face_counts value (λ i. HalfQ (3 * g + i)) (PairQ g) (length p.triples) es e faces.one faces.other faces.apart (λ i. refl)
          (λ k. ap (λ t. neg_ℤ (cond t (way_round es k e) (pos 0))) (eq-eqb face g y)))
      | inr n ↦ subst (λ (s : ℕ). CountsTo value names s) (sym (same_no g face (λ x. n (sym x))))
          (counted_none value (λ i. HalfQ (3 * g + i)) (PairQ g) (length p.triples) (λ i. refl) (λ k. ap (λ t. neg_ℤ (cond t (way_round es k e) (pos 0))) (ne_eqb face g n)))
    ]
in_q_face p q p_known q_known (QEdge e face) from g below =
    let es = all_edges q.triples in
    let faces = two_faces q e q_known from.0 in
    edge_counts (λ name. incidence (all_edges p.triples) es name (QEdge e face)) (λ i. HalfQ (3 * g + i)) (PairQ g) (length p.triples) es g e face from.1
    faces.apart (λ i. refl) (λ k. minus_twice (face == k) (way_round es g e))

-- so stands a copy: as a start of so many lists of a face
pub p_starts : (p q : Side) → IsSide p → IsSide q → (c : Copy) → IsFrom p q c.origin → (f : ℕ) → f < length p.triples →
    start_count p q (lists_of_p (length q.triples) f) c ≡ p_count p q c.origin f
p_starts p q p_known q_known c from f below =
    (signed (λ name. incidence (all_edges p.triples) (all_edges q.triples) name c.origin) (lists_of_p (length q.triples) f) (p_count p q c.origin f)
    (in_p_face p q p_known q_known c.origin from f below) c.negative).0

pub q_starts : (p q : Side) → IsSide p → IsSide q → (c : Copy) → IsFrom p q c.origin → (g : ℕ) → g < length q.triples →
    start_count p q (lists_of_q (length p.triples) g) c ≡ q_count p q c.origin g
q_starts p q p_known q_known c from g below =
    (signed (λ name. incidence (all_edges p.triples) (all_edges q.triples) name c.origin) (lists_of_q (length p.triples) g) (q_count p q c.origin g)
    (in_q_face p q p_known q_known c.origin from g below) c.negative).0

-- a triangle that has a vertex
pub corner_count : (t : Triple) (v : ℕ) → HasThree t → has t v ≡ true → same t.0 v + (same t.1 v + same t.2 v) ≡ 1
corner_count t v three h =
    let few = at_most_one t v three in
    elim (or_cases ((t.0 == v) || (t.1 == v)) (t.2 == v) h) as (λ _. same t.0 v + (same t.1 v + same t.2 v) ≡ 1) [
      | inl r ↦ elim (or_cases (t.0 == v) (t.1 == v) r) as (λ _. same t.0 v + (same t.1 v + same t.2 v) ≡ 1) [
        | inl a ↦ omega (arith, few, same_yes t.0 v (eqb-true t.0 v a))
        | inr b ↦ omega (arith, few, same_yes t.1 v (eqb-true t.1 v b))
      ]
      | inr c ↦ omega (arith, few, same_yes t.2 v (eqb-true t.2 v c))
    ]

-- one that has it not
pub no_corner : (t : Triple) (v : ℕ) → has t v ≡ false → same t.0 v + (same t.1 v + same t.2 v) ≡ 0
no_corner t v h =
    let two = or_parts ((t.0 == v) || (t.1 == v)) (t.2 == v) h in
    let one = or_parts (t.0 == v) (t.1 == v) two.0 in
    omega (arith, same_no t.0 v (eqb-false t.0 v one.0), same_no t.1 v (eqb-false t.1 v one.1), same_no t.2 v (eqb-false t.2 v two.1))

-- a copy of anything of the sides stands in two lists of some face
somewhere : (p q : Side) → IsSide p → IsSide q → (c : Copy) (x : Origin) → c.origin ≡ x → IsFrom p q x → StandsSomewhere p q c
somewhere p q p_known q_known c (PVertex v) e from =
    let found = passes (λ t. has t v) p.triples (0, 0, 0) (p_known.accepted.mesh.used v from) in
    let f = found.place in
    let three = three_at p f p_known found.within in
    let counts = vertex_counts (λ name. incidence (all_edges p.triples) (all_edges q.triples) name (PVertex v)) (λ i. HalfP (3 * f + i)) (PairP f)
    (length q.triples) p.triples f v found.within three (λ i. refl) (λ k. refl) in
    let one = corner_count (get_or p.triples f (0, 0, 0)) v three found.holds in
    inl (f, found.within, (in_two p q (lists_of_p (length q.triples) f) c (rw e (subst (λ (s : ℕ). Counts p q (lists_of_p (length q.triples) f) (PVertex v) s) one counts))))
somewhere p q p_known q_known c (QVertex v) e from =
    let found = passes (λ t. has t v) q.triples (0, 0, 0) (q_known.accepted.mesh.used v from) in
    let g = found.place in
    let three = three_at q g q_known found.within in
    let counts = vertex_counts (λ name. incidence (all_edges p.triples) (all_edges q.triples) name (QVertex v)) (λ i. HalfQ (3 * g + i)) (PairQ g)
    (length p.triples) q.triples g v found.within three (λ i. refl) (λ k. refl) in
    let one = corner_count (get_or q.triples g (0, 0, 0)) v three found.holds in
    inr (g, found.within, (in_two p q (lists_of_q (length p.triples) g) c (rw e (subst (λ (s : ℕ). Counts p q (lists_of_q (length p.triples) g) (QVertex v) s) one counts))))
somewhere p q p_known q_known c (PEdge edge g) e from =
    let es = all_edges p.triples in
    let faces = two_faces p edge p_known from.0 in
    let counts = face_counts (λ name. incidence es (all_edges q.triples) name (PEdge edge g)) (λ i. HalfQ (3 * g + i)) (PairQ g)
    (length p.triples) es edge faces.one faces.other faces.apart (λ i. refl) (λ k. ap (λ t. neg_ℤ (cond t (way_round es k edge) (pos 0))) (eq-eqb g g refl)) in
    inr (g, from.1, (in_two p q (lists_of_q (length p.triples) g) c (rw e counts)))
somewhere p q p_known q_known c (QEdge edge f) e from =
    let es = all_edges q.triples in
    let faces = two_faces q edge q_known from.0 in
    let counts = face_counts (λ name. incidence (all_edges p.triples) es name (QEdge edge f)) (λ i. HalfP (3 * f + i)) (PairP f)
    (length q.triples) es edge faces.one faces.other faces.apart (λ i. refl) (λ k. ap (λ t. cond t (neg_ℤ (way_round es k edge)) (pos 0)) (eq-eqb f f refl)) in
    inl (f, from.1, (in_two p q (lists_of_p (length q.triples) f) c (rw e counts)))

-- so do all prescribed copies
pub stand_in_lists : (op : Op) (p q : Side) (n : Numbers) → IsSide p → IsSide q → AreHits (all_edges p.triples) (length q.triples) n.x12 →
    AreHits (all_edges q.triples) (length p.triples) n.x21 →
    StandInLists p q (prescribed op p q n)
stand_in_lists op p q n p_known q_known x12 x21 =
    let cs = prescribed op p q n in
    let from = all_from op p q n x12 x21 in
    record {
      p_faces = λ f below. let names = lists_of_p (length q.triples) f in
          All-weaker (λ c. IsFrom p q c.origin) (λ c. StandsInNone p q names c ⊎ StandsInTwo p q names c)
          (λ c h. none_or_two p q names c (p_count p q c.origin f) (p_few p q p_known q_known c.origin h f below)
          (in_p_face p q p_known q_known c.origin h f below)) cs from;
      q_faces = λ g below. let names = lists_of_q (length p.triples) g in
          All-weaker (λ c. IsFrom p q c.origin) (λ c. StandsInNone p q names c ⊎ StandsInTwo p q names c)
          (λ c h. none_or_two p q names c (q_count p q c.origin g) (q_few p q p_known q_known c.origin h g below)
          (in_q_face p q p_known q_known c.origin h g below)) cs from;
      somewhere = All-weaker (λ c. IsFrom p q c.origin) (StandsSomewhere p q) (λ c h. somewhere p q p_known q_known c c.origin refl h) cs from;
    }
