use Rattle.std.proofs.Common.{◌≡◌, ◌<◌, ◌≤◌, ℕ, ℤ, pos, nat_abs, ◌∷◌, [], List, length, get_or, refl, arith, ap, sym, ◌∙◌, subst}
use Rattle.std.proofs.lemmas.Int.{ints}
use Rattle.chain_terms.specs.Chains.{all_edges}
use Rattle.chain_terms.specs.Odd.{IsOdd}
use Rattle.mesh_terms.specs.Meshes.{Triple}
use Rattle.mb_base.specs.declared.results.Hit.{Hit}
use Rattle.side_terms.specs.Conservation.{half_number, EdgeIdentity}
use Rattle.side_terms.specs.Corners.{AllFine, blank_corner, corner_at}
use Rattle.side_terms.specs.Hits.{AreHits}
use Rattle.side_terms.specs.Sides.{Side, IsSide, edge_of, face_of}
use Rattle.shadow_kernels.specs.Counts.{shadow_of}
use Rattle.shadow_kernels.specs.FinePairs.{fine_one, fine_two}
use Rattle.shadow_kernels.specs.Sizes.{turned_shadow}
use Rattle.lean.proofs.Corners.{edge_fine, face_fine}
use Rattle.crossings.specs.Hits.{CrossingTest, hits_of}
use Rattle.crossings.proofs.Rounds.{Lifts}
use Rattle.crossings.proofs.Order.{all_listed, hits_in_order}
use Rattle.winding.specs.Segments.{SegmentIdentity, crossings_to}
use Rattle.winding.specs.Windings.{winding, winding_back}
use Rattle.winding.proofs.EdgeSums.{few_hits}
use Rattle.winding.proofs.Identity.{crossings_sum, edges_conserve, winding_listed}
use Rattle.winding.proofs.Between.{two_corners}
use Rattle.winding.proofs.Steps.{shadow_within, sum_within}
use Rattle.winding.proofs.all.windings.Given.{Over}
use Rattle.winding.proofs.all.windings.Goals as goal

-- the shadows of P's vertices on Q's faces, and of P's edges on Q's
abbrev p_ends : (g : Over) → g.row.K.Denot → (p q : Side) → Triple → ℕ → ℤ
p_ends g k p q t v = shadow_of (g.K.Meets-5.meet_of k (corner_at p.corners v ∷ []) (face_of q.corners t))

abbrev p_sides : (g : Over) → g.row.K.Denot → (p q : Side) → ℕ → ℕ → (ℕ × ℕ) → ℤ
p_sides g k p q a b e = shadow_of (g.K.Meets-4.meet_of k (edge_of p.corners a b) (edge_of q.corners e.0 e.1))

-- the latter turn with Q's edge
p_odd : (g : Over) → (k : g.row.K.Denot) → (p q : Side) → AllFine p.corners → AllFine q.corners → (a b : ℕ) → IsOdd (λ x y. p_sides g k p q a b (x, y))
p_odd g k p q p_fine q_fine a b = record {
  turns = λ x y.
      let edge = edge_of q.corners x y in
      let fixed = edge_of p.corners a b in
      let fine = edge_fine p.corners p_fine a b in
      let turned = (g.met.K.Meets-4.laws k).reverse_q fixed edge 0 1 (omega arith) (omega arith) refl refl fine (edge_fine q.corners q_fine x y) in
      let reverse = ap shadow_of turned in
      let turn = turned_shadow (g.K.Meets-4.meet_of k fixed edge) in
      omega (arith, ints, reverse, turn);
}

-- a number is what both leave over
p_lifts : (g : Over) → (k : g.row.K.Denot) → (p q : Side) → AllFine p.corners → AllFine q.corners → Lifts (g.K.Crosses-1.crossing_of k) p q (p_ends g k p q) (p_sides g k p q)
p_lifts g k p q p_fine q_fine t a b =
    let pc = corner_at p.corners in
    let qc = corner_at q.corners in
    g.met.K.Kernels.lift_12 k (pc a) (pc b) (qc t.0) (qc t.1) (qc t.2) (edge_fine p.corners p_fine a b) (face_fine q.corners q_fine t)

-- from any corner of P to any other the winding number changes by minus the numbers of the segment between them
p_segments : (g : Over) → (k : g.row.K.Denot) → (q : Side) → IsSide q → SegmentIdentity (λ c. winding (g.K.Meets-5.meet_of k) c q) (crossings_to (g.K.Crosses-1.crossing_of k) q)
p_segments g k q q_side = record {
  between = λ a b a_fine b_fine.
      let p = two_corners a b in
      let fine = fine_two a b a_fine b_fine in
      crossings_sum p q (g.K.Crosses-1.crossing_of k) (p_ends g k p q) (p_sides g k p q) q_side (p_lifts g k p q fine q_side.fine) (p_odd g k p q fine q_side.fine) 0 1;
}

-- the winding numbers of a list, or the sums themselves, change along each half-edge of P by its crossings
p_identity : (g : Over) → (k : g.row.K.Denot) → (p q : Side) → IsSide p → IsSide q → (hits : List Hit) → hits ≡ hits_of (g.K.Crosses-1.crossing_of k) p q →
    (w : ℕ → ℤ) → ((v : ℕ) → v < length p.corners → w v ≡ winding (g.K.Meets-5.meet_of k) (corner_at p.corners v) q) →
    EdgeIdentity (all_edges p.triples) (length q.triples) w (half_number (all_edges p.triples) hits)
p_identity g k p q p_side q_side hits found w each =
    let test : CrossingTest = g.K.Crosses-1.crossing_of k in
    edges_conserve p q test (p_ends g k p q) (p_sides g k p q) hits w p_side q_side
    (λ t a b. (g.met.K.Crosses-1.laws k).turn_p (edge_of p.corners a b) (face_of q.corners t) refl refl refl (edge_fine p.corners p_side.fine a b)
    (face_fine q.corners q_side.fine t))
    (p_lifts g k p q p_side.fine q_side.fine) (p_odd g k p q p_side.fine q_side.fine) found each

-- the shadows of P's faces on Q's vertices, and of P's edges on Q's
abbrev q_ends : (g : Over) → g.row.K.Denot → (p q : Side) → Triple → ℕ → ℤ
q_ends g k p q t v = shadow_of (g.K.Meets-6.meet_of k (face_of p.corners t) (corner_at q.corners v ∷ []))

abbrev q_sides : (g : Over) → g.row.K.Denot → (p q : Side) → ℕ → ℕ → (ℕ × ℕ) → ℤ
q_sides g k p q a b e = shadow_of (g.K.Meets-4.meet_of k (edge_of p.corners e.0 e.1) (edge_of q.corners a b))

-- the latter turn with P's edge
q_odd : (g : Over) → (k : g.row.K.Denot) → (p q : Side) → AllFine p.corners → AllFine q.corners → (a b : ℕ) → IsOdd (λ x y. q_sides g k p q a b (x, y))
q_odd g k p q p_fine q_fine a b = record {
  turns = λ x y.
      let edge = edge_of p.corners x y in
      let fixed = edge_of q.corners a b in
      let fine = edge_fine q.corners q_fine a b in
      let turned = (g.met.K.Meets-4.laws k).reverse_p edge fixed 0 1 (omega arith) (omega arith) refl refl (edge_fine p.corners p_fine x y) fine in
      let reverse = ap shadow_of turned in
      let turn = turned_shadow (g.K.Meets-4.meet_of k edge fixed) in
      omega (arith, ints, reverse, turn);
}

-- a number is what both leave over
q_lifts : (g : Over) → (k : g.row.K.Denot) → (p q : Side) → AllFine p.corners → AllFine q.corners →
    Lifts (λ edge face. g.K.Crosses-2.crossing_of k face edge) q p (q_ends g k p q) (q_sides g k p q)
q_lifts g k p q p_fine q_fine t a b =
    let pc = corner_at p.corners in
    let qc = corner_at q.corners in
    g.met.K.Kernels.lift_21 k (pc t.0) (pc t.1) (pc t.2) (qc a) (qc b) (face_fine p.corners p_fine t) (edge_fine q.corners q_fine a b)

-- from any corner of Q to any other
q_segments : (g : Over) → (k : g.row.K.Denot) → (p : Side) → IsSide p →
    SegmentIdentity (λ c. winding_back (g.K.Meets-6.meet_of k) p c) (crossings_to (λ edge face. g.K.Crosses-2.crossing_of k face edge) p)
q_segments g k p p_side = record {
  between = λ a b a_fine b_fine.
      let q = two_corners a b in
      let fine = fine_two a b a_fine b_fine in
      crossings_sum q p (λ edge face. g.K.Crosses-2.crossing_of k face edge) (q_ends g k p q) (q_sides g k p q) p_side (q_lifts g k p q p_side.fine fine)
      (q_odd g k p q p_side.fine fine) 0 1;
}

-- and along each half-edge of Q
q_identity : (g : Over) → (k : g.row.K.Denot) → (p q : Side) → IsSide p → IsSide q → (hits : List Hit) → hits ≡ hits_of (λ edge face. g.K.Crosses-2.crossing_of k face edge) q p →
    (w : ℕ → ℤ) → ((v : ℕ) → v < length q.corners → w v ≡ winding_back (g.K.Meets-6.meet_of k) p (corner_at q.corners v)) →
    EdgeIdentity (all_edges q.triples) (length p.triples) w (half_number (all_edges q.triples) hits)
q_identity g k p q p_side q_side hits found w each =
    let test : CrossingTest = λ edge face. g.K.Crosses-2.crossing_of k face edge in
    edges_conserve q p test (q_ends g k p q) (q_sides g k p q) hits w q_side p_side
    (λ t a b. (g.met.K.Crosses-2.laws k).turn_q (face_of p.corners t) (edge_of q.corners a b) refl refl refl (face_fine p.corners p_side.fine t)
    (edge_fine q.corners q_side.fine a b))
    (q_lifts g k p q p_side.fine q_side.fine) (q_odd g k p q p_side.fine q_side.fine) found each

-- a shadow of a vertex of P on a face of Q is -1, 0 or 1
p_small : (g : Over) → (k : g.row.K.Denot) → (p q : Side) → IsSide p → IsSide q → (v : ℕ) → v < length p.corners →
    nat_abs (winding (g.K.Meets-5.meet_of k) (corner_at p.corners v) q) ≤ length q.triples
p_small g k p q p_side q_side v low =
    let vertex = corner_at p.corners v ∷ [] in
    let fine = fine_one (corner_at p.corners v) (p_side.fine v blank_corner low) in
    let test = g.K.Meets-5.meet_of k in
    let size = (g.met.K.Meets-5.laws k).size in
    sum_within (λ t. shadow_of (test vertex (face_of q.corners t))) q.triples
    (λ t. let face = face_of q.corners t in shadow_within (test vertex face) (size vertex face refl refl fine (face_fine q.corners q_side.fine t)))

-- and one of a face of P on a vertex of Q
q_small : (g : Over) → (k : g.row.K.Denot) → (p q : Side) → IsSide p → IsSide q → (v : ℕ) → v < length q.corners →
    nat_abs (winding_back (g.K.Meets-6.meet_of k) p (corner_at q.corners v)) ≤ length p.triples
q_small g k p q p_side q_side v low =
    let vertex = corner_at q.corners v ∷ [] in
    let fine = fine_one (corner_at q.corners v) (q_side.fine v blank_corner low) in
    let test = g.K.Meets-6.meet_of k in
    let size = (g.met.K.Meets-6.laws k).size in
    sum_within (λ t. shadow_of (test (face_of p.corners t) vertex)) p.triples
    (λ t. let face = face_of p.corners t in shadow_within (test face vertex) (size face vertex refl refl (face_fine p.corners p_side.fine t) fine))

pub returns-clause-p_edge_identity : goal.returns-clause-p_edge_identity
returns-clause-p_edge_identity g c =
    let k = c.args.kernels.now in
    let p = c.args.p.now in
    let q = c.args.q.now in
    let ws = c.in_ok-w03.w03.items in
    let listed = winding_listed (λ v. winding (g.K.Meets-5.meet_of k) v q) p.corners ws c.in_ok-w03.ensures.value in
    p_identity g k p q c.twins.ensures.side c.twins-2.ensures.side c.args.hits.now.x12.items c.requires.x12 (λ v. get_or ws v (pos 0)) listed

pub returns-clause-q_edge_identity : goal.returns-clause-q_edge_identity
returns-clause-q_edge_identity g c =
    let k = c.args.kernels.now in
    let p = c.args.p.now in
    let q = c.args.q.now in
    let ws = c.in_ok-w30.w30.items in
    let listed = winding_listed (λ v. winding_back (g.K.Meets-6.meet_of k) p v) q.corners ws c.in_ok-w30.ensures.value in
    q_identity g k p q c.twins.ensures.side c.twins-2.ensures.side c.args.hits.now.x21.items c.requires.x21 (λ v. get_or ws v (pos 0)) listed

pub corner_windings-requires-clause-listed : goal.corner_windings-requires-clause-listed
corner_windings-requires-clause-listed g c =
    let p = c.args.p.now in
    let q = c.args.q.now in
    let laws = g.met.K.Crosses-1.laws c.args.kernels.now in
    let test : CrossingTest = g.K.Crosses-1.crossing_of c.args.kernels.now in
    let listed = all_listed test p q c.twins.ensures.side.fine c.twins-2.ensures.side.fine (λ e f l m a b. (laws.present e f l m a b, laws.size e f l m a b)) in
    subst (AreHits (all_edges p.triples) (length q.triples)) (sym (c.deref.ensures.value ∙ c.requires.x12)) (hits_in_order test p q listed).0

pub corner_windings-requires-clause-few : goal.corner_windings-requires-clause-few
corner_windings-requires-clause-few g c =
    let few_p = c.twins.ensures.side.accepted.mesh.few_triples in
    let few_q = c.twins-2.ensures.side.accepted.mesh.few_triples in
    omega (arith, few_hits (g.K.Crosses-1.crossing_of c.args.kernels.now) c.args.p.now c.args.q.now few_p few_q, ap length c.requires.x12)

pub corner_windings-requires-clause-size : goal.corner_windings-requires-clause-size
corner_windings-requires-clause-size g c = p_small g c.args.kernels.now c.args.p.now c.args.q.now c.twins.ensures.side c.twins-2.ensures.side

pub corner_windings-requires-clause-identity : goal.corner_windings-requires-clause-identity
corner_windings-requires-clause-identity g c =
    let k = c.args.kernels.now in
    let p = c.args.p.now in
    let q = c.args.q.now in
    let found = c.deref.ensures.value ∙ c.requires.x12 in
    let number : ℕ → ℤ = λ v. winding (g.K.Meets-5.meet_of k) (corner_at p.corners v) q in
    p_identity g k p q c.twins.ensures.side c.twins-2.ensures.side c.deref.result.now found number (λ v low. refl)

pub corner_windings-requires-2-clause-listed : goal.corner_windings-requires-2-clause-listed
corner_windings-requires-2-clause-listed g c =
    let p = c.args.p.now in
    let q = c.args.q.now in
    let laws = g.met.K.Crosses-2.laws c.args.kernels.now in
    let test : CrossingTest = λ edge face. g.K.Crosses-2.crossing_of c.args.kernels.now face edge in
    let listed = all_listed test q p c.twins-2.ensures.side.fine c.twins.ensures.side.fine (λ e f l m a b. (laws.present f e m l b a, laws.size f e m l b a)) in
    subst (AreHits (all_edges q.triples) (length p.triples)) (sym (c.deref-2.ensures.value ∙ c.requires.x21)) (hits_in_order test q p listed).0

pub corner_windings-requires-2-clause-few : goal.corner_windings-requires-2-clause-few
corner_windings-requires-2-clause-few g c =
    let test : CrossingTest = λ edge face. g.K.Crosses-2.crossing_of c.args.kernels.now face edge in
    let few_p = c.twins.ensures.side.accepted.mesh.few_triples in
    let few_q = c.twins-2.ensures.side.accepted.mesh.few_triples in
    omega (arith, few_hits test c.args.q.now c.args.p.now few_q few_p, ap length c.requires.x21)

pub corner_windings-requires-2-clause-size : goal.corner_windings-requires-2-clause-size
corner_windings-requires-2-clause-size g c = q_small g c.args.kernels.now c.args.p.now c.args.q.now c.twins.ensures.side c.twins-2.ensures.side

pub corner_windings-requires-2-clause-identity : goal.corner_windings-requires-2-clause-identity
corner_windings-requires-2-clause-identity g c =
    let k = c.args.kernels.now in
    let p = c.args.p.now in
    let q = c.args.q.now in
    let found = c.deref-2.ensures.value ∙ c.requires.x21 in
    let number : ℕ → ℤ = λ v. winding_back (g.K.Meets-6.meet_of k) p (corner_at q.corners v) in
    q_identity g k p q c.twins.ensures.side c.twins-2.ensures.side c.deref-2.result.now found number (λ v low. refl)

pub corner_windings-requires-clause-segments : goal.corner_windings-requires-clause-segments
corner_windings-requires-clause-segments g c = p_segments g c.args.kernels.now c.args.q.now c.twins-2.ensures.side

pub corner_windings-requires-2-clause-segments : goal.corner_windings-requires-2-clause-segments
corner_windings-requires-2-clause-segments g c = q_segments g c.args.kernels.now c.args.p.now c.twins.ensures.side
