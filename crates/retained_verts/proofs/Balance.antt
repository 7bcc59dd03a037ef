-- Where the numbers are conserved, each list has as many starts as ends.
use Rattle.std.proofs.Common.{◌≡◌, ℕ, ◌<◌, Bool, true, false, cond, ◌==◌, ℤ, pos, neg_ℤ, ◌+ℤ◌, ◌-ℤ◌, ◌*ℤ◌, List, ◌++◌, length, get_or, refl, arith, ap, sym, ◌∙◌}
use Rattle.std.proofs.lemmas.Int.{ints}
use Rattle.chain_terms.specs.Chains.{all_edges}
use Rattle.chain_terms.specs.Ranks.{start, finish}
use Rattle.chain_terms.specs.Sums.{total, upto}
use Rattle.chain_laws.specs.Products.{mul-neg, mul-sub}
use Rattle.chain_laws.specs.Sums.{total-append, total-neg, total-same}
use Rattle.halfedge.proofs.Around.{pair_up}
use Rattle.halfedge.proofs.Edges.{length-all_edges, next_below, next_starts}
use Rattle.lean.proofs.Triangles.{start_below}
use Rattle.mb_base.specs.declared.op.Op.{Op}
use Rattle.mb_base.specs.declared.results.Hit.{Hit}
use Rattle.mb_base.specs.declared.results.Origin.TheVariants.{PVertex, QVertex, PEdge, QEdge}
use Rattle.mesh_terms.specs.Halves.{next_half}
use Rattle.side_terms.specs.Hits.{AreHits}
use Rattle.side_terms.specs.Sides.{Side, IsSide}
use Rattle.side_terms.specs.Lists.{Copy, ListName, HalfP, HalfQ, IsListOf, PairP, PairQ, incidence, standing, way, way_round}
use Rattle.side_terms.specs.Points.{points_of}
use Rattle.side_terms.specs.Prescribed.{Numbers, constant, hit_number_of, p_hits, p_number, p_vertices, prescribed, q_hits, q_number, q_vertices}
use Rattle.side_terms.specs.Standing.{AreConserved, IsBalanced}
use Rattle.retained_verts.proofs.Halves.{GoBack, along_all, along_round}
use Rattle.retained_verts.proofs.Weights.{even_from_sum, no_weight, total-against, total-copies, total-ends, total-factor, total-hits, total-vertices, weight}

-- the two ends of a half-edge are vertices
record EndsBelow (n : ℕ) (es : List (ℕ × ℕ)) (h : ℕ) : Type 0 where
  from : start es h < n
  to : finish es h < n

ends_below : (side : Side) → IsSide side → (h : ℕ) → h < length (all_edges side.triples) → EndsBelow (length side.corners) (all_edges side.triples) h
ends_below side known h below =
    let n = length side.corners in
    let ts = side.triples in
    let long = length-all_edges ts in
    record {
      from = start_below n ts h known.accepted.mesh.below (omega (arith, below, long));
      to = omega (arith, next_starts ts h below, start_below n ts (next_half h) known.accepted.mesh.below (omega (arith, next_below ts h below, long)));
    }

go_back : (side : Side) → IsSide side → GoBack (all_edges side.triples)
go_back side known = (pair_up side.triples known.accepted.mesh.three known.accepted.closed).pairs

-- the weights of the four kinds
four : (op : Op) (p q : Side) (n : Numbers) (name : ListName) → (let P = all_edges p.triples in let Q = all_edges q.triples in let w = weight P Q name in
    total (standing P Q name) (prescribed op p q n) ≡ total w (p_vertices op p n) +ℤ (total w (q_vertices op q n) +ℤ (total w (p_hits op n) +ℤ total w (q_hits op n))))
four op p q n name =
    let P = all_edges p.triples in
    let Q = all_edges q.triples in
    let w = weight P Q name in
    let pv = p_vertices op p n in
    let qv = q_vertices op q n in
    let ph = p_hits op n in
    let qh = q_hits op n in
    omega (arith, ints, total-copies P Q name (pv ++ (qv ++ (ph ++ qh))), total-append w pv (qv ++ (ph ++ qh)), total-append w qv (ph ++ qh), total-append w ph qh)

-- a difference of two inclusion numbers, against the crossings between
cancels : (c c3 x y s : ℤ) → y -ℤ x ≡ neg_ℤ s → ((c +ℤ c3 *ℤ x) -ℤ (c +ℤ c3 *ℤ y)) +ℤ neg_ℤ (c3 *ℤ s) ≡ pos 0
cancels c c3 x y s e =
    let a = ap (λ z. c3 *ℤ z) e in
    let b = mul-sub c3 y x in
    let d = mul-neg c3 s in omega (arith, ints, a, b, d)

-- along a half-edge of P
half_p_sum : (op : Op) (p q : Side) (n : Numbers) → IsSide p → AreHits (all_edges p.triples) (length q.triples) n.x12 → AreConserved p q n → (h : ℕ) →
    h < length (all_edges p.triples) →
    total (standing (all_edges p.triples) (all_edges q.triples) (HalfP h)) (prescribed op p q n) ≡ pos 0
half_p_sum op p q n p_known x12 kept h below =
    let P = all_edges p.triples in
    let Q = all_edges q.triples in
    let name = HalfP h in
    let c3 = constant op 2 in
    let w : ℕ → ℤ = λ v. get_or n.w03 v (pos 0) in
    let vertices = length p.corners in
    let ends = ends_below p p_known h below in
    let pv = total-vertices P Q name PVertex (p_number op) n.w03 (points_of p.corners) vertices
    ∙ total-ends (λ v. p_number op (w v)) (start P h) (finish P h) vertices ends.from ends.to in
    let qv = total-vertices P Q name QVertex (q_number op) n.w30 (points_of q.corners) (length q.corners)
    ∙ no_weight (λ v. q_number op (get_or n.w30 v (pos 0))) (upto (length q.corners)) in
    let ph = total-hits P Q name PEdge (hit_number_of op) n.x12 ∙ total-against c3 (λ k. k.number) (λ k. way P h k.edge) (λ k. neg_ℤ (way P h k.edge)) n.x12 (λ k. refl) in
    let qh = total-hits P Q name QEdge (hit_number_of op) n.x21 ∙ no_weight (λ k. hit_number_of op k.number) n.x21 in
    let sum = along_all P (go_back p p_known) (length q.triples) n.x12 x12 h below in
    let crossed : ℤ = total (λ k. k.number *ℤ way P h k.edge) n.x12 in
    let changes : w (finish P h) -ℤ w (start P h) ≡ neg_ℤ crossed = kept.p_edges.along h below ∙ ap neg_ℤ sum in
    let none = cancels (constant op 0) c3 (w (start P h)) (w (finish P h)) crossed changes in
    four op p q n name ∙ added pv qv ph qh none
  where
    added : {a b c d x y : ℤ} → a ≡ x → b ≡ pos 0 → c ≡ y → d ≡ pos 0 → x +ℤ y ≡ pos 0 → a +ℤ (b +ℤ (c +ℤ d)) ≡ pos 0
    added e f g h i = omega (arith, ints, e, f, g, h, i)

-- along a half-edge of Q
half_q_sum : (op : Op) (p q : Side) (n : Numbers) → IsSide q → AreHits (all_edges q.triples) (length p.triples) n.x21 → AreConserved p q n → (h : ℕ) →
    h < length (all_edges q.triples) →
    total (standing (all_edges p.triples) (all_edges q.triples) (HalfQ h)) (prescribed op p q n) ≡ pos 0
half_q_sum op p q n q_known x21 kept h below =
    let P = all_edges p.triples in
    let Q = all_edges q.triples in
    let name = HalfQ h in
    let c3 = constant op 2 in
    let w : ℕ → ℤ = λ v. get_or n.w30 v (pos 0) in
    let vertices = length q.corners in
    let ends = ends_below q q_known h below in
    let pv = total-vertices P Q name PVertex (p_number op) n.w03 (points_of p.corners) (length p.corners)
    ∙ no_weight (λ v. p_number op (get_or n.w03 v (pos 0))) (upto (length p.corners)) in
    let qv = total-vertices P Q name QVertex (q_number op) n.w30 (points_of q.corners) vertices
    ∙ total-ends (λ v. q_number op (w v)) (start Q h) (finish Q h) vertices ends.from ends.to in
    let ph = total-hits P Q name PEdge (hit_number_of op) n.x12 ∙ no_weight (λ k. hit_number_of op k.number) n.x12 in
    let qh = total-hits P Q name QEdge (hit_number_of op) n.x21 ∙ total-against c3 (λ k. k.number) (λ k. way Q h k.edge) (λ k. neg_ℤ (way Q h k.edge)) n.x21 (λ k. refl) in
    let sum = along_all Q (go_back q q_known) (length p.triples) n.x21 x21 h below in
    let crossed : ℤ = total (λ k. k.number *ℤ way Q h k.edge) n.x21 in
    let changes : w (finish Q h) -ℤ w (start Q h) ≡ neg_ℤ crossed = kept.q_edges.along h below ∙ ap neg_ℤ sum in
    let none = cancels (constant op 1) c3 (w (start Q h)) (w (finish Q h)) crossed changes in
    four op p q n name ∙ added pv qv ph qh none
  where
    added : {a b c d x y : ℤ} → a ≡ pos 0 → b ≡ x → c ≡ pos 0 → d ≡ y → x +ℤ y ≡ pos 0 → a +ℤ (b +ℤ (c +ℤ d)) ≡ pos 0
    added e f g h i = omega (arith, ints, e, f, g, h, i)

-- a minus goes through a choice
cond_neg : (t : Bool) (z : ℤ) → cond t (neg_ℤ z) (pos 0) ≡ neg_ℤ (cond t z (pos 0))
cond_neg true z = refl
cond_neg false z = refl

-- of a pair of faces, seen from the face of P
pair_p_sum : (op : Op) (p q : Side) (n : Numbers) → IsSide p → IsSide q → AreHits (all_edges p.triples) (length q.triples) n.x12 →
    AreHits (all_edges q.triples) (length p.triples) n.x21 → AreConserved p q n →
    (f g : ℕ) → f < length p.triples → g < length q.triples → total (standing (all_edges p.triples) (all_edges q.triples) (PairP f g)) (prescribed op p q n) ≡ pos 0
pair_p_sum op p q n p_known q_known x12 x21 kept f g f_below g_below =
    let P = all_edges p.triples in
    let Q = all_edges q.triples in
    let name = PairP f g in
    let c3 = constant op 2 in
    let pv = total-vertices P Q name PVertex (p_number op) n.w03 (points_of p.corners) (length p.corners)
    ∙ no_weight (λ v. p_number op (get_or n.w03 v (pos 0))) (upto (length p.corners)) in
    let qv = total-vertices P Q name QVertex (q_number op) n.w30 (points_of q.corners) (length q.corners)
    ∙ no_weight (λ v. q_number op (get_or n.w30 v (pos 0))) (upto (length q.corners)) in
    let of_p : Hit → ℤ = λ k. cond (k.face == g) (way_round P f k.edge) (pos 0) in
    let of_q : Hit → ℤ = λ k. cond (k.face == f) (way_round Q g k.edge) (pos 0) in
    let ph = total-hits P Q name PEdge (hit_number_of op) n.x12 ∙ total-factor c3 (λ k. k.number) of_p n.x12 in
    let qh = total-hits P Q name QEdge (hit_number_of op) n.x21
    ∙ total-against c3 (λ k. k.number) of_q (λ k. cond (k.face == f) (neg_ℤ (way_round Q g k.edge)) (pos 0)) n.x21 (λ k. cond_neg (k.face == f) (way_round Q g k.edge)) in
    let p_round = along_round P (go_back p p_known) (length q.triples) n.x12 x12 f g (omega (arith, f_below, length-all_edges p.triples)) in
    let q_round = along_round Q (go_back q q_known) (length p.triples) n.x21 x21 g f (omega (arith, g_below, length-all_edges q.triples)) in
    let same : total (λ k. k.number *ℤ of_p k) n.x12 ≡ total (λ k. k.number *ℤ of_q k) n.x21 = sym p_round ∙ kept.pairs.same f g f_below g_below ∙ q_round in
    four op p q n name ∙ added pv qv ph qh (ap (λ z. c3 *ℤ z) same)
  where
    added : {a b c d x y : ℤ} → a ≡ pos 0 → b ≡ pos 0 → c ≡ x → d ≡ neg_ℤ y → x ≡ y → a +ℤ (b +ℤ (c +ℤ d)) ≡ pos 0
    added e f g h i = omega (arith, ints, e, f, g, h, i)

-- seen from the face of Q each copy stands the other way
other_way : (P Q : List (ℕ × ℕ)) (f g : ℕ) (c : Copy) → standing P Q (PairQ g f) c ≡ neg_ℤ (standing P Q (PairP f g) c)
other_way P Q f g c = turned c.negative (incidence P Q (PairP f g) c.origin)
  where
    turned : (t : Bool) (z : ℤ) → cond t (neg_ℤ (neg_ℤ z)) (neg_ℤ z) ≡ neg_ℤ (cond t (neg_ℤ z) z)
    turned true z = refl
    turned false z = refl

pair_q_sum : (op : Op) (p q : Side) (n : Numbers) (f g : ℕ) → total (standing (all_edges p.triples) (all_edges q.triples) (PairP f g)) (prescribed op p q n) ≡ pos 0 →
    total (standing (all_edges p.triples) (all_edges q.triples) (PairQ g f)) (prescribed op p q n) ≡ pos 0
pair_q_sum op p q n f g sum =
    let P = all_edges p.triples in
    let Q = all_edges q.triples in
    let cs = prescribed op p q n in
    total-same (standing P Q (PairQ g f)) (λ c. neg_ℤ (standing P Q (PairP f g) c)) (other_way P Q f g) cs ∙ total-neg (standing P Q (PairP f g)) cs ∙ ap neg_ℤ sum

-- so every list is balanced
pub balanced : (op : Op) (p q : Side) (n : Numbers) → IsSide p → IsSide q → AreHits (all_edges p.triples) (length q.triples) n.x12 →
    AreHits (all_edges q.triples) (length p.triples) n.x21 →
    AreConserved p q n → IsBalanced p q (prescribed op p q n)
balanced op p q n p_known q_known x12 x21 kept =
    record { even = λ name inside. even_from_sum (all_edges p.triples) (all_edges q.triples) (prescribed op p q n) name (sum name inside) }
  where
    sum : (name : ListName) → IsListOf (length p.triples) (length q.triples) name → total (standing (all_edges p.triples) (all_edges q.triples) name) (prescribed op p q n) ≡ pos 0
    sum (HalfP h) inside = half_p_sum op p q n p_known x12 kept h (omega (arith, inside, length-all_edges p.triples))
    sum (HalfQ h) inside = half_q_sum op p q n q_known x21 kept h (omega (arith, inside, length-all_edges q.triples))
    sum (PairP f g) inside = pair_p_sum op p q n p_known q_known x12 x21 kept f g inside.0 inside.1
    sum (PairQ g f) inside = pair_q_sum op p q n f g (pair_p_sum op p q n p_known q_known x12 x21 kept f g inside.1 inside.0)
