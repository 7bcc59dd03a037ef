-- Where a copy of a hit stands in the lists of source faces, by the two half-edges of its edge.
use Rattle.std.proofs.Common.{◌≡◌, ℕ, ◌+◌, ◌-◌, ◌*◌, ◌/◌, ◌<◌, ◌≤◌, ◌==◌, Bool, true, false, not, cond, if◌then◌else◌}
use Rattle.std.proofs.Common.{nat_lt, ℤ, pos, neg_ℤ, ◌-ℤ◌, List, length, ◌⊎◌, inl, inr, refl, ap, ◌∙◌, arith}
use Rattle.std.proofs.lemmas.Int.{ints}
use Rattle.std.proofs.lemmas.Bool.{cases_lt, le-ltb, lt-ltb}
use Rattle.chain_terms.specs.Chains.{all_edges}
use Rattle.chain_terms.specs.Ranks.{twin}
use Rattle.mb_base.specs.declared.results.Origin.TheVariants.{PEdge, QEdge}
use Rattle.side_terms.specs.Sides.{IsSide, Side}
use Rattle.side_terms.specs.Lists.{Copy, HalfP, HalfQ, PairP, PairQ, standing, way, way_round}
use Rattle.retained_verts.proofs.TwoLists.{two_faces}
use Rattle.retained_verts.proofs.Ways.{same, way_is, way_round_is}
use Rattle.source_faces.specs.Agreement.{list_name}
use Rattle.source_faces.proofs.Between.{between}
use Rattle.source_faces.proofs.Sights.{IsSeen}

-- each list of a face by its name
list_is : (n x l : ℕ) (s t : Bool) → nat_lt x n ≡ s → nat_lt l 3 ≡ t →
    list_name n x l ≡
    (if s then (if t then HalfP (3 * x + l) else PairP x (l - 3)) else (if t then HalfQ (3 * (x - n) + l) else PairQ (x - n) (l - 3)))
list_is n x l s t a b =
    ap (λ u. if u then (if nat_lt l 3 then HalfP (3 * x + l) else PairP x (l - 3)) else
    (if nat_lt l 3 then HalfQ (3 * (x - n) + l) else PairQ (x - n) (l - 3))) a
    ∙ ap (λ u. if s then (if u then HalfP (3 * x + l) else PairP x (l - 3)) else (if u then HalfQ (3 * (x - n) + l) else PairQ (x - n) (l - 3))) b

-- the number of a copy that is prescribed a positive number of times, or of one that is not, from that of its origin: along a half-edge
half_value : (positive : Bool) (w : ℤ) (u d : ℕ) → w ≡ pos u -ℤ pos d → cond (not positive) (neg_ℤ (neg_ℤ w)) (neg_ℤ w) ≡ between (not positive) u d
half_value true w u d h = omega (arith, ints, h)
half_value false w u d h = omega (arith, ints, h)

-- with a face, seen from one of the edge's own
pair_value : (positive t : Bool) (w : ℤ) (u d : ℕ) → w ≡ pos u -ℤ pos d →
    cond (not positive) (neg_ℤ (cond t w (pos 0))) (cond t w (pos 0)) ≡ cond t (between positive u d) (pos 0)
pair_value true true w u d h = h
pair_value false true w u d h = omega (arith, ints, h)
pair_value true false w u d h = refl
pair_value false false w u d h = refl

-- and from that face
turned_value : (positive t : Bool) (w : ℤ) (u d : ℕ) → w ≡ pos u -ℤ pos d →
    cond (not positive) (neg_ℤ (neg_ℤ (cond t w (pos 0)))) (neg_ℤ (cond t w (pos 0))) ≡ cond t (between (not positive) u d) (pos 0)
turned_value true true w u d h = omega (arith, ints, h)
turned_value false true w u d h = omega (arith, ints, h)
turned_value true false w u d h = refl
turned_value false false w u d h = refl

-- the same where the edge is one of the second mesh
second_pair_value : (positive t : Bool) (w : ℤ) (u d : ℕ) → w ≡ pos u -ℤ pos d →
    cond (not positive) (neg_ℤ (neg_ℤ (cond t (neg_ℤ w) (pos 0)))) (neg_ℤ (cond t (neg_ℤ w) (pos 0))) ≡ cond t (between positive u d) (pos 0)
second_pair_value true true w u d h = omega (arith, ints, h)
second_pair_value false true w u d h = omega (arith, ints, h)
second_pair_value true false w u d h = refl
second_pair_value false false w u d h = refl

second_turned_value : (positive t : Bool) (w : ℤ) (u d : ℕ) → w ≡ pos u -ℤ pos d →
    cond (not positive) (neg_ℤ (cond t (neg_ℤ w) (pos 0))) (cond t (neg_ℤ w) (pos 0)) ≡ cond t (between (not positive) u d) (pos 0)
second_turned_value true true w u d h = omega (arith, ints, h)
second_turned_value false true w u d h = omega (arith, ints, h)
second_turned_value true false w u d h = refl
second_turned_value false false w u d h = refl

-- a half-edge of the other mesh
no_value : (positive : Bool) → cond (not positive) (neg_ℤ (pos 0)) (pos 0) ≡ pos 0
no_value true = refl
no_value false = refl

-- copies of hits of the first mesh's edges
pub p_seen : (p q : Side) → IsSide p → (e f : ℕ) (positive : Bool) (at : List ℤ) → e < length (all_edges p.triples) →
    IsSeen (λ x l. standing (all_edges p.triples) (all_edges q.triples) (list_name (length p.triples) x l)
    (record { origin = PEdge e f; negative = not positive; point = at }))
    (λ x. x < length p.triples) (λ x. length p.triples ≤ x) 0 (length p.triples) e (twin (all_edges p.triples) e) f positive
p_seen p q known e f positive at below =
    let es = all_edges p.triples in
    let ds = all_edges q.triples in
    let n = length p.triples in
    let t = twin es e in
    let c : Copy = record { origin = PEdge e f; negative = not positive; point = at } in
    let faces = two_faces p e known below in
    record {
      either = λ x. cases_lt x n;
      own_from = λ x l. omega arith;
      other_from = λ x l. l;
      lower_own = omega (arith, faces.one);
      upper_own = omega (arith, faces.other);
      face_other = omega arith;
      apart = faces.apart;
      in_half = λ x l mine low.
          let here : x ≡ x - 0 = omega arith in
          ap (λ name. standing es ds name c) (list_is n x l true true (lt-ltb x n mine) (lt-ltb l 3 low))
          ∙ half_value positive (way es (3 * x + l) e) (same (3 * x + l) e) (same (3 * x + l) t) (way_is es (3 * x + l) e)
          ∙ ap (λ y. between (not positive) (same (3 * y + l) e) (same (3 * y + l) t)) here;
      in_pair = λ x l mine high.
          let here : x ≡ x - 0 = omega arith in
          ap (λ name. standing es ds name c) (list_is n x l true false (lt-ltb x n mine) (le-ltb l 3 high))
          ∙ pair_value positive (f == l - 3) (way_round es x e) (same x (e / 3)) (same x (t / 3)) (way_round_is es x e)
          ∙ ap (λ y. cond (f == l - 3) (between positive (same y (e / 3)) (same y (t / 3))) (pos 0)) here;
      in_no_half = λ x l theirs low. ap (λ name. standing es ds name c) (list_is n x l false true (le-ltb x n theirs) (lt-ltb l 3 low))
          ∙ no_value positive;
      in_turned = λ x l theirs high.
          ap (λ name. standing es ds name c) (list_is n x l false false (le-ltb x n theirs) (le-ltb l 3 high))
          ∙ turned_value positive (f == x - n) (way_round es (l - 3) e) (same (l - 3) (e / 3)) (same (l - 3) (t / 3)) (way_round_is es (l - 3) e);
    }

-- one or the other, the other way round
turned_either : {A B : Type 0} → A ⊎ B → B ⊎ A
turned_either (inl a) = inr a
turned_either (inr b) = inl b

-- copies of hits of the second mesh's edges
pub q_seen : (p q : Side) → IsSide q → (e f : ℕ) (positive : Bool) (at : List ℤ) → e < length (all_edges q.triples) → f < length p.triples →
    IsSeen (λ x l. standing (all_edges p.triples) (all_edges q.triples) (list_name (length p.triples) x l)
    (record { origin = QEdge e f; negative = not positive; point = at }))
    (λ x. length p.triples ≤ x) (λ x. x < length p.triples) (length p.triples) 0 e (twin (all_edges q.triples) e) f positive
q_seen p q known e f positive at below within =
    let es = all_edges p.triples in
    let ds = all_edges q.triples in
    let n = length p.triples in
    let t = twin ds e in
    let c : Copy = record { origin = QEdge e f; negative = not positive; point = at } in
    let faces = two_faces q e known below in
    record {
      either = λ x. turned_either (cases_lt x n);
      own_from = λ x l. l;
      other_from = λ x l. omega arith;
      lower_own = omega arith;
      upper_own = omega arith;
      face_other = omega (arith, within);
      apart = faces.apart;
      in_half = λ x l mine low.
          let h = 3 * (x - n) + l in
          ap (λ name. standing es ds name c) (list_is n x l false true (le-ltb x n mine) (lt-ltb l 3 low))
          ∙ half_value positive (way ds h e) (same h e) (same h t) (way_is ds h e);
      in_pair = λ x l mine high.
          let g = x - n in
          ap (λ name. standing es ds name c) (list_is n x l false false (le-ltb x n mine) (le-ltb l 3 high))
          ∙ second_pair_value positive (f == l - 3) (way_round ds g e) (same g (e / 3)) (same g (t / 3)) (way_round_is ds g e);
      in_no_half = λ x l theirs low. ap (λ name. standing es ds name c) (list_is n x l true true (lt-ltb x n theirs) (lt-ltb l 3 low))
          ∙ no_value positive;
      in_turned = λ x l theirs high.
          let here : x ≡ x - 0 = omega arith in
          let g = l - 3 in
          ap (λ name. standing es ds name c) (list_is n x l true false (lt-ltb x n theirs) (le-ltb l 3 high))
          ∙ second_turned_value positive (f == x) (way_round ds g e) (same g (e / 3)) (same g (t / 3)) (way_round_is ds g e)
          ∙ ap (λ y. cond (f == y) (between (not positive) (same g (e / 3)) (same g (t / 3))) (pos 0)) here;
    }
