-- The segments of all source faces together cancel.
use Rattle.std.proofs.Common.{◌≡◌, ℕ, zero, suc, ◌+◌, ◌*◌, ◌-◌, ◌<◌, ℤ, pos, neg_ℤ, ◌+ℤ◌, List, [], ◌++◌, map, length, refl, arith, ap, sym, ◌∙◌}
use Rattle.std.specs.Prelude.{nat_lt}
use Rattle.std.proofs.lemmas.Int.{ints}
use Rattle.std.proofs.lemmas.Bool.{cond-false, cond-true, le-ltb, lt-ltb}
use Rattle.chain_terms.specs.Chains.{IsClosed, all_edges}
use Rattle.chain_terms.specs.Odd.{SameChain, along}
use Rattle.chain_terms.specs.Permutations.{AreInverse}
use Rattle.chain_terms.specs.Ranks.{twin}
use Rattle.chain_terms.specs.Sums.{total, up_from, upto}
use Rattle.chain_laws.specs.Chains.{closed_from_sums, total-backward}
use Rattle.chain_laws.specs.Sums.{total-add, total-append, total-flat_map, total-map, total-neg, total-same, total-swap}
use Rattle.chain_laws.proofs.Inverses.{inverse_sum}
use Rattle.chain_laws.proofs.Places.{total-upto_more, total-upto_same, up_from-append}
use Rattle.chain_laws.proofs.Twins.{twins_inverse}
use Rattle.halfedge.proofs.Edges.{length-all_edges}
use Rattle.side_terms.specs.Sides.{Side, IsSide}
use Rattle.side_terms.specs.Lists.{Copy, ListName, HalfP, HalfQ, PairP, PairQ, lists_of_p, lists_of_q}
use Rattle.source_face_terms.specs.Segments.{all_segments, lists_of, segments_in, segments_of, source_count}
use Rattle.source_face_laws.proofs.Reversal.{pair_reverses, twin_reverses_p, twin_reverses_q}

-- a sum of threes is one sum
pub threes : (f : ℕ → ℤ) (m : ℕ) → total (λ k. total (λ i. f (3 * k + i)) (upto 3)) (upto m) ≡ total f (upto (3 * m))
threes f zero = let none : 3 * 0 ≡ 0 = omega arith in sym (ap (λ n. total f (upto n)) none)
threes f (suc m) =
    let one : suc m ≡ m + 1 = omega arith in
    let more : 3 * suc m ≡ 3 * m + 1 + 1 + 1 = omega arith in
    let first = ap f (let e : 3 * m + 0 ≡ 3 * m = omega arith in e) in
    let third = ap f (let e : 3 * m + 1 + 1 ≡ 3 * m + 2 = omega arith in e) in
    let left = ap (λ n. total (λ k. total (λ i. f (3 * k + i)) (upto 3)) (upto n)) one ∙ total-upto_more (λ k. total (λ i. f (3 * k + i)) (upto 3)) m in
    let right = ap (λ n. total f (upto n)) more in
    omega (arith, ints, left, right, threes f m, total-upto_more f (3 * m), total-upto_more f (3 * m + 1), total-upto_more f (3 * m + 1 + 1), first, third)

-- a sum from k on
shifted : (f g : ℕ → ℤ) (k : ℕ) → ((i : ℕ) → f (k + i) ≡ g i) → (j n : ℕ) → total f (up_from (k + j) n) ≡ total g (up_from j n)
shifted f g k h j zero = refl
shifted f g k h j (suc n) =
    let next : suc (k + j) ≡ k + suc j = omega arith in
    let rest = ap (λ i. total f (up_from i n)) next ∙ shifted f g k h (suc j) n in omega (arith, ints, h j, rest)

-- a sum that an inverse turns
pub turned_sum : (f : ℕ → ℤ) (t : ℕ → ℕ) (n : ℕ) → AreInverse t t n → ((k : ℕ) → k < n → f (t k) ≡ neg_ℤ (f k)) → total f (upto n) ≡ pos 0
turned_sum f t n inverse turns =
    let same = inverse_sum f t t n inverse ∙ total-upto_same (λ k. f (t k)) (λ k. neg_ℤ (f k)) n turns ∙ total-neg f (upto n) in omega (arith, ints, same)

-- the sum over the lists of a source face: those of its half-edges and of its pairs
abbrev face_sum : (ℕ → ListName) → (ℕ → ℕ → ListName) → (ListName → ℤ) → ℕ → ℕ → ℤ
face_sum half pair w n x = total (λ i. w (half (3 * x + i))) (upto 3) +ℤ total (λ g. w (pair x g)) (upto n)

one_face : (half : ℕ → ListName) (pair : ℕ → ℕ → ListName) (w : ListName → ℤ) (n x : ℕ) →
    total w (map (λ i. half (3 * x + i)) (upto 3) ++ map (pair x) (upto n)) ≡ face_sum half pair w n x
one_face half pair w n x =
    total-append w (map (λ i. half (3 * x + i)) (upto 3)) (map (pair x) (upto n))
    ∙ ap (λ z. z +ℤ total w (map (pair x) (upto n))) (total-map w (λ i. half (3 * x + i)) (upto 3))
    ∙ ap (λ z. total (λ i. w (half (3 * x + i))) (upto 3) +ℤ z) (total-map w (pair x) (upto n))

-- and over those of all faces of a side
side_sum : (half : ℕ → ListName) (pair : ℕ → ℕ → ListName) (w : ListName → ℤ) (m n : ℕ) →
    total (face_sum half pair w n) (upto m) ≡ total (λ h. w (half h)) (upto (3 * m)) +ℤ total (λ x. total (λ g. w (pair x g)) (upto n)) (upto m)
side_sum half pair w m n =
    let halves : ℕ → ℤ = λ x. total (λ i. w (half (3 * x + i))) (upto 3) in
    let pairs : ℕ → ℤ = λ x. total (λ g. w (pair x g)) (upto n) in total-add halves pairs (upto m) ∙ ap (λ z. z +ℤ total pairs (upto m)) (threes (λ h. w (half h)) m)

-- of a face of P, and of a face of Q
face_of_p : (p q : Side) (w : ListName → ℤ) (x : ℕ) → x < length p.triples → total w (lists_of p q x) ≡ face_sum HalfP PairP w (length q.triples) x
face_of_p p q w x below =
    let m = length p.triples in
    let n = length q.triples in
    ap (total w) (cond-true (nat_lt x m) (lists_of_p n x) (lists_of_q m (x - m)) (lt-ltb x m below)) ∙ one_face HalfP PairP w n x

face_of_q : (p q : Side) (w : ListName → ℤ) (g : ℕ) → total w (lists_of p q (length p.triples + g)) ≡ face_sum HalfQ PairQ w (length p.triples) g
face_of_q p q w g =
    let m = length p.triples in
    let n = length q.triples in
    let back : (m + g) - m ≡ g = omega arith in
    ap (total w) (cond-false (nat_lt (m + g) m) (lists_of_p n (m + g)) (lists_of_q m ((m + g) - m)) (le-ltb (m + g) m (omega arith)))
    ∙ ap (λ i. total w (lists_of_q m i)) back
    ∙ one_face HalfQ PairQ w m g

-- all faces of P, and all of Q
faces_of_p : (p q : Side) (w : ListName → ℤ) → total (λ x. total w (lists_of p q x)) (upto (length p.triples)) ≡
    total (λ h. w (HalfP h)) (upto (3 * length p.triples)) +ℤ total (λ f. total (λ g. w (PairP f g)) (upto (length q.triples))) (upto (length p.triples))
faces_of_p p q w =
    let m = length p.triples in
    let n = length q.triples in total-upto_same (λ x. total w (lists_of p q x)) (face_sum HalfP PairP w n) m (face_of_p p q w) ∙ side_sum HalfP PairP w m n

faces_of_q : (p q : Side) (w : ListName → ℤ) → total (λ x. total w (lists_of p q x)) (up_from (length p.triples) (length q.triples)) ≡
    total (λ h. w (HalfQ h)) (upto (3 * length q.triples)) +ℤ total (λ g. total (λ f. w (PairQ g f)) (upto (length p.triples))) (upto (length q.triples))
faces_of_q p q w =
    let m = length p.triples in
    let n = length q.triples in
    let here : m ≡ m + 0 = omega arith in
    ap (λ k. total (λ x. total w (lists_of p q x)) (up_from k n)) here
    ∙ shifted (λ x. total w (lists_of p q x)) (face_sum HalfQ PairQ w m) m (face_of_q p q w) 0 n
    ∙ side_sum HalfQ PairQ w n m

-- the pairs seen from both faces
pairs_cancel : (w : ℕ → ℕ → ℤ) (u : ℕ → ℕ → ℤ) (m n : ℕ) → ((f g : ℕ) → u g f ≡ neg_ℤ (w f g)) →
    total (λ f. total (w f) (upto n)) (upto m) +ℤ total (λ g. total (u g) (upto m)) (upto n) ≡ pos 0
pairs_cancel w u m n turned =
    let inner = total-same (λ g. total (u g) (upto m)) (λ g. neg_ℤ (total (λ f. w f g) (upto m)))
    (λ g. total-same (u g) (λ f. neg_ℤ (w f g)) (λ f. turned f g) (upto m) ∙ total-neg (λ f. w f g) (upto m)) (upto n) in
    let outer = total-neg (λ g. total (λ f. w f g) (upto m)) (upto n) in
    omega (arith, ints, inner, outer, total-swap w (upto m) (upto n))

-- the sum over all lists
all_lists : (p q : Side) (w : ListName → ℤ) → total (λ h. w (HalfP h)) (upto (3 * length p.triples)) ≡ pos 0 → total (λ h. w (HalfQ h)) (upto (3 * length q.triples)) ≡ pos 0 →
    ((f g : ℕ) → w (PairQ g f) ≡ neg_ℤ (w (PairP f g))) → total (λ x. total w (lists_of p q x)) (upto (source_count p q)) ≡ pos 0
all_lists p q w of_p of_q turned =
    let m = length p.triples in
    let n = length q.triples in
    let each : ℕ → ℤ = λ x. total w (lists_of p q x) in
    let zero_on : 0 + m ≡ m = omega arith in
    let parts = ap (total each) (up_from-append 0 m n) ∙ total-append each (upto m) (up_from (0 + m) n) in
    let later = ap (λ k. total each (up_from k n)) zero_on ∙ faces_of_q p q w in
    let none = pairs_cancel (λ f g. w (PairP f g)) (λ g f. w (PairQ g f)) m n turned in
    omega (arith, ints, parts, later, none, faces_of_p p q w, of_p, of_q)

-- every odd function adds up to nothing over the segments of all faces
pub cancel : (p q : Side) (cs : List Copy) (place : ℕ → List ℤ) → IsSide p → IsSide q → SameChain (all_segments p q cs place) []
cancel p q cs place p_known q_known f odd =
    let w : ListName → ℤ = λ name. total (along f) (segments_in p q cs place name) in
    let P = all_edges p.triples in
    let Q = all_edges q.triples in
    let lists = total-same (λ x. total (along f) (segments_of p q cs place x)) (λ x. total w (lists_of p q x))
    (λ x. total-flat_map (along f) (segments_in p q cs place) (lists_of p q x)) (upto (source_count p q)) in
    let of_p = turned_sum (λ h. w (HalfP h)) (twin P) (length P) (twins_inverse P p_known.accepted.closed)
    (λ h below. ap (total (along f)) (twin_reverses_p p q p_known cs place h below) ∙ total-backward f odd (segments_in p q cs place (HalfP h))) in
    let of_q = turned_sum (λ h. w (HalfQ h)) (twin Q) (length Q) (twins_inverse Q q_known.accepted.closed)
    (λ h below. ap (total (along f)) (twin_reverses_q p q q_known cs place h below) ∙ total-backward f odd (segments_in p q cs place (HalfQ h))) in
    total-flat_map (along f) (segments_of p q cs place) (upto (source_count p q)) ∙ lists
    ∙ all_lists p q w (sym (ap (λ k. total (λ h. w (HalfP h)) (upto k)) (length-all_edges p.triples)) ∙ of_p)
    (sym (ap (λ k. total (λ h. w (HalfQ h)) (upto k)) (length-all_edges q.triples)) ∙ of_q)
    (λ g h. ap (total (along f)) (pair_reverses p q cs place g h) ∙ total-backward f odd (segments_in p q cs place (PairP g h)))

-- so they are closed
pub closed : (p q : Side) (cs : List Copy) (place : ℕ → List ℤ) → IsSide p → IsSide q → IsClosed (all_segments p q cs place)
closed p q cs place p_known q_known = closed_from_sums (all_segments p q cs place) (cancel p q cs place p_known q_known)
