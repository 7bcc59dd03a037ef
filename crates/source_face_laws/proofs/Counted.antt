-- There are as many segments as starts of lists, on one face and on all.
use Rattle.std.proofs.Common.{◌≡◌, ℕ, zero, suc, ◌+◌, ◌-◌, ◌<◌, ◌≤◌, ℤ, List, [], ◌∷◌, ◌++◌, map, length, get_or, refl, arith, ap, sym, ◌∙◌}
use Rattle.std.specs.Prelude.{nat_lt}
use Rattle.std.specs.List.{All, sum_by, zip}
use Rattle.std.proofs.lemmas.Bool.{cond-false, cond-true, le-ltb, lt-ltb}
use Rattle.std.proofs.lemmas.List.{length-map}
use Rattle.std.proofs.lemmas.List.Concat.{length-flat_map}
use Rattle.std.proofs.lemmas.List.Elements.{All-head, All-tail, All-weaker}
use Rattle.std.proofs.lemmas.List.Folds.{length-flat_map-take}
use Rattle.std.proofs.lemmas.List.Sorted.{length_permutation}
use Rattle.std.proofs.lemmas.List.Sums.{sum_by-append, sum_by-cons}
use Rattle.chain_terms.specs.Chains.{all_edges}
use Rattle.chain_terms.specs.Ranks.{start, finish}
use Rattle.chain_terms.specs.Sums.{up_from, upto}
use Rattle.chain_laws.specs.Sorting.{sorted_by}
use Rattle.chain_laws.proofs.Places.{get_or-up_from, length-up_from, up_from-append}
use Rattle.mesh_terms.specs.Points.{coordinate_of}
use Rattle.side_terms.specs.Sides.{Side}
use Rattle.side_terms.specs.Lists.{Copy, IsListOf, ListName, HalfP, HalfQ, PairP, PairQ, ends, lists_of_p, lists_of_q, starts}
use Rattle.side_terms.specs.Standing.{IsBalanced, count_all_starts, count_starts}
use Rattle.edge_pairing.specs.Pairing.{comes_before, pair_up, paired_across, paired_along, scalar_product, spread_axis, step}
use Rattle.edge_pairing.proofs.Ordered.{sorted_moved}
use Rattle.edge_pairing.proofs.Zips.{zip-firsts}
use Rattle.source_face_terms.specs.Segments.{all_segments, lists_of, lower_half, paired_in, segments_in, segments_of, source_count, vertex_point}
use Rattle.source_face_laws.proofs.FaceLists.{all_upto, lists_known}

-- sums of what is the same for each member
sum_by-same_all : {X : Type 0} (f g : X → ℕ) (xs : List X) → All (λ x. f x ≡ g x) xs → sum_by f xs ≡ sum_by g xs
sum_by-same_all f g [] h = refl
sum_by-same_all f g (x ∷ xs) h =
    let here : f x ≡ g x = All-head (λ x. f x ≡ g x) x xs h in
    let rest = sum_by-same_all f g xs (All-tail (λ x. f x ≡ g x) x xs h) in
    omega (arith, here, rest, sum_by-cons f x xs, sum_by-cons g x xs)

-- a sum over numbers from k on
shifted : (f g : ℕ → ℕ) (k : ℕ) → ((i : ℕ) → f (k + i) ≡ g i) → (j n : ℕ) → sum_by f (up_from (k + j) n) ≡ sum_by g (up_from j n)
shifted f g k h j zero = refl
shifted f g k h j (suc n) =
    let next : suc (k + j) ≡ k + suc j = omega arith in
    let rest = ap (λ i. sum_by f (up_from i n)) next ∙ shifted f g k h (suc j) n in
    omega (arith, h j, rest, sum_by-cons f (k + j) (up_from (suc (k + j)) n), sum_by-cons g j (up_from (suc j) n))

-- a pairing of as many starts as ends has an edge for each start
pairs_length : (key : ℕ → ℤ) (from to : List ℕ) → length from ≡ length to → length (pair_up key from to) ≡ length from
pairs_length key from to even =
    let ss = sorted_by (comes_before key) from in
    let ts = sorted_by (comes_before key) to in
    let s = length_permutation from ss (sorted_moved key from) in
    let t = length_permutation to ts (sorted_moved key to) in
    sym (length-map (zip ss ts) (λ (e : ℕ × ℕ). e.0)) ∙ ap (λ l. length l) (zip-firsts ss ts (s ∙ even ∙ sym t)) ∙ s

-- along an edge
along_length : (a b : List ℤ) (place : ℕ → List ℤ) (from to : List ℕ) → length from ≡ length to → length (paired_along a b place from to) ≡ length from
along_length a b place from to even = let key : ℕ → ℤ = λ v. scalar_product (step a b) (place v) in pairs_length key from to even

-- where two faces cross
across_length : (place : ℕ → List ℤ) (from to : List ℕ) → length from ≡ length to → length (paired_across place from to) ≡ length from
across_length place from to even = let key : ℕ → ℤ = λ v. coordinate_of (place v) (spread_axis (map place (from ++ to))) in pairs_length key from to even

-- in any list
paired_length : (p q : Side) (place : ℕ → List ℤ) (name : ListName) (from to : List ℕ) → length from ≡ length to → length (paired_in p q place name from to) ≡ length from
paired_length p q place (HalfP h) from to even =
    let es = all_edges p.triples in along_length (vertex_point p (start es (lower_half es h))) (vertex_point p (finish es (lower_half es h))) place from to even
paired_length p q place (HalfQ h) from to even =
    let es = all_edges q.triples in along_length (vertex_point q (start es (lower_half es h))) (vertex_point q (finish es (lower_half es h))) place from to even
paired_length p q place (PairP f g) from to even = across_length place from to even
paired_length p q place (PairQ g f) from to even = across_length place from to even

-- the segments of a face are as many as the starts of its lists
pub face_counted : (p q : Side) (cs : List Copy) (place : ℕ → List ℤ) → IsBalanced p q cs → (x : ℕ) → x < source_count p q →
    length (segments_of p q cs place x) ≡ count_starts p q cs (lists_of p q x)
face_counted p q cs place balance x below =
    let P = all_edges p.triples in
    let Q = all_edges q.triples in
    let here = segments_in p q cs place in
    let size : ListName → ℕ = λ name. length (starts P Q cs name) in
    length-flat_map here (lists_of p q x)
    ∙ sum_by-same_all (λ name. length (here name)) size (lists_of p q x)
    (All-weaker (IsListOf (length p.triples) (length q.triples)) (λ name. length (here name) ≡ size name)
    (λ name inside. paired_length p q place name (starts P Q cs name) (ends P Q cs name) (balance.even name inside)) (lists_of p q x) (lists_known p q x below))

-- the starts of the lists of all faces, face by face
faces_counted : (p q : Side) (cs : List Copy) → sum_by (λ x. count_starts p q cs (lists_of p q x)) (upto (source_count p q)) ≡ count_all_starts p q cs
faces_counted p q cs =
    let m = length p.triples in
    let n = length q.triples in
    let each : ℕ → ℕ = λ x. count_starts p q cs (lists_of p q x) in
    let of_p : ℕ → ℕ = λ f. count_starts p q cs (lists_of_p n f) in
    let of_q : ℕ → ℕ = λ g. count_starts p q cs (lists_of_q m g) in
    let first = sum_by-same_all each of_p (upto m)
    (all_upto (λ f. each f ≡ of_p f) m (λ f l. ap (count_starts p q cs) (cond-true (nat_lt f m) (lists_of_p n f) (lists_of_q m (f - m)) (lt-ltb f m l)))) in
    let here : 0 + m ≡ m + 0 = omega arith in
    let second = shifted each of_q m (is_of_q p q cs) 0 n in
    ap (sum_by each) (up_from-append 0 m n ∙ ap (λ k. upto m ++ up_from k n) here) ∙ sum_by-append each (upto m) (up_from (m + 0) n) ∙ omega (arith, first, second)
  where
    is_of_q : (p q : Side) (cs : List Copy) (g : ℕ) → count_starts p q cs (lists_of p q (length p.triples + g)) ≡ count_starts p q cs (lists_of_q (length p.triples) g)
    is_of_q p q cs g =
        let m = length p.triples in
        let n = length q.triples in
        let back : (m + g) - m ≡ g = omega arith in
        ap (count_starts p q cs) (cond-false (nat_lt (m + g) m) (lists_of_p n (m + g)) (lists_of_q m ((m + g) - m)) (le-ltb (m + g) m (omega arith)) ∙ ap (lists_of_q m) back)

-- so there are as many segments as starts
pub all_counted : (p q : Side) (cs : List Copy) (place : ℕ → List ℤ) → IsBalanced p q cs → length (all_segments p q cs place) ≡ count_all_starts p q cs
all_counted p q cs place balance =
    let size : ℕ → ℕ = λ x. length (segments_of p q cs place x) in
    let count : ℕ → ℕ = λ x. count_starts p q cs (lists_of p q x) in
    length-flat_map (segments_of p q cs place) (upto (source_count p q))
    ∙ sum_by-same_all size count (upto (source_count p q)) (all_upto (λ x. size x ≡ count x) (source_count p q) (face_counted p q cs place balance)) ∙ faces_counted p q cs

-- those of one face are among all
pub face_few : (p q : Side) (cs : List Copy) (place : ℕ → List ℤ) (x : ℕ) → x < source_count p q → length (segments_of p q cs place x) ≤ length (all_segments p q cs place)
face_few p q cs place x below =
    let faces = upto (source_count p q) in
    let part = length-flat_map-take (segments_of p q cs place) faces x 0 (omega (arith, below, length-up_from 0 (source_count p q))) in
    let here : get_or faces x 0 ≡ x = omega (arith, get_or-up_from 0 (source_count p q) x 0 below) in
    let same = ap (λ k. length (segments_of p q cs place k)) here in
    omega (arith, part, same)
