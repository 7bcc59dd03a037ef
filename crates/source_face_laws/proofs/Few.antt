-- All fillings have at most five triangles for three starts, and there are no more copies than starts.
use Rattle.std.proofs.Common.{◌≡◌, ℕ, zero, suc, ◌+◌, ◌*◌, ◌<◌, ◌≤◌, Bool, ◌==◌, count_by, List, [], ◌∷◌, ◌++◌, length, map, arith, ap}
use Rattle.std.specs.List.{All, flat_map}
use Rattle.std.proofs.lemmas.Bool.{eqb-true, ne_eqb}
use Rattle.std.proofs.lemmas.List.{length-append}
use Rattle.std.proofs.lemmas.List.Elements.{All-head, All-tail}
use Rattle.std.proofs.lemmas.List.Sums.{sum_by-cons}
use Rattle.chain_terms.specs.Cycles.{out}
use Rattle.chain_terms.specs.Sums.{upto}
use Rattle.chain_laws.specs.Counts.{Splits, count_by-middle, one_if-false, split_by}
use Rattle.chain_laws.specs.Firsts.{counted, passing}
use Rattle.mesh_terms.specs.Meshes.{Triple}
use Rattle.side_terms.specs.Sides.{Side}
use Rattle.side_terms.specs.Lists.{Copy}
use Rattle.side_terms.specs.Standing.{count_all_starts}
use Rattle.ring_cutting.specs.Cuts.{Cut}
use Rattle.source_face_terms.specs.Segments.{all_segments, place_of, segments_of, source_count}
use Rattle.source_face_laws.proofs.Assembled.{starts_somewhere}
use Rattle.source_face_laws.proofs.FaceLists.{all_upto}
use Rattle.face_loops.proofs.Members.{in_all}
use Rattle.source_face_terms.specs.Assembling.{CanBeAssembled}
use Rattle.source_face_terms.specs.Filled.{all_filled, all_triples, face_segments, filled_face, forced_of}
use Rattle.source_face_laws.proofs.Counted.{all_counted}
use Rattle.source_face_laws.proofs.Fillings.{fill_face}
use Rattle.source_face_laws.proofs.Parts.{among, part_of, parts}

-- five for three, list by list
five_for_three : (part : ℕ → List Triple) (segments : ℕ → List (ℕ × ℕ)) (xs : List ℕ) → All (λ x. 3 * length (part x) ≤ 5 * length (segments x)) xs →
    3 * length (flat_map part xs) ≤ 5 * length (flat_map segments xs)
five_for_three part segments [] h = omega arith
five_for_three part segments (x ∷ xs) h =
    let P : ℕ → Type 0 = λ x. 3 * length (part x) ≤ 5 * length (segments x) in
    let here : 3 * length (part x) ≤ 5 * length (segments x) = All-head P x xs h in
    omega (arith, here, five_for_three part segments xs (All-tail P x xs h), length-append (part x) (flat_map part xs), length-append (segments x) (flat_map segments xs))

-- so of all triangles
pub few_triples : (p q : Side) (cs : List Copy) → CanBeAssembled p q cs → 3 * length (all_triples (all_filled p q cs)) ≤ 5 * count_all_starts p q cs
few_triples p q cs can =
    let n = source_count p q in
    let each = all_upto (λ x. 3 * length (part_of p q cs x) ≤ 5 * length (face_segments p q cs x)) n (λ x below. (fill_face p q cs can x below).few) in
    omega (arith, ap (λ ts. length ts) (parts p q cs), five_for_three (part_of p q cs) (face_segments p q cs) (upto n) each, all_counted p q cs (place_of cs) can.balance)

-- no more are forced than there are, list by list
few_forced : (cut : ℕ → Cut) (xs : List ℕ) → All (λ x. (cut x).forced ≤ length (cut x).triples) xs → forced_of (map cut xs) ≤ length (all_triples (map cut xs))
few_forced cut [] h = omega arith
few_forced cut (x ∷ xs) h =
    let P : ℕ → Type 0 = λ x. (cut x).forced ≤ length (cut x).triples in
    let here : (cut x).forced ≤ length (cut x).triples = All-head P x xs h in
    omega (arith, here, few_forced cut xs (All-tail P x xs h), length-append (cut x).triples (all_triples (map cut xs)), sum_by-cons (λ (c : Cut). c.forced) (cut x) (map cut xs))

-- so of all fillings
pub forced_within : (p q : Side) (cs : List Copy) → CanBeAssembled p q cs → forced_of (all_filled p q cs) ≤ length (all_triples (all_filled p q cs))
forced_within p q cs can =
    few_forced (filled_face p q cs) (upto (source_count p q))
    (all_upto (λ x. (filled_face p q cs x).forced ≤ length (filled_face p q cs x).triples) (source_count p q) (λ x below. (fill_face p q cs can x below).forced))

-- where each of n numbers starts an edge, there are at least n edges
enough : (k n : ℕ) (es : List (ℕ × ℕ)) → ((v : ℕ) → k ≤ v → v < k + n → 0 < out es v) → n ≤ length es
enough k zero es some = omega arith
enough k (suc n) es some =
    let s = split_by (λ (e : ℕ × ℕ). e.0 == k) es (some k (omega arith) (omega arith)) in
    let at : s.member.0 ≡ k = eqb-true s.member.0 k s.passes in
    let rest = enough (suc k) n (s.front ++ s.back) (λ v low high. fewer k es s at v low (some v (omega (arith, low)) (omega (arith, high)))) in
    omega (arith, rest, ap (λ l. length l) s.joined, length-append s.front (s.member ∷ s.back), length-append s.front s.back)
  where
    fewer : (k : ℕ) (es : List (ℕ × ℕ)) (s : Splits (λ (e : ℕ × ℕ). e.0 == k) es) → s.member.0 ≡ k → (v : ℕ) → suc k ≤ v → 0 < out es v → 0 < out (s.front ++ s.back) v
    fewer k es s at v low some =
        let test : (ℕ × ℕ) → Bool = λ e. e.0 == v in
        let other = one_if-false (test s.member) (ne_eqb s.member.0 v (λ e. omega (arith, e, at, low))) in
        omega (arith, some, ap (count_by test) s.joined, count_by-middle test s.front s.member s.back, other)

-- so there are at least as many segments as copies
pub few_copies : (p q : Side) (cs : List Copy) → CanBeAssembled p q cs → length cs ≤ length (all_segments p q cs (place_of cs))
few_copies p q cs can =
    let place = place_of cs in
    enough 0 (length cs) (all_segments p q cs place) (λ v low inside.
    let s = starts_somewhere p q cs place can.two_lists can.balance v (omega (arith, inside)) in
    let test : (ℕ × ℕ) → Bool = λ e. e.0 == v in
    let found = passing test (segments_of p q cs place s.face) (omega (arith, s.once)) in
    counted test found.member (all_segments p q cs place)
    (in_all (segments_of p q cs place) (upto (source_count p q)) s.face found.member (among (source_count p q) s.face s.known) found.inside) found.passes)
