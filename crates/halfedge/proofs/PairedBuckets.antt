-- Half-edges in buckets: how often edges run in a bucket, and what is known once the first buckets are paired.
use Rattle.std.specs.Prelude.{◌≡◌, ◌≢◌, ◌↔◌, ℕ, zero, suc, ◌+◌, ◌<◌, ◌≤◌, List, [], ◌∷◌, Bool, true, false, cond, IsTrue, ◌==◌, ◌&&◌, nat_lt, length, get_or, map}
use Rattle.std.specs.List.{All, filter}
use Rattle.std.proofs.Common.{arith, refl, sym, ap, subst, ◌∙◌, inl, inr}
use Rattle.std.proofs.lemmas.Bool.{cond_both, cases_lt, cases_order, and_parts, and_from, ltb-true, eqb-true}
use Rattle.std.proofs.lemmas.List.{same_lists, get_or-map, get_or_default, length-map}
use Rattle.std.proofs.lemmas.List.Elements.{All-head, All-tail}
use Rattle.std.proofs.lemmas.List.Sorted.{IsPermutation-map}
use Rattle.chain_terms.specs.Chains.{is_edge, one_if, dir, all_edges, IsClosed}
use Rattle.chain_terms.specs.Sums.{upto}
use Rattle.chain_terms.specs.Odd.{backward}
use Rattle.chain_laws.specs.Chains.{edge_is, dir-backward, dir-permutation}
use Rattle.chain_terms.specs.Ranks.{start, finish, twin}
use Rattle.chain_laws.proofs.Places.{get_or-up_from, length-up_from}
use Rattle.mesh_terms.specs.Meshes.{Triple, HasThree}
use Rattle.mesh_terms.specs.OpenEdges.{is_lesser}
use Rattle.halfedge.specs.Laws.{AreSingle}
use Rattle.halfedge.specs.Pairing.{Half, numbered, ends, ends_of, half_at, IsSortOf}
use Rattle.halfedge.specs.Ways.{EndsDiffer, edge_lies_in, lies_in, AreWays, AreWritten, ArePaired}
use Rattle.halfedge.proofs.Order.{one_edge, is_itself, same_edge}
use Rattle.halfedge.proofs.NumberedHalves.{ends-numbered}
use Rattle.halfedge.proofs.TwinWays.{lies_from}
use Rattle.halfedge.proofs.Walk.{IsRising, rising_from_sorted, none_lesser}

-- a half-edge that runs from a to b lies in a bucket where that edge does
lies_as_edge : (key : ℕ → ℕ) (k a b : ℕ) (h : Half) → is_edge (ends h) a b ≡ true → lies_in key k h ≡ edge_lies_in key k (a, b)
lies_as_edge key k a b h is =
    let p = edge_is (ends h) a b is in
    ap (λ u. edge_lies_in key k (u, h.1)) p.0 ∙ ap (λ v. edge_lies_in key k (a, v)) p.1

-- a half-edge in the bucket is counted with the others, where the edge lies there
counted_inside : (runs inside : Bool) (n : ℕ) → (runs ≡ true → true ≡ inside) → one_if runs + cond inside n 0 ≡ cond inside (one_if runs + n) 0
counted_inside runs true n same = refl
counted_inside false false n same = refl
counted_inside true false n same = let wrong = same refl in cc

-- a half-edge elsewhere is not that edge, where the edge lies in the bucket
not_counted : (runs inside : Bool) (n : ℕ) → (runs ≡ true → false ≡ inside) → cond inside n 0 ≡ cond inside (one_if runs + n) 0
not_counted runs false n same = refl
not_counted false true n same = omega arith
not_counted true true n same = let wrong = same refl in cc

-- an edge runs as often in its bucket as in the whole, and in no other bucket
filter_count : (key : ℕ → ℕ) (k a b : ℕ) (hs : List Half) → dir (ends_of (filter (lies_in key k) hs)) a b ≡ cond (edge_lies_in key k (a, b)) (dir (ends_of hs) a b) 0
filter_count key k a b [] = cond_both (edge_lies_in key k (a, b)) 0 0 (λ n. 0 ≡ n) (λ yes. refl) (λ no. refl)
filter_count key k a b (h ∷ hs) =
    let rest = filter (lies_in key k) hs in
    let later = filter_count key k a b hs in
    let all = dir (ends_of hs) a b in
    cond_both (lies_in key k h) (h ∷ rest) rest (λ l. dir (ends_of l) a b ≡ cond (edge_lies_in key k (a, b)) (one_if (is_edge (ends h) a b) + all) 0)
    (λ yes. ap (λ n. one_if (is_edge (ends h) a b) + n) later ∙ counted_inside (is_edge (ends h) a b) (edge_lies_in key k (a, b)) all (λ is. sym yes ∙ lies_as_edge key k a b h is))
    (λ no. later ∙ not_counted (is_edge (ends h) a b) (edge_lies_in key k (a, b)) all (λ is. sym no ∙ lies_as_edge key k a b h is))

-- so it does once the bucket is sorted
pub way_count : (es : List (ℕ × ℕ)) (key : ℕ → ℕ) (k : ℕ) (way : List Half) → IsSortOf (filter (lies_in key k) (numbered 0 es)) way → (a b : ℕ) →
    dir (ends_of way) a b ≡ cond (edge_lies_in key k (a, b)) (dir es a b) 0
way_count es key k way sorted a b =
    let kept = filter (lies_in key k) (numbered 0 es) in
    dir-permutation (ends_of kept) (ends_of way) (IsPermutation-map ends kept way sorted.moved) a b ∙ filter_count key k a b (numbered 0 es)
    ∙ ap (λ l. cond (edge_lies_in key k (a, b)) (dir l a b) 0) (ends-numbered 0 es)

-- an edge that runs up runs as often among the ups of its bucket
pub ups_count : (es : List (ℕ × ℕ)) (key : ℕ → ℕ) (k : ℕ) (ups downs : List Half) → AreWays es key k ups downs → (a b : ℕ) → a < b → key a ≡ k → dir (ends_of ups) a b ≡ dir es a b
ups_count es key k ups downs ways a b up same =
    way_count es key k ups ways.ups_sorted a b ∙ ap (λ t. cond t (dir es a b) 0) (lies_from key k a b up same)

-- and among the downs as often as it runs back
pub downs_count : (es : List (ℕ × ℕ)) (key : ℕ → ℕ) (k : ℕ) (ups downs : List Half) → AreWays es key k ups downs → (a b : ℕ) → a < b → key a ≡ k →
    dir (ends_of downs) a b ≡ dir es b a
downs_count es key k ups downs ways a b up same =
    way_count (backward es) key k downs ways.downs_sorted a b ∙ ap (λ t. cond t (dir (backward es) a b) 0) (lies_from key k a b up same) ∙ dir-backward es a b

-- an edge of a rising list is not lesser than the first
not_before_first : (x q : ℕ × ℕ) (xs : List (ℕ × ℕ)) → IsRising (x ∷ xs) → 0 < dir (x ∷ xs) q.0 q.1 → is_lesser q x ≡ false
not_before_first x q xs rising some = by (is_lesser q x) refl
  where
    by : (t : Bool) → is_lesser q x ≡ t → is_lesser q x ≡ false
    by false is = is
    by true is = absurd (omega (arith, some, none_lesser x q xs rising is))

-- the first edge runs in the list
first_runs : (x : ℕ × ℕ) (xs : List (ℕ × ℕ)) → 0 < dir (x ∷ xs) x.0 x.1
first_runs x xs = omega (arith, ap one_if (is_itself x))

-- rising lists in which each edge runs equally often are the same
rising_same : (xs ys : List (ℕ × ℕ)) → IsRising xs → IsRising ys → ((a b : ℕ) → dir xs a b ≡ dir ys a b) → xs ≡ ys
rising_same [] [] up up_too same = refl
rising_same [] (y ∷ ys) up up_too same = absurd (omega (arith, same y.0 y.1, first_runs y ys))
rising_same (x ∷ xs) [] up up_too same = absurd (omega (arith, same x.0 x.1, first_runs x xs))
rising_same (x ∷ xs) (y ∷ ys) up up_too same =
    let above = not_before_first y x ys up_too (omega (arith, same x.0 x.1, first_runs x xs)) in
    let below = not_before_first x y xs up (omega (arith, same y.0 y.1, first_runs y ys)) in
    let first : x ≡ y = same_edge x y (one_edge x y above below y.0 y.1 ∙ is_itself y) in
    let rest = rising_same xs ys up.1 up_too.1 (λ a b. omega (arith, same a b, ap (λ e. one_if (is_edge e a b)) first)) in
    ap (λ e. e ∷ xs) first ∙ ap (λ l. y ∷ l) rest

-- in a closed chain the ups and the downs of a bucket have the same ends
closed_alike : (es : List (ℕ × ℕ)) (key : ℕ → ℕ) (k : ℕ) (ups downs : List Half) → AreWays es key k ups downs → IsClosed es → ends_of ups ≡ ends_of downs
closed_alike es key k ups downs ways closed =
    rising_same (ends_of ups) (ends_of downs) (rising_from_sorted ups ways.ups_sorted.up) (rising_from_sorted downs ways.downs_sorted.up)
    (λ a b.
    way_count es key k ups ways.ups_sorted a b ∙ ap (λ n. cond (edge_lies_in key k (a, b)) n 0) (closed a b ∙ sym (dir-backward es a b))
    ∙ sym (way_count (backward es) key k downs ways.downs_sorted a b))

-- where they have not, the chain is not closed
pub not_closed : (es : List (ℕ × ℕ)) (key : ℕ → ℕ) (k : ℕ) (ups downs : List Half) → AreWays es key k ups downs → (ends_of ups ≡ ends_of downs → ⊥) → IsClosed es → ⊥
not_closed es key k ups downs ways differ closed = differ (closed_alike es key k ups downs ways closed)

-- no bucket is paired yet, and none has to be
pub paired_none : (es : List (ℕ × ℕ)) (key : ℕ → ℕ) (twins : List ℕ) → length twins ≡ length es → ArePaired es key 0 twins true
paired_none es key twins full = record {
  full = full;
  up = λ h below up low. absurd (omega (arith, low));
  down = λ h below down low. absurd (omega (arith, low));
  even = λ a b up low. absurd (omega (arith, low));
  alone = ((λ yes a b up low. absurd (omega (arith, low))), (λ all. refl));
}

-- what holds below k and at k holds below k + 1
below_next : (P : ℕ → Type 0) (k n : ℕ) → n < k + 1 → (n < k → P n) → (n ≡ k → P n) → P n
below_next P k n low before here = elim (cases_lt n k) as (λ _. P n) [
  | inl less ↦ before less
  | inr more ↦ here (omega (arith, low, more))
]

-- the half-edges of a bucket are single where the edges that lie there are
single_inside : (es : List (ℕ × ℕ)) (key : ℕ → ℕ) (k : ℕ) (way : List Half) → IsSortOf (filter (lies_in key k) (numbered 0 es)) way →
    ((a b : ℕ) → a < b → key a ≡ k → dir es a b ≤ 1) → AreSingle (ends_of way)
single_inside es key k way sorted few a b =
    subst (λ n. n ≤ 1) (sym (way_count es key k way sorted a b))
    (cond_both (edge_lies_in key k (a, b)) (dir es a b) 0 (λ n. n ≤ 1)
    (λ yes. let p = and_parts (nat_lt a b) (key a == k) yes in few a b (ltb-true a b p.0) (eqb-true (key a) k p.1))
    (λ no. omega arith))

-- with one more bucket: no edge of the first buckets runs twice, and none of the next
alone_more : (es : List (ℕ × ℕ)) (key : ℕ → ℕ) (k : ℕ) (ups downs : List Half) (single one : Bool) → AreWays es key k ups downs →
    (IsTrue single ↔ ((a b : ℕ) → a < b → key a < k → dir es a b ≤ 1)) → (IsTrue one ↔ AreSingle (ends_of ups))
    → (IsTrue (single && one) ↔ ((a b : ℕ) → a < b → key a < k + 1 → dir es a b ≤ 1))
alone_more es key k ups downs single one ways alone known = (
  (λ yes a b up low.
      let p = and_parts single one yes in
      below_next (λ n. dir es a b ≤ 1) k (key a) low (alone.0 p.0 a b up)
      (λ same. subst (λ n. n ≤ 1) (ups_count es key k ups downs ways a b up same) (known.0 p.1 a b))),
  (λ all. and_from single one
      (alone.1 (λ a b up low. all a b up (omega (arith, low))))
      (known.1 (single_inside es key k ups ways.ups_sorted (λ a b up same. all a b up (omega (arith, same)))))),
)

-- a half-edge that stands in a list whose half-edges have their twins has its twin
has_twin : (es : List (ℕ × ℕ)) (way : List Half) (new : List ℕ) (h : ℕ) → ((i : ℕ) → i < length way → get_or new (half_at way i) 0 ≡ twin es (half_at way i)) →
    (i : ℕ) × (i < length way) × (half_at way i ≡ h) → get_or new h 0 ≡ twin es h
has_twin es way new h each (i, below, is) = subst (λ g. get_or new g 0 ≡ twin es g) is (each i below)

-- one more bucket is paired
pub paired_more : (es : List (ℕ × ℕ)) (key : ℕ → ℕ) (k : ℕ) (ups downs : List Half) (old new : List ℕ) (single one : Bool) → ArePaired es key k old single →
    AreWays es key k ups downs → ends_of ups ≡ ends_of downs
    → length new ≡ length old → AreWritten (twin es) ups downs old new → (IsTrue one ↔ AreSingle (ends_of ups))
    → ((h : ℕ) → h < length es → start es h < finish es h → key (start es h) ≡ k → (i : ℕ) × (i < length ups) × (half_at ups i ≡ h))
    → ((h : ℕ) → h < length es → finish es h < start es h → key (finish es h) ≡ k → (i : ℕ) × (i < length downs) × (half_at downs i ≡ h)) →
    ArePaired es key (k + 1) new (single && one)
paired_more es key k ups downs old new single one paired ways alike full written known up_places down_places = record {
  full = full ∙ paired.full;
  up = λ h below up low. below_next (λ n. get_or new h 0 ≡ twin es h) k (key (start es h)) low
      (λ less. written.kept h (paired.up h below up less))
      (λ same. has_twin es ups new h written.up (up_places h below up same));
  down = λ h below down low. below_next (λ n. get_or new h 0 ≡ twin es h) k (key (finish es h)) low
      (λ less. written.kept h (paired.down h below down less))
      (λ same. has_twin es downs new h written.down (down_places h below down same));
  even = λ a b up low. below_next (λ n. dir es a b ≡ dir es b a) k (key a) low (paired.even a b up)
      (λ same. sym (ups_count es key k ups downs ways a b up same) ∙ ap (λ l. dir l a b) alike ∙ downs_count es key k ups downs ways a b up same);
  alone = alone_more es key k ups downs single one ways paired.alone known;
}

-- where no edge starts where it ends, none runs from a vertex to itself
no_loops : (es : List (ℕ × ℕ)) → EndsDiffer es → (a : ℕ) → dir es a a ≡ 0
no_loops [] differ a = refl
no_loops (e ∷ es) differ a = by (is_edge e a a) refl (no_loops es (λ h below. differ (suc h) (omega (arith, below))) a)
  where
    by : (t : Bool) → is_edge e a a ≡ t → dir es a a ≡ 0 → one_if t + dir es a a ≡ 0
    by false is none = omega (arith, none)
    by true is none = let p = edge_is e a a is in absurd (differ 0 (omega arith) (p.0 ∙ sym p.1))

-- what holds of two different numbers, the lesser first or last, and of equal ones
by_order : (P : ℕ → ℕ → Type 0) → ((a b : ℕ) → a < b → P a b) → ((a b : ℕ) → b < a → P a b) → ((a : ℕ) → P a a) → (a b : ℕ) → P a b
by_order P up down level a b = elim (cases_order a b) as (λ _. P a b) [
  | inl same ↦ subst (P a) same (level a)
  | inr (inl less) ↦ up a b less
  | inr (inr more) ↦ down a b more
]

-- once all buckets are paired, the chain is closed
all_closed : (es : List (ℕ × ℕ)) → ((a b : ℕ) → a < b → dir es a b ≡ dir es b a) → IsClosed es
all_closed es even = by_order (λ a b. dir es a b ≡ dir es b a) even (λ a b down. sym (even b a down)) (λ a. refl)

-- and no two edges run the same way where none that runs up does
all_single : (es : List (ℕ × ℕ)) → ((a b : ℕ) → a < b → dir es a b ≡ dir es b a) → ((a : ℕ) → dir es a a ≡ 0) → ((a b : ℕ) → a < b → dir es a b ≤ 1) → AreSingle es
all_single es even none few =
    by_order (λ a b. dir es a b ≤ 1) few (λ a b down. omega (arith, few b a down, even b a down)) (λ a. omega (arith, none a))

-- the list of twins has each twin at its place
twins_at : (es : List (ℕ × ℕ)) (h d : ℕ) → h < length es → get_or (map (twin es) (upto (length es))) h d ≡ twin es h
twins_at es h d below =
    let first : 0 + h ≡ h = omega arith in
    get_or-map (twin es) (upto (length es)) h d d (omega (arith, below, length-up_from 0 (length es))) ∙ ap (twin es) (get_or-up_from 0 (length es) h d below ∙ first)

-- a list that has each twin at its place is that list
all_twins : (es : List (ℕ × ℕ)) (twins : List ℕ) → length twins ≡ length es → ((h : ℕ) → h < length es → get_or twins h 0 ≡ twin es h) → twins ≡ map (twin es) (upto (length es))
all_twins es twins full each =
    same_lists twins (map (twin es) (upto (length es))) (omega (arith, full, length-map (upto (length es)) (twin es), length-up_from 0 (length es)))
    (λ h d below.
    let inside : h < length es = omega (arith, below, full) in
    get_or_default twins h d 0 below ∙ each h inside ∙ sym (twins_at es h d inside))

-- once all buckets are paired, each half-edge has its twin
each_twin : (es : List (ℕ × ℕ)) (key : ℕ → ℕ) (n : ℕ) (twins : List ℕ) (single : Bool) → ArePaired es key n twins single → ((a : ℕ) → key a < n) → (h : ℕ) →
    h < length es → start es h ≢ finish es h → get_or twins h 0 ≡ twin es h
each_twin es key n twins single paired low h below differ = elim (cases_order (start es h) (finish es h)) as (λ _. get_or twins h 0 ≡ twin es h) [
  | inl same ↦ absurd (differ same)
  | inr (inl less) ↦ paired.up h below less (low (start es h))
  | inr (inr more) ↦ paired.down h below more (low (finish es h))
]

-- once all buckets are paired, the chain is closed, the list is that of the twins, and the mark says whether no two edges run the same way
pub paired_all : (es : List (ℕ × ℕ)) (key : ℕ → ℕ) (n : ℕ) (twins : List ℕ) (single : Bool) → ArePaired es key n twins single → ((a : ℕ) → key a < n) → EndsDiffer es
    → IsClosed es × (twins ≡ map (twin es) (upto (length es))) × (IsTrue single ↔ AreSingle es)
paired_all es key n twins single paired low differ = (
  all_closed es (λ a b up. paired.even a b up (low a)),
  all_twins es twins paired.full (λ h below. each_twin es key n twins single paired low h below (differ h below)),
  (
    (λ yes. all_single es (λ a b up. paired.even a b up (low a)) (no_loops es differ) (λ a b up. paired.alone.0 yes a b up (low a))),
    (λ all. paired.alone.1 (λ a b up bound. all a b)),
  ),
)

-- no edge of triangles with three different vertices starts where it ends
pub edges_differ : (ts : List Triple) → All HasThree ts → EndsDiffer (all_edges ts)
edges_differ [] three h below same = omega (arith, below)
edges_differ (t ∷ ts) three zero below same = (All-head HasThree t ts three).ab same
edges_differ (t ∷ ts) three (suc zero) below same = (All-head HasThree t ts three).bc same
edges_differ (t ∷ ts) three (suc (suc zero)) below same = (All-head HasThree t ts three).ca same
edges_differ (t ∷ ts) three (suc (suc (suc h))) below same = edges_differ ts (All-tail HasThree t ts three) h (omega (arith, below)) same
