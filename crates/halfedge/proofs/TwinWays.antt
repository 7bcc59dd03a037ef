-- The two lists of a bucket, where they have the same ends: at each place stand a half-edge and its twin.
use Rattle.std.proofs.Common.{◌≡◌, ◌<◌, ◌≤◌, ◌+◌, ℕ, zero, suc, Bool, true, false, not, ◌&&◌, ◌==◌, nat_lt, cond, List, [], ◌∷◌, ◌++◌, length, get_or, is_lt, filter, inl, inr, refl, sym, ◌∙◌, ap, subst, arith}
use Rattle.std.specs.Prelude.{count_by}
use Rattle.std.specs.List.{Contains}
use Rattle.std.specs.List.Sorted.{IsPermutation}
use Rattle.std.proofs.lemmas.Bool.{false≢true, and_from, and_parts, eq-eqb, lt-ltb}
use Rattle.std.proofs.lemmas.Bool.Decides.{nat_tests}
use Rattle.std.proofs.lemmas.List.{length-map, get_or-map, get_or_default}
use Rattle.std.proofs.lemmas.List.Elements.{All-contains, filter_passes, Contains-get_or, Contains-append_left, Contains-append_cases}
use Rattle.std.proofs.lemmas.List.Sorted.{sum_by-IsPermutation, Contains-permutation, IsPermutation-sym, IsPermutation-filter_both}
use Rattle.chain_terms.specs.Chains.{is_edge, one_if}
use Rattle.chain_terms.specs.Odd.{backward, turned_edge}
use Rattle.chain_laws.specs.Chains.{edge_turned}
use Rattle.chain_laws.specs.Counts.{one_if-false, count_by-cons}
use Rattle.chain_terms.specs.Ranks.{rank, nth, start, finish, runs_as, runs_against, twin, RunsBack}
use Rattle.chain_laws.proofs.Ranks.{nth_rank}
use Rattle.mesh_terms.specs.OpenEdges.{is_lesser}
use Rattle.halfedge.specs.Pairing.{Half, numbered, half_at, half_cmp, ends, ends_of, IsSortOf}
use Rattle.halfedge.specs.Ways.{edge_lies_in, lies_in, AreWays, ArePartners}
use Rattle.halfedge.proofs.Order.{same_edge}
use Rattle.halfedge.proofs.Positions.{between, half_order, lesser_count, length-numbered, numbered_at, Holds}
use Rattle.halfedge.proofs.NumberedHalves.{rank_suc, edge_at}

-- a member of the filtered list is one of the list
kept_is_member : {X : Type 0} (p : X → Bool) (xs : List X) (x : X) → Contains (filter p xs) x → Contains xs x
kept_is_member {X = X} p xs x inside =
    let q : X → Bool = λ y. not (p y) in
    Contains-permutation (filter p xs ++ filter q xs) xs x (IsPermutation-sym xs (filter p xs ++ filter q xs) (IsPermutation-filter_both p q (λ _. refl) xs))
    (Contains-append_left (filter p xs) (filter q xs) x inside)

-- a member that passes is one of the filtered list
member_is_kept : {X : Type 0} (p : X → Bool) (xs : List X) (x : X) → Contains xs x → p x ≡ true → Contains (filter p xs) x
member_is_kept {X = X} p xs x inside passes =
    elim (Contains-append_cases (filter p xs) (filter q xs) x
    (Contains-permutation xs (filter p xs ++ filter q xs) x (IsPermutation-filter_both p q (λ _. refl) xs) inside)) as (λ _. Contains (filter p xs) x) [
      | inl left ↦ left
      | inr right ↦ absurd (false≢true (ap not (sym passes) ∙ All-contains (λ y. q y ≡ true) (filter q xs) x (filter_passes q xs) right))
    ]
  where
    q : X → Bool
    q y = not (p y)

-- where each member that is counted passes, the filtered list has as many of them
count_by-filter : {X : Type 0} (p r : X → Bool) → ((x : X) → r x ≡ true → p x ≡ true) → (xs : List X) → count_by r (filter p xs) ≡ count_by r xs
count_by-filter p r passes [] = refl
count_by-filter p r passes (x ∷ xs) = by (p x) refl (count_by-filter p r passes xs)
  where
    fails : p x ≡ false → (t : Bool) → r x ≡ t → r x ≡ false
    fails out true is = absurd (false≢true (sym out ∙ passes x is))
    fails out false is = is

    by : (t : Bool) → p x ≡ t → count_by r (filter p xs) ≡ count_by r xs → count_by r (cond t (x ∷ filter p xs) (filter p xs)) ≡ count_by r (x ∷ xs)
    by true kept rest = omega (arith, count_by-cons r x (filter p xs), count_by-cons r x xs, rest)
    by false out rest = omega (arith, count_by-cons r x xs, one_if-false (r x) (fails out (r x) refl), rest)

-- the half-edge runs as the edge x, and its number is below g
abbrev runs_before : ℕ × ℕ → ℕ → Half → Bool
runs_before x g c = is_edge (ends c) x.0 x.1 && nat_lt c.2 g

-- a half-edge is less than number g that runs as x where its edge is lesser, or runs as x with a lower number
less_is : (c : Half) (x : ℕ × ℕ) (g : ℕ) → one_if (is_lt (half_cmp c (x.0, x.1, g))) ≡ one_if (is_lesser (ends c) x) + one_if (runs_before x g c)
less_is c x g = grind (arith, nat_tests)

-- and not greater also where it has that number
not_greater_is : (c : Half) (x : ℕ × ℕ) (g : ℕ) → one_if (not (is_lt (half_cmp (x.0, x.1, g) c))) ≡ one_if (is_lesser (ends c) x) + one_if (runs_before x (suc g) c)
not_greater_is c x g = grind (arith, nat_tests)

-- so many half-edges are less
less_count : (xs : List Half) (x : ℕ × ℕ) (g : ℕ) → count_by (λ c. is_lt (half_cmp c (x.0, x.1, g))) xs ≡ lesser_count (ends_of xs) x + count_by (runs_before x g) xs
less_count [] x g = refl
less_count (c ∷ xs) x g =
    omega (
      arith,
      count_by-cons (λ d. is_lt (half_cmp d (x.0, x.1, g))) c xs,
      count_by-cons (λ e. is_lesser e x) (ends c) (ends_of xs),
      count_by-cons (runs_before x g) c xs,
      less_is c x g,
      less_count xs x g,
    )

-- and so many are not greater
not_greater_count : (xs : List Half) (x : ℕ × ℕ) (g : ℕ) →
    count_by (λ c. not (is_lt (half_cmp (x.0, x.1, g) c))) xs ≡ lesser_count (ends_of xs) x + count_by (runs_before x (suc g)) xs
not_greater_count [] x g = refl
not_greater_count (c ∷ xs) x g =
    omega (
      arith,
      count_by-cons (λ d. not (is_lt (half_cmp (x.0, x.1, g) d))) c xs,
      count_by-cons (λ e. is_lesser e x) (ends c) (ends_of xs),
      count_by-cons (runs_before x (suc g)) c xs,
      not_greater_is c x g,
      not_greater_count xs x g,
    )

-- a number that is not below g does not count
not_before : (e x : ℕ × ℕ) (k g : ℕ) → g ≤ k → runs_before x g (e.0, e.1, k) ≡ false
not_before e x k g low = grind (arith, nat_tests, low)

-- and one below g counts where the edge runs as x
is_before : (e x : ℕ × ℕ) (k g : ℕ) → k < g → runs_before x g (e.0, e.1, k) ≡ is_edge e x.0 x.1
is_before e x k g low = grind (arith, nat_tests, low)

-- none of the edges from number k on have a number below k
none_before : (es : List (ℕ × ℕ)) (x : ℕ × ℕ) (k g : ℕ) → g ≤ k → count_by (runs_before x g) (numbered k es) ≡ 0
none_before [] x k g low = refl
none_before (e ∷ es) x k g low =
    omega (
      arith,
      count_by-cons (runs_before x g) (e.0, e.1, k) (numbered (suc k) es),
      one_if-false (runs_before x g (e.0, e.1, k)) (not_before e x k g low),
      none_before es x (suc k) g (omega (arith, low)),
    )

-- the first m edges have the numbers below k + m
rank_before : (es : List (ℕ × ℕ)) (x : ℕ × ℕ) (k g m : ℕ) → g ≡ k + m → count_by (runs_before x g) (numbered k es) ≡ rank (λ e. is_edge e x.0 x.1) es m
rank_before [] x k g m at = refl
rank_before (e ∷ es) x k g zero at = none_before (e ∷ es) x k g (omega (arith, at))
rank_before (e ∷ es) x k g (suc m) at =
    omega (
      arith,
      count_by-cons (runs_before x g) (e.0, e.1, k) (numbered (suc k) es),
      ap one_if (is_before e x k g (omega (arith, at))),
      rank_before es x (suc k) g m (omega (arith, at)),
    )

-- the half-edges of bucket k, sorted, which run as one of them and have a lower number
bucket_before : (es : List (ℕ × ℕ)) (key : ℕ → ℕ) (k : ℕ) (xs : List Half) → IsPermutation (filter (lies_in key k) (numbered 0 es)) xs → (x : ℕ × ℕ) →
    edge_lies_in key k x ≡ true → (g : ℕ) →
    count_by (runs_before x g) xs ≡ rank (λ e. is_edge e x.0 x.1) es g
bucket_before es key k xs moved x lies g =
    let passes : (c : Half) → runs_before x g c ≡ true → lies_in key k c ≡ true =
    λ c runs. ap (edge_lies_in key k) (same_edge (ends c) x (and_parts (is_edge (ends c) x.0 x.1) (nat_lt c.2 g) runs).0) ∙ lies in
    let first : g ≡ 0 + g = omega arith in
    omega (
      arith,
      sum_by-IsPermutation (λ c. cond (runs_before x g c) 1 0) (filter (lies_in key k) (numbered 0 es)) xs moved,
      count_by-filter (lies_in key k) (runs_before x g) passes (numbered 0 es),
      rank_before es x 0 g g first,
    )

-- a place of the bucket holds a half-edge of the chain that lies in the bucket
record Stands (es : List (ℕ × ℕ)) (key : ℕ → ℕ) (k : ℕ) (xs : List Half) (i : ℕ) : Type 0 where
  holds : Holds es xs i
  lies : edge_lies_in key k (start es holds.half, finish es holds.half) ≡ true

-- each does
stands : (es : List (ℕ × ℕ)) (key : ℕ → ℕ) (k : ℕ) (xs : List Half) → IsPermutation (filter (lies_in key k) (numbered 0 es)) xs → (i : ℕ) → i < length xs → Stands es key k xs i
stands es key k xs moved i below = of_member (kept_is_member (lies_in key k) (numbered 0 es) x kept)
  where
    x : Half
    x = get_or xs i (0, 0, 0)

    kept : Contains (filter (lies_in key k) (numbered 0 es)) x
    kept =
        Contains-permutation xs (filter (lies_in key k) (numbered 0 es)) x (IsPermutation-sym (filter (lies_in key k) (numbered 0 es)) xs moved)
        (Contains-get_or xs i (0, 0, 0) below)

    of_member : Contains (numbered 0 es) x → Stands es key k xs i
    of_member (j, l, e) =
        let within : j < length es = omega (arith, l, length-numbered 0 es) in
        let first : 0 + j ≡ j = omega arith in
        let is : x ≡ (start es j, finish es j, j) = sym e ∙ numbered_at 0 es j x within ∙ ap (λ n. (start es j, finish es j, n)) first in
        record {
          holds = record { half = j; within = within; is = λ d. get_or_default xs i d (0, 0, 0) below ∙ is };
          lies = ap (lies_in key k) (sym is) ∙ All-contains (λ c. lies_in key k c ≡ true) (filter (lies_in key k) (numbered 0 es)) x
              (filter_passes (lies_in key k) (numbered 0 es)) kept;
        }

-- what a place of the sorted bucket says of its half-edge: where it runs, and how many stand before it
pub record IsPlacedIn (es : List (ℕ × ℕ)) (xs : List Half) (i g : ℕ) : Type 0 where
  pub within : g < length es
  pub runs : ends (get_or xs i (0, 0, 0)) ≡ edge_at es g
  pub place : i ≡ lesser_count (ends_of xs) (edge_at es g) + rank (runs_as es g) es g

-- each place says so
pub placed_in : (es : List (ℕ × ℕ)) (key : ℕ → ℕ) (k : ℕ) (xs : List Half) → IsSortOf (filter (lies_in key k) (numbered 0 es)) xs → (i : ℕ) → i < length xs →
    IsPlacedIn es xs i (half_at xs i)
placed_in es key k xs sorted i below =
    let here = stands es key k xs sorted.moved i below in
    let g = here.holds.half in
    let x : ℕ × ℕ = edge_at es g in
    let b = between half_order xs sorted.up i (start es g, finish es g, g) below here.holds.is in
    subst (IsPlacedIn es xs i) (sym (ap (λ (c : Half). c.2) (here.holds.is (0, 0, 0))))
    (record {
      within = here.holds.within;
      runs = ap ends (here.holds.is (0, 0, 0));
      place = omega (
        arith,
        b.low,
        b.high,
        less_count xs x g,
        not_greater_count xs x g,
        bucket_before es key k xs sorted.moved x here.lies g,
        bucket_before es key k xs sorted.moved x here.lies (suc g),
        rank_suc (runs_as es g) es g,
      );
    })

-- and its edge lies in the bucket
pub placed_lies : (es : List (ℕ × ℕ)) (key : ℕ → ℕ) (k : ℕ) (xs : List Half) → IsSortOf (filter (lies_in key k) (numbered 0 es)) xs → (i : ℕ) → i < length xs →
    edge_lies_in key k (edge_at es (half_at xs i)) ≡ true
placed_lies es key k xs sorted i below =
    let here = stands es key k xs sorted.moved i below in
    subst (λ g. edge_lies_in key k (edge_at es g) ≡ true) (sym (ap (λ (c : Half). c.2) (here.holds.is (0, 0, 0)))) here.lies

-- the turned edges that run from a to b run from b to a
pub rank_backward : (es : List (ℕ × ℕ)) (a b m : ℕ) → rank (λ e. is_edge e a b) (backward es) m ≡ rank (λ e. is_edge e b a) es m
rank_backward [] a b m = refl
rank_backward (e ∷ es) a b zero = refl
rank_backward (e ∷ es) a b (suc m) = omega (arith, edge_turned e a b, rank_backward es a b m)

-- what runs back is the twin
back_is_twin : (es : List (ℕ × ℕ)) (h t : ℕ) → RunsBack es h t → t ≡ twin es h
back_is_twin es h t back =
    sym (nth_rank (runs_against es h) es t back.within (λ d. ap (runs_against es h) (get_or_default es t d (0, 0) back.within) ∙ runs))
    ∙ ap (nth (runs_against es h) es) earlier
  where
    runs : is_edge (get_or es t (0, 0)) (finish es h) (start es h) ≡ true
    runs = and_from (start es t == finish es h) (finish es t == start es h) (eq-eqb (start es t) (finish es h) back.from) (eq-eqb (finish es t) (start es h) back.to)

    earlier : rank (runs_against es h) es t ≡ rank (runs_as es h) es h
    earlier = ap (λ a. rank (λ e. is_edge e a (start es h)) es t) (sym back.from) ∙ ap (λ b. rank (λ e. is_edge e (start es t) b) es t) (sym back.to) ∙ back.same

-- and the half-edge runs back to what runs back to it
runs_back-sym : (es : List (ℕ × ℕ)) (h t : ℕ) → h < length es → RunsBack es h t → RunsBack es t h
runs_back-sym es h t below back = record { within = below; from = sym back.to; to = sym back.from; same = sym back.same }

-- two lists with the same ends are as long
pub same_length : (ups downs : List Half) → ends_of ups ≡ ends_of downs → length downs ≡ length ups
same_length ups downs same = sym (length-map downs ends) ∙ ap length (sym same) ∙ length-map ups ends

-- and at one place their half-edges have the same ends
same_runs : (es fs : List (ℕ × ℕ)) (ups downs : List Half) (i g t : ℕ) → ends_of ups ≡ ends_of downs → i < length ups → IsPlacedIn es ups i g →
    IsPlacedIn fs downs i t → edge_at fs t ≡ edge_at es g
same_runs es fs ups downs i g t same below p q =
    sym q.runs ∙ sym (get_or-map ends downs i (0, 0, 0) (0, 0) (omega (arith, below, same_length ups downs same))) ∙ ap (λ l. get_or l i (0, 0)) (sym same)
    ∙ get_or-map ends ups i (0, 0, 0) (0, 0) below ∙ p.runs

-- and as many before them that run the same way
same_rank : (es fs : List (ℕ × ℕ)) (ups downs : List Half) (i g t : ℕ) → ends_of ups ≡ ends_of downs → IsPlacedIn es ups i g → IsPlacedIn fs downs i t →
    edge_at fs t ≡ edge_at es g →
    rank (runs_as es g) fs t ≡ rank (runs_as es g) es g
same_rank es fs ups downs i g t same p q runs =
    let at : i ≡ lesser_count (ends_of downs) (edge_at es g) + rank (runs_as es g) fs t =
    subst (λ (y : ℕ × ℕ). i ≡ lesser_count (ends_of downs) y + rank (λ e. is_edge e y.0 y.1) fs t) runs q.place in
    omega (arith, at, p.place, ap (λ l. lesser_count l (edge_at es g)) same)

-- where an edge of the turned chain runs
pub backward_at : (es : List (ℕ × ℕ)) (h : ℕ) → h < length es → edge_at (backward es) h ≡ (finish es h, start es h)
backward_at es h below = get_or-map turned_edge es h (0, 0) (0, 0) below

-- at each place of the two lists the one half-edge runs back to the other
runs_back_beside : (es : List (ℕ × ℕ)) (key : ℕ → ℕ) (k : ℕ) (ups downs : List Half) → AreWays es key k ups downs → ends_of ups ≡ ends_of downs → (i : ℕ) → i < length ups →
    RunsBack es (half_at ups i) (half_at downs i)
runs_back_beside es key k ups downs ways same i below =
    let g = half_at ups i in
    let t = half_at downs i in
    let p = placed_in es key k ups ways.ups_sorted i below in
    let q = placed_in (backward es) key k downs ways.downs_sorted i (omega (arith, below, same_length ups downs same)) in
    let within : t < length es = omega (arith, q.within, length-map es turned_edge) in
    let runs = same_runs es (backward es) ups downs i g t same below p q in
    let turn = sym (backward_at es t within) ∙ runs in
    let from : start es t ≡ finish es g = ap (λ (e : ℕ × ℕ). e.1) turn in
    let to : finish es t ≡ start es g = ap (λ (e : ℕ × ℕ). e.0) turn in
    record {
      within = within;
      from = from;
      to = to;
      same = ap (λ a. rank (λ e. is_edge e a (finish es t)) es t) from ∙ ap (λ b. rank (λ e. is_edge e (finish es g) b) es t) to
          ∙ sym (rank_backward es (start es g) (finish es g) t) ∙ same_rank es (backward es) ups downs i g t same p q runs;
    }

-- so at each place stand a half-edge and its twin
pub twins_of_sides : (es : List (ℕ × ℕ)) (key : ℕ → ℕ) (k : ℕ) (ups downs : List Half) → AreWays es key k ups downs → ends_of ups ≡ ends_of downs → ArePartners (twin es) ups downs
twins_of_sides es key k ups downs ways same = record {
  there = λ i l. back_is_twin es (half_at ups i) (half_at downs i) (runs_back_beside es key k ups downs ways same i l);
  back = λ i l. back_is_twin es (half_at downs i) (half_at ups i)
      (runs_back-sym es (half_at ups i) (half_at downs i) (placed_in es key k ups ways.ups_sorted i l).within (runs_back_beside es key k ups downs ways same i l));
}

-- both lists hold half-edges of the chain
pub halves_of_ways : (es : List (ℕ × ℕ)) (key : ℕ → ℕ) (k : ℕ) (ups downs : List Half) → AreWays es key k ups downs →
    ((i : ℕ) → i < length ups → half_at ups i < length es) × ((i : ℕ) → i < length downs → half_at downs i < length es)
halves_of_ways es key k ups downs ways = (
  (λ i l. (placed_in es key k ups ways.ups_sorted i l).within),
  (λ i l. omega (arith, (placed_in (backward es) key k downs ways.downs_sorted i l).within, length-map es turned_edge)),
)

-- a half-edge that lies in the bucket has a place in the sorted bucket
place_in_bucket : (es : List (ℕ × ℕ)) (key : ℕ → ℕ) (k : ℕ) (xs : List Half) → IsPermutation (filter (lies_in key k) (numbered 0 es)) xs → (h : ℕ) →
    h < length es → edge_lies_in key k (edge_at es h) ≡ true →
    (i : ℕ) × (i < length xs) × (half_at xs i ≡ h)
place_in_bucket es key k xs moved h below lies =
    of_member (Contains-permutation (filter (lies_in key k) (numbered 0 es)) xs x moved (member_is_kept (lies_in key k) (numbered 0 es) x inside lies))
  where
    x : Half
    x = (start es h, finish es h, h)

    first : 0 + h ≡ h
    first = omega arith

    inside : Contains (numbered 0 es) x
    inside = (h, omega (arith, below, length-numbered 0 es), numbered_at 0 es h x below ∙ ap (λ n. (start es h, finish es h, n)) first)

    of_member : Contains xs x → (i : ℕ) × (i < length xs) × (half_at xs i ≡ h)
    of_member (i, l, e) = (i, l, ap (λ (c : Half). c.2) (get_or_default xs i (0, 0, 0) x l ∙ e))

-- an edge from a lesser vertex with key k to a greater one lies in the bucket
pub lies_from : (key : ℕ → ℕ) (k a b : ℕ) → a < b → key a ≡ k → edge_lies_in key k (a, b) ≡ true
lies_from key k a b up keyed = and_from (nat_lt a b) (key a == k) (lt-ltb a b up) (eq-eqb (key a) k keyed)

-- a half-edge that runs up has a place among those of its bucket
pub up_placed : (es : List (ℕ × ℕ)) (key : ℕ → ℕ) (k : ℕ) (ups downs : List Half) → AreWays es key k ups downs → (h : ℕ) → h < length es →
    start es h < finish es h → key (start es h) ≡ k →
    (i : ℕ) × (i < length ups) × (half_at ups i ≡ h)
up_placed es key k ups downs ways h below up keyed = place_in_bucket es key k ups ways.ups_sorted.moved h below (lies_from key k (start es h) (finish es h) up keyed)

-- and one that runs down among those that are turned
pub down_placed : (es : List (ℕ × ℕ)) (key : ℕ → ℕ) (k : ℕ) (ups downs : List Half) → AreWays es key k ups downs → (h : ℕ) → h < length es →
    finish es h < start es h → key (finish es h) ≡ k →
    (i : ℕ) × (i < length downs) × (half_at downs i ≡ h)
down_placed es key k ups downs ways h below down keyed =
    place_in_bucket (backward es) key k downs ways.downs_sorted.moved h (omega (arith, below, length-map es turned_edge))
    (ap (edge_lies_in key k) (backward_at es h below) ∙ lies_from key k (finish es h) (start es h) down keyed)
