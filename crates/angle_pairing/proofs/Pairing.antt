-- Half-edges gathered by their edges, paired edge by edge.
use Rattle.std.proofs.Common.{◌≡◌, ◌≢◌, ◌<◌, ◌≤◌, ◌+◌, ◌⊎◌, inl, inr, ℕ, ℤ, Bool, true, false, List, [], length, get_or, filter, map, sym, ◌∙◌, ap, subst, arith}
use Rattle.std.specs.Prelude.{◌==◌, ◌||◌, max, min, not}
use Rattle.std.specs.List.{All, Contains}
use Rattle.std.proofs.lemmas.Bool.{and_from, both_ways, cases_Bool, cases_eq, cases_lt, eq-eqb, or_cases, or_left, or_right}
use Rattle.std.proofs.lemmas.List.{get_or-map, get_or_default, length-map, same_lists}
use Rattle.chain_terms.specs.Chains.{IsClosed, all_edges, is_edge}
use Rattle.chain_terms.specs.Ranks.{finish, start}
use Rattle.chain_terms.specs.Sums.{upto}
use Rattle.chain_laws.specs.Chains.{edge_is}
use Rattle.chain_laws.proofs.Ascending.{filter-upto_same}
use Rattle.chain_laws.proofs.Places.{length-up_from}
use Rattle.mesh_terms.specs.Meshes.{HasThree, IsBelow, Triple}
use Rattle.halfedge.proofs.Edges.{next_below, next_starts}
use Rattle.mesh_terms.specs.Halves.{next_half}
use Rattle.pinch_split.proofs.Whole.{start_below}
use Rattle.sheet_terms.specs.Chains.{same_edge, upward}
use Rattle.sheet_terms.specs.Places.{ordered}
use Rattle.sheet_terms.specs.Twins.{between, bracket_twin, round_edge, turns_before, twin_by_angle, twins_by_angle}
use Rattle.sheet_terms.specs.Vertices.{first_as}
use Rattle.fan_laws.specs.Circles.{AreBrackets, circle_twin}
use Rattle.fan_laws.proofs.Matching.{brackets_match}
use Rattle.fan_laws.proofs.Members.{at_place, edge_at, first_not_behind, first_same, firsts_one, member, same_from, same_means}
use Rattle.fan_laws.proofs.RoundEdges.{angle_read, between_brackets, from_order, in_order, is_between, twin_is}
use Rattle.fan_laws.proofs.Settling.{no_loop}
use Rattle.angle_pairing.specs.Gathered.{AreGathered}
use Rattle.angle_pairing.proofs.Bracketing.{joined, joined_c, joined_other, joined_s}
use Rattle.angle_pairing.proofs.Groups.{alike_member, alike_with, first_read, group_is, member_alike, read_first}

-- an edge taken upward is the same as another where it runs as that or back
upward_test : (e : ℕ × ℕ) (x y : ℕ) → x < y → same_edge (upward e) (x, y) ≡ (is_edge e x y || is_edge e y x)
upward_test e x y less = elim (cases_Bool (same_edge (upward e) (x, y))) as (λ _. same_edge (upward e) (x, y) ≡ (is_edge e x y || is_edge e y x)) [
  | inl same ↦
      let p = same_means (upward e) (x, y) same in
      elim (cases_lt e.0 e.1) as (λ _. same_edge (upward e) (x, y) ≡ (is_edge e x y || is_edge e y x)) [
        | inl up ↦
            let forth = and_from (e.0 == x) (e.1 == y) (eq-eqb e.0 x (omega (arith, up, p.0))) (eq-eqb e.1 y (omega (arith, up, p.1))) in
            same ∙ sym (or_left (is_edge e x y) (is_edge e y x) forth)
        | inr down ↦
            let back = and_from (e.0 == y) (e.1 == x) (eq-eqb e.0 y (omega (arith, down, p.1))) (eq-eqb e.1 x (omega (arith, down, p.0))) in
            same ∙ sym (or_right (is_edge e x y) (is_edge e y x) back)
      ]
  | inr other ↦ elim (cases_Bool (is_edge e x y || is_edge e y x)) as (λ _. same_edge (upward e) (x, y) ≡ (is_edge e x y || is_edge e y x)) [
    | inr none ↦ other ∙ sym none
    | inl some ↦
        absurd (both_ways (same_edge (upward e) (x, y)) other (elim (or_cases (is_edge e x y) (is_edge e y x) some) as (λ _. same_edge (upward e) (x, y) ≡ true) [
          | inl forth ↦ let p = edge_is e x y forth in same_from (upward e) (x, y) (omega (arith, p.0, p.1, less)) (omega (arith, p.0, p.1, less))
          | inr back ↦ let p = edge_is e y x back in same_from (upward e) (x, y) (omega (arith, p.0, p.1, less)) (omega (arith, p.0, p.1, less))
        ]))
  ]
]

-- where an edge ends
pub finish_below : (n : ℕ) (ts : List Triple) → All (IsBelow n) ts → (h : ℕ) → h < length (all_edges ts) → finish (all_edges ts) h < n
finish_below n ts below h low = subst (λ v. v < n) (next_starts ts h low) (start_below n ts below (next_half h) (next_below ts h low))

-- the ends of an edge
pub record IsWay (es : List (ℕ × ℕ)) (half low high : ℕ) : Type 0 where
  pub less : low < high
  pub is : upward (edge_at es half) ≡ (low, high)

-- those whose edge comes first before one half-edge have their twins
pub record AreTwinned (points : List (List ℤ)) (es : List (ℕ × ℕ)) (firsts : List ℕ) (half : ℕ) (twins : List ℕ) : Type 0 where
  pub full : length twins ≡ length es
  pub each : (h : ℕ) → h < length es → get_or firsts h 0 < half → get_or twins h 0 ≡ twin_by_angle points es h

pub twinned_none : (points : List (List ℤ)) (es : List (ℕ × ℕ)) (firsts twins : List ℕ) → length twins ≡ length es → AreTwinned points es firsts 0 twins
twinned_none points es firsts twins full = record { full = full; each = λ h low less. absurd (omega (arith, less)) }

-- the half-edges between two places are half-edges
pub between_below : (es : List (ℕ × ℕ)) (x y n : ℕ) → x < y → length es ≡ n → (halves : List ℕ) → halves ≡ between es x y → All (λ h. h < n) halves
between_below es x y n less many halves is k d low =
    let there : Contains halves (get_or halves k 0) = member halves k low in
    let within = (is_between es x y less (get_or halves k 0) (subst (λ l. Contains l (get_or halves k 0)) is there)).below in
    omega (arith, get_or_default halves k d 0 low, within, many)

module _ (points : List (List ℤ)) (ts : List Triple) (three : All HasThree ts) (closed : IsClosed (all_edges ts)) where
  abbrev es : List (ℕ × ℕ)
  es = all_edges ts

  abbrev ways : List (ℕ × ℕ)
  ways = map upward es

  many_ways : length (map upward es) ≡ length es
  many_ways = length-map es upward

  way_read : (h : ℕ) → h < length es → edge_at (map upward es) h ≡ upward (edge_at es h)
  way_read h low = get_or-map upward es h (0, 0) (0, 0) low

  pub way_of : (half : ℕ) → half < length es → (low high : ℕ) → edge_at (map upward es) half ≡ (low, high) → IsWay es half low high
  way_of half half_low low high is =
      let same = sym (way_read half half_low) ∙ is in
      let a : min (start es half) (finish es half) ≡ low = ap (λ (p : ℕ × ℕ). p.0) same in
      let b : max (start es half) (finish es half) ≡ high = ap (λ (p : ℕ × ℕ). p.1) same in
      let apart = no_loop ts three half half_low in
      record { less = omega (arith, a, b, apart); is = same }

  pub way_from : (ups : List (ℕ × ℕ)) → ups ≡ map upward es → (half : ℕ) → half < length es → (e : ℕ × ℕ) → e ≡ get_or ups half e → IsWay es half e.0 e.1
  way_from ups ups_are half half_low e e_is =
      way_of half half_low e.0 e.1
      (ap (λ l. edge_at l half) (sym ups_are) ∙ get_or_default ups half (0, 0) e (omega (arith, half_low, ap length ups_are, many_ways)) ∙ sym e_is)

  pub way_below : (n : ℕ) → All (IsBelow n) ts → (half low high : ℕ) → half < length es → IsWay es half low high → high < n
  way_below n below half low high half_low way =
      let b : max (start es half) (finish es half) ≡ high = ap (λ (p : ℕ × ℕ). p.1) way.is in
      omega (arith, b, start_below n ts below half half_low, finish_below n ts below half half_low)

  -- the half-edges that are gathered there are those between the two places
  pub gathered_between : (half low high : ℕ) → half < length es → IsWay es half low high → alike_with (map upward es) half ≡ between es low high
  gathered_between half low high half_low way =
      ap (λ m. filter (λ i. same_edge (edge_at (map upward es) i) (edge_at (map upward es) half)) (upto m)) many_ways
      ∙ filter-upto_same (λ i. same_edge (edge_at (map upward es) i) (edge_at (map upward es) half))
      (λ i. is_edge (edge_at es i) low high || is_edge (edge_at es i) high low) (length es)
      (λ i i_low. (λ j. same_edge (way_read i i_low j) ((way_read half half_low ∙ way.is) j)) ∙ upward_test (edge_at es i) low high way.less)

  module _ (firsts : List ℕ) (groups : List (List ℕ)) (gathered : AreGathered (map upward es) firsts groups) where
    in_ways : (h : ℕ) → h < length es → h < length (map upward es)
    in_ways h low = omega (arith, low, many_ways)

    first_is : (h : ℕ) → h < length es → get_or firsts h 0 ≡ first_as (map upward es) h
    first_is h low = first_read (map upward es) firsts groups gathered h (in_ways h low)

    pub first_below : (h : ℕ) → h < length es → get_or firsts h 0 < length es
    first_below h low = omega (arith, first_is h low, first_not_behind (map upward es) h (in_ways h low), low)

    -- the first of a first
    first_first : (h : ℕ) → h < length es → get_or firsts (get_or firsts h 0) 0 ≡ get_or firsts h 0
    first_first h low =
        let k = get_or firsts h 0 in
        let k_low = first_below h low in
        let same = first_same_as h low in
        first_is k k_low ∙ firsts_one (map upward es) k h (in_ways k k_low) (in_ways h low) same ∙ sym (first_is h low)
      where
        first_same_as : (h : ℕ) → (low : h < length es) → same_edge (edge_at (map upward es) (get_or firsts h 0)) (edge_at (map upward es) h) ≡ true
        first_same_as h low =
            let p = same_means (edge_at (map upward es) h) (edge_at (map upward es) (first_as (map upward es) h)) (first_itself h low) in
            same_from (edge_at (map upward es) (get_or firsts h 0)) (edge_at (map upward es) h)
            (ap (λ k. (edge_at (map upward es) k).0) (first_is h low) ∙ sym p.0) (ap (λ k. (edge_at (map upward es) k).1) (first_is h low) ∙ sym p.1)
          where
            first_itself : (h : ℕ) → h < length es → same_edge (edge_at (map upward es) h) (edge_at (map upward es) (first_as (map upward es) h)) ≡ true
            first_itself h low = first_same (map upward es) h (in_ways h low)

    -- the first half-edge of an edge, and one that is not, as they were read
    pub leads_from : (half : ℕ) → half < length es → (x : ℕ) → x ≡ get_or firsts half x → x ≡ half → get_or firsts half 0 ≡ half
    leads_from half half_low x x_is same = sym (read_first (map upward es) firsts groups gathered half (in_ways half half_low) x x_is) ∙ same

    pub other_from : (half : ℕ) → half < length es → (x : ℕ) → x ≡ get_or firsts half x → x ≢ half → get_or firsts half 0 ≢ half
    other_from half half_low x x_is other e = other (read_first (map upward es) firsts groups gathered half (in_ways half half_low) x x_is ∙ e)

    -- the group of the first half-edge of an edge
    pub group_between : (half low high : ℕ) → half < length es → get_or firsts half 0 ≡ half → IsWay es half low high → (group : List ℕ) → group ≡ get_or groups half [] →
        group ≡ between es low high
    group_between half low high half_low leads way group is =
        is ∙ ap (λ k. get_or groups k []) (sym leads) ∙ group_is (map upward es) firsts groups gathered half (in_ways half half_low)
        ∙ gathered_between half low high half_low way

    -- a half-edge that is not the first of its edge
    pub twinned_same : (half : ℕ) (twins : List ℕ) → half < length es → get_or firsts half 0 ≢ half → AreTwinned points es firsts half twins →
        AreTwinned points es firsts (half + 1) twins
    twinned_same half twins half_low other are = record {
      full = are.full;
      each = λ h low less. elim (cases_eq (get_or firsts h 0) half) as (λ _. get_or twins h 0 ≡ twin_by_angle points es h) [
        | inl e ↦ absurd (other (ap (λ k. get_or firsts k 0) (sym e) ∙ first_first h low ∙ e))
        | inr apart ↦ are.each h low (omega (arith, less, apart))
      ];
    }

    -- one that is: its edge is paired
    pub twinned_more : (half low high : ℕ) (old new : List ℕ) → half < length es → get_or firsts half 0 ≡ half → IsWay es half low high → AreTwinned points es firsts half old →
        length new ≡ length old → ((h : ℕ) → Contains (between es low high) h → get_or new h 0 ≡ bracket_twin points es low high h) →
        ((h : ℕ) → (Contains (between es low high) h → ⊥) → get_or new h 0 ≡ get_or old h 0) → AreTwinned points es firsts (half + 1) new
    twinned_more half low high old new half_low leads way are full pairs others = record {
      full = full ∙ are.full;
      each = λ h h_low less. elim (cases_eq (get_or firsts h 0) half) as (λ _. get_or new h 0 ≡ twin_by_angle points es h) [
        | inl e ↦
            let there = subst (λ l. Contains l h) (gathered_between half low high half_low way)
            (alike_member (map upward es) half h (in_ways h h_low) (one_edge h h_low (e ∙ sym leads))) in
            pairs h there ∙ sym (twin_is points ts three closed low high way.less h there)
        | inr apart ↦ others h (λ there. apart (same_first h h_low there ∙ leads)) ∙ are.each h h_low (omega (arith, less, apart))
      ];
    }
      where
        one_edge : (h : ℕ) → h < length es → get_or firsts h 0 ≡ get_or firsts half 0 → same_edge (edge_at (map upward es) h) (edge_at (map upward es) half) ≡ true
        one_edge h h_low e =
            let one : first_as (map upward es) h ≡ first_as (map upward es) half = sym (first_is h h_low) ∙ e ∙ first_is half half_low in
            let p = same_means (edge_at (map upward es) h) (edge_at (map upward es) (first_as (map upward es) h)) (first_same (map upward es) h (in_ways h h_low)) in
            let q = same_means (edge_at (map upward es) half) (edge_at (map upward es) (first_as (map upward es) half)) (first_same (map upward es) half (in_ways half half_low)) in
            same_from (edge_at (map upward es) h) (edge_at (map upward es) half) (p.0 ∙ ap (λ k. (edge_at (map upward es) k).0) one ∙ sym q.0)
            (p.1 ∙ ap (λ k. (edge_at (map upward es) k).1) one ∙ sym q.1)

        same_first : (h : ℕ) → h < length es → Contains (between es low high) h → get_or firsts h 0 ≡ get_or firsts half 0
        same_first h h_low there =
            let alike = member_alike (map upward es) half h (subst (λ l. Contains l h) (sym (gathered_between half low high half_low way)) there) in
            first_is h h_low ∙ firsts_one (map upward es) h half (in_ways h h_low) (in_ways half half_low) alike.1 ∙ sym (first_is half half_low)

    -- all edges are paired
    pub twinned_all : (half : ℕ) (twins : List ℕ) → length es ≤ half → AreTwinned points es firsts half twins → twins ≡ twins_by_angle points ts
    twinned_all half twins enough are =
        let many : length (twins_by_angle points ts) ≡ length es = length-map (upto (length es)) (twin_by_angle points es) ∙ length-up_from 0 (length es) in
        same_lists twins (twins_by_angle points ts) (are.full ∙ sym many)
        (λ k d k_low.
        let low : k < length es = omega (arith, k_low, are.full) in
        get_or_default twins k d 0 k_low ∙ are.each k low (omega (arith, first_below k low, enough)) ∙ sym (angle_read points ts three closed k low)
        ∙ get_or_default (twins_by_angle points ts) k 0 d (omega (arith, low, many)))

  -- the half-edges of one edge in order
  module _ (low high : ℕ) (less : low < high) (halves order : List ℕ) (halves_are : halves ≡ between es low high)
      (order_is : order ≡ ordered (turns_before points es low high (get_or halves 0 0)) halves) where
    pub round_is : order ≡ round_edge points es low high
    round_is = order_is ∙ ap (λ hs. ordered (turns_before points es low high (get_or hs 0 0)) hs) halves_are

    abbrev before : ℕ → ℕ → Bool
    before = turns_before points es low high (get_or (between es low high) 0 0)

    pub round_brackets : AreBrackets (λ h. start es h == high) order
    round_brackets = subst (AreBrackets (λ h. start es h == high)) (sym round_is) (between_brackets es low high less closed before)

    pub to_order : (h : ℕ) → Contains halves h → Contains order h
    to_order h there =
        subst (λ l. Contains l h) (sym round_is) (in_order es low high less before h (subst (λ l. Contains l h) halves_are there))

    pub of_order : (h : ℕ) → Contains order h → Contains halves h
    of_order h there =
        subst (λ l. Contains l h) (sym halves_are) (from_order es low high less before h (subst (λ l. Contains l h) round_is there))

    pub bracket_is : (h : ℕ) → circle_twin (λ g. start es g == high) order h ≡ bracket_twin points es low high h
    bracket_is h = ap (λ l. circle_twin (λ g. start es g == high) l h) round_is

  -- where an edge has two half-edges, they are partners whatever their order
  module _ (low high : ℕ) (less : low < high) (halves : List ℕ) (halves_are : halves ≡ between es low high) (two : length halves ≡ 2) where
    pub one_in : Contains halves (get_or halves 0 0)
    one_in = member halves 0 (omega (arith, two))

    pub other_in : Contains halves (get_or halves 1 0)
    other_in = member halves 1 (omega (arith, two))

    only : (h : ℕ) → Contains halves h → (h ≡ get_or halves 0 0) ⊎ (h ≡ get_or halves 1 0)
    only h there = let p = at_place halves h there in elim (cases_eq p.0 0) as (λ _. (h ≡ get_or halves 0 0) ⊎ (h ≡ get_or halves 1 0)) [
      | inl e ↦ inl (sym p.2 ∙ ap (λ i. get_or halves i 0) e)
      | inr apart ↦ let e : p.0 ≡ 1 = omega (arith, p.1, two, apart) in inr (sym p.2 ∙ ap (λ i. get_or halves i 0) e)
    ]

    record HasOther (x y : ℕ) : Type 0 where
      to : bracket_twin points es low high x ≡ y
      back : bracket_twin points es low high y ≡ x
      there : Contains halves y
      differ : x ≢ y

    partner : (x : ℕ) → Contains halves x → (y : ℕ) × HasOther x y
    partner x there =
        let order = round_edge points es low high in
        let before = turns_before points es low high (get_or (between es low high) 0 0) in
        let opens : ℕ → Bool = λ h. start es h == high in
        let mate = brackets_match opens order (between_brackets es low high less closed before) x
        (in_order es low high less before x (subst (λ l. Contains l x) halves_are there)) in (
          mate.mate,
          record {
            to = mate.to;
            back = mate.back;
            there = subst (λ l. Contains l mate.mate) (sym halves_are) (from_order es low high less before mate.mate mate.within);
            differ = λ same. turned (opens x) (ap opens same ∙ mate.other);
          },
        )
      where
        turned : (b : Bool) → b ≡ not b → ⊥
        turned true e = cc
        turned false e = cc

    one_other : HasOther (get_or halves 0 0) (get_or halves 1 0)
    one_other = let p = partner (get_or halves 0 0) one_in in elim (only p.0 p.1.there) as (λ _. HasOther (get_or halves 0 0) (get_or halves 1 0)) [
      | inl e ↦ absurd (p.1.differ (sym e))
      | inr e ↦ subst (HasOther (get_or halves 0 0)) e p.1
    ]

    pub two_pairs : (twins : List ℕ) → get_or halves 0 0 < length twins → get_or halves 1 0 < length twins → (h : ℕ) → Contains halves h →
        get_or (joined twins (get_or halves 0 0) (get_or halves 1 0)) h 0 ≡ bracket_twin points es low high h
    two_pairs twins one_low other_low h there =
        elim (only h there) as (λ _. get_or (joined twins (get_or halves 0 0) (get_or halves 1 0)) h 0 ≡ bracket_twin points es low high h) [
          | inl e ↦
              ap (λ x. get_or (joined twins (get_or halves 0 0) (get_or halves 1 0)) x 0) e ∙ joined_s twins (get_or halves 0 0) (get_or halves 1 0) one_other.differ one_low
              ∙ sym one_other.to ∙ ap (bracket_twin points es low high) (sym e)
          | inr e ↦
              ap (λ x. get_or (joined twins (get_or halves 0 0) (get_or halves 1 0)) x 0) e ∙ joined_c twins (get_or halves 0 0) (get_or halves 1 0) other_low
              ∙ sym one_other.back ∙ ap (bracket_twin points es low high) (sym e)
        ]

    pub two_others : (twins : List ℕ) (h : ℕ) → (Contains halves h → ⊥) → get_or (joined twins (get_or halves 0 0) (get_or halves 1 0)) h 0 ≡ get_or twins h 0
    two_others twins h out =
        joined_other twins (get_or halves 0 0) (get_or halves 1 0) h (λ e. out (subst (Contains halves) (sym e) one_in)) (λ e. out (subst (Contains halves) (sym e) other_in))
