-- The list of all fans, by their vertices and least half-edges, and the number of a half-edge's fan in it, are those of any numbering.
use Rattle.std.proofs.Common.{◌≡◌, ◌<◌, ◌≤◌, ◌+◌, ◌-◌, ◌*◌, ◌⊎◌, inl, inr, ℕ, zero, suc, Bool, List, ◌++◌, length, get_or, map, refl, sym, ◌∙◌, ap, subst, arith}
use Rattle.std.specs.Prelude.{◌==◌}
use Rattle.std.specs.List.{Contains, flat_map, position_or_len}
use Rattle.std.proofs.lemmas.Bool.{cases_lt, cases_eq, eqb-true, eq-eqb, ne_eqb, and_parts, and_from}
use Rattle.std.proofs.lemmas.List.{get_or_default, get_or_append_left, get_or-append_right, length-append, same_lists}
use Rattle.std.proofs.lemmas.List.Elements.{Contains-append_left, Contains-append_right, Contains-append_cases}
use Rattle.std.proofs.lemmas.List.Sums.{position_or_len_is}
use Rattle.chain_terms.specs.Ranks.{start}
use Rattle.chain_terms.specs.Sums.{up_from}
use Rattle.chain_laws.proofs.Ascending.{IsKept, kept, kept_at, filter-ascends}
use Rattle.mesh_terms.specs.Meshes.{Triple, IsAccepted}
use Rattle.halfedge.proofs.FansOnce.{IsBefore, Rises, rising_same, firsts_rise}
use Rattle.halfedge.proofs.Edges.{length-all_edges}
use Rattle.pinch_split.specs.Split.{least_of_fan, is_least_at, fans_at, all_fans, fan_of, split_from, split_triples}
use Rattle.pinch_split.specs.Given.{corners, starts_of}
use Rattle.pinch_split.proofs.Anew.{HasFans, old, fan, corner_at}
use Rattle.pinch_split.proofs.Corners.{length-corners}
use Rattle.pinch_split.proofs.LeastHalves.{least_is_first}
use Rattle.pinch_split.proofs.Whole.{start_below}

-- a half-edge that is the least of its fan, at one of n vertices from k on
record IsFirst (es : List (ℕ × ℕ)) (k n z : ℕ) : Type 0 where
  low : k ≤ start es z
  high : start es z < k + n
  below : z < length es
  itself : least_of_fan es z ≡ z

-- a member stands at its place, whatever the default
at_place : (xs : List ℕ) (z : ℕ) → Contains xs z → (i : ℕ) × (i < length xs) × (get_or xs i 0 ≡ z)
at_place xs z (i, l, e) = (i, l, get_or_default xs i 0 z l ∙ e)

-- the members of the list for one vertex
at_vertex : (es : List (ℕ × ℕ)) (v z : ℕ) → Contains (fans_at es v) z → IsFirst es v 1 z
at_vertex es v z inside = of_place (at_place (fans_at es v) z inside)
  where
    of_kept : (x : ℕ) → x ≡ z → IsKept (is_least_at es v) 0 (length es) x → IsFirst es v 1 z
    of_kept x is r =
        let p = and_parts (start es x == v) (least_of_fan es x == x) r.passes in
        let starts : start es z ≡ v = ap (start es) (sym is) ∙ eqb-true (start es x) v p.0 in
        record {
          low = omega (arith, starts);
          high = omega (arith, starts);
          below = omega (arith, r.high, is);
          itself = ap (least_of_fan es) (sym is) ∙ eqb-true (least_of_fan es x) x p.1 ∙ is;
        }

    of_place : (i : ℕ) × (i < length (fans_at es v)) × (get_or (fans_at es v) i 0 ≡ z) → IsFirst es v 1 z
    of_place (i, l, e) = of_kept (get_or (fans_at es v) i 0) e (kept_at (is_least_at es v) 0 (length es) i l)

-- of the lists for vertices from k on
among : (es : List (ℕ × ℕ)) (k n z : ℕ) → Contains (flat_map (fans_at es) (up_from k n)) z → IsFirst es k n z
among es k zero z (i, l, e) = absurd (omega (arith, l))
among es k (suc n) z inside = by (Contains-append_cases (fans_at es k) (flat_map (fans_at es) (up_from (suc k) n)) z inside) (λ later. among es (suc k) n z later)
  where
    by : Contains (fans_at es k) z ⊎ Contains (flat_map (fans_at es) (up_from (suc k) n)) z →
        (Contains (flat_map (fans_at es) (up_from (suc k) n)) z → IsFirst es (suc k) n z) → IsFirst es k (suc n) z
    by (inl here) rest = let r = at_vertex es k z here in record { low = r.low; high = omega (arith, r.high); below = r.below; itself = r.itself }
    by (inr later) rest = let r = rest later in record { low = omega (arith, r.low); high = omega (arith, r.high); below = r.below; itself = r.itself }

-- each first is a member
inside : (es : List (ℕ × ℕ)) (k n z : ℕ) → IsFirst es k n z → Contains (flat_map (fans_at es) (up_from k n)) z
inside es k zero z r = absurd (omega (arith, r.low, r.high))
inside es k (suc n) z r = elim (cases_eq (start es z) k) as (λ _. Contains (flat_map (fans_at es) (up_from k (suc n))) z) [
  | inl e ↦
      let passes = and_from (start es z == k) (least_of_fan es z == z) (eq-eqb (start es z) k e) (eq-eqb (least_of_fan es z) z r.itself) in
      Contains-append_left (fans_at es k) (flat_map (fans_at es) (up_from (suc k) n)) z
      (kept (is_least_at es k) 0 (length es) z (record { low = omega arith; high = omega (arith, r.below); passes = passes }))
  | inr d ↦
      Contains-append_right (fans_at es k) (flat_map (fans_at es) (up_from (suc k) n)) z
      (inside es (suc k) n z (record { low = omega (arith, r.low, d); high = omega (arith, r.high); below = r.below; itself = r.itself }))
]

-- a rising list before another, each member before those of the other
rises_append : (es : List (ℕ × ℕ)) (xs ys : List ℕ) → Rises es xs → Rises es ys → ((x y : ℕ) → Contains xs x → Contains ys y → IsBefore es x y) → Rises es (xs ++ ys)
rises_append es xs ys up later across j k less below = elim (cases_lt k n) as (λ _. IsBefore es (get_or (xs ++ ys) j 0) (get_or (xs ++ ys) k 0)) [
  | inl k_low ↦
      subst (λ x. IsBefore es x (get_or (xs ++ ys) k 0)) (sym (left j (omega (arith, less, k_low)))) (subst (IsBefore es (get_or xs j 0)) (sym (left k k_low)) (up j k less k_low))
  | inr k_high ↦ elim (cases_lt j n) as (λ _. IsBefore es (get_or (xs ++ ys) j 0) (get_or (xs ++ ys) k 0)) [
    | inl j_low ↦
        subst (λ x. IsBefore es x (get_or (xs ++ ys) k 0)) (sym (left j j_low)) (subst (IsBefore es (get_or xs j 0)) (sym (right k k_high))
        (across (get_or xs j 0) (get_or ys (k - n) 0) (member xs j j_low) (member ys (k - n) (omega (arith, k_high, below, full)))))
    | inr j_high ↦
        subst (λ x. IsBefore es x (get_or (xs ++ ys) k 0)) (sym (right j j_high)) (subst (IsBefore es (get_or ys (j - n) 0)) (sym (right k k_high))
        (later (j - n) (k - n) (omega (arith, less, j_high)) (omega (arith, k_high, below, full))))
  ]
]
  where
    n : ℕ
    n = length xs

    full : length (xs ++ ys) ≡ length xs + length ys
    full = length-append xs ys

    left : (i : ℕ) → i < length xs → get_or (xs ++ ys) i 0 ≡ get_or xs i 0
    left i l = get_or_append_left xs ys 0 i l

    right : (i : ℕ) → length xs ≤ i → get_or (xs ++ ys) i 0 ≡ get_or ys (i - length xs) 0
    right i l = get_or-append_right xs ys (length xs) i 0 refl l

    member : (zs : List ℕ) (i : ℕ) → i < length zs → Contains zs (get_or zs i 0)
    member zs i l = (i, l, get_or_default zs i (get_or zs i 0) 0 l)

-- the list for one vertex rises
vertex_rises : (es : List (ℕ × ℕ)) (v : ℕ) → Rises es (fans_at es v)
vertex_rises es v j k less below =
    let first = at_vertex es v (get_or (fans_at es v) j 0)
    (j, omega (arith, less, below), get_or_default (fans_at es v) j (get_or (fans_at es v) j 0) 0 (omega (arith, less, below))) in
    let second = at_vertex es v (get_or (fans_at es v) k 0) (k, below, get_or_default (fans_at es v) k (get_or (fans_at es v) k 0) 0 below) in
    record { starts = omega (arith, first.high, second.low); halves = λ _. filter-ascends (is_least_at es v) 0 (length es) j k less below }

-- and the list of all
all_rise : (es : List (ℕ × ℕ)) (k n : ℕ) → Rises es (flat_map (fans_at es) (up_from k n))
all_rise es k zero = λ i j less below. absurd (omega (arith, below))
all_rise es k (suc n) =
    rises_append es (fans_at es k) (flat_map (fans_at es) (up_from (suc k) n)) (vertex_rises es k) (all_rise es (suc k) n)
    (λ x y here later.
    let a = at_vertex es k x here in
    let b = among es (suc k) n y later in
    record { starts = omega (arith, a.high, b.low); halves = λ same. absurd (omega (arith, a.high, b.low, same)) })

-- any numbering has all fans, in order
pub first_is_all : (points : ℕ) (ts : List Triple) (of first : List ℕ) → IsAccepted points ts → HasFans ts of first → first ≡ all_fans points (old ts)
first_is_all points ts of first accepted known =
    rising_same (old ts) first (all_fans points (old ts)) (firsts_rise (old ts) of first known.fans) (all_rise (old ts) 0 points) (λ z. (to z, from z))
  where
    to : (z : ℕ) → Contains first z → Contains (all_fans points (old ts)) z
    to z c = of_place (at_place first z c)
      where
        of_place : (i : ℕ) × (i < length first) × (get_or first i 0 ≡ z) → Contains (all_fans points (old ts)) z
        of_place (i, l, e) =
            let held = known.fans.first_in i l in
            let z_below : z < length (old ts) = omega (arith, held.0, e) in
            let number : fan of z ≡ i = ap (fan of) (sym e) ∙ held.1 in
            inside (old ts) 0 points z (record {
              low = omega arith;
              high = omega (arith, start_below points ts accepted.mesh.below z z_below);
              below = z_below;
              itself = least_is_first ts of first known z z_below ∙ ap (λ k. get_or first k 0) number ∙ e;
            })

    from : (z : ℕ) → Contains (all_fans points (old ts)) z → Contains first z
    from z c =
        let r = among (old ts) 0 points z c in
        let l = known.fans.numbered z r.below in
        (fan of z, l, get_or_default first (fan of z) z 0 l ∙ sym (least_is_first ts of first known z r.below) ∙ r.itself)

-- and each half-edge's number
pub fan_is_number : (points : ℕ) (ts : List Triple) (of first : List ℕ) → IsAccepted points ts → HasFans ts of first → (h : ℕ) → h < length (old ts) →
    fan_of points (old ts) h ≡ fan of h
fan_is_number points ts of first accepted known h below =
    ap (position_or_len test) (sym (first_is_all points ts of first accepted known))
    ∙ position_or_len_is test first k 0 (omega (arith, number)) (λ j less. ne_eqb (get_or first j 0) (least_of_fan (old ts) h) (λ same. before j less (same ∙ mine)))
    (λ _. eq-eqb (get_or first k 0) (least_of_fan (old ts) h) (sym mine))
  where
    k : ℕ
    k = fan of h

    test : ℕ → Bool
    test g = g == least_of_fan (old ts) h

    number : fan of h < length first
    number = known.fans.numbered h below

    mine : least_of_fan (old ts) h ≡ get_or first k 0
    mine = least_is_first ts of first known h below

    before : (j : ℕ) → j < k → get_or first j 0 ≡ get_or first k 0 → ⊥
    before j less same =
        let one : j ≡ k = sym (known.fans.first_in j (omega (arith, less, number))).1 ∙ ap (fan of) same ∙ (known.fans.first_in k number).1 in
        omega (arith, less, one)

-- so the old vertices are those
pub starts_are_from : (points : ℕ) (ts : List Triple) (of first : List ℕ) → IsAccepted points ts → HasFans ts of first → starts_of ts first ≡ split_from points ts
starts_are_from points ts of first accepted known = ap (map (start (old ts))) (first_is_all points ts of first accepted known)

-- and the triangles
pub corners_are_split : (points : ℕ) (ts : List Triple) (of first : List ℕ) → IsAccepted points ts → HasFans ts of first → corners of (length ts) ≡ split_triples points ts
corners_are_split points ts of first accepted known =
    let n = length ts in
    let f : ℕ → ℕ = fan of in
    let g : ℕ → ℕ = fan_of points (old ts) in
    let full = length-all_edges ts in
    let same : (h : ℕ) → h < length (old ts) → f h ≡ g h = λ h below. sym (fan_is_number points ts of first accepted known h below) in
    same_lists (corners of n) (split_triples points ts) (length-corners f n ∙ sym (length-corners g n))
    (λ t d l.
    let low : t < n = omega (arith, l, length-corners f n) in
    corner_at f n t d low
    ∙ (λ i. (same (3 * t) (omega (arith, low, full)) i, same (3 * t + 1) (omega (arith, low, full)) i, same (3 * t + 2) (omega (arith, low, full)) i))
    ∙ sym (corner_at g n t d low))
