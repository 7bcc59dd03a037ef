-- The list of all fans: which half-edges are in it, and in which order.
use Rattle.std.proofs.Common.{◌≡◌, ◌<◌, ◌≤◌, ◌+◌, ◌-◌, ◌⊎◌, inl, inr, ℕ, zero, suc, List, ◌++◌, length, get_or, refl, ◌∙◌, subst, arith}
use Rattle.std.specs.Prelude.{◌==◌}
use Rattle.std.specs.List.{Contains, flat_map}
use Rattle.std.proofs.lemmas.Bool.{cases_lt, cases_eq, eqb-true, eq-eqb, and_parts, and_from}
use Rattle.std.proofs.lemmas.List.{get_or_default, get_or_append_left, get_or-append_right, length-append}
use Rattle.std.proofs.lemmas.List.Elements.{Contains-append_left, Contains-append_right, Contains-append_cases}
use Rattle.chain_terms.specs.Ranks.{start}
use Rattle.chain_terms.specs.Sums.{up_from}
use Rattle.chain_laws.proofs.Ascending.{IsKept, kept, kept_at, filter-ascends}
use Rattle.halfedge.proofs.FansOnce.{IsBefore, Rises}
use Rattle.pinch_split.specs.Split.{fans_at, is_least_at, least_of_fan}

-- a half-edge that is the least of its fan, at one of n vertices from k on
pub record IsLeast (es : List (ℕ × ℕ)) (k n z : ℕ) : Type 0 where
  pub low : k ≤ start es z
  pub high : start es z < k + n
  pub below : z < length es
  pub itself : least_of_fan es z ≡ z

-- the fans at n vertices from k on
abbrev pub fans_from : List (ℕ × ℕ) → ℕ → ℕ → List ℕ
fans_from es k n = flat_map (fans_at es) (up_from k n)

-- a member stands at a place, whatever the default
pub at_place : (xs : List ℕ) (z : ℕ) → Contains xs z → (i : ℕ) × (i < length xs) × (get_or xs i 0 ≡ z)
at_place xs z (i, l, e) = (i, l, get_or_default xs i 0 z l ∙ e)

-- what stands at a place is a member
pub member : (xs : List ℕ) (i : ℕ) → i < length xs → Contains xs (get_or xs i 0)
member xs i l = (i, l, get_or_default xs i (get_or xs i 0) 0 l)

module _ (es : List (ℕ × ℕ)) where
  -- the fans at one vertex
  at_vertex : (v z : ℕ) → Contains (fans_at es v) z → IsLeast es v 1 z
  at_vertex v z inside =
      let place = at_place (fans_at es v) z inside in
      subst (IsLeast es v 1) place.2 (of (get_or (fans_at es v) place.0 0) (kept_at (is_least_at es v) 0 (length es) place.0 place.1))
    where
      of : (x : ℕ) → IsKept (is_least_at es v) 0 (length es) x → IsLeast es v 1 x
      of x r =
          let p = and_parts (start es x == v) (least_of_fan es x == x) r.passes in
          let starts = eqb-true (start es x) v p.0 in
          record { low = omega (arith, starts); high = omega (arith, starts); below = omega (arith, r.high); itself = eqb-true (least_of_fan es x) x p.1 }

  -- each member is such a half-edge
  pub is_least : (k n z : ℕ) → Contains (fans_from es k n) z → IsLeast es k n z
  is_least k zero z (i, l, e) = absurd (omega (arith, l))
  is_least k (suc n) z inside = by (Contains-append_cases (fans_at es k) (fans_from es (suc k) n) z inside) (is_least (suc k) n z)
    where
      by : Contains (fans_at es k) z ⊎ Contains (fans_from es (suc k) n) z → (Contains (fans_from es (suc k) n) z → IsLeast es (suc k) n z) → IsLeast es k (suc n) z
      by (inl here) rest = let r = at_vertex k z here in record { low = r.low; high = omega (arith, r.high); below = r.below; itself = r.itself }
      by (inr later) rest = let r = rest later in record { low = omega (arith, r.low); high = omega (arith, r.high); below = r.below; itself = r.itself }

  -- and each such half-edge is a member
  pub is_listed : (k n z : ℕ) → IsLeast es k n z → Contains (fans_from es k n) z
  is_listed k zero z r = absurd (omega (arith, r.low, r.high))
  is_listed k (suc n) z r = elim (cases_eq (start es z) k) as (λ _. Contains (fans_from es k (suc n)) z) [
    | inl e ↦
        let passes = and_from (start es z == k) (least_of_fan es z == z) (eq-eqb (start es z) k e) (eq-eqb (least_of_fan es z) z r.itself) in
        Contains-append_left (fans_at es k) (fans_from es (suc k) n) z
        (kept (is_least_at es k) 0 (length es) z (record { low = omega arith; high = omega (arith, r.below); passes = passes }))
    | inr d ↦
        Contains-append_right (fans_at es k) (fans_from es (suc k) n) z
        (is_listed (suc k) n z (record { low = omega (arith, r.low, d); high = omega (arith, r.high); below = r.below; itself = r.itself }))
  ]

  -- a rising list before another, each member before those of the other
  rises_append : (xs ys : List ℕ) → Rises es xs → Rises es ys → ((x y : ℕ) → Contains xs x → Contains ys y → IsBefore es x y) → Rises es (xs ++ ys)
  rises_append xs ys up later across j k less below = elim (cases_lt k (length xs)) as (λ _. IsBefore es (at j) (at k)) [
    | inl k_low ↦ rw (left j (omega (arith, less, k_low)), left k k_low) (up j k less k_low)
    | inr k_high ↦ elim (cases_lt j (length xs)) as (λ _. IsBefore es (at j) (at k)) [
      | inl j_low ↦ rw (left j j_low, right k k_high)
          (across (get_or xs j 0) (get_or ys (k - length xs) 0) (member xs j j_low) (member ys (k - length xs) (omega (arith, k_high, below, full))))
      | inr j_high ↦ rw (right j j_high, right k k_high) (later (j - length xs) (k - length xs) (omega (arith, less, j_high)) (omega (arith, k_high, below, full)))
    ]
  ]
    where
      at : ℕ → ℕ
      at i = get_or (xs ++ ys) i 0

      full : length (xs ++ ys) ≡ length xs + length ys
      full = length-append xs ys

      left : (i : ℕ) → i < length xs → get_or (xs ++ ys) i 0 ≡ get_or xs i 0
      left i l = get_or_append_left xs ys 0 i l

      right : (i : ℕ) → length xs ≤ i → get_or (xs ++ ys) i 0 ≡ get_or ys (i - length xs) 0
      right i l = get_or-append_right xs ys (length xs) i 0 refl l

  -- the fans at one vertex rise
  vertex_rises : (v : ℕ) → Rises es (fans_at es v)
  vertex_rises v j k less below =
      let first = at_vertex v (get_or (fans_at es v) j 0) (member (fans_at es v) j (omega (arith, less, below))) in
      let second = at_vertex v (get_or (fans_at es v) k 0) (member (fans_at es v) k below) in
      record { starts = omega (arith, first.high, second.low); halves = λ _. filter-ascends (is_least_at es v) 0 (length es) j k less below }

  -- and so do those at all
  pub fans_rise : (k n : ℕ) → Rises es (fans_from es k n)
  fans_rise k zero = λ i j less below. absurd (omega (arith, below))
  fans_rise k (suc n) =
      rises_append (fans_at es k) (fans_from es (suc k) n) (vertex_rises k) (fans_rise (suc k) n)
      (λ x y here later.
      let a = at_vertex k x here in
      let b = is_least (suc k) n y later in
      record { starts = omega (arith, a.high, b.low); halves = λ same. absurd (omega (arith, a.high, b.low, same)) })
