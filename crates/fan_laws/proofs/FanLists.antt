-- The list of all fans: which half-edges are in it, and in which order.
use Rattle.std.proofs.Common.{◌≡◌, ◌<◌, ◌≤◌, ◌+◌, ◌-◌, ◌⊎◌, inl, inr, ℕ, zero, suc, Bool, List, ◌++◌, length, get_or, filter, refl, subst, arith}
use Rattle.std.specs.Prelude.{◌==◌, ◌&&◌}
use Rattle.std.specs.List.{Contains, flat_map}
use Rattle.std.proofs.lemmas.Bool.{cases_lt, cases_eq, eqb-true, eq-eqb, and_parts, and_from}
use Rattle.std.proofs.lemmas.List.{get_or_append_left, get_or-append_right, length-append}
use Rattle.std.proofs.lemmas.List.Elements.{Contains-append_left, Contains-append_right, Contains-append_cases}
use Rattle.chain_terms.specs.Ranks.{start}
use Rattle.chain_terms.specs.Sums.{up_from, upto}
use Rattle.chain_laws.proofs.Ascending.{IsKept, kept, kept_at, filter-ascends}
use Rattle.halfedge.proofs.FansOnce.{IsBefore, Rises}
use Rattle.fan_laws.proofs.Members.{at_place, member}

-- h is its own leader at place v
abbrev pub leads_at : List (ℕ × ℕ) → List ℕ → ℕ → ℕ → Bool
leads_at es ls v h = (start es h == v) && (get_or ls h 0 == h)

-- those at one place, and at n places from k on
abbrev pub fans_at : List (ℕ × ℕ) → List ℕ → ℕ → List ℕ
fans_at es ls v = filter (leads_at es ls v) (upto (length es))

abbrev pub fans_from : List (ℕ × ℕ) → List ℕ → ℕ → ℕ → List ℕ
fans_from es ls k n = flat_map (fans_at es ls) (up_from k n)

-- a half-edge that is its own leader, at one of n places from k on
pub record IsLeader (es : List (ℕ × ℕ)) (ls : List ℕ) (k n z : ℕ) : Type 0 where
  pub low : k ≤ start es z
  pub high : start es z < k + n
  pub below : z < length es
  pub itself : get_or ls z 0 ≡ z

module _ (es : List (ℕ × ℕ)) (ls : List ℕ) where
  -- the fans at one place
  at_vertex : (v z : ℕ) → Contains (fans_at es ls v) z → IsLeader es ls v 1 z
  at_vertex v z inside =
      let place = at_place (fans_at es ls v) z inside in
      subst (IsLeader es ls v 1) place.2 (of (get_or (fans_at es ls v) place.0 0) (kept_at (leads_at es ls v) 0 (length es) place.0 place.1))
    where
      of : (x : ℕ) → IsKept (leads_at es ls v) 0 (length es) x → IsLeader es ls v 1 x
      of x r =
          let p = and_parts (start es x == v) (get_or ls x 0 == x) r.passes in
          let starts = eqb-true (start es x) v p.0 in
          record { low = omega (arith, starts); high = omega (arith, starts); below = omega (arith, r.high); itself = eqb-true (get_or ls x 0) x p.1 }

  -- each member is such a half-edge
  pub is_leader : (k n z : ℕ) → Contains (fans_from es ls k n) z → IsLeader es ls k n z
  is_leader k zero z (i, l, e) = absurd (omega (arith, l))
  is_leader k (suc n) z inside = by (Contains-append_cases (fans_at es ls k) (fans_from es ls (suc k) n) z inside) (is_leader (suc k) n z)
    where
      by : Contains (fans_at es ls k) z ⊎ Contains (fans_from es ls (suc k) n) z → (Contains (fans_from es ls (suc k) n) z → IsLeader es ls (suc k) n z) →
          IsLeader es ls k (suc n) z
      by (inl here) rest = let r = at_vertex k z here in record { low = r.low; high = omega (arith, r.high); below = r.below; itself = r.itself }
      by (inr later) rest = let r = rest later in record { low = omega (arith, r.low); high = omega (arith, r.high); below = r.below; itself = r.itself }

  -- and each such half-edge is a member
  pub is_listed : (k n z : ℕ) → IsLeader es ls k n z → Contains (fans_from es ls k n) z
  is_listed k zero z r = absurd (omega (arith, r.low, r.high))
  is_listed k (suc n) z r = elim (cases_eq (start es z) k) as (λ _. Contains (fans_from es ls k (suc n)) z) [
    | inl e ↦
        let passes = and_from (start es z == k) (get_or ls z 0 == z) (eq-eqb (start es z) k e) (eq-eqb (get_or ls z 0) z r.itself) in
        Contains-append_left (fans_at es ls k) (fans_from es ls (suc k) n) z
        (kept (leads_at es ls k) 0 (length es) z (record { low = omega arith; high = omega (arith, r.below); passes = passes }))
    | inr d ↦
        Contains-append_right (fans_at es ls k) (fans_from es ls (suc k) n) z
        (is_listed (suc k) n z (record { low = omega (arith, r.low, d); high = omega (arith, r.high); below = r.below; itself = r.itself }))
  ]

  -- a rising list before another, each member before those of the other
  rises_append : (xs ys : List ℕ) → Rises es xs → Rises es ys → ((x y : ℕ) → Contains xs x → Contains ys y → IsBefore es x y) → Rises es (xs ++ ys)
  rises_append xs ys up later across j k less below = elim (cases_lt k (length xs)) as (λ _. IsBefore es (at j) (at k)) [
    | inl k_low ↦ rw (left j (omega (arith, less, k_low)), left k k_low) (up j k less k_low)
    | inr k_high ↦ elim (cases_lt j (length xs)) as (λ _. IsBefore es (at j) (at k)) [
      | inl j_low ↦ rw (left j j_low, right k k_high)
          (across (get_or xs j 0) (get_or ys (k - length xs) 0) (member xs j j_low) (member ys (k - length xs) (omega (arith, k_high, below, full))))
      | inr j_high ↦ rw (right j j_high, right k k_high) (later (j - length xs) (k - length xs) (omega (arith, less, j_high)) (omega (arith, k_high, below, full)))
    ]
  ]
    where
      at : ℕ → ℕ
      at i = get_or (xs ++ ys) i 0

      full : length (xs ++ ys) ≡ length xs + length ys
      full = length-append xs ys

      left : (i : ℕ) → i < length xs → get_or (xs ++ ys) i 0 ≡ get_or xs i 0
      left i l = get_or_append_left xs ys 0 i l

      right : (i : ℕ) → length xs ≤ i → get_or (xs ++ ys) i 0 ≡ get_or ys (i - length xs) 0
      right i l = get_or-append_right xs ys (length xs) i 0 refl l

  -- the fans at one place rise
  vertex_rises : (v : ℕ) → Rises es (fans_at es ls v)
  vertex_rises v j k less below =
      let first = at_vertex v (get_or (fans_at es ls v) j 0) (member (fans_at es ls v) j (omega (arith, less, below))) in
      let second = at_vertex v (get_or (fans_at es ls v) k 0) (member (fans_at es ls v) k below) in
      record { starts = omega (arith, first.high, second.low); halves = λ _. filter-ascends (leads_at es ls v) 0 (length es) j k less below }

  -- and so do those at all
  pub fans_rise : (k n : ℕ) → Rises es (fans_from es ls k n)
  fans_rise k zero = λ i j less below. absurd (omega (arith, below))
  fans_rise k (suc n) =
      rises_append (fans_at es ls k) (fans_from es ls (suc k) n) (vertex_rises k) (fans_rise (suc k) n)
      (λ x y here later.
      let a = at_vertex k x here in
      let b = is_leader (suc k) n y later in
      record { starts = omega (arith, a.high, b.low); halves = λ same. absurd (omega (arith, a.high, b.low, same)) })
