-- The new triangles are clean, and each fan has at least two half-edges.
use Rattle.std.proofs.Common.{◌≡◌, ◌≢◌, ◌<◌, ◌≤◌, ◌-◌, ◌*◌, inl, inr, ℕ, zero, suc, cond, List, length, get_or, refl, sym, ◌∙◌, ap, subst, arith}
use Rattle.std.specs.Prelude.{nat_lt}
use Rattle.std.proofs.lemmas.Bool.{cases_lt, lt-ltb, le-ltb}
use Rattle.chain_terms.specs.Ranks.{twin}
use Rattle.chain_laws.proofs.Walks.{times_below, different_below}
use Rattle.mesh_terms.specs.Halves.{next_half, prev_half, around, around_times, SameFan}
use Rattle.mesh_terms.specs.Meshes.{Triple}
use Rattle.halfedge.specs.Clean.{IsClean}
use Rattle.halfedge.proofs.Around.{around_inverse, go_around}
use Rattle.halfedge.proofs.Marks.{one_fan}
use Rattle.pinch_split.proofs.Anew.{HasFans, old, anew, fan, length-anew, start_anew}
use Rattle.pinch_split.proofs.TwinsStay.{twin_stays}

-- half-edges of one fan are on one walk
pub same_fan : (ts : List Triple) (of first : List ℕ) → HasFans ts of first → (h g : ℕ) → h < length (old ts) → g < length (old ts) → fan of h ≡ fan of g → SameFan (old ts) h g
same_fan ts of first known h g h_below g_below same =
    one_fan ts known.closed (get_or first (fan of h) 0) (known.fans.first_in (fan of h) (known.fans.numbered h h_below)).0 h g (known.fans.reached h h_below)
    (subst (λ k. SameFan (old ts) (get_or first k 0) g) (sym same) (known.fans.reached g g_below))

-- going around is as before
same_walk : (ts : List Triple) (of first : List ℕ) → HasFans ts of first → (h : ℕ) → h < length (old ts) → (n : ℕ) → around_times (anew ts of) n h ≡ around_times (old ts) n h
same_walk ts of first known h below zero = refl
same_walk ts of first known h below (suc n) =
    let g = around_times (old ts) n h in
    let within = times_below (around (old ts)) (λ x. twin (old ts) (prev_half x)) (length (old ts)) (around_inverse ts known.closed) n h below in
    ap (around (anew ts of)) (same_walk ts of first known h below n) ∙ ap next_half (twin_stays ts of first known g within)

-- half-edges that start at one new vertex are in one fan
pub clean_anew : (ts : List Triple) (of first : List ℕ) → HasFans ts of first → IsClean (anew ts of)
clean_anew ts of first known h g h_below g_below same =
    let full = length-anew ts of in
    let h_old : h < length (old ts) = omega (arith, h_below, full) in
    let g_old : g < length (old ts) = omega (arith, g_below, full) in
    walked h_old (same_fan ts of first known h g h_old g_old (sym (start_anew ts of h h_old) ∙ same ∙ start_anew ts of g g_old))
  where
    walked : h < length (old ts) → SameFan (old ts) h g → SameFan (anew ts of) h g
    walked h_old (n, e) = (n, same_walk ts of first known h h_old n ∙ e)

-- two half-edges for each fan: its first, and the one around from it
abbrev member : (ts : List Triple) (first : List ℕ) → ℕ → ℕ
member ts first j = cond (nat_lt j (length first)) (get_or first j 0) (around (old ts) (get_or first (j - length first) 0))

-- fans have different half-edges, and no half-edge is around from itself: so there are at most half as many fans as half-edges
pub few_fans : (ts : List Triple) (of first : List ℕ) → HasFans ts of first → 2 * length first ≤ length (old ts)
few_fans ts of first known = different_below f (2 * n) (length (old ts)) below different
  where
    n : ℕ
    n = length first

    f : ℕ → ℕ
    f j = member ts first j

    low : (j : ℕ) → j < n → f j ≡ get_or first j 0
    low j l = ap (λ b. cond b (get_or first j 0) (around (old ts) (get_or first (j - n) 0))) (lt-ltb j n l)

    high : (j : ℕ) → n ≤ j → f j ≡ around (old ts) (get_or first (j - n) 0)
    high j l = ap (λ b. cond b (get_or first j 0) (around (old ts) (get_or first (j - n) 0))) (le-ltb j n l)

    below : (j : ℕ) → j < 2 * n → f j < length (old ts)
    below j l = elim (cases_lt j n) as (λ _. f j < length (old ts)) [
      | inl less ↦ subst (λ h. h < length (old ts)) (sym (low j less)) (known.fans.first_in j less).0
      | inr more ↦
          let k : j - n < n = omega (arith, l, more) in
          subst (λ h. h < length (old ts)) (sym (high j more)) ((around_inverse ts known.closed).below (get_or first (j - n) 0) (known.fans.first_in (j - n) k).0)
    ]

    fan_low : (j : ℕ) → j < n → fan of (f j) ≡ j
    fan_low j l = ap (fan of) (low j l) ∙ (known.fans.first_in j l).1

    fan_high : (j : ℕ) → n ≤ j → j < 2 * n → fan of (f j) ≡ j - n
    fan_high j l m =
        let held = known.fans.first_in (j - n) (omega (arith, l, m)) in
        ap (fan of) (high j l) ∙ known.fans.steps (get_or first (j - n) 0) held.0 ∙ held.1

    apart : (i j : ℕ) → i < n → n ≤ j → j < 2 * n → f i ≢ f j
    apart i j i_low j_high l same =
        let which : i ≡ j - n = sym (fan_low i i_low) ∙ ap (fan of) same ∙ fan_high j j_high l in
        let here : get_or first i 0 ≡ around (old ts) (get_or first i 0) = sym (low i i_low) ∙ same ∙ high j j_high ∙ ap (λ k. around (old ts) (get_or first k 0)) (sym which) in
        (go_around ts known.three known.closed).moves (get_or first i 0) (known.fans.first_in i i_low).0 (sym here)

    different : (i j : ℕ) → i < j → j < 2 * n → f i ≢ f j
    different i j less l = elim (cases_lt i n) as (λ _. f i ≢ f j) [
      | inl i_low ↦ elim (cases_lt j n) as (λ _. f i ≢ f j) [
        | inl j_low ↦ λ same. omega (arith, less, sym (fan_low i i_low) ∙ ap (fan of) same ∙ fan_low j j_low)
        | inr j_high ↦ apart i j i_low j_high l
      ]
      | inr i_high ↦ λ same. omega (arith, less, i_high, sym (fan_high i i_high (omega (arith, less, l))) ∙ ap (fan of) same ∙ fan_high j (omega (arith, i_high, less)) l)
    ]
