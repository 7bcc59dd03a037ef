-- The least half-edge of a fan is its first.
use Rattle.std.proofs.Common.{◌≡◌, ◌<◌, ◌≤◌, ◌*◌, ◌/◌, ◌%◌, ℕ, zero, suc, List, [], ◌∷◌, length, get_or, sym, ◌∙◌, ap, subst, arith}
use Rattle.std.proofs.Math.Nat.{mod-lt, mod-add-div'}
use Rattle.std.proofs.lemmas.List.{length-map}
use Rattle.chain_terms.specs.Permutations.{times, Returns}
use Rattle.chain_terms.specs.Ranks.{twin}
use Rattle.chain_terms.specs.Sums.{upto}
use Rattle.chain_laws.proofs.Places.{length-up_from}
use Rattle.chain_laws.proofs.Walks.{times_below, times-add, returns}
use Rattle.mesh_terms.specs.Halves.{prev_half, around, around_times, SameFan}
use Rattle.mesh_terms.specs.Meshes.{Triple}
use Rattle.halfedge.proofs.Around.{around_inverse}
use Rattle.halfedge.proofs.FanSteps.{same_in_fan}
use Rattle.halfedge.proofs.Listed.{listed}
use Rattle.halfedge.proofs.Marks.{returns_again}
use Rattle.pinch_split.specs.Split.{met_from, least, least_of_fan}
use Rattle.pinch_split.proofs.Anew.{HasFans, old, fan}
use Rattle.pinch_split.proofs.Clean.{same_fan}

-- the least is at most each member
least_at_most : (m : ℕ) (xs : List ℕ) (i : ℕ) → i < length xs → least m xs ≤ get_or xs i 0
least_at_most m [] i low = absurd (omega (arith, low))
least_at_most m (x ∷ xs) zero low = omega arith
least_at_most m (x ∷ xs) (suc i) low = omega (arith, least_at_most m xs i (omega (arith, low)))

-- and at least what all are at least
least_at_least : (m b : ℕ) (xs : List ℕ) → b ≤ m → ((i : ℕ) → i < length xs → b ≤ get_or xs i 0) → b ≤ least m xs
least_at_least m b [] first each = first
least_at_least m b (x ∷ xs) first each = omega (arith, each 0 (omega arith), least_at_least m b xs first (λ i l. each (suc i) (omega (arith, l))))

-- a walk that returns meets whatever it meets before it has returned
met_before : (s : ℕ → ℕ) (n h g : ℕ) → Returns s n h → (k : ℕ) → times s k h ≡ g → (i : ℕ) × (i < n) × (times s i h ≡ g)
met_before s n h g return k to_g =
    let d = return.steps in
    let i = k % d in
    let split = mod-add-div' k d in
    let low : i < n = omega (arith, mod-lt k return.some, return.few) in
    (i, low, sym (ap (λ x. times s i x) (returns_again s d h return.back (k / d))) ∙ sym (times-add s i (k / d * d) h) ∙ ap (λ m. times s m h) split ∙ to_g)

-- the least half-edge of a fan is its first
pub least_is_first : (ts : List Triple) (of first : List ℕ) → HasFans ts of first → (h : ℕ) → h < length (old ts) → least_of_fan (old ts) h ≡ get_or first (fan of h) 0
least_is_first ts of first known h below =
    let at_most = found (same_fan ts of first known h f below f_below (sym f_fan)) in
    omega (arith, at_most, at_least)
  where
    s : ℕ → ℕ
    s = around (old ts)

    n : ℕ
    n = length (old ts)

    f : ℕ
    f = get_or first (fan of h) 0

    f_below : f < length (old ts)
    f_below = (known.fans.first_in (fan of h) (known.fans.numbered h below)).0

    f_fan : fan of f ≡ fan of h
    f_fan = (known.fans.first_in (fan of h) (known.fans.numbered h below)).1

    full : length (met_from (old ts) h) ≡ n
    full = length-map (upto n) (λ k. around_times (old ts) k h) ∙ length-up_from 0 n

    met : (i : ℕ) → i < n → get_or (met_from (old ts) h) i 0 ≡ times s i h
    met i low = listed (λ k. around_times (old ts) k h) n i 0 low

    found : SameFan (old ts) h f → least_of_fan (old ts) h ≤ f
    found (k, to_f) = at (met_before s n h f (returns s (λ g. twin (old ts) (prev_half g)) n (around_inverse ts known.closed) h below) k to_f)
      where
        at : (i : ℕ) × (i < n) × (times s i h ≡ f) → least_of_fan (old ts) h ≤ f
        at (i, low, is) = subst (λ x. least_of_fan (old ts) h ≤ x) (met i low ∙ is) (least_at_most h (met_from (old ts) h) i (omega (arith, low, full)))

    at_least : f ≤ least_of_fan (old ts) h
    at_least = least_at_least h f (met_from (old ts) h) (known.fans.least h below) (λ i l.
        let low : i < n = omega (arith, l, full) in
        let g = times s i h in
        let within = times_below s (λ x. twin (old ts) (prev_half x)) n (around_inverse ts known.closed) i h below in
        let one : fan of g ≡ fan of h = same_in_fan ts known.closed of known.fans.steps h below i in
        subst (λ x. f ≤ x) (sym (met i low)) (subst (λ k. get_or first k 0 ≤ g) one (known.fans.least g within)))
