-- The triangles whose corners are the fans: where their half-edges start and end, and that they make a closed mesh.
use Rattle.std.proofs.Common.{◌≡◌, ◌≢◌, ◌<◌, ◌+◌, ◌*◌, ℕ, zero, suc, ℤ, neg_ℤ, Bool, true, false, List, [], ◌∷◌, map, length, get_or, refl, sym, subst, ◌∙◌, ap, arith}
use Rattle.std.specs.Prelude.{◌||◌, ◌==◌, pos}
use Rattle.std.specs.List.{All}
use Rattle.std.proofs.lemmas.Bool.{eq-eqb}
use Rattle.std.proofs.lemmas.Int.{ints}
use Rattle.std.proofs.lemmas.List.{get_or-map}
use Rattle.chain_terms.specs.Chains.{all_edges, IsClosed}
use Rattle.chain_terms.specs.Odd.{IsOdd, along}
use Rattle.chain_terms.specs.Ranks.{start, finish, twin}
use Rattle.chain_terms.specs.Sums.{total, upto}
use Rattle.chain_laws.specs.Chains.{closed_from_sums}
use Rattle.chain_laws.specs.Sums.{total-neg}
use Rattle.chain_laws.proofs.Inverses.{inverse_sum}
use Rattle.chain_laws.proofs.Places.{total-places, total-upto_same, get_or-up_from, length-up_from}
use Rattle.chain_laws.proofs.Twins.{twin_runs_back, twin_twin, twins_inverse}
use Rattle.mesh_terms.specs.Fans.{AreFans}
use Rattle.mesh_terms.specs.Halves.{next_half, SameFan}
use Rattle.mesh_terms.specs.Meshes.{Triple, HasThree, IsBelow, has, is_used}
use Rattle.halfedge.proofs.Around.{times_start}
use Rattle.halfedge.proofs.Edges.{length-all_edges, next_starts, not_back}
use Rattle.pinch_split.specs.Split.{corner_values}
use Rattle.pinch_split.specs.Given.{corners}
use Rattle.pinch_split.proofs.Corners.{start_value, finish_value, length-corners, length-corner_edges}

-- closed triangles and their fans
pub record HasFans (ts : List Triple) (of first : List ℕ) : Type 0 where
  pub three : All HasThree ts
  pub closed : IsClosed (all_edges ts)
  pub fans : AreFans (all_edges ts) of first

-- the half-edges of the triangles
abbrev pub old : List Triple → List (ℕ × ℕ)
old ts = all_edges ts

-- the half-edges of the new triangles
abbrev pub anew : List Triple → List ℕ → List (ℕ × ℕ)
anew ts of = all_edges (corners of (length ts))

-- the fan of a half-edge
abbrev pub fan : List ℕ → ℕ → ℕ
fan of h = get_or of h 0

-- as many half-edges as before
pub length-anew : (ts : List Triple) (of : List ℕ) → length (anew ts of) ≡ length (old ts)
length-anew ts of = omega (arith, length-corner_edges (fan of) (length ts), length-all_edges ts)

-- a half-edge starts where its fan's first starts
pub start_of_fan : (ts : List Triple) (of first : List ℕ) → HasFans ts of first → (h : ℕ) → h < length (old ts) → start (old ts) h ≡ start (old ts) (get_or first (fan of h) 0)
start_of_fan ts of first known h below =
    let within = (known.fans.first_in (fan of h) (known.fans.numbered h below)).0 in
    walked (get_or first (fan of h) 0) within (known.fans.reached h below)
  where
    walked : (g : ℕ) → g < length (old ts) → SameFan (old ts) g h → start (old ts) h ≡ start (old ts) g
    walked g within (n, e) = ap (start (old ts)) (sym e) ∙ times_start ts known.closed g within n

-- half-edges of one fan start at one vertex
pub same_start : (ts : List Triple) (of first : List ℕ) → HasFans ts of first → (h g : ℕ) → h < length (old ts) → g < length (old ts) → fan of h ≡ fan of g →
    start (old ts) h ≡ start (old ts) g
same_start ts of first known h g h_below g_below same =
    start_of_fan ts of first known h h_below ∙ ap (λ k. start (old ts) (get_or first k 0)) same ∙ sym (start_of_fan ts of first known g g_below)

-- the next half-edge has the fan of the twin
pub next_as_twin : (ts : List Triple) (of first : List ℕ) → HasFans ts of first → (h : ℕ) → h < length (old ts) → fan of (next_half h) ≡ fan of (twin (old ts) h)
next_as_twin ts of first known h below =
    ap (λ g. fan of (next_half g)) (sym (twin_twin (old ts) known.closed h below)) ∙ known.fans.steps (twin (old ts) h) (twin_runs_back (old ts) known.closed h below).within

-- a new half-edge starts at its fan
pub start_anew : (ts : List Triple) (of : List ℕ) (h : ℕ) → h < length (old ts) → start (anew ts of) h ≡ fan of h
start_anew ts of h below = start_value (fan of) (length ts) h (omega (arith, below, length-all_edges ts))

-- and ends at the fan of its twin
pub finish_anew : (ts : List Triple) (of first : List ℕ) → HasFans ts of first → (h : ℕ) → h < length (old ts) → finish (anew ts of) h ≡ fan of (twin (old ts) h)
finish_anew ts of first known h below = finish_value (fan of) (length ts) h (omega (arith, below, length-all_edges ts)) ∙ next_as_twin ts of first known h below

-- so the twin starts where it ends
pub twin_start : (ts : List Triple) (of first : List ℕ) → HasFans ts of first → (h : ℕ) → h < length (old ts) → start (anew ts of) (twin (old ts) h) ≡ finish (anew ts of) h
twin_start ts of first known h below =
    start_anew ts of (twin (old ts) h) (twin_runs_back (old ts) known.closed h below).within ∙ sym (finish_anew ts of first known h below)

-- and ends where it starts
pub twin_finish : (ts : List Triple) (of first : List ℕ) → HasFans ts of first → (h : ℕ) → h < length (old ts) → finish (anew ts of) (twin (old ts) h) ≡ start (anew ts of) h
twin_finish ts of first known h below =
    finish_anew ts of first known (twin (old ts) h) (twin_runs_back (old ts) known.closed h below).within
    ∙ ap (fan of) (twin_twin (old ts) known.closed h below) ∙ sym (start_anew ts of h below)

-- the fans at both ends of a half-edge differ
pub fans_differ : (ts : List Triple) (of first : List ℕ) → HasFans ts of first → (h : ℕ) → h < length (old ts) → fan of h ≢ fan of (next_half h)
fans_differ ts of first known h below same =
    let full = length-all_edges ts in
    let e : start (old ts) h ≡ finish (old ts) h = same_start ts of first known h (next_half h) below (omega (arith, below, full)) same ∙ next_starts ts h below in
    not_back ts known.three h h below refl (e, sym e)

-- the corners of a new triangle
pub corner_at : (f : ℕ → ℕ) (n i : ℕ) (d : Triple) → i < n → get_or (map (corner_values f) (upto n)) i d ≡ corner_values f i
corner_at f n i d below =
    let first : 0 + i ≡ i = omega arith in
    get_or-map (corner_values f) (upto n) i 0 d (omega (arith, below, length-up_from 0 n)) ∙ ap (corner_values f) (get_or-up_from 0 n i 0 below ∙ first)

-- what holds of each corner triple holds of all new triangles
pub all_corners : (P : Triple → Type 0) (f : ℕ → ℕ) (n : ℕ) → ((i : ℕ) → i < n → P (corner_values f i)) → All P (map (corner_values f) (upto n))
all_corners P f n each i d below =
    let within : i < n = omega (arith, below, length-corners f n) in
    subst P (sym (corner_at f n i d within)) (each i within)

-- they have three different vertices
pub three_anew : (ts : List Triple) (of first : List ℕ) → HasFans ts of first → All HasThree (corners of (length ts))
three_anew ts of first known = all_corners HasThree (fan of) (length ts) each
  where
    each : (i : ℕ) → i < length ts → HasThree (corner_values (fan of) i)
    each i low =
        let full = length-all_edges ts in
        let second : next_half (3 * i) ≡ 3 * i + 1 = omega arith in
        let third : next_half (3 * i + 1) ≡ 3 * i + 2 = omega arith in
        let again : next_half (3 * i + 2) ≡ 3 * i = omega arith in
        record {
          ab = λ e. fans_differ ts of first known (3 * i) (omega (arith, low, full)) (e ∙ ap (fan of) (sym second));
          bc = λ e. fans_differ ts of first known (3 * i + 1) (omega (arith, low, full)) (e ∙ ap (fan of) (sym third));
          ca = λ e. fans_differ ts of first known (3 * i + 2) (omega (arith, low, full)) (e ∙ ap (fan of) (sym again));
        }

-- each is a fan
pub below_anew : (ts : List Triple) (of first : List ℕ) → HasFans ts of first → All (IsBelow (length first)) (corners of (length ts))
below_anew ts of first known = all_corners (IsBelow (length first)) (fan of) (length ts) each
  where
    each : (i : ℕ) → i < length ts → IsBelow (length first) (corner_values (fan of) i)
    each i low =
        let full = length-all_edges ts in
        record {
          a = known.fans.numbered (3 * i) (omega (arith, low, full));
          b = known.fans.numbered (3 * i + 1) (omega (arith, low, full));
          c = known.fans.numbered (3 * i + 2) (omega (arith, low, full));
        }

-- a vertex from which a half-edge starts is used
pub used_start : (ts : List Triple) (h : ℕ) → h < length (all_edges ts) → is_used ts (start (all_edges ts) h) ≡ true
used_start [] h below = absurd (omega (arith, below))
used_start (t ∷ ts) zero below = let e = eq-eqb t.0 t.0 refl in λ i. (e i || (t.1 == t.0) || (t.2 == t.0)) || is_used ts t.0
used_start (t ∷ ts) (suc zero) below =
    let e = eq-eqb t.1 t.1 refl in (λ i. ((t.0 == t.1) || e i || (t.2 == t.1)) || is_used ts t.1) ∙ second (t.0 == t.1) (t.2 == t.1) (is_used ts t.1)
  where
    second : (a b c : Bool) → ((a || true || b) || c) ≡ true
    second true b c = refl
    second false b c = refl
used_start (t ∷ ts) (suc (suc zero)) below =
    let e = eq-eqb t.2 t.2 refl in (λ i. ((t.0 == t.2) || (t.1 == t.2) || e i) || is_used ts t.2) ∙ third (t.0 == t.2) (t.1 == t.2) (is_used ts t.2)
  where
    third : (a b c : Bool) → ((a || b || true) || c) ≡ true
    third true b c = refl
    third false true c = refl
    third false false c = refl
used_start (t ∷ ts) (suc (suc (suc h))) below = or_true (has t (start (all_edges ts) h)) (is_used ts (start (all_edges ts) h)) (used_start ts h (omega (arith, below)))
  where
    or_true : (a b : Bool) → b ≡ true → (a || b) ≡ true
    or_true true b e = refl
    or_true false b e = e

-- each fan is used
pub used_anew : (ts : List Triple) (of first : List ℕ) → HasFans ts of first → (v : ℕ) → v < length first → is_used (corners of (length ts)) v ≡ true
used_anew ts of first known v below =
    let held = known.fans.first_in v below in
    let h = get_or first v 0 in
    ap (is_used (corners of (length ts))) (sym (start_anew ts of h held.0 ∙ held.1)) ∙ used_start (corners of (length ts)) h (omega (arith, held.0, length-anew ts of))

-- the new triangles are closed: each half-edge has its twin as its reverse
pub closed_anew : (ts : List Triple) (of first : List ℕ) → HasFans ts of first → IsClosed (anew ts of)
closed_anew ts of first known = closed_from_sums (anew ts of) vanishes
  where
    term : (ℕ → ℕ → ℤ) → ℕ → ℤ
    term f h = f (start (anew ts of) h) (finish (anew ts of) h)

    opposite : (f : ℕ → ℕ → ℤ) → IsOdd f → (h : ℕ) → h < length (old ts) → term f (twin (old ts) h) ≡ neg_ℤ (term f h)
    opposite f odd h below =
        let turned = odd.turns (finish (anew ts of) h) (start (anew ts of) h) in
        let same : term f (twin (old ts) h) ≡ f (finish (anew ts of) h) (start (anew ts of) h) = λ i. f (twin_start ts of first known h below i)
        (twin_finish ts of first known h below i) in
        omega (arith, ints, turned, same)

    vanishes : (f : ℕ → ℕ → ℤ) → IsOdd f → total (along f) (anew ts of) ≡ pos 0
    vanishes f odd =
        let m = length (old ts) in
        let spread = total-places (along f) (0, 0) (anew ts of) ∙ ap (λ n. total (term f) (upto n)) (length-anew ts of) in
        let turn = inverse_sum (term f) (twin (old ts)) (twin (old ts)) m (twins_inverse (old ts) known.closed) in
        let back = total-upto_same (λ k. term f (twin (old ts) k)) (λ k. neg_ℤ (term f k)) m (opposite f odd) ∙ total-neg (term f) (upto m) in
        omega (arith, ints, spread, turn, back)
