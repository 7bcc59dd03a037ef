-- Half-edges of triangles by their places: the next one, and which lie in one triangle.
use Rattle.std.proofs.Common.{◌≡◌, ◌<◌, ◌*◌, ◌/◌, ℕ, zero, suc, List, [], ◌∷◌, length, refl, sym, ◌∙◌, ap, arith}
use Rattle.std.specs.List.{All}
use Rattle.std.proofs.lemmas.List.Elements.{All-head, All-tail}
use Rattle.chain_terms.specs.Chains.{all_edges}
use Rattle.chain_terms.specs.Ranks.{start, finish}
use Rattle.mesh_terms.specs.Meshes.{Triple, HasThree}
use Rattle.mesh_terms.specs.Halves.{next_half, prev_half}

-- three half-edges for each triangle
pub length-all_edges : (ts : List Triple) → length (all_edges ts) ≡ 3 * length ts
length-all_edges [] = refl
length-all_edges (t ∷ ts) = omega (arith, length-all_edges ts)

-- one triangle further, the next one is one triangle further
next_later : (h : ℕ) → next_half (suc (suc (suc h))) ≡ suc (suc (suc (next_half h)))
next_later h = omega arith

-- the next half-edge is one of the triangle
pub next_below : (ts : List Triple) (h : ℕ) → h < length (all_edges ts) → next_half h < length (all_edges ts)
next_below ts h below = omega (arith, length-all_edges ts, below)

-- it starts where the half-edge ends
pub next_starts : (ts : List Triple) (h : ℕ) → h < length (all_edges ts) → start (all_edges ts) (next_half h) ≡ finish (all_edges ts) h
next_starts [] h below = absurd (omega (arith, below))
next_starts (t ∷ ts) zero below = refl
next_starts (t ∷ ts) (suc zero) below = refl
next_starts (t ∷ ts) (suc (suc zero)) below = refl
next_starts (t ∷ ts) (suc (suc (suc h))) below = ap (start (all_edges (t ∷ ts))) (next_later h) ∙ next_starts ts h (omega (arith, below))

-- the one before is the one whose next it is
pub prev_next : (h : ℕ) → prev_half (next_half h) ≡ h
prev_next h = omega arith

-- the next one is the one whose one before it is
pub next_prev : (h : ℕ) → next_half (prev_half h) ≡ h
next_prev h = omega arith

-- the one before is one of the triangle
pub prev_below : (ts : List Triple) (h : ℕ) → h < length (all_edges ts) → prev_half h < length (all_edges ts)
prev_below ts h below = omega (arith, length-all_edges ts, below)

-- half-edge g runs back along half-edge h
abbrev pub IsBack : List (ℕ × ℕ) → ℕ → ℕ → Type 0
IsBack es h g = (start es g ≡ finish es h) × (finish es g ≡ start es h)

-- no half-edge of a triangle with three different vertices runs back along one of the same triangle
pub not_back : (ts : List Triple) → All HasThree ts → (h g : ℕ) → h < length (all_edges ts) → h / 3 ≡ g / 3 → IsBack (all_edges ts) h g → ⊥
not_back [] three h g below same back = omega (arith, below)
not_back (t ∷ ts) three (suc (suc (suc h))) (suc (suc (suc g))) below same back = not_back ts (All-tail HasThree t ts three) h g (omega (arith, below)) (omega (arith, same)) back
not_back (t ∷ ts) three zero zero below same back = (All-head HasThree t ts three).ab back.0
not_back (t ∷ ts) three zero (suc zero) below same back = (All-head HasThree t ts three).ca back.1
not_back (t ∷ ts) three zero (suc (suc zero)) below same back = (All-head HasThree t ts three).bc (sym back.0)
not_back (t ∷ ts) three (suc zero) zero below same back = (All-head HasThree t ts three).ca (sym back.0)
not_back (t ∷ ts) three (suc zero) (suc zero) below same back = (All-head HasThree t ts three).bc back.0
not_back (t ∷ ts) three (suc zero) (suc (suc zero)) below same back = (All-head HasThree t ts three).ab back.1
not_back (t ∷ ts) three (suc (suc zero)) zero below same back = (All-head HasThree t ts three).bc back.1
not_back (t ∷ ts) three (suc (suc zero)) (suc zero) below same back = (All-head HasThree t ts three).ab (sym back.0)
not_back (t ∷ ts) three (suc (suc zero)) (suc (suc zero)) below same back = (All-head HasThree t ts three).ca back.0
not_back (t ∷ ts) three zero (suc (suc (suc g))) below same back = omega (arith, same)
not_back (t ∷ ts) three (suc zero) (suc (suc (suc g))) below same back = omega (arith, same)
not_back (t ∷ ts) three (suc (suc zero)) (suc (suc (suc g))) below same back = omega (arith, same)
not_back (t ∷ ts) three (suc (suc (suc h))) zero below same back = omega (arith, same)
not_back (t ∷ ts) three (suc (suc (suc h))) (suc zero) below same back = omega (arith, same)
not_back (t ∷ ts) three (suc (suc (suc h))) (suc (suc zero)) below same back = omega (arith, same)
