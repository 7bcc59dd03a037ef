-- The walks round the parts of a region, which lies at their left.
use Rattle.std.specs.Prelude.{ℕ, pos, ◌+ℤ◌, ◌-ℤ◌, ◌*ℤ◌, List, [], ◌∷◌, Bool, ◌&&◌, ◌||◌, ◌==◌, if◌then◌else◌, nat_lt, int_lt, length, get_or, map, filter}
use Rattle.std.specs.List.{position_or_len}
use Rattle.chain_terms.specs.Cycles.{cycles}
use Rattle.chain_terms.specs.Ranks.{start}
use Rattle.chain_terms.specs.Sums.{upto}
use Rattle.face_plane.specs.Planes.{Plane, orient}
use Rattle.sheet_terms.specs.Chains.{same_edge}

-- how far round s to the right from p: 0 in the right half, 1 straight ahead, 2 in the left half, 3 back at p
abbrev pub quarter : Plane → ℕ → ℕ → ℕ → ℕ
quarter at s p n =
    let side = orient at s p n in
    let along = ((at p).0 -ℤ (at s).0) *ℤ ((at n).0 -ℤ (at s).0) +ℤ ((at p).1 -ℤ (at s).1) *ℤ ((at n).1 -ℤ (at s).1) in
    if int_lt side (pos 0) then 0 else if int_lt (pos 0) side then 2 else if int_lt along (pos 0) then 1 else 3

-- from p on round s to the right, m is met before n
abbrev pub is_met_before : Plane → ℕ → ℕ → ℕ → ℕ → Bool
is_met_before at s p m n =
    let i = quarter at s p m in
    let j = quarter at s p n in nat_lt i j || ((i == j) && int_lt (orient at s m n) (pos 0))

-- the one of n and others that is met first
abbrev pub first_met : Plane → ℕ → ℕ → ℕ → List ℕ → ℕ
first_met at s p n [] = n
first_met at s p n (m ∷ ms) = first_met at s p (if is_met_before at s p m n then m else n) ms

-- where the edges from s end
abbrev pub ends_from : List (ℕ × ℕ) → ℕ → List ℕ
ends_from es s = map (λ e. e.1) (filter (λ e. e.0 == s) es)

-- where an edge from p to s is followed to: of the edges from s to the first that is met from p on round s to the right
abbrev pub goes_to : Plane → List (ℕ × ℕ) → (ℕ × ℕ) → ℕ
goes_to at es e = let ns = ends_from es e.1 in first_met at e.1 e.0 (get_or ns 0 0) ns

-- the number of the edge that follows edge i
abbrev pub follower : Plane → List (ℕ × ℕ) → ℕ → ℕ
follower at es i = let e = get_or es i (0, 0) in position_or_len (same_edge (e.1, goes_to at es e)) es

-- the walks, each a list of its places
abbrev pub walks : Plane → List (ℕ × ℕ) → List (List ℕ)
walks at es = map (map (start es)) (cycles (map (λ i. (i, follower at es i)) (upto (length es))))
