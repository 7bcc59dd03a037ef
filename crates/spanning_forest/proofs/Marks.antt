-- One more mark: what is marked, and how many have none.
use Rattle.std.proofs.Common.{◌≡◌, ◌<◌, ◌+◌, ℕ, zero, suc, Bool, true, false, not, List, [], ◌∷◌, length, set, refl, arith}
use Rattle.chain_laws.specs.Counts.{count_by-cons}
use Rattle.spanning_forest.specs.Walks.{IsMarked, IsUnmarked, unmarked}

-- the vertex that gets the mark has it
pub marked_here : (seen : List Bool) (v : ℕ) → v < length seen → IsMarked (set seen v true) v
marked_here [] v below = absurd (omega (arith, below))
marked_here (b ∷ seen) zero below = refl
marked_here (b ∷ seen) (suc v) below = marked_here seen v (omega (arith, below))

-- the others keep theirs
pub marked_kept : (seen : List Bool) (v w : ℕ) → IsMarked seen w → IsMarked (set seen v true) w
marked_kept [] v w m = m
marked_kept (b ∷ seen) zero zero m = refl
marked_kept (b ∷ seen) zero (suc w) m = m
marked_kept (b ∷ seen) (suc v) zero m = m
marked_kept (b ∷ seen) (suc v) (suc w) m = marked_kept seen v w m

-- a marked vertex is one of those that have a place
pub marked_within : (seen : List Bool) (w : ℕ) → IsMarked seen w → w < length seen
marked_within [] w m = cc
marked_within (b ∷ seen) zero m = omega arith
marked_within (b ∷ seen) (suc w) m = omega (arith, marked_within seen w m)

-- one fewer has none
pub fewer : (seen : List Bool) (v : ℕ) → v < length seen → IsUnmarked seen v → unmarked (set seen v true) + 1 ≡ unmarked seen
fewer [] v below free = absurd (omega (arith, below))
fewer (true ∷ seen) zero below free = cc
fewer (false ∷ seen) zero below free = omega (arith, count_by-cons not true seen, count_by-cons not false seen)
fewer (b ∷ seen) (suc v) below free = omega (arith, count_by-cons not b seen, count_by-cons not b (set seen v true), fewer seen v (omega (arith, below)) free)

-- where none has none, each vertex has a mark
pub all_marked : (seen : List Bool) (w : ℕ) → unmarked seen ≡ 0 → w < length seen → IsMarked seen w
all_marked [] w none low = absurd (omega (arith, low))
all_marked (true ∷ seen) zero none low = refl
all_marked (false ∷ seen) zero none low = absurd (omega (arith, none, count_by-cons not false seen))
all_marked (b ∷ seen) (suc w) none low = all_marked seen w (omega (arith, none, count_by-cons not b seen)) (omega (arith, low))
