-- Answers of shadow tests: counts, shadows, and the answer that lists of boundary pairs give.
use Rattle.std.specs.Prelude.{ℤ, pos, neg_ℤ, ◌-ℤ◌, Option, None, Some, Bool, true, false, if◌then◌else◌, List, [], ◌∷◌}
use Rattle.std.specs.Ordering.{int_eq}
use Rattle.chain_terms.specs.Sums.{total}
use Rattle.chain_terms.specs.Chains.{one_if}
use Rattle.shadow_kernels.specs.declared.Spot.{Spot}
use Rattle.shadow_kernels.specs.declared.Meet.{Meet}
use Rattle.shadow_kernels.specs.Spots.{Between, spot_between, no_spot}

-- the count of an answer, 0 where there is none
abbrev pub count_of : Option Meet → ℤ
count_of None = pos 0
count_of (Some m) = m.count

-- the shadow of an answer: its count where P is beyond Q, else 0
abbrev pub shadow_of : Option Meet → ℤ
shadow_of None = pos 0
shadow_of (Some m) = if m.above then m.count else pos 0

-- the answer with the sign of its count turned
abbrev pub turned : Option Meet → Option Meet
turned None = None
turned (Some m) = Some (record { count = neg_ℤ m.count; above = m.above; spot = m.spot })

-- an answer of a count: none where it is 0
unfoldable pub met : ℤ → Bool → Spot → Option Meet
met count above spot = if int_eq count (pos 0) then None else Some (record { count = count; above = above; spot = spot })

-- the answer of an edge and a vertex: whether the vertex is past the two ends, and, for either end being the one that it is past, whether P is beyond Q, and the spot
unfoldable pub by_ends : Bool → Bool → Bool × Spot → Bool × Spot → Option Meet
by_ends first second at_first at_second =
    let sight = if first then at_first else at_second in met (pos (one_if first) -ℤ pos (one_if second)) sight.0 sight.1

-- the spot of an answer that is above, or is not; else the other spot
abbrev pub chosen : Bool → Option Meet → Spot → Spot
chosen want None other = other
chosen true (Some m) other = if m.above then m.spot else other
chosen false (Some m) other = if m.above then other else m.spot

-- the spot of the first answer that is above, or is not
abbrev pub first_spot : Bool → List (Option Meet) → Spot
first_spot want [] = no_spot
first_spot want (m ∷ ms) = chosen want m (first_spot want ms)

-- the sum of the shadows of boundary pairs, each turned where it counts with the other sign
abbrev pub lifted_count : List (Option Meet) → ℤ
lifted_count ms = total shadow_of ms

-- the answer of a count at the spot between one that is not above and one that is, where `over` says whether P is beyond Q
unfoldable pub joined : Between → (Spot → Bool) → ℤ → Spot → Spot → Option Meet
joined between over count below above = let spot = spot_between between below above in met count (over spot) spot

-- the answer from boundary pairs: the spot lies between those of the first pair not above and the first above
unfoldable pub lifted : Between → (Spot → Bool) → List (Option Meet) → Option Meet
lifted between over ms = joined between over (lifted_count ms) (first_spot false ms) (first_spot true ms)
