-- Bridges from a hole to the places of the rings, which of them is taken, and the rings after every hole was joined.
use Rattle.std.specs.Prelude.{ℕ, suc, ◌+◌, List, [], ◌∷◌, ◌++◌, Bool, cond, nat_lt, get_or, take, drop, set, filter, unsigned_abs, Option, Some, None}
use Rattle.std.specs.List.{flat_map}
use Rattle.std.specs.Option.{option_or}
use Rattle.chain_terms.specs.Paths.{round_edges}
use Rattle.face_plane.specs.Planes.{Plane, squared_distance}
use Rattle.face_plane.specs.Rings.{vertex_at}
use Rattle.hole_joining.specs.declared.bridge.Bridge.{Bridge}
use Rattle.hole_joining.specs.Cones.{is_clear}
use Rattle.hole_joining.specs.Holes.{ring_list, hole_list}

-- the bridges from h to the places of ring i, from place j on
abbrev pub bridges_to : Plane → ℕ → ℕ → ℕ → List ℕ → List Bridge
bridges_to at h i j [] = []
bridges_to at h i j (r ∷ rs) =
    record { ring = i; place = j; squared_length = unsigned_abs (squared_distance (at h) (at r)) } ∷ bridges_to at h i (suc j) rs

-- the bridges from h to all places of the rings, of which the first is ring i
abbrev pub all_bridges : Plane → ℕ → ℕ → List (List ℕ) → List Bridge
all_bridges at h i [] = []
all_bridges at h i (ring ∷ rings) = bridges_to at h i 0 ring ++ all_bridges at h (suc i) rings

-- the shorter of a bridge and one that may stand after it
abbrev pub shorter : Bridge → Option Bridge → Option Bridge
shorter b None = Some b
shorter b (Some c) = cond (nat_lt c.squared_length b.squared_length) (Some c) (Some b)

-- the shortest; of equal ones the first
abbrev pub shortest : List Bridge → Option Bridge
shortest [] = None
shortest (b ∷ bs) = shorter b (shortest bs)

-- the shortest clear one, or where none is clear the shortest of all
abbrev pub chosen : (Bridge → Bool) → List Bridge → Option Bridge
chosen clear bs = option_or (shortest (filter clear bs)) (shortest bs)

-- the hole is put after place i of the ring, then its start and the place again: the bridge is used both ways
abbrev pub join : List ℕ → ℕ → List ℕ → List ℕ
join ring i hole = take (i + 1) ring ++ hole ++ (vertex_at hole 0 ∷ vertex_at ring i ∷ []) ++ drop (i + 1) ring

-- the rings with the hole joined by the bridge
abbrev pub bridged : List ℕ → List (List ℕ) → Option Bridge → List (List ℕ)
bridged hole rings None = rings
bridged hole rings (Some b) = set rings b.ring (join (get_or rings b.ring []) b.place hole)

-- the edges of rings and holes
abbrev pub edges_of : List (List ℕ) → List (ℕ × ℕ)
edges_of loops = flat_map round_edges loops

-- whether the bridge is clear of all rings, of its hole, and of each hole that still waits
abbrev pub is_clear_bridge : Plane → List (List ℕ) → List ℕ → List (List ℕ) → Bridge → Bool
is_clear_bridge at rings hole later b = is_clear at (edges_of (rings ++ hole ∷ later)) hole (get_or rings b.ring []) b.place

-- the bridge that is taken
abbrev pub chosen_bridge : Plane → List (List ℕ) → List ℕ → List (List ℕ) → Option Bridge
chosen_bridge at rings hole later = chosen (is_clear_bridge at rings hole later) (all_bridges at (vertex_at hole 0) 0 rings)

-- one hole joined
abbrev pub joined_one : Plane → List (List ℕ) → List ℕ → List (List ℕ) → List (List ℕ)
joined_one at rings hole later = bridged hole rings (chosen_bridge at rings hole later)

-- every hole joined, one after the other
abbrev pub joined : Plane → List (List ℕ) → List (List ℕ) → List (List ℕ)
joined at rings [] = rings
joined at rings (hole ∷ later) = joined at (joined_one at rings hole later) later

-- the rings after every hole was joined
abbrev pub join_holes : Plane → List (List ℕ) → List (List ℕ)
join_holes at loops = joined at (ring_list at loops) (hole_list at loops)
