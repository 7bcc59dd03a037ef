-- A ring that is cut, by its links: which of its places are left, and which of these are ears.
use Rattle.std.specs.Prelude.{◌≡◌, ℕ, ◌<◌, ◌≤◌, List, Bool, true, false, cond, length}
use Rattle.face_plane.specs.Planes.{Plane}
use Rattle.face_plane.specs.Rings.{IsRing}
use Rattle.ring_cutting.specs.declared.ears.Choice.{Choice}
use Rattle.ring_cutting.specs.declared.place.Place.{Place}
use Rattle.ring_cutting.specs.declared.links.Links.{Links}
use Rattle.ring_cutting.specs.declared.doubts.Doubts.{Doubts}
use Rattle.ring_cutting.specs.Cuts.{cut_place, forced_here, is_allowed}
use Rattle.ring_cutting.specs.Placed.{IsPlaced, vertices_of}
use Rattle.ring_cutting.specs.Left.{lives, after_of, before_of, left_of, rank, goes_left, is_open, blocks_at, may_go_at}
use Rattle.ring_cutting.specs.Left.{is_ear_at, IsLinked, HasReason, AreSettled}

-- the links are a doubly linked circle of those that are left of so many places
abbrev pub AreLinks : ℕ → Links → Type 0
AreLinks len l = IsLinked len l.after.items l.before.items l.living.items

-- whether a place is left
abbrev pub is_left : Links → ℕ → Bool
is_left l i = lives l.living.items i

-- the places that are left, in order
abbrev pub rest_of : List Place → Links → List Place
rest_of ps l = left_of l.living.items ps

-- their vertices, a ring again
abbrev pub rest_ring : List Place → Links → List ℕ
rest_ring ps l = vertices_of (rest_of ps l)

-- the number of a place among those that are left
abbrev pub number_in : Links → ℕ → ℕ
number_in l i = rank l.living.items i

-- whether a place may be cut
abbrev pub may_go_in : List Place → Links → ℕ → Bool
may_go_in ps l i = may_go_at ps l.after.items l.before.items l.living.items i

-- whether it and its neighbours turn left
abbrev pub goes_left_in : List Place → Links → ℕ → Bool
goes_left_in ps l i = goes_left ps (before_of l.before.items i) i (after_of l.after.items i)

-- whether it is an ear but for what lies in its triangle
abbrev pub is_open_in : List Place → Links → ℕ → Bool
is_open_in ps l i = is_open ps l.living.items (before_of l.before.items i) i (after_of l.after.items i)

-- whether another place lies in its triangle
abbrev pub blocks_in : List Place → Links → ℕ → ℕ → Bool
blocks_in ps l i w = blocks_at ps (before_of l.before.items i) i (after_of l.after.items i) w

-- whether it is an ear
abbrev pub is_ear_in : List Place → Links → ℕ → Bool
is_ear_in ps l i = is_ear_at ps l.after.items l.before.items l.living.items i

-- no place that is left is an ear
abbrev pub NoEarIn : List Place → Links → Type 0
NoEarIn ps l = (j : ℕ) → is_left l j ≡ true → is_ear_in ps l j ≡ false

-- none before another is
abbrev pub NoEarBefore : List Place → Links → ℕ → Type 0
NoEarBefore ps l i = (j : ℕ) → is_left l j ≡ true → j < i → is_ear_in ps l j ≡ false

-- why a place is no ear: it may not be cut, it does not turn left, or it waits for one in its triangle
abbrev pub HasReasonIn : List Place → Links → List (List ℕ) → ℕ → Type 0
HasReasonIn ps l waiting i =
    HasReason ps l.living.items (before_of l.before.items i) i (after_of l.after.items i) waiting

-- what is in doubt is left, and each other place that is left has its reason
abbrev pub AreSettledIn : List Place → Links → Doubts → Type 0
AreSettledIn ps l d = AreSettled ps l.after.items l.before.items l.living.items d.doubtful d.waiting.items

-- the places that are left are a ring of four or more, and this is the first of them
pub record IsFirst (ps : List Place) (l : Links) (first : ℕ) : Type 0 where
  pub linked : AreLinks (length ps) l
  pub ringy : IsRing (rest_ring ps l)
  pub more : 4 ≤ length (rest_of ps l)
  pub stays : is_left l first ≡ true
  pub least : (m : ℕ) → is_left l m ≡ true → first ≤ m

-- the place that is cut next, the least ear, and where there is none the least place that is allowed, which is forced
pub record IsCutNext (ps : List Place) (l : Links) (c : Choice) : Type 0 where
  pub living : is_left l c.place ≡ true
  pub allowed : is_allowed (rest_ring ps l) (number_in l c.place) ≡ true
  pub place : (at : Plane) → IsPlaced at (rest_of ps l) → number_in l c.place ≡ cut_place at (rest_ring ps l)
  pub forced : (at : Plane) → IsPlaced at (rest_of ps l) → cond c.forced 1 0 ≡ forced_here at (rest_ring ps l)
