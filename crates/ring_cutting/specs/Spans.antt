-- Rectangles in the plane, and the tree of those round places.
use Rattle.std.specs.Prelude.{◌≡◌, ℕ, ◌+◌, ◌-◌, ◌<◌, ◌≤◌, ℤ, pos, neg_ℤ, ◌≤ℤ◌, List, [], ◌∷◌, Bool, true, false, cond, length, get_or}
use Rattle.ring_cutting.specs.declared.place.Place.{Place}
use Rattle.ring_cutting.specs.declared.span.Span.{Span}
use Rattle.ring_cutting.specs.declared.hulls.Hulls.{Hulls}
use Rattle.ring_cutting.specs.declared.asked.Around.{Around}
use Rattle.ring_cutting.specs.Left.{lives, place_of}
use Rattle.ring_cutting.specs.Placed.{place_blocks}

-- a point in a rectangle, its rim included
pub record IsIn (s : Span) (x : ℤ × ℤ) : Type 0 where
  pub west : s.low.0 ≤ℤ x.0
  pub east : x.0 ≤ℤ s.high.0
  pub south : s.low.1 ≤ℤ x.1
  pub north : x.1 ≤ℤ s.high.1

-- what is in one rectangle is in another
abbrev pub IsWithin : Span → Span → Type 0
IsWithin s t = (x : ℤ × ℤ) → IsIn s x → IsIn t x

-- a rectangle with nothing in it
abbrev pub no_span : Span
no_span = record { low = (pos 1073741824, pos 1073741824); high = (neg_ℤ (pos 1073741824), neg_ℤ (pos 1073741824)) }

-- the rectangle of a node
abbrev pub span_of : List Span → ℕ → Span
span_of ss k = get_or ss k no_span

-- the two nodes below one
abbrev pub below : Bool → ℕ → ℕ
below b k = k + k + cond b 1 0

-- the node to which a way leads down from one
abbrev pub down : List Bool → ℕ → ℕ
down [] k = k
down (b ∷ way) k = down way (below b k)

-- what is in a node's rectangle is in that of the node above
abbrev pub AreNested : List Span → Type 0
AreNested ss = (k : ℕ) (b : Bool) → 0 < k → below b k < length ss → IsWithin (span_of ss (below b k)) (span_of ss k)

-- the node of a place
abbrev pub node_of : List ℕ → ℕ → ℕ
node_of ns i = get_or ns i 0

-- each place of some has a node behind the first n, and the order has it there
pub record HasNode (n : ℕ) (order nodes : List ℕ) (i : ℕ) : Type 0 where
  pub least : n ≤ node_of nodes i
  pub most : node_of nodes i < n + n
  pub here : get_or order (node_of nodes i - n) n ≡ i

-- a tree of rectangles round so many places
pub record IsTree (n : ℕ) (h : Hulls) : Type 0 where
  pub many : length h.spans.items ≡ n + n
  pub ordered : length h.order.items ≡ n
  pub each : length h.nodes.items ≡ n
  pub known : (k : ℕ) → k < n → get_or h.order.items k 0 < n
  pub nodes : (i : ℕ) → i < n → HasNode n h.order.items h.nodes.items i
  pub nested : AreNested h.spans.items

-- one that has each place that is left in its rectangle
pub record HasHulls (ps : List Place) (bs : List Bool) (h : Hulls) : Type 0 where
  pub living_long : length bs ≡ length ps
  pub tree : IsTree (length ps) h
  pub places : (i : ℕ) → lives bs i ≡ true → IsIn (span_of h.spans.items (node_of h.nodes.items i)) (place_of ps i).at

-- no place that is left below a node lies in the triangle of three
abbrev pub NoneBelow : List Place → List Bool → Hulls → Around → ℕ → Type 0
NoneBelow ps bs h c node =
    (i : ℕ) (way : List Bool) → lives bs i ≡ true → down way node ≡ node_of h.nodes.items i → place_blocks c.p c.x c.n (place_of ps i) ≡ false
