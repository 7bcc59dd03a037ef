-- Corners in boxes, edges at a place in x, and which of two boxes is the greater one.
use Rattle.std.specs.Prelude.{◌≡◌, ℕ, zero, suc, ◌<◌, ℤ, ◌-ℤ◌, ◌≤ℤ◌, Bool, true, false, Option, None, Some, IfSome, List, length}
use Rattle.std.proofs.Common.{arith, inl, inr}
use Rattle.std.proofs.lemmas.Int.{ints}
use Rattle.mb_base.specs.declared.point.Corner.{Corner}
use Rattle.side_terms.specs.Fine.{IsFine, IsWeight, LiesBetween}
use Rattle.side_terms.specs.Corners.{axis, corner_at, blank_corner, IsFineCorner, AllFine}
use Rattle.side_terms.specs.Boxes.{IsInBox, IsBelow, AreApart}
use Rattle.shadow_kernels.specs.ShadowLaws.{IsInHull}
use Rattle.shadow_kernels.specs.declared.Spot.{Spot}
use Rattle.shadow_kernels.specs.declared.Meet.{Meet}
use Rattle.shadow_kernels.specs.Spots.{Between, beats, flag, above_y, above_z, edge_value, spot01, spot10}
use Rattle.shadow_kernels.specs.Order.{beats_greater, beats_smaller, IsOrdered, beyond_greater, beyond_smaller}
use Rattle.shadow_kernels.specs.declared.Edge.{Edge}
use Rattle.shadow_kernels.specs.declared.Edge.TheVariants.{OfP, OfQ}
use Rattle.shadow_kernels.specs.Edges.{own, other, past, past_le, not_past_le}
use Rattle.shadow_kernels.specs.Rules.{Rule, edge_spot}
use Rattle.shadow_kernels.specs.Bounds.{corner_in_box, box_between, box_below}

-- the values between two stay between them
pub record StaysBetween (w : Between) : Type 0 where
  pub within : (u v a b : ℤ) → IsFine u → IsFine v → IsWeight a → IsWeight b → LiesBetween u v (w u v a b)

-- a fine corner that lies in the box of the corners
pub record IsPlaced (ps : List Corner) (p : Corner) : Type 0 where
  pub fine : IsFineCorner p
  pub x : IsInBox 0 ps (axis 0 p)
  pub y : IsInBox 1 ps (axis 1 p)
  pub z : IsInBox 2 ps (axis 2 p)

-- each corner of a list of fine corners is placed in it
pub placed : (ps : List Corner) (j : ℕ) → AllFine ps → j < length ps → IsPlaced ps (corner_at ps j)
placed ps j fine h = record { fine = fine j blank_corner h; x = corner_in_box 0 ps j h; y = corner_in_box 1 ps j h; z = corner_in_box 2 ps j h }

-- the distance of two fine coordinates in order is a weight
pub distance_weight : (u v : ℤ) → IsFine u → IsFine v → u ≤ℤ v → IsWeight (v -ℤ u)
distance_weight u v h k l = record { low = omega (arith, ints); high = omega (arith, ints, h.low, k.high) }

-- a place in x of an edge whose left end is l and whose right end is r
pub record IsAlong (l r : Corner) (x : ℤ) : Type 0 where
  pub left_fine : IsFineCorner l
  pub right_fine : IsFineCorner r
  pub fine : IsFine x
  pub after : axis 0 l ≤ℤ x
  pub before : x ≤ℤ axis 0 r

-- a fine corner has fine coordinates
pub fine_on : (i : ℕ) (c : Corner) → i < 3 → IsFineCorner c → IsFine (axis i c)
fine_on zero c less h = h.x
fine_on (suc zero) c less h = h.y
fine_on (suc (suc zero)) c less h = h.z
fine_on (suc (suc (suc i))) c less h = absurd (omega (arith, less))

-- there the edge's values lie between those of its ends
module _ (w : Between) (stays : StaysBetween w) (l r : Corner) (x : ℤ) (h : IsAlong l r x) where
  pub value_between : (i : ℕ) → i < 3 → LiesBetween (axis i l) (axis i r) (edge_value w i l r x)
  value_between i less = stays.within (axis i l) (axis i r) (x -ℤ axis 0 l) (axis 0 r -ℤ x) (fine_on i l less h.left_fine) (fine_on i r less h.right_fine)
      (distance_weight (axis 0 l) x h.left_fine.x h.fine h.after) (distance_weight x (axis 0 r) h.fine h.right_fine.x h.before)

-- a vertex past an end of an edge and not past the other is at a place of the edge
pub past_along : {k : Rule} → IsOrdered k → (e : Edge) (v l r : Corner) → IsFineCorner v → IsFineCorner l → IsFineCorner r → past e k v l ≡ true →
    past e k v r ≡ false → IsAlong l r (axis 0 v)
past_along o e v l r hv hl hr h g = record { left_fine = hl; right_fine = hr; fine = hv.x; after = past_le o e v l h; before = not_past_le o e v r g }

-- there the edge's values lie in its box
in_edge : (w : Between) → StaysBetween w → (cs : List Corner) (l r : Corner) (x : ℤ) → IsPlaced cs l → IsPlaced cs r → IsAlong l r x →
    IsInBox 0 cs x × IsInBox 1 cs (edge_value w 1 l r x) × IsInBox 2 cs (edge_value w 2 l r x)
in_edge w stays cs l r x hl hr at = (
  box_between 0 cs (axis 0 l) (axis 0 r) x hl.x hr.x (inl (at.after, at.before)),
  box_between 1 cs (axis 1 l) (axis 1 r) (edge_value w 1 l r x) hl.y hr.y (value_between w stays l r x at 1 (omega arith)),
  box_between 2 cs (axis 2 l) (axis 2 r) (edge_value w 2 l r x) hl.z hr.z (value_between w stays l r x at 2 (omega arith)),
)

-- so the spot lies in the boxes of both
pub edge_hull : {k : Rule} → IsOrdered k → (w : Between) → StaysBetween w → (e : Edge) (ps qs : List Corner) (v l r : Corner) → IsPlaced (other e ps qs) v →
    IsPlaced (own e ps qs) l → IsPlaced (own e ps qs) r →
    past e k v l ≡ true → past e k v r ≡ false → IsInHull ps qs (edge_spot e w v l r)
unfolding spot01 spot10
edge_hull o w stays OfP ps qs v l r hv hl hr h g =
    let on = in_edge w stays ps l r (axis 0 v) hl hr (past_along o OfP v l r hv.fine hl.fine hr.fine h g) in
    record { px = on.0; py = on.1; pz = on.2; qx = hv.x; qy = hv.y; qz = hv.z }
edge_hull o w stays OfQ ps qs v l r hv hl hr h g =
    let on = in_edge w stays qs l r (axis 0 v) hl hr (past_along o OfQ v l r hv.fine hl.fine hr.fine h g) in
    record { px = hv.x; py = hv.y; pz = hv.z; qx = on.0; qy = on.1; qz = on.2 }

-- on axis i one of the boxes is strictly the greater one, P's where the mark says so
abbrev pub IsBeyond : ℕ → List Corner → List Corner → Bool → Type 0
IsBeyond i ps qs true = IsBelow i qs ps
IsBeyond i ps qs false = IsBelow i ps qs

-- then values in the boxes compare as the boxes do
pub beats_boxes : (b : Bool) (i : ℕ) (ps qs : List Corner) (p q : ℤ) (up : Bool) → IsBeyond i ps qs b → IsInBox i ps p → IsInBox i qs q → beats p q up ≡ b
beats_boxes true i ps qs p q up h k l = beats_greater p q up (box_below i qs ps q p h l k)
beats_boxes false i ps qs p q up h k l = beats_smaller p q up (box_below i ps qs p q h k l)

-- vertices in boxes strictly apart in x are beyond as the boxes are
pub beyond_boxes : {k : Rule} → IsOrdered k → (b : Bool) (ps qs : List Corner) (p q : Corner) → IsBeyond 0 ps qs b → IsInBox 0 ps (axis 0 p) →
    IsInBox 0 qs (axis 0 q) → k.beyond_in_x p q ≡ b
beyond_boxes o true ps qs p q h l m = beyond_greater o p q (box_below 0 qs ps (axis 0 q) (axis 0 p) h m l)
beyond_boxes o false ps qs p q h l m = beyond_smaller o p q (box_below 0 ps qs (axis 0 p) (axis 0 q) h l m)

-- so a spot in the boxes is beyond in y or in z where P's box is the greater one there
pub hull_y : (b : Bool) (ps qs : List Corner) (s : Spot) → IsBeyond 1 ps qs b → IsInHull ps qs s → above_y s ≡ b
hull_y b ps qs s h k = beats_boxes b 1 ps qs s.py s.qy (flag s.up 1) h k.py k.qy

pub hull_z : (b : Bool) (ps qs : List Corner) (s : Spot) → IsBeyond 2 ps qs b → IsInHull ps qs s → above_z s ≡ b
hull_z b ps qs s h k = beats_boxes b 2 ps qs s.pz s.qz (flag s.up 2) h k.pz k.qz

-- whichever of two boxes strictly apart is the greater one
pub by_greater : {A : Type 0} (i : ℕ) (ps qs : List Corner) → ((b : Bool) → IsBeyond i ps qs b → A) → AreApart i ps qs → A
by_greater i ps qs f (inl h) = f false h
by_greater i ps qs f (inr h) = f true h

-- an answer whose mark says which box is the greater one
pub both_ways : (i : ℕ) (ps qs : List Corner) (m : Option Meet) → ((b : Bool) → IsBeyond i ps qs b → IfSome m (λ n. n.above ≡ b)) →
    IfSome m (λ n. (IsBelow i ps qs → n.above ≡ false) × (IsBelow i qs ps → n.above ≡ true))
both_ways i ps qs None f = tt
both_ways i ps qs (Some m) f = (λ h. f false h, λ h. f true h)
