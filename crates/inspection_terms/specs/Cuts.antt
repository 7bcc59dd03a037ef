-- When two triangles cut one another: they have a point in common beyond what they share. A point with rational coordinates is x / k, for a
-- whole k above 0 and three whole numbers x.
use Rattle.std.specs.Prelude.{◌≡◌, ℤ, pos, ◌+ℤ◌, ◌*ℤ◌, ◌≤ℤ◌, ◌<ℤ◌, ◌⊎◌, false}
use Rattle.plane_laws.specs.Decisions.{Vector}
use Rattle.inspection_terms.specs.Triangles.{Corners, is_flat}

-- x / k is the mean of the corners with the weights a, b and c, which are whole numbers, not negative and not all 0
pub record IsMean (k : ℤ) (x : Vector) (t : Corners) (a b c : ℤ) : Type 0 where
  pub first : pos 0 ≤ℤ a
  pub second : pos 0 ≤ℤ b
  pub third : pos 0 ≤ℤ c
  pub some : pos 0 <ℤ (a +ℤ b +ℤ c)
  pub on_x : (a +ℤ b +ℤ c) *ℤ x.x ≡ k *ℤ (a *ℤ t.0.x +ℤ b *ℤ t.1.x +ℤ c *ℤ t.2.x)
  pub on_y : (a +ℤ b +ℤ c) *ℤ x.y ≡ k *ℤ (a *ℤ t.0.y +ℤ b *ℤ t.1.y +ℤ c *ℤ t.2.y)
  pub on_z : (a +ℤ b +ℤ c) *ℤ x.z ≡ k *ℤ (a *ℤ t.0.z +ℤ b *ℤ t.1.z +ℤ c *ℤ t.2.z)

-- it lies in the closed triangle: it is a mean of the corners
pub record IsInTriangle (k : ℤ) (x : Vector) (t : Corners) : Type 0 where
  pub a : ℤ
  pub b : ℤ
  pub c : ℤ
  pub mean : IsMean k x t a b c

-- it lies on an edge of the triangle: a corner has the weight 0
pub record IsOnEdge (k : ℤ) (x : Vector) (t : Corners) : Type 0 where
  pub a : ℤ
  pub b : ℤ
  pub c : ℤ
  pub mean : IsMean k x t a b c
  pub opposite : (a ≡ pos 0) ⊎ ((b ≡ pos 0) ⊎ (c ≡ pos 0))

-- a corner of the triangle lies at the place
abbrev pub HasCorner : Corners → Vector → Type 0
HasCorner t p = (p ≡ t.0) ⊎ ((p ≡ t.1) ⊎ (p ≡ t.2))

-- it lies in the hull of the places that are corners of both: only these corners of the first have a weight above 0
pub record IsInShared (k : ℤ) (x : Vector) (t o : Corners) : Type 0 where
  pub a : ℤ
  pub b : ℤ
  pub c : ℤ
  pub mean : IsMean k x t a b c
  pub first : pos 0 <ℤ a → HasCorner o t.0
  pub second : pos 0 <ℤ b → HasCorner o t.1
  pub third : pos 0 <ℤ c → HasCorner o t.2

-- a point on an edge of the first triangle that lies in the second, and not in the hull of what both share
pub record EdgeMeets (t o : Corners) : Type 0 where
  pub k : ℤ
  pub x : Vector
  pub above : pos 0 <ℤ k
  pub on_edge : IsOnEdge k x t
  pub inside : IsInTriangle k x o
  pub beyond : IsInShared k x t o → ⊥

-- the corners of the first are corners of the second; where neither is flat, both lie on the same three places
pub record AreOnSamePlaces (t o : Corners) : Type 0 where
  pub a : HasCorner o t.0
  pub b : HasCorner o t.1
  pub c : HasCorner o t.2

-- two triangles cut one another: neither is flat, and they lie on the same three places, or an edge of the first has a point in the second, or an edge of the second has
-- one in the first, that is not in the hull of the corners that they share. Points inside both need no case of their own: where two triangles that are not flat, on
-- different places, have a point in common beyond that hull, they have one on an edge of one of them, as the ends of what they have in common lie on edges.
pub record AreCutting (t o : Corners) : Type 0 where
  pub first : is_flat t ≡ false
  pub second : is_flat o ≡ false
  pub common : AreOnSamePlaces t o ⊎ (EdgeMeets t o ⊎ EdgeMeets o t)
