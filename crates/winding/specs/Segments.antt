-- The segment between two corners of one side, which need not be an edge, and the faces of the other.
use Rattle.std.specs.Prelude.{◌≡◌, ◌≤◌, ℕ, ℤ, ◌-ℤ◌, neg_ℤ, nat_abs, List, [], ◌∷◌}
use Rattle.chain_terms.specs.Sums.{total}
use Rattle.mb_base.specs.declared.point.Corner.{Corner}
use Rattle.edge_face.specs.Crossings.{number_of}
use Rattle.side_terms.specs.Corners.{IsFineCorner}
use Rattle.side_terms.specs.Sides.{Side, face_of}
use Rattle.crossings.specs.Hits.{CrossingTest}
use Rattle.winding.specs.declared.jump.Known.{Known}

-- the sum of the numbers of a segment with all faces of a side
abbrev pub segment_total : CrossingTest → List Corner → Side → ℤ
segment_total test segment faces = total (λ t. number_of (test segment (face_of faces.corners t))) faces.triples

-- that of the segment from one corner to another
abbrev pub crossings_to : CrossingTest → Side → Corner → Corner → ℤ
crossings_to test faces a b = segment_total test (a ∷ b ∷ []) faces

-- from any corner to any other the winding number changes by minus the numbers of the segment between them
pub record SegmentIdentity (winding : Corner → ℤ) (crossings : Corner → Corner → ℤ) : Type 0 where
  pub between : (a b : Corner) → IsFineCorner a → IsFineCorner b → (winding b -ℤ winding a) ≡ neg_ℤ (crossings a b)

-- a corner with its winding number, which is of such a size
pub record IsKnown (winding : Corner → ℤ) (most : ℕ) (known : Known) : Type 0 where
  pub fine : IsFineCorner known.corner
  pub number : known.number ≡ winding known.corner
  pub size : nat_abs known.number ≤ most
