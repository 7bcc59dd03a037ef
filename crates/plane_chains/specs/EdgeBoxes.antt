-- The boxes of edges in a plane.
use Rattle.std.specs.Prelude.{◌≡◌, ℕ, ◌<◌, ℤ, pos, List, [], ◌∷◌, Bool, true, filter, get_or, length, map}
use Rattle.std.specs.Int.{int_min, int_max}
use Rattle.box_tree.specs.Touching.{box_at, touches}
use Rattle.chain_terms.specs.Sums.{upto}
use Rattle.face_plane.specs.Planes.{Plane}
use Rattle.mb_base.specs.declared.point.Box3.{Box3}

-- an edge as a list of two places
abbrev pub pair_of : List ℕ → ℕ × ℕ
pair_of e = (get_or e 0 0, get_or e 1 0)

-- the box round a segment, where the third coordinate is 0
abbrev pub flat_box : ℤ × ℤ → ℤ × ℤ → Box3
flat_box a b = record { low = int_min a.0 b.0 ∷ int_min a.1 b.1 ∷ pos 0 ∷ []; high = int_max a.0 b.0 ∷ int_max a.1 b.1 ∷ pos 0 ∷ [] }

-- the box of an edge
abbrev pub edge_box : Plane → (ℕ × ℕ) → Box3
edge_box at e = flat_box (at e.0) (at e.1)

-- the boxes of edges
abbrev pub edge_boxes : Plane → List (List ℕ) → List Box3
edge_boxes at es = map (λ e. edge_box at (pair_of e)) es

-- numbers of boxes, among them all whose boxes touch an area: a test that only such pass finds the same ones among them as among all, in order
pub record HasTouching (boxes : List Box3) (area : Box3) (near : List ℕ) : Type 0 where
  pub same : (p : ℕ → Bool) → ((k : ℕ) → k < length boxes → p k ≡ true → touches (box_at boxes k) area ≡ true) → filter p near ≡ filter p (upto (length boxes))
