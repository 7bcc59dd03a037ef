-- A piece is the filling of its region by the definition.
use Rattle.std.specs.Prelude.{◌≡◌, ℕ, ℤ, List, Bool, get_or}
use Rattle.std.proofs.Common.{ap}
use Rattle.face_plane.specs.Planes.{Plane, face_plane}
use Rattle.ring_cutting.specs.Cuts.{Cut}
use Rattle.triangulate.specs.Fills.{fill_of}
use Rattle.sheet_terms.specs.Faces.{drop_of, seen}
use Rattle.sheet_terms.specs.Filled.{filled, loops}
use Rattle.sheet_terms.specs.Needless.{is_needless}
use Rattle.sheet_terms.specs.Regions.{Region, Side}
use Rattle.plane_filling.specs.declared.needless.Ways.{Ways}
use Rattle.plane_filling.specs.declared.regions.Regions.{Regions}
use Rattle.plane_filling.specs.Begun.{loops_without}
use Rattle.plane_filling.specs.Pieces.{Piece, loops_at, no_region, piece_of}
use Rattle.plane_filling.specs.Regions.{walks_at}
use Rattle.plane_filling.specs.Ways.{Notes, is_passed}
use Rattle.plane_filling.proofs.Noted.{passed_is}

-- region k of a list is a region of a side: the same plane, seen from the same side, and the same walks
pub record IsRegionOf (points : List (List ℤ)) (r : Regions) (k : ℕ) (s : Side) (g : Region) : Type 0 where
  pub drops : (get_or r.all.items k no_region).view.plane.drop ≡ drop_of points s.face
  pub seen_so : ◌≡◌ {A = Plane} (face_plane (get_or r.all.items k no_region).view.plane.drop (get_or r.all.items k no_region).view.turned points) (seen points s.face)
  pub walks : walks_at r k ≡ g.walks

-- what was noted tells of all places whether they are needless
tested : (points : List (List ℤ)) (es : List (ℕ × ℕ)) (w : Ways) → Notes es w → ◌≡◌ {A = ℕ → Bool} (is_passed points w) (is_needless points es)
tested points es w notes = λ j v. passed_is points es w notes v j

-- its loops are those of the definition
pub loops_are : (points : List (List ℤ)) (es : List (ℕ × ℕ)) (w : Ways) (r : Regions) (k : ℕ) (s : Side) (g : Region) → Notes es w → IsRegionOf points r k s g →
    loops_at points r w k ≡ loops points (seen points s.face) es g
loops_are points es w r k s g notes is = λ j. loops_without (tested points es w notes j) (is.seen_so j) (is.walks j)

-- and so is its filling
pub cut_is : (points : List (List ℤ)) (es : List (ℕ × ℕ)) (w : Ways) (r : Regions) (k : ℕ) (s : Side) (g : Region) → Notes es w → IsRegionOf points r k s g →
    ◌≡◌ {A = Cut} (fill_of (get_or r.all.items k no_region).view.plane.drop points (loops_at points r w k))
    (fill_of (drop_of points s.face) points (loops points (seen points s.face) es g))
cut_is points es w r k s g notes is = λ j. fill_of (is.drops j) points (loops_are points es w r k s g notes is j)

-- the triangles of the piece are those of the filling, and as many are forced
pub record IsFillingOf (points : List (List ℤ)) (es : List (ℕ × ℕ)) (s : Side) (g : Region) (p : Piece) : Type 0 where
  pub triples : p.triples ≡ (filled points es s g).triples
  pub forced : p.forced ≡ (filled points es s g).forced

pub piece_is : (points : List (List ℤ)) (es : List (ℕ × ℕ)) (w : Ways) (r : Regions) (k : ℕ) (s : Side) (g : Region) → Notes es w → IsRegionOf points r k s g →
    IsFillingOf points es s g (piece_of points r w k)
piece_is points es w r k s g notes is =
    let same = cut_is points es w r k s g notes is in
    record { triples = ap (λ (c : Cut). c.triples) same; forced = ap (λ (c : Cut). c.forced) same }
