-- Which triangles of a plane are kept.
use Rattle.std.specs.Prelude.{◌≡◌, ℕ, ℤ, List, [], Bool, false, not, ◌&&◌, filter, get_or, length, map}
use Rattle.std.specs.List.{list_any}
use Rattle.chain_terms.specs.Paths.{round_edges}
use Rattle.chain_terms.specs.Sums.{upto}
use Rattle.face_plane.specs.Planes.{Plane}
use Rattle.sheet_terms.specs.Chains.{chain, same_edge, upward}
use Rattle.sheet_terms.specs.Faces.{Face, labels_of}
use Rattle.sheet_terms.specs.Kept.{free, is_out, kept, remains}
use Rattle.plane_chains.specs.declared.nets.LabelNumber.{LabelNumber}
use Rattle.plane_chains.specs.Listed.{face_at}
use Rattle.plane_chains.specs.Nets.{IsStored}
use Rattle.plane_chains.specs.Pairs.{grid_crossings}

-- a rim has an edge that is a key
abbrev pub has_key : List (ℕ × ℕ) → List ℕ → Bool
has_key keys rim = list_any (λ e. list_any (same_edge (upward e)) keys) (round_edges rim)

-- the marks that are left where those of rims with such an edge go
abbrev pub unmarked : List (List ℕ) → List (ℕ × ℕ) → List Bool → List Bool
unmarked rims keys marks = map (λ i. get_or marks i false && not (has_key keys (get_or rims i []))) (upto (length rims))

-- of the triangles that are not free, those that are left where as many that face one side go as face the other
abbrev pub left_of : Plane → List Face → List Face → List Face
left_of at fs loose = let out = filter (is_out loose) fs in filter (remains at out) out

-- what is told of the triangles of a plane: the points of the grid in which edges of their chain cross, the kept ones by their places, and the chain of those that are free
pub record IsTold (all : List (List ℤ)) (at : Plane) (fs : List Face) (found : List (List ℤ)) (stay : List ℕ) (es : List (List ℕ)) (ns : List (List LabelNumber)) : Type 0 where
  pub points : found ≡ grid_crossings all at (chain (labels_of fs) fs)
  pub kept : map (face_at fs) stay ≡ kept at fs
  pub chain : IsStored (chain (labels_of fs) (free at fs)) es ns
