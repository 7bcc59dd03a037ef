-- The triangles of a mesh over places.
use Rattle.std.specs.Prelude.{◌≡◌, ℕ, ◌<◌, ℤ, List, ◌++◌, not, true, filter, get_or, length, map}
use Rattle.std.specs.List.{All}
use Rattle.chain_terms.specs.Sums.{upto}
use Rattle.mesh_terms.specs.Labels.{label_at}
use Rattle.mesh_terms.specs.Meshes.{IsBelow, Mesh, Triple}
use Rattle.sheet_terms.specs.Cuts.{rim}
use Rattle.sheet_terms.specs.Faces.{Face, face_of, faces, is_flat}
use Rattle.sheet_terms.specs.Places.{has_three, place_at}
use Rattle.edge_cutting.specs.Overs.{AreOver}

-- those that have three places
abbrev pub placed_faces : List (List ℤ) → Mesh → List Face
placed_faces points m = filter (λ f. has_three f.corners) (map (face_of points m) (upto (length m.triples)))

-- those of them that are not flat are the triangles of the definition
abbrev pub FacesArePlaced : Type 0
FacesArePlaced = (points : List (List ℤ)) (m : Mesh) → faces points m ≡ filter (λ f. not (is_flat points f.corners)) (placed_faces points m)

-- a triangle over places: its rim, its label, its places, and its number in the mesh
pub record IsPlaced (points : List (List ℤ)) (m : Mesh) (f : Face) : Type 0 where
  pub rims : f.rim ≡ rim points f.corners
  pub labels : f.label ≡ label_at m.labels f.number
  pub three : has_three f.corners ≡ true
  pub below : f.number < length m.triples

-- all are so, in the order of their numbers
pub record ArePlaced (points : List (List ℤ)) (m : Mesh) : Type 0 where
  pub each : All (IsPlaced points m) (placed_faces points m)
  pub order : (i j : ℕ) → i < j → j < length (placed_faces points m) → get_or (map (λ f. f.number) (placed_faces points m)) i 0 < get_or (map (λ f. f.number) (placed_faces points m)) j 0

abbrev pub FacesAreInOrder : Type 0
FacesAreInOrder = (points : List (List ℤ)) (m : Mesh) → ArePlaced points m

-- the corners and numbers of those over the places of a mesh's points
pub record AreStored (points : List (List ℤ)) (m : Mesh) (ts : List Triple) (numbers : List ℕ) : Type 0 where
  pub corners : ts ≡ map (λ f. f.corners) (placed_faces points m)
  pub numbers_are : numbers ≡ map (λ f. f.number) (placed_faces points m)

abbrev pub OverIsPlaced : Type 0
OverIsPlaced = (points more : List (List ℤ)) (m : Mesh) (of kept : List ℕ) (ts : List Triple) → All (IsBelow (length m.points)) m.triples →
    of ≡ map (place_at points) (m.points ++ more) → AreOver of m.triples ts kept → AreStored points m ts kept
