-- The triangles of a mesh over places: their corners and their rims are places.
use Rattle.std.specs.Prelude.{◌≡◌, ℕ, ◌<◌, ℤ, List, [], ◌∷◌, ◌++◌, not, ◌&&◌, filter, get_or, length, map}
use Rattle.std.specs.List.{All}
use Rattle.std.proofs.Common.{arith, sym, subst}
use Rattle.std.proofs.lemmas.List.Elements.{All-append, All-cons, All-filter, All-map}
use Rattle.chain_terms.specs.Sums.{upto}
use Rattle.face_plane.specs.Planes.{point_at}
use Rattle.mesh_terms.specs.Meshes.{IsBelow, Mesh, Triple}
use Rattle.sheet_terms.specs.Cuts.{cuts, is_inside, is_nearer, rim}
use Rattle.sheet_terms.specs.Faces.{Face, face_of, faces, is_flat}
use Rattle.sheet_terms.specs.Places.{has_three, place_at}
use Rattle.tidy_terms.specs.PointTriples.{same_point}
use Rattle.sheet_laws.proofs.Corners.{IsOn, upto_below}
use Rattle.sheet_laws.proofs.Rims.{All-ordered}
use Rattle.sheet_laws.proofs.SamePlanes.{faces_cut}
use Rattle.sheet_laws.proofs.Standing.{IsOver, Stands, stands}

-- what holds of each triangle over places holds of the faces
pub All-faces : (P : Face → Type 0) (points : List (List ℤ)) (m : Mesh) → ((t : ℕ) → t < length m.triples → P (face_of points m t)) → All P (faces points m)
All-faces P points m each =
    let n = length m.triples in
    All-filter (λ f. has_three f.corners && not (is_flat points f.corners)) P (map (face_of points m) (upto n))
    (All-map P (face_of points m) (upto n) (λ k d low. each (get_or (upto n) k d) (upto_below n k d low)))

-- what holds of the corners of a triangle and of the places inside its edges holds of its rim
pub rim_on : (P : ℕ → Type 0) (points : List (List ℤ)) (t : Triple) → IsOn P t → All P (cuts points t.0 t.1) → All P (cuts points t.1 t.2) → All P (cuts points t.2 t.0) →
    All P (rim points t)
rim_on P points t on ab bc ca =
    let a = cuts points t.0 t.1 in
    let b = cuts points t.1 t.2 in
    let c = cuts points t.2 t.0 in
    All-append P ((t.0 ∷ a) ++ (t.1 ∷ b)) (t.2 ∷ c) (All-append P (t.0 ∷ a) (t.1 ∷ b) (All-cons P t.0 a on.a ab) (All-cons P t.1 b on.b bc)) (All-cons P t.2 c on.c ca)

-- the places inside an edge are places
cuts_below : (points : List (List ℤ)) (a b : ℕ) → All (λ v. v < length points) (cuts points a b)
cuts_below points a b =
    let n = length points in
    All-ordered (λ v. v < n) (is_nearer points a b) (filter (is_inside points a b) (upto n)) (All-filter (is_inside points a b) (λ v. v < n) (upto n) (upto_below n))

module _ (points : List (List ℤ)) (m : Mesh) (over : IsOver points m.points) (below : All (IsBelow (length m.points)) m.triples) where
  -- the place of a vertex
  pub place_stands : (v : ℕ) → v < length m.points → Stands (same_point (point_at m.points v)) points [] (place_at points (point_at m.points v))
  place_stands v low = stands (same_point (point_at m.points v)) points [] (over v [] low)

  corners_below : (t : ℕ) → t < length m.triples → IsBelow (length points) (face_of points m t).corners
  corners_below t low =
      let is = below t (0, 0, 0) low in
      let u = get_or m.triples t (0, 0, 0) in
      record { a = (place_stands u.0 is.a).low; b = (place_stands u.1 is.b).low; c = (place_stands u.2 is.c).low }

  pub faces_below : All (λ f. IsBelow (length points) f.corners) (faces points m)
  faces_below = All-faces (λ f. IsBelow (length points) f.corners) points m corners_below

  pub rims_below : All (λ f. All (λ v. v < length points) f.rim) (faces points m)
  rims_below k d low =
      let P : ℕ → Type 0 = λ v. v < length points in
      let f = get_or (faces points m) k d in
      let is = faces_below k d low in
      subst (All P) (sym (faces_cut points m k d low).rimmed)
      (rim_on P points f.corners (record { a = is.a; b = is.b; c = is.c }) (cuts_below points f.corners.0 f.corners.1) (cuts_below points f.corners.1 f.corners.2)
      (cuts_below points f.corners.2 f.corners.0))

-- each triangle has the label of one of the mesh
pub faces_labelled : (L : List ℕ → Type 0) (points : List (List ℤ)) (m : Mesh) → length m.labels ≡ length m.triples → All L m.labels → All (λ f. L f.label) (faces points m)
faces_labelled L points m full all = All-faces (λ f. L f.label) points m (λ t low. all t [] (omega (arith, low, full)))
