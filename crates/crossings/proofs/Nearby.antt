-- Which faces an edge has to be asked with.
use Rattle.std.proofs.Common.{◌≡◌, ◌∙◌, ℕ, ◌<◌, ◌≤◌, List, Option, None, Bool, false, length, get_or, refl, ap, arith, subst}
use Rattle.std.specs.List.{All, filter, filter_map}
use Rattle.std.proofs.lemmas.List.{get_or-map, length-map}
use Rattle.chain_terms.specs.Sums.{upto}
use Rattle.chain_laws.proofs.Places.{get_or-up_from, length-up_from}
use Rattle.mesh_terms.specs.Meshes.{Triple}
use Rattle.mb_base.specs.declared.point.Box3.{Box3}
use Rattle.mb_base.specs.declared.point.Corner.{Corner}
use Rattle.mb_base.specs.declared.results.Hit.{Hit}
use Rattle.mb_base.specs.Boxes.{box_of}
use Rattle.side_terms.specs.Boxes.{AreApart}
use Rattle.side_terms.specs.Corners.{AllFine}
use Rattle.side_terms.specs.Sides.{Side, IsSide, edge_at, face_at, face_boxes, face_of}
use Rattle.box_tree.specs.Touching.{box_at, no_box, touches, touching_numbers}
use Rattle.lean.proofs.Apart.{boxes_apart}
use Rattle.lean.proofs.Corners.{face_fine}
use Rattle.box_tree.proofs.NearNumbers as near
use Rattle.box_tree.proofs.NearNumbers.{filter_map-filter}
use Rattle.crossings.specs.Apart.{apart_back}
use Rattle.crossings.specs.Hits.{CrossingTest, hit_of, hits_along}
use Rattle.crossings.specs.Near.{hits_with}

-- as many boxes as faces
pub many_boxes : (faces : Side) → length (face_boxes faces) ≡ length faces.triples
many_boxes faces = length-map faces.triples (λ (t : Triple). box_of (face_of faces.corners t))

-- the box of a face
pub face_box : (faces : Side) (f : ℕ) → f < length faces.triples → box_at (face_boxes faces) f ≡ box_of (face_at faces f)
face_box faces f below = get_or-map (λ (t : Triple). box_of (face_of faces.corners t)) faces.triples f (0, 0, 0) no_box below

-- the law that simplices apart do not cross, for edges and faces
abbrev pub Separates : CrossingTest → Type 0
Separates test = (edge face : List Corner) (i : ℕ) → length edge ≡ 2 → length face ≡ 3 → AllFine edge → AllFine face → i < 3 → AreApart i edge face → test edge face ≡ None

-- an edge has no hit with a face whose box does not touch its own
pub none_beyond : (test : CrossingTest) (edges faces : Side) → Separates test → IsSide faces → (h f : ℕ) → AllFine (edge_at edges h) → f < length faces.triples →
    touches (box_at (face_boxes faces) f) (box_of (edge_at edges h)) ≡ false → test (edge_at edges h) (face_at faces f) ≡ None
none_beyond test edges faces apart known h f fine below far =
    let edge = edge_at edges h in
    let face = face_at faces f in
    let a = boxes_apart face edge (omega arith) (omega arith) (subst (λ b. touches b (box_of edge) ≡ false) (face_box faces f below) far) in
    apart edge face a.0 refl refl fine (face_fine faces.corners known.fine (get_or faces.triples f (0, 0, 0))) a.1 (apart_back a.0 face edge a.2)

-- so its hits are those with the faces whose boxes touch an area, where each box that touches its own does
pub hits_in : (test : CrossingTest) (edges faces : Side) → Separates test → IsSide faces → (h : ℕ) → AllFine (edge_at edges h) → (area : Box3) →
    ((b : Box3) → touches b area ≡ false → touches b (box_of (edge_at edges h)) ≡ false) →
    hits_with test edges faces h (touching_numbers (face_boxes faces) area) ≡ hits_along test edges faces h
hits_in test edges faces apart known h fine area less =
    let n = length faces.triples in
    let f : ℕ → Option Hit = λ g. hit_of h g (test (edge_at edges h) (face_at faces g)) in
    let p : ℕ → Bool = λ g. touches (box_at (face_boxes faces) g) area in
    let each : All (λ g. p g ≡ false → f g ≡ None) (upto n) =
    λ k d below.
    let inside : k < n = omega (arith, below, length-up_from 0 n) in
    let here : k ≡ get_or (upto n) k d = omega (arith, get_or-up_from 0 n k d inside) in
    subst (λ g. p g ≡ false → f g ≡ None) here (λ far. ap (hit_of h k) (none_beyond test edges faces apart known h k fine inside (less (box_at (face_boxes faces) k) far))) in
    ap (λ m. filter_map f (filter p (upto m))) (many_boxes faces) ∙ filter_map-filter f p (upto n) each

-- as its own box is
pub hits_near : (test : CrossingTest) (edges faces : Side) → Separates test → IsSide faces → (h : ℕ) → AllFine (edge_at edges h) →
    hits_with test edges faces h (touching_numbers (face_boxes faces) (box_of (edge_at edges h))) ≡ hits_along test edges faces h
hits_near test edges faces apart known h fine = hits_in test edges faces apart known h fine (box_of (edge_at edges h)) (λ b far. far)

-- those whose boxes touch an area are numbers of faces
pub touching_below : (faces : Side) (area : Box3) → All (λ f. f < length faces.triples) (touching_numbers (face_boxes faces) area)
touching_below faces area = subst (λ n. All (λ f. f < n) (touching_numbers (face_boxes faces) area)) (many_boxes faces) (near.touching_below (face_boxes faces) area)

-- no more than there are
pub touching_few : (faces : Side) (area : Box3) → length (touching_numbers (face_boxes faces) area) ≤ length faces.triples
touching_few faces area = omega (arith, near.touching_few (face_boxes faces) area, many_boxes faces)
