-- The mesh of what fills the planes, by its parts.
use Rattle.std.proofs.Common.{◌≡◌, ◌<◌, ◌∙◌, ℕ, ℤ, Bool, List, [], ◌∷◌, true, false, ap, arith, get_or, length, map, refl, replicate, subst, sym}
use Rattle.std.specs.Prelude.{◌&&◌}
use Rattle.std.specs.List.{All}
use Rattle.std.proofs.lemmas.Bool.{and_from}
use Rattle.std.proofs.lemmas.List.{get_or-map, length-append, length-map, length-replicate}
use Rattle.std.proofs.lemmas.List.Elements.{All-filter, All-get_or, All-map}
use Rattle.chain_terms.specs.Chains.{all_edges}
use Rattle.chain_terms.specs.Sums.{upto}
use Rattle.mesh_terms.specs.Labels.{label_at}
use Rattle.mesh_terms.specs.Meshes.{Mesh, Triple, soup_of}
use Rattle.sheet_terms.specs.Faces.{Face, face_of}
use Rattle.sheet_terms.specs.Filled.{Filling}
use Rattle.sheet_terms.specs.Places.{has_three}
use Rattle.sheet_terms.specs.Remesh.{fanned, is_closed, new_labels, new_triples}
use Rattle.plane_chains.proofs.FirstKeys.{map_agree}
use Rattle.plane_chains.proofs.GridPoints.{upto_below}
use Rattle.plane_groups.specs.Grouped.{face_at, no_face}
use Rattle.plan_laws.specs.Placed.{placed_faces}
use Rattle.plane_remesh.specs.Plans.{fillings_of, fills}
use Rattle.plane_remesh.specs.Rules.{IsFanned, makes}

-- the triangles of a mesh over places by their numbers
numbers_low : (points : List (List ℤ)) (m : Mesh) → All (λ f. f.number < length m.triples) (placed_faces points m)
numbers_low points m =
    All-filter (λ (f : Face). has_three f.corners) (λ f. f.number < length m.triples) (map (face_of points m) (upto (length m.triples)))
    (All-map (λ (f : Face). f.number < length m.triples) (face_of points m) (upto (length m.triples)) (upto_below (length m.triples)))

labels_theirs : (points : List (List ℤ)) (m : Mesh) → All (λ f. label_at m.labels f.number ≡ f.label) (placed_faces points m)
labels_theirs points m =
    All-filter (λ (f : Face). has_three f.corners) (λ f. label_at m.labels f.number ≡ f.label) (map (face_of points m) (upto (length m.triples)))
    (All-map (λ (f : Face). label_at m.labels f.number ≡ f.label) (face_of points m) (upto (length m.triples)) (λ k d low. refl))

number_at : (all : List Face) (t : ℕ) → t < length all → get_or (map (λ f. f.number) all) t 0 ≡ (face_at all t).number
number_at all t low = get_or-map (λ (f : Face). f.number) all t no_face 0 low

-- the numbers in the mesh of some of them
pub sources_low : (points : List (List ℤ)) (m : Mesh) (labels sources : List ℕ) → All (λ t. t < length (placed_faces points m)) labels →
    sources ≡ map (λ t. get_or (map (λ f. f.number) (placed_faces points m)) t 0) labels → All (λ t. t < length m.triples) sources
sources_low points m labels sources low is =
    let all = placed_faces points m in
    let numbers = map (λ (f : Face). f.number) all in
    subst (All (λ t. t < length m.triples)) (sym is)
    (All-map (λ t. t < length m.triples) (λ t. get_or numbers t 0) labels
    (λ k d inside.
    let t = get_or labels k d in
    let here : t < length all = low k d inside in
    subst (λ n. n < length m.triples) (sym (number_at all t here)) (All-get_or (λ (f : Face). f.number < length m.triples) all t no_face here (numbers_low points m))))

map_both : {X Y Z : Type 0} (f : Y → Z) (g : X → Y) (xs : List X) → map f (map g xs) ≡ map (λ x. f (g x)) xs
map_both f g [] = refl
map_both f g (x ∷ xs) = ap (λ l. f (g x) ∷ l) (map_both f g xs)

-- have their labels
pub labels_are : (points : List (List ℤ)) (m : Mesh) (labels sources : List ℕ) → All (λ t. t < length (placed_faces points m)) labels →
    sources ≡ map (λ t. get_or (map (λ f. f.number) (placed_faces points m)) t 0) labels →
    map (label_at m.labels) sources ≡ map (λ t. (face_at (placed_faces points m) t).label) labels
labels_are points m labels sources low is =
    let all = placed_faces points m in
    let numbers = map (λ (f : Face). f.number) all in
    ap (map (label_at m.labels)) is ∙ map_both (label_at m.labels) (λ t. get_or numbers t 0) labels
    ∙ map_agree (λ t. label_at m.labels (get_or numbers t 0)) (λ t. (face_at all t).label) labels
    (λ k d inside.
    let t = get_or labels k d in
    let here : t < length all = low k d inside in
    ap (label_at m.labels) (number_at all t here) ∙ All-get_or (λ (f : Face). label_at m.labels f.number ≡ f.label) all t no_face here (labels_theirs points m))

-- as many labels as triangles
labels_long : (gs : List Filling) → length (new_labels gs) ≡ length (new_triples gs)
labels_long [] = refl
labels_long (g ∷ gs) =
    omega (
      arith,
      labels_long gs,
      length-append (replicate (length g.triples) g.label) (new_labels gs),
      length-replicate (length g.triples) g.label,
      length-append g.triples (new_triples gs),
    )

pub sources_long : (all : List Face) (gs : List Filling) (ts : List Triple) (labels sources : List ℕ) → ts ≡ new_triples gs →
    map (λ t. (face_at all t).label) labels ≡ new_labels gs → length sources ≡ length labels → length sources ≡ length ts
sources_long all gs ts labels sources triples labelled many =
    many ∙ sym (length-map labels (λ t. (face_at all t).label)) ∙ ap length labelled ∙ labels_long gs ∙ sym (ap length triples)

-- a mesh with those labels is the one of the definition
mesh_made : (points : List (List ℤ)) (ts : List Triple) (ls : List (List ℕ)) (made new : Mesh) (own : List (List ℕ)) → IsFanned points ts made →
    new ≡ record made { labels = own } → own ≡ ls → new ≡ fanned (soup_of points ts ls)
mesh_made points ts ls made new own is labelled same =
    labelled ∙ (λ i. record { points = is.fans i; triples = is.triples i; labels = same i })

pub mesh_at : (points read : List (List ℤ)) (ts us : List Triple) (ls : List (List ℕ)) (made new : Mesh) (own : List (List ℕ)) → read ≡ points → ts ≡ us →
    IsFanned read ts made → new ≡ record made { labels = own } → own ≡ ls → new ≡ fanned (soup_of points us ls)
mesh_at points read ts us ls made new own at is fans labelled same =
    mesh_made read ts ls made new own fans labelled same ∙ (λ i. fanned (soup_of (at i) (is i) ls))

-- what is taken, and what is not
pub taken : (points : List (List ℤ)) (m : Mesh) (ts : List Triple) → ts ≡ new_triples (fillings_of points (placed_faces points m)) →
    fills points (placed_faces points m) ≡ true → is_closed (all_edges ts) ≡ true → makes points m ≡ true
taken points m ts is full closed =
    let all = placed_faces points m in
    and_from (fills points all) (is_closed (all_edges (new_triples (fillings_of points all)))) full (ap (λ us. is_closed (all_edges us)) (sym is) ∙ closed)

none_and : (b : Bool) → (b && false) ≡ false
none_and true = refl
none_and false = refl

pub not_closed : (points : List (List ℤ)) (m : Mesh) (ts : List Triple) → ts ≡ new_triples (fillings_of points (placed_faces points m)) →
    is_closed (all_edges ts) ≡ false → makes points m ≡ false
not_closed points m ts is not_so =
    let all = placed_faces points m in
    ap (λ b. fills points all && b) (ap (λ us. is_closed (all_edges us)) (sym is) ∙ not_so) ∙ none_and (fills points all)

pub not_filled : (points : List (List ℤ)) (m : Mesh) → fills points (placed_faces points m) ≡ false → makes points m ≡ false
not_filled points m none = ap (λ b. b && is_closed (all_edges (new_triples (fillings_of points (placed_faces points m))))) none
