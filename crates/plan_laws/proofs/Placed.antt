-- Triangles over places, as they are gathered, are those of the definition.
use Rattle.std.specs.Prelude.{◌≡◌, ℕ, ◌<◌, ℤ, List, [], ◌∷◌, ◌++◌, Bool, true, false, not, cond, filter, get_or, length, map}
use Rattle.std.specs.List.{All}
use Rattle.std.proofs.Common.{arith, refl, sym, ap, subst, ◌∙◌}
use Rattle.std.proofs.lemmas.List.{get_or-map, get_or_append_left, length-append, length-map}
use Rattle.std.proofs.lemmas.List.Elements.{All-filter, All-head, All-map, All-tail, filter_passes}
use Rattle.chain_terms.specs.Sums.{upto}
use Rattle.chain_laws.specs.Ascending.{Ascends}
use Rattle.chain_laws.proofs.Ascending.{filter-ascends}
use Rattle.face_plane.specs.Planes.{point_at}
use Rattle.mesh_terms.specs.Labels.{label_at}
use Rattle.mesh_terms.specs.Meshes.{IsBelow, Mesh, Triple}
use Rattle.sheet_terms.specs.Cuts.{rim}
use Rattle.sheet_terms.specs.Faces.{Face, face_of, faces, is_flat, placed}
use Rattle.sheet_terms.specs.Places.{has_three, place_at}
use Rattle.edge_cutting.specs.Overs.{AreOver, over_at}
use Rattle.edge_cutting.proofs.Counting.{filter_filter}
use Rattle.edge_cutting.proofs.Gathering.{all_upto}
use Rattle.plan_laws.specs.Placed.{ArePlaced, AreStored, FacesAreInOrder, FacesArePlaced, IsPlaced, OverIsPlaced, placed_faces}

pub faces_are_placed : FacesArePlaced
faces_are_placed points m =
    sym (filter_filter (λ (f : Face). not (is_flat points f.corners)) (λ (f : Face). has_three f.corners) (map (face_of points m) (upto (length m.triples))))

-- tests that agree on all members
pub filter_same : {X : Type 0} (p q : X → Bool) (xs : List X) → All (λ x. p x ≡ q x) xs → filter p xs ≡ filter q xs
filter_same p q [] all = refl
filter_same p q (x ∷ xs) all =
    λ i. let rest = filter_same p q xs (All-tail (λ y. p y ≡ q y) x xs all) i in cond (All-head (λ y. p y ≡ q y) x xs all i) (x ∷ rest) rest

-- lists of what functions give
filter_mapped : {X Y : Type 0} (q : Y → Bool) (h : X → Y) (xs : List X) → filter q (map h xs) ≡ map h (filter (λ x. q (h x)) xs)
filter_mapped q h [] = refl
filter_mapped q h (x ∷ xs) = ap (λ l. cond (q (h x)) (h x ∷ l) l) (filter_mapped q h xs) ∙ by (q (h x))
  where
    by : (b : Bool) → cond b (h x ∷ map h (filter (λ x. q (h x)) xs)) (map h (filter (λ x. q (h x)) xs)) ≡
        map h (cond b (x ∷ filter (λ x. q (h x)) xs) (filter (λ x. q (h x)) xs))
    by true = refl
    by false = refl

map_mapped : {X Y Z : Type 0} (g : Y → Z) (h : X → Y) (xs : List X) → map g (map h xs) ≡ map (λ x. g (h x)) xs
map_mapped g h [] = refl
map_mapped g h (x ∷ xs) = ap (λ l. g (h x) ∷ l) (map_mapped g h xs)

map_self : (xs : List ℕ) → map (λ x. x) xs ≡ xs
map_self [] = refl
map_self (x ∷ xs) = ap (λ l. x ∷ l) (map_self xs)

pub map_alike : {X Y : Type 0} (g h : X → Y) (xs : List X) → All (λ x. g x ≡ h x) xs → map g xs ≡ map h xs
map_alike g h [] all = refl
map_alike g h (x ∷ xs) all = λ i. All-head (λ y. g y ≡ h y) x xs all i ∷ map_alike g h xs (All-tail (λ y. g y ≡ h y) x xs all) i

module _ (points : List (List ℤ)) (m : Mesh) where
  -- the numbers of those with three places
  abbrev kept_numbers : List ℕ
  kept_numbers = filter (λ t. has_three (placed points m (get_or m.triples t (0, 0, 0)))) (upto (length m.triples))

  listed : placed_faces points m ≡ map (face_of points m) kept_numbers
  listed = filter_mapped (λ (f : Face). has_three f.corners) (face_of points m) (upto (length m.triples))

  numbers_are : map (λ (f : Face). f.number) (placed_faces points m) ≡ kept_numbers
  numbers_are = ap (map (λ (f : Face). f.number)) listed ∙ map_mapped (λ (f : Face). f.number) (face_of points m) kept_numbers ∙ map_self kept_numbers

  corners_are : map (λ (f : Face). f.corners) (placed_faces points m) ≡ map (λ t. placed points m (get_or m.triples t (0, 0, 0))) kept_numbers
  corners_are = ap (map (λ (f : Face). f.corners)) listed ∙ map_mapped (λ (f : Face). f.corners) (face_of points m) kept_numbers

  are_placed : ArePlaced points m
  are_placed = record {
    each = λ k d low. record {
      rims = All-filter (λ f. has_three f.corners) (λ f. f.rim ≡ rim points f.corners) (map (face_of points m) (upto (length m.triples)))
          (All-map (λ f. f.rim ≡ rim points f.corners) (face_of points m) (upto (length m.triples)) (λ j e l. refl)) k d low;
      labels = All-filter (λ f. has_three f.corners) (λ f. f.label ≡ label_at m.labels f.number) (map (face_of points m) (upto (length m.triples)))
          (All-map (λ f. f.label ≡ label_at m.labels f.number) (face_of points m) (upto (length m.triples)) (λ j e l. refl)) k d low;
      three = filter_passes (λ f. has_three f.corners) (map (face_of points m) (upto (length m.triples))) k d low;
      below = All-filter (λ f. has_three f.corners) (λ f. f.number < length m.triples) (map (face_of points m) (upto (length m.triples)))
          (All-map (λ f. f.number < length m.triples) (face_of points m) (upto (length m.triples)) (all_upto (λ t. t < length m.triples) (length m.triples) (λ t l. l))) k d low;
    };
    order = λ i j less low.
        let long : length (placed_faces points m) ≡ length kept_numbers = sym (length-map (placed_faces points m) (λ (f : Face). f.number)) ∙ ap length numbers_are in
        subst (λ (l : List ℕ). get_or l i 0 < get_or l j 0) (sym numbers_are)
        (filter-ascends (λ t. has_three (placed points m (get_or m.triples t (0, 0, 0)))) 0 (length m.triples) i j less (omega (arith, low, long)));
  }

  module _ (more : List (List ℤ)) (of kept : List ℕ) (ts : List Triple) (below : All (IsBelow (length m.points)) m.triples) (is : of ≡ map (place_at points) (m.points ++ more))
      (over : AreOver of m.triples ts kept) where
    -- where a vertex lies
    place_is : (v : ℕ) → v < length m.points → get_or of v 0 ≡ place_at points (point_at m.points v)
    place_is v low =
        ap (λ l. get_or l v 0) is ∙ get_or-map (place_at points) (m.points ++ more) v [] 0 (longer low) ∙ ap (place_at points) (get_or_append_left m.points more [] v low)
      where
        longer : v < length m.points → v < length (m.points ++ more)
        longer low = omega (arith, low, length-append m.points more)

    corner_is : (t : ℕ) → t < length m.triples → over_at of m.triples t ≡ placed points m (get_or m.triples t (0, 0, 0))
    corner_is t low =
        let b = below t (0, 0, 0) low in
        let v = get_or m.triples t (0, 0, 0) in λ i. (place_is v.0 b.a i, place_is v.1 b.b i, place_is v.2 b.c i)

    all_are : All (λ t. over_at of m.triples t ≡ placed points m (get_or m.triples t (0, 0, 0))) (upto (length m.triples))
    all_are = all_upto (λ t. over_at of m.triples t ≡ placed points m (get_or m.triples t (0, 0, 0))) (length m.triples) corner_is

    kept_are : kept ≡ kept_numbers
    kept_are =
        over.sources
        ∙ filter_same (λ t. has_three (over_at of m.triples t)) (λ t. has_three (placed points m (get_or m.triples t (0, 0, 0)))) (upto (length m.triples))
        (λ k d low. ap has_three (all_are k d low))

    are_stored : AreStored points m ts kept
    are_stored = record {
      corners = over.triples ∙ ap (map (over_at of m.triples)) kept_are
          ∙ map_alike (over_at of m.triples) (λ t. placed points m (get_or m.triples t (0, 0, 0))) kept_numbers
          (All-filter (λ t. has_three (placed points m (get_or m.triples t (0, 0, 0)))) (λ t. over_at of m.triples t ≡ placed points m (get_or m.triples t (0, 0, 0)))
          (upto (length m.triples)) all_are)
          ∙ sym corners_are;
      numbers_are = kept_are ∙ sym numbers_are;
    }

pub faces_are_in_order : FacesAreInOrder
faces_are_in_order points m = are_placed points m

pub over_is_placed : OverIsPlaced
over_is_placed points more m of kept ts below is over = are_stored points m more of kept ts below is over
