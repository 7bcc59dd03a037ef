-- The triangles of a surface as they are stored, and their planes as they are seen from the front.
use Rattle.std.proofs.Common.{◌≡◌, ◌∙◌, ◌<◌, ℕ, ℤ, Bool, List, [], ◌∷◌, true, false, ap, arith, cond, filter, get_or, length, refl, subst, suc, sym, zero}
use Rattle.std.specs.Prelude.{if◌then◌else◌, int_lt, not, pos}
use Rattle.std.specs.List.{All}
use Rattle.std.proofs.lemmas.Bool.{not-true}
use Rattle.std.proofs.lemmas.List.{get_or-map, get_or_read, length-map}
use Rattle.std.proofs.lemmas.List.Elements.{All-filter, All-get_or, filter_passes}
use Rattle.face_plane.specs.Planes.{plane_drop, point_at}
use Rattle.mesh_terms.specs.Points.{coordinate_of, cross_product}
use Rattle.mesh_terms.specs.Meshes.{IsBelow, Triple, triple_of}
use Rattle.sheet_terms.specs.Faces.{Face, drop_of, in_plane, is_flat, planes}
use Rattle.edge_cutting.proofs.Numbered.{firsts_all}
use Rattle.sheet_terms.specs.Twins.{are_same}
use Rattle.plan_laws.specs.Views.{IsSeenFrom, front_turned, is_turned}
use Rattle.plane_groups.specs.Grouped.{bent, face_at, faces_in, is_front, no_face}
use Rattle.plane_groups.proofs.SameKeys.{one_to_in}
use Rattle.plane_groups.proofs.Views.{same_drop, turned_by_front}
use Rattle.plane_remesh.specs.declared.surface.CutSurface.{CutSurface}
use Rattle.plane_remesh.specs.Surfaces.{IsSurface, plane_at}
use Rattle.plane_groups.specs.declared.view.PlaneView.{PlaneView}

-- all triangles are stored
pub stored_many : (points : List (List ℤ)) (all : List Face) (u : CutSurface) → IsSurface points all u → length u.over.triples.items ≡ length all
stored_many points all u is = sym (length-map u.over.triples.items triple_of) ∙ ap length is.corners ∙ length-map all (λ (f : Face). f.corners)

-- a triangle of a surface as it is stored
module _ (points : List (List ℤ)) (all : List Face) (u : CutSurface) (is : IsSurface points all u) (t : ℕ) (low : t < length all) where
  many : length u.over.triples.items ≡ length all
  many = stored_many points all u is

  pub stored_low : t < length u.over.triples.items
  stored_low = omega (arith, low, many)

  -- its corners
  pub corners_read : (x : List ℕ) → x ≡ get_or u.over.triples.items t x → triple_of x ≡ (face_at all t).corners
  corners_read x e =
      ap triple_of e ∙ sym (get_or-map triple_of u.over.triples.items t x (0, 0, 0) stored_low) ∙ ap (λ (l : List Triple). get_or l t (0, 0, 0)) is.corners
      ∙ get_or-map (λ (f : Face). f.corners) all t no_face (0, 0, 0) low

  pub corners_low : (x : List ℕ) → x ≡ get_or u.over.triples.items t x → IsBelow (length u.over.points.items) (triple_of x)
  corners_low x e =
      subst (λ ps. IsBelow (length ps) (triple_of x)) (sym is.stored)
      (subst (IsBelow (length points)) (sym (corners_read x e)) (All-get_or (λ f. IsBelow (length points) f.corners) all t no_face low is.below))

  -- a point that is read
  pub point_read : (v : ℕ) (p : List ℤ) → v < length u.over.points.items → p ≡ get_or u.over.points.items v p → p ≡ point_at points v
  point_read v p inside e = get_or_read u.over.points.items v p inside e [] ∙ ap (λ (l : List (List ℤ)). get_or l v []) is.stored

  -- its three points
  pub drop_read : (x : List ℕ) (p q r : List ℤ) → x ≡ get_or u.over.triples.items t x → p ≡ get_or u.over.points.items (triple_of x).0 p →
      q ≡ get_or u.over.points.items (triple_of x).1 q → r ≡ get_or u.over.points.items (triple_of x).2 r → plane_drop p q r ≡ drop_of points (face_at all t)
  drop_read x p q r e ep eq er =
      let below = corners_low x e in
      let c = corners_read x e in
      λ i. plane_drop ((point_read (triple_of x).0 p below.a ep ∙ ap (λ (w : Triple). point_at points w.0) c) i)
      ((point_read (triple_of x).1 q below.b eq ∙ ap (λ (w : Triple). point_at points w.1) c) i)
      ((point_read (triple_of x).2 r below.c er ∙ ap (λ (w : Triple). point_at points w.2) c) i)

  pub turned_read : (x : List ℕ) (p q r : List ℤ) → x ≡ get_or u.over.triples.items t x → p ≡ get_or u.over.points.items (triple_of x).0 p →
      q ≡ get_or u.over.points.items (triple_of x).1 q → r ≡ get_or u.over.points.items (triple_of x).2 r →
      int_lt (coordinate_of (cross_product p q r) (plane_drop p q r)) (pos 0) ≡ is_turned points (face_at all t)
  turned_read x p q r e ep eq er =
      let below = corners_low x e in
      let c = corners_read x e in
      let a1 = point_read (triple_of x).0 p below.a ep ∙ ap (λ (w : Triple). point_at points w.0) c in
      let a2 = point_read (triple_of x).1 q below.b eq ∙ ap (λ (w : Triple). point_at points w.1) c in
      let a3 = point_read (triple_of x).2 r below.c er ∙ ap (λ (w : Triple). point_at points w.2) c in
      λ i. int_lt (coordinate_of (cross_product (a1 i) (a2 i) (a3 i)) (plane_drop (a1 i) (a2 i) (a3 i))) (pos 0)

-- the plane from the front is the same by each of its triangles
pub front_same : (points : List (List ℤ)) (s f : Face) → is_flat points s.corners ≡ false → is_flat points f.corners ≡ false → in_plane points s f ≡ true →
    front_turned points f ≡ front_turned points s
front_same points s f bent_s bent_f in_one =
    by (is_front points s) (is_front points f) (is_turned points s) (is_turned points f) (turned_by_front points s f bent_s bent_f in_one)
  where
    by : (a b t u : Bool) → u ≡ (if are_same a b then t else not t) → (if b then u else not u) ≡ (if a then t else not t)
    by true true t u e = e
    by true false true u e = ap not e
    by true false false u e = ap not e
    by false true t u e = e
    by false false t u e = ap not e

-- where one passes a test, some are kept
filter_some : {X : Type 0} (p : X → Bool) (xs : List X) (k : ℕ) (d : X) → k < length xs → p (get_or xs k d) ≡ true → 0 < length (filter p xs)
filter_some p [] k d low e = absurd (omega (arith, low))
filter_some p (x ∷ xs) zero d low e = subst (λ b. 0 < length (cond b (x ∷ filter p xs) (filter p xs))) (sym e) (omega arith)
filter_some p (x ∷ xs) (suc k) d low e = by (p x) (filter_some p xs k d (omega (arith, low)) e)
  where
    by : (b : Bool) → 0 < length (filter p xs) → 0 < length (cond b (x ∷ filter p xs) (filter p xs))
    by true h = omega arith
    by false h = h

-- triangles that aren't flat
abbrev IsBent : List (List ℤ) → Face → Type 0
IsBent points f = is_flat points f.corners ≡ false

bent_all : (points : List (List ℤ)) (all : List Face) → All (IsBent points) (bent points all)
bent_all points all k d low =
    not-true (is_flat points (get_or (bent points all) k d).corners) (filter_passes (λ f. not (is_flat points f.corners)) all k d low)

-- the first triangle of a plane
module _ (points : List (List ℤ)) (all : List Face) (u : CutSurface) (is : IsSurface points all u) (k : ℕ) (low : k < u.planes.count) where
  abbrev s : Face
  s = plane_at points all k

  abbrev HasOwn : Face → Type 0
  HasOwn f = 0 < length (filter (in_plane points f) (bent points all))

  inside : k < length (planes points (bent points all))
  inside = omega (arith, low, is.planes.count)

  first_bent : is_flat points s.corners ≡ false
  first_bent = firsts_all (IsBent points) (in_plane points) [] (bent points all) (bent_all points all) k no_face inside

  all_own : All HasOwn (bent points all)
  all_own i d less =
      let f = get_or (bent points all) i d in
      let b = bent_all points all i d less in
      filter_some (in_plane points f) (bent points all) i d less (one_to_in points f f b b (record { normals = refl; levels = refl }))

  own_some : 0 < length (filter (in_plane points s) (bent points all))
  own_some = firsts_all HasOwn (in_plane points) [] (bent points all) all_own k no_face inside

  pub numbers_some : 0 < length (faces_in u.planes k)
  numbers_some = omega (arith, own_some, ap length (is.planes.each k low), length-map (faces_in u.planes k) (face_at all))

  module _ (t : ℕ) (e : t ≡ get_or (faces_in u.planes k) 0 0) where
    abbrev f : Face
    f = face_at all t

    first_is : f ≡ get_or (filter (in_plane points s) (bent points all)) 0 no_face
    first_is =
        ap (face_at all) e ∙ sym (get_or-map (face_at all) (faces_in u.planes k) 0 0 no_face numbers_some) ∙ ap (λ (l : List Face). get_or l 0 no_face) (is.planes.each k low)

    in_one : in_plane points s f ≡ true
    in_one = ap (in_plane points s) first_is ∙ filter_passes (in_plane points s) (bent points all) 0 no_face own_some

    bent_one : is_flat points f.corners ≡ false
    bent_one = ap (λ (g : Face). is_flat points g.corners) first_is
        ∙ All-filter (in_plane points s) (IsBent points) (bent points all) (bent_all points all) 0 no_face own_some

    number_low : t < length all
    number_low = subst (λ n. n < length all) (sym e) (is.planes.below k low 0 0 numbers_some)

    by_front : (x b : Bool) → x ≡ get_or u.planes.fronts.items t x → x ≡ b → is_front points f ≡ b
    by_front x b read h =
        sym (is.planes.fronts t number_low bent_one) ∙ sym (get_or_read u.planes.fronts.items t x (omega (arith, number_low, is.planes.full)) read false) ∙ h

    -- the plane from its front, by the first triangle that faces front, and by one that doesn't
    pub seen_front : (v : PlaneView) (x : Bool) → x ≡ get_or u.planes.fronts.items t x → x ≡ true →
        v.plane.drop ≡ drop_of points f → v.turned ≡ is_turned points f → IsSeenFrom points s true v
    seen_front v x read h drop turned = record {
      drop = drop ∙ same_drop points s f first_bent bent_one in_one;
      turned = turned ∙ sym (ap (λ b. if b then is_turned points f else not (is_turned points f)) (by_front x true read h)) ∙ front_same points s f first_bent bent_one in_one;
    }

    pub seen_back : (v : PlaneView) (x : Bool) → x ≡ get_or u.planes.fronts.items t x → x ≡ false →
        v.plane.drop ≡ drop_of points f → v.turned ≡ not (is_turned points f) → IsSeenFrom points s true v
    seen_back v x read h drop turned = record {
      drop = drop ∙ same_drop points s f first_bent bent_one in_one;
      turned = turned ∙ sym (ap (λ b. if b then is_turned points f else not (is_turned points f)) (by_front x false read h)) ∙ front_same points s f first_bent bent_one in_one;
    }
