-- What fills the planes of a mesh has its volume.
use Rattle.std.specs.Prelude.{◌≡◌, ◌⊎◌, ℕ, ◌<◌, ℤ, pos, neg_ℤ, ◌+ℤ◌, ◌-ℤ◌, ◌*ℤ◌, List, [], true, false, Bool, cond, not, ◌&&◌, ◌==◌, filter, get_or, int_lt, length, map}
use Rattle.std.specs.List.{All, flat_map}
use Rattle.std.proofs.Common.{arith, sym, ap, subst, ◌∙◌, inl, inr}
use Rattle.std.proofs.Math.IntN.{*ℤ-zero, *ℤ_comm}
use Rattle.std.proofs.lemmas.Bool.{both_ways, cases_Bool, eqb-true}
use Rattle.std.proofs.lemmas.Int.{ints}
use Rattle.std.proofs.lemmas.List.Elements.{All-weaker}
use Rattle.chain_terms.specs.Sums.{total, upto}
use Rattle.chain_laws.specs.Products.{mul-add, mul-sub, total-times}
use Rattle.chain_laws.specs.Sums.{total-flat_map, total-map, total-neg, total-same, total-same_all}
use Rattle.chain_laws.proofs.Ascending.{total-filter}
use Rattle.chain_laws.proofs.Places.{total-places, total-upto_same}
use Rattle.face_plane.specs.Planes.{flat_at, point_at, swapped, turn}
use Rattle.face_plane.proofs.Dropped.{drop_below}
use Rattle.mesh_terms.specs.Meshes.{IsBelow, Mesh, Triple}
use Rattle.mesh_terms.specs.Points.{coordinate_of}
use Rattle.mesh_terms.specs.Volume.{determinant, minor, triangle_determinant, volume6_of}
use Rattle.plane_laws.specs.Areas.{area}
use Rattle.sheet_laws.proofs.Determinants.{det_rotates, drop_counts, plane_determinant}
use Rattle.sheet_terms.specs.Cuts.{is_none, scalar}
use Rattle.sheet_terms.specs.Faces.{Face, drop_of, face_of, faces, in_plane, is_flat, normal, planes, seen}
use Rattle.sheet_terms.specs.Filled.{Filling, filled, fillings}
use Rattle.sheet_terms.specs.Needless.{side_edges}
use Rattle.sheet_terms.specs.Places.{has_three, place_at}
use Rattle.sheet_terms.specs.Regions.{Side, all_sides}
use Rattle.sheet_terms.specs.Remesh.{is_sound, new_triples}
use Rattle.sheet_laws.specs.Planes.{KeepsPlane, new_in_plane, old_in_plane, side_triples}
use Rattle.sheet_laws.proofs.Coplanar.{IsBent, IsLevel, det_twice}
use Rattle.sheet_laws.proofs.Corners.{All-firsts, IsOn}
use Rattle.sheet_laws.proofs.FacesOn.{place_stands}
use Rattle.sheet_laws.proofs.InLine.{InLine, on_axes, line_back, line_of, line_start, line_twice, none_of}
use Rattle.sheet_laws.proofs.Levels.{new_level, old_level}
use Rattle.sheet_laws.proofs.OncePlanes.{in_one, side_in_one, total_by}
use Rattle.sheet_laws.proofs.PlanesKept.{planes_are_kept}
use Rattle.sheet_laws.proofs.Rims.{IsCut}
use Rattle.sheet_laws.proofs.SamePlanes.{faces_cut}
use Rattle.sheet_laws.proofs.Standing.{AreSame, IsOver, same_parts}

-- the determinant of points on a line is none
opened_none : (z a b c : ℤ) → (a +ℤ b) +ℤ c ≡ pos 0 → (z *ℤ a +ℤ z *ℤ b) +ℤ z *ℤ c ≡ pos 0
opened_none z a b c e = omega (arith, ints, mul-add z (a +ℤ b) c, mul-add z a b, ap (λ t. z *ℤ t) e, *ℤ-zero z)

det_flat : (p q r : List ℤ) → InLine p q r → determinant p q r ≡ pos 0
det_flat p q r line =
    let on : ℕ → ℤ = coordinate_of p in
    let x = opened_none (on 0) (minor p q 1 2) (minor q r 1 2) (minor r p 1 2) (areas 1 2 line.x) in
    let y = opened_none (on 1) (minor p q 2 0) (minor q r 2 0) (minor r p 2 0) (areas 2 0 line.y) in
    let z = opened_none (on 2) (minor p q 0 1) (minor q r 0 1) (minor r p 0 1) (areas 0 1 line.z) in
    omega (arith, ints, x, y, z, det_twice p q, det_rotates p p r, det_twice p r)
  where
    areas : (i j : ℕ) → area (on_axes i j p) (on_axes i j q) (on_axes i j r) ≡ pos 0 → (minor p q i j +ℤ minor q r i j) +ℤ minor r p i j ≡ pos 0
    areas i j e =
        omega (
          arith,
          ints,
          e,
          *ℤ_comm (coordinate_of p j) (coordinate_of q i),
          *ℤ_comm (coordinate_of q j) (coordinate_of r i),
          *ℤ_comm (coordinate_of r j) (coordinate_of p i),
        )

-- exchanged coordinates turn the sign of a turn
swapped_turn : (a b c : ℤ × ℤ) → turn (swapped a) (swapped b) (swapped c) ≡ neg_ℤ (turn a b c)
swapped_turn a b c = omega (arith, ints)

module _ (points : List (List ℤ)) where
  -- the determinant of a triangle, and its turn where an axis is dropped
  abbrev pub det : Triple → ℤ
  det t = triangle_determinant points t

  abbrev flat_turn : ℕ → Bool → Triple → ℤ
  flat_turn d turned t = turn (flat_at d turned (point_at points t.0)) (flat_at d turned (point_at points t.1)) (flat_at d turned (point_at points t.2))

  -- from which side the plane is seen does not matter
  unturned : (d : ℕ) (turned : Bool) (new old : List Triple) → total (flat_turn d turned) new ≡ total (flat_turn d turned) old →
      total (flat_turn d false) new ≡ total (flat_turn d false) old
  unturned d false new old e = e
  unturned d true new old e =
      let by : (ts : List Triple) → total (flat_turn d true) ts ≡ neg_ℤ (total (flat_turn d false) ts) = λ ts.
      total-same (flat_turn d true) (λ t. neg_ℤ (flat_turn d false t))
      (λ t. swapped_turn (flat_at d false (point_at points t.0)) (flat_at d false (point_at points t.1)) (flat_at d false (point_at points t.2))) ts
      ∙ total-neg (flat_turn d false) ts in
      omega (arith, ints, e, by new, by old)

  -- triangles in the plane of s with one area have one volume
  module _ (s : Face) (bent : IsBent points s) where
    abbrev n : List ℤ
    n = normal points s

    abbrev d : ℕ
    d = drop_of points s

    abbrev level : ℤ
    level = scalar n (point_at points s.corners.0)

    counts : coordinate_of n d ≡ pos 0 → ⊥
    counts =
        drop_counts (point_at points s.corners.0) (point_at points s.corners.1) (point_at points s.corners.2)
        (λ e. both_ways (is_flat points s.corners) bent (ap is_none e))

    times : (ts : List Triple) → All (IsOn (IsLevel points s)) ts → coordinate_of n d *ℤ volume6_of points ts ≡ level *ℤ total (flat_turn d false) ts
    times ts on =
        let k = coordinate_of n d in
        sym (total-times k det ts)
        ∙ total-same_all (λ t. k *ℤ det t) (λ t. level *ℤ flat_turn d false t) ts
        (All-weaker (IsOn (IsLevel points s)) (λ t. k *ℤ det t ≡ level *ℤ flat_turn d false t)
        (λ t is.
        plane_determinant n level d (point_at points t.0) (point_at points t.1) (point_at points t.2)
        (drop_below (point_at points s.corners.0) (point_at points s.corners.1) (point_at points s.corners.2)) is.a is.b is.c) ts on)
        ∙ total-times level (flat_turn d false) ts

    pub one_volume : (new old : List Triple) → All (IsOn (IsLevel points s)) new → All (IsOn (IsLevel points s)) old → KeepsPlane points (seen points s) new old →
        volume6_of points new ≡ volume6_of points old
    one_volume new old new_on old_on keeps =
        let k = coordinate_of n d in
        let areas = unturned d (int_lt (coordinate_of n d) (pos 0)) new old keeps.areas in
        let same : k *ℤ volume6_of points new ≡ k *ℤ volume6_of points old = times new new_on ∙ ap (λ z. level *ℤ z) areas ∙ sym (times old old_on) in
        let none = none_of k (volume6_of points new -ℤ volume6_of points old) counts
        (omega (arith, ints, mul-sub k (volume6_of points new) (volume6_of points old), same)) in
        omega (arith, ints, none)

-- the triangles of a mesh that are left out have no volume
out_none : (points : List (List ℤ)) (t : Triple) → (has_three t && not (is_flat points t)) ≡ false → triangle_determinant points t ≡ pos 0
out_none points t out = det_flat p q r (by (cases_Bool (is_flat points t)) (cases_Bool (t.0 == t.1)) (cases_Bool (t.1 == t.2)) (cases_Bool (t.2 == t.0)))
  where
    p : List ℤ
    p = point_at points t.0

    q : List ℤ
    q = point_at points t.1

    r : List ℤ
    r = point_at points t.2

    Is : Bool → Type 0
    Is b = (b ≡ true) ⊎ (b ≡ false)

    none : (a b c d : Bool) → a ≡ false → b ≡ false → c ≡ false → d ≡ false → ((not b && not c && not d) && not a) ≡ true
    none a b c d x y z w = cc

    by : Is (is_flat points t) → Is (t.0 == t.1) → Is (t.1 == t.2) → Is (t.2 == t.0) → InLine p q r
    by (inl flat) b c d = line_of p q r flat
    by (inr a) (inl same) c d = subst (λ v. InLine p (point_at points v) r) (eqb-true t.0 t.1 same) (line_start p r)
    by (inr a) (inr b) (inl same) d = subst (λ v. InLine p q (point_at points v)) (eqb-true t.1 t.2 same) (line_back q q p (line_start q p))
    by (inr a) (inr b) (inr c) (inl same) = subst (λ v. InLine (point_at points v) q r) (eqb-true t.2 t.0 same) (line_twice r q)
    by (inr a) (inr b) (inr c) (inr e) =
        absurd (both_ways (has_three t && not (is_flat points t)) out (none (is_flat points t) (t.0 == t.1) (t.1 == t.2) (t.2 == t.0) a b c e))

-- so the others have that of the mesh
module _ (points : List (List ℤ)) (m : Mesh) (over : IsOver points m.points) (below : All (IsBelow (length m.points)) m.triples) where
  corner_same : (v : ℕ) → v < length m.points → AreSame (point_at m.points v) (point_at points (place_at points (point_at m.points v)))
  corner_same v low =
      same_parts (point_at m.points v) (point_at points (place_at points (point_at m.points v))) (place_stands points m over below v low).passes

  placed_same : (t : ℕ) → t < length m.triples → triangle_determinant m.points (get_or m.triples t (0, 0, 0)) ≡ triangle_determinant points (face_of points m t).corners
  placed_same t low =
      let u = get_or m.triples t (0, 0, 0) in
      let is = below t (0, 0, 0) low in
      by_coordinates (point_at m.points u.0) (point_at m.points u.1) (point_at m.points u.2) (point_at points (place_at points (point_at m.points u.0)))
      (point_at points (place_at points (point_at m.points u.1))) (point_at points (place_at points (point_at m.points u.2))) (corner_same u.0 is.a) (corner_same u.1 is.b)
      (corner_same u.2 is.c)
    where
      det_of : (x y z u v w a b c : ℤ) → ℤ
      det_of x y z u v w a b c = (x *ℤ (v *ℤ c -ℤ w *ℤ b) +ℤ y *ℤ (w *ℤ a -ℤ u *ℤ c)) +ℤ z *ℤ (u *ℤ b -ℤ v *ℤ a)

      by_coordinates : (p q r x y z : List ℤ) → AreSame p x → AreSame q y → AreSame r z → determinant p q r ≡ determinant x y z
      by_coordinates p q r x y z f g h = λ i. det_of (f.x i) (f.y i) (f.z i) (g.x i) (g.y i) (g.z i) (h.x i) (h.y i) (h.z i)

  pub faces_volume : volume6_of m.points m.triples ≡ total (λ f. det points f.corners) (faces points m)
  faces_volume =
      let old : Triple → ℤ = triangle_determinant m.points in
      let test : Face → Bool = λ f. has_three f.corners && not (is_flat points f.corners) in
      let new : Face → ℤ = λ f. det points f.corners in
      let count = length m.triples in
      let made = map (face_of points m) (upto count) in
      total-places old (0, 0, 0) m.triples
      ∙ total-upto_same (λ t. old (get_or m.triples t (0, 0, 0))) (λ t. new (face_of points m t)) count placed_same
      ∙ sym (total-map new (face_of points m) (upto count)) ∙ total-same new (λ f. cond (test f) (new f) (pos 0)) (λ f. passed f (cases_Bool (test f))) made
      ∙ sym (total-filter new test made)
    where
      passed : (f : Face) → ((has_three f.corners && not (is_flat points f.corners)) ≡ true) ⊎ ((has_three f.corners && not (is_flat points f.corners)) ≡ false) →
          det points f.corners ≡ cond (has_three f.corners && not (is_flat points f.corners)) (det points f.corners) (pos 0)
      passed f (inl y) = sym (ap (λ b. cond b (det points f.corners) (pos 0)) y)
      passed f (inr n) = out_none points f.corners n ∙ sym (ap (λ b. cond b (det points f.corners) (pos 0)) n)

module _ (points : List (List ℤ)) (m : Mesh) where
  abbrev fs : List Face
  fs = faces points m

  abbrev ss : List Side
  ss = all_sides points fs

  abbrev es : List (ℕ × ℕ)
  es = flat_map side_edges ss

  all_bent : All (IsBent points) fs
  all_bent = All-weaker (IsCut points) (IsBent points) (λ f c. c.bent) fs (faces_cut points m)

  -- the volume of the triangles of all fillings is that of the sides
  sides_volume : volume6_of points (new_triples (fillings points es ss)) ≡ total (λ t. volume6_of points (side_triples points es t)) ss
  sides_volume =
      let d = det points in
      total-flat_map d (λ (g : Filling). g.triples) (fillings points es ss)
      ∙ total-flat_map (λ (g : Filling). total d g.triples) (λ s. map (filled points es s) s.regions) ss
      ∙ total-same (λ s. total (λ (g : Filling). total d g.triples) (map (filled points es s) s.regions)) (λ s. volume6_of points (side_triples points es s))
      (λ s. total-map (λ (g : Filling). total d g.triples) (filled points es s) s.regions ∙ sym (total-flat_map d (λ r. (filled points es s r).triples) s.regions)) ss

  -- in each plane the volume stays
  plane_kept : is_sound points fs ss (fillings points es ss) ≡ true →
      All (λ s. volume6_of points (new_in_plane points ss s) ≡ volume6_of points (old_in_plane points fs s)) (planes points fs)
  plane_kept sound k d low =
      let s = get_or (planes points fs) k d in
      let bent = All-firsts (IsBent points) (in_plane points) [] fs all_bent k d low in
      one_volume points s bent (new_in_plane points ss s) (old_in_plane points fs s) (new_level points s fs (faces_cut points m) bent sound) (old_level points s fs)
      (planes_are_kept points m sound k d low)

  pub volume_kept : is_sound points fs ss (fillings points es ss) ≡ true → IsOver points m.points → All (IsBelow (length m.points)) m.triples →
      volume6_of points (new_triples (fillings points es ss)) ≡ volume6_of m.points m.triples
  volume_kept sound over below =
      let d = det points in
      let of_side : Side → ℤ = λ t. volume6_of points (side_triples points es t) in
      let mine : Face → Side → Bool = λ s t. in_plane points s t.face in
      let ps = planes points fs in
      sides_volume ∙ total_by mine of_side ps ss (side_in_one points fs all_bent)
      ∙ total-same (λ s. total of_side (filter (mine s) ss)) (λ s. volume6_of points (new_in_plane points ss s))
      (λ s. sym (total-flat_map d (side_triples points es) (filter (mine s) ss))) ps
      ∙ total-same_all (λ s. volume6_of points (new_in_plane points ss s)) (λ s. volume6_of points (old_in_plane points fs s)) ps (plane_kept sound)
      ∙ total-same (λ s. volume6_of points (old_in_plane points fs s)) (λ s. total (λ f. d f.corners) (filter (in_plane points s) fs))
      (λ s. total-map d (λ (f : Face). f.corners) (filter (in_plane points s) fs)) ps
      ∙ sym (total_by (in_plane points) (λ f. d f.corners) ps fs (in_one points fs all_bent)) ∙ sym (faces_volume points m over below)
