-- Where all new triangles of a plane turn left, each place lies inside as many of them as the net number says.
use Rattle.std.specs.Prelude.{◌≡◌, ◌⊎◌, ℕ, ℤ, pos, ◌-ℤ◌, ◌<ℤ◌, List, Bool, true, ◌&&◌, count_by, get_or, int_lt}
use Rattle.std.specs.List.{All}
use Rattle.std.proofs.Common.{arith, sym, ap, ◌∙◌, inl, inr}
use Rattle.std.proofs.Math.IntN.{*ℤ_comm}
use Rattle.std.proofs.lemmas.Bool.{and_from, and_parts, false_from_ne_true}
use Rattle.std.proofs.lemmas.Int.{ints}
use Rattle.chain_terms.specs.Chains.{edges, one_if}
use Rattle.chain_terms.specs.Odd.{along}
use Rattle.chain_terms.specs.Sums.{total}
use Rattle.chain_laws.specs.Counts.{one_if-false, one_if-true, total-count_by}
use Rattle.chain_laws.specs.Sums.{total-flat_map, total-same_all}
use Rattle.cover_laws.specs.Covers.{IsOutside, cover, passes, place}
use Rattle.cover_laws.proofs.Triangles.{triangles_cover_once}
use Rattle.face_plane.specs.Planes.{Plane}
use Rattle.mesh_terms.specs.Meshes.{Triple}
use Rattle.plane_laws.specs.Areas.{Place, area, area_is}
use Rattle.ring_cutting.specs.Laws.{TurnsLeft}
use Rattle.sheet_terms.specs.Faces.{faces, planes, seen}
use Rattle.sheet_terms.specs.Regions.{all_sides}
use Rattle.sheet_laws.specs.Planes.{enlarged, new_in_plane}
use Rattle.sheet_laws.specs.Promises.{IsInsideOf, IsOffEdges, SoundPlanesDoNotFold, is_inside_of}
use Rattle.sheet_laws.proofs.PlanesKept.{planes_are_kept}

-- the test of a sign
above : (z : ℤ) → int_lt (pos 0) z ≡ true → pos 0 <ℤ z
above z h = grind (arith, ints)

is_above : (z : ℤ) → pos 0 <ℤ z → int_lt (pos 0) z ≡ true
is_above z h = grind (arith, ints)

module _ (at : Plane) (p : Place) where
  abbrev passing : ℕ → ℕ → ℤ
  passing a b = passes p (place (at a)) (place (at b))

  abbrev corner : ℕ → Place
  corner v = place (at v)

  -- a triangle that turns left counts where the place is inside it
  counts : (t : Triple) → TurnsLeft at t → IsOffEdges at p t → pos (one_if (is_inside_of at p t)) ≡ total (along passing) (edges t)
  counts t left off = by off
    where
      a : Place
      a = corner t.0

      b : Place
      b = corner t.1

      c : Place
      c = corner t.2

      up : pos 0 <ℤ area a b c
      up = omega (arith, ints, left, area_is a b c, *ℤ_comm (b.y -ℤ a.y) (c.x -ℤ a.x))

      ab : Bool
      ab = int_lt (pos 0) (area a b p)

      bc : Bool
      bc = int_lt (pos 0) (area b c p)

      ca : Bool
      ca = int_lt (pos 0) (area c a p)

      never : IsOutside true p a b c → is_inside_of at p t ≡ true → ⊥
      never out h =
          let all = and_parts (ab && bc) ca h in
          let two = and_parts ab bc all.0 in
          apart out (above (area a b p) two.0) (above (area b c p) two.1) (above (area c a p) all.1)
        where
          apart : IsOutside true p a b c → pos 0 <ℤ area a b p → pos 0 <ℤ area b c p → pos 0 <ℤ area c a p → ⊥
          apart (inl o) x y z = omega (arith, ints, o, x)
          apart (inr (inl o)) x y z = omega (arith, ints, o, y)
          apart (inr (inr o)) x y z = omega (arith, ints, o, z)

      by : IsInsideOf at p t ⊎ IsOutside true p a b c → pos (one_if (is_inside_of at p t)) ≡ total (along passing) (edges t)
      by (inl i) =
          let test : is_inside_of at p t ≡ true = and_from (ab && bc) ca (and_from ab bc (is_above (area a b p) i.ab) (is_above (area b c p) i.bc)) (is_above (area c a p) i.ca) in
          ap pos (one_if-true (is_inside_of at p t) test) ∙ sym ((triangles_cover_once true p a b c up).inside i)
      by (inr o) =
          ap pos (one_if-false (is_inside_of at p t) (false_from_ne_true (is_inside_of at p t) (never o))) ∙ sym ((triangles_cover_once true p a b c up).outside o)

  -- so their number is the cover
  pub number_inside : (ts : List Triple) → All (TurnsLeft at) ts → All (IsOffEdges at p) ts → pos (count_by (is_inside_of at p) ts) ≡ cover at p ts
  number_inside ts left off =
      sym (total-count_by (is_inside_of at p) ts)
      ∙ total-same_all (λ t. pos (one_if (is_inside_of at p t))) (λ t. total (along passing) (edges t)) ts (λ k d low. counts (get_or ts k d) (left k d low) (off k d low))
      ∙ sym (total-flat_map (along passing) edges ts)

-- no folds
pub planes_do_not_fold : SoundPlanesDoNotFold
planes_do_not_fold points m sound i d low k p left off =
    let fs = faces points m in
    let ss = all_sides points fs in
    let s = get_or (planes points fs) i d in
    number_inside (enlarged k (seen points s)) p (new_in_plane points ss s) left off ∙ (planes_are_kept points m sound i d low).covers k p
