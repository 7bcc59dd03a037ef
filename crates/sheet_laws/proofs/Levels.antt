-- What lies in the plane of a triangle: places inside edges whose ends do, the rims of the triangles of the plane, and so the triangles that fill it.
use Rattle.std.specs.Prelude.{◌≡◌, ℕ, ℤ, List, [], true, false, Bool, length, not, ◌&&◌, ◌==◌, filter, get_or}
use Rattle.std.specs.List.{All, flat_map}
use Rattle.std.proofs.Common.{sym, subst, ◌∙◌}
use Rattle.std.proofs.lemmas.Bool.{and_parts, both_ways, false_from_ne_true}
use Rattle.std.proofs.lemmas.List.Elements.{All-filter, All-map, All-weaker, filter_passes}
use Rattle.chain_terms.specs.Sums.{upto}
use Rattle.face_plane.specs.Planes.{point_at}
use Rattle.sheet_terms.specs.Crossings.{coplanar}
use Rattle.sheet_terms.specs.Cuts.{are_in_line, cuts, is_in_box, is_inside, is_nearer}
use Rattle.sheet_terms.specs.Faces.{Face, faces_as, in_plane, normal, sides}
use Rattle.sheet_terms.specs.Filled.{filled, fillings}
use Rattle.sheet_terms.specs.Needless.{side_edges}
use Rattle.sheet_terms.specs.Regions.{Side, all_sides, side_of}
use Rattle.sheet_terms.specs.Remesh.{is_sound}
use Rattle.sheet_laws.specs.Planes.{new_in_plane, old_in_plane, side_triples}
use Rattle.sheet_laws.proofs.Coplanar.{IsBent, IsLevel, corners_level, on_level, plane_on}
use Rattle.sheet_laws.proofs.Corners.{All-firsts, All-flat, HaveRims, HaveWalks, IsOn, region_on, side_in}
use Rattle.sheet_laws.proofs.FacesOn.{rim_on}
use Rattle.sheet_laws.proofs.InLine.{Differ, corners_differ, from_line, line_of, line_round}
use Rattle.sheet_laws.proofs.Rims.{All-ordered, IsCut}
use Rattle.sheet_laws.proofs.SamePlanes.{none_forced, sound_parts}

module _ (points : List (List ℤ)) (s : Face) where
  -- so are the places inside an edge
  cuts_level : (a b : ℕ) → Differ (point_at points a) (point_at points b) → IsLevel points s a → IsLevel points s b → All (IsLevel points s) (cuts points a b)
  cuts_level a b some here there =
      let p = point_at points a in
      let q = point_at points b in
      let n = normal points s in
      let inside = filter (is_inside points a b) (upto (length points)) in
      All-ordered (IsLevel points s) (is_nearer points a b) inside
      (All-weaker (λ v. is_inside points a b v ≡ true) (IsLevel points s)
      (λ v h.
      let line = line_of p q (point_at points v) (and_parts (not (v == a) && not (v == b) && is_in_box p q (point_at points v)) (are_in_line p q (point_at points v)) h).1 in
      on_level n p q (point_at points v) some line (there ∙ sym here) ∙ here) inside (filter_passes (is_inside points a b) (upto (length points))))

  -- and the rim of a triangle of the plane
  rim_level : (f : Face) → IsCut points f → in_plane points s f ≡ true → All (IsLevel points s) f.rim
  rim_level f cut h =
      let on = corners_level points s f h in
      let a = point_at points f.corners.0 in
      let b = point_at points f.corners.1 in
      let c = point_at points f.corners.2 in
      let bent_b = turned a b c cut.bent in
      let bent_c = turned b c a bent_b in
      subst (All (IsLevel points s)) (sym cut.rimmed)
      (rim_on (IsLevel points s) points f.corners (record { a = on.a; b = on.b; c = on.c }) (cuts_level f.corners.0 f.corners.1 (corners_differ a b c cut.bent) on.a on.b)
      (cuts_level f.corners.1 f.corners.2 (corners_differ b c a bent_b) on.b on.c) (cuts_level f.corners.2 f.corners.0 (corners_differ c a b bent_c) on.c on.a))
    where
      turned : (p q r : List ℤ) → are_in_line p q r ≡ false → are_in_line q r p ≡ false
      turned p q r h =
          false_from_ne_true (are_in_line q r p)
          (λ y. both_ways (are_in_line p q r) h (from_line p q r (line_round r p q (line_round q r p (line_of q r p y)))))

  -- the triangles that were there
  pub old_level : (fs : List Face) → All (IsOn (IsLevel points s)) (old_in_plane points fs s)
  old_level fs =
      let own = filter (in_plane points s) fs in
      All-map (IsOn (IsLevel points s)) (λ f. f.corners) own
      (All-weaker (λ f. in_plane points s f ≡ true) (λ f. IsOn (IsLevel points s) f.corners)
      (λ f h. let on = corners_level points s f h in record { a = on.a; b = on.b; c = on.c }) own (filter_passes (in_plane points s) fs))

  module _ (fs : List Face) (cut : All (IsCut points) fs) (bent : IsBent points s) where
    abbrev ss : List Side
    ss = all_sides points fs

    abbrev es : List (ℕ × ℕ)
    es = flat_map side_edges ss

    all_bent : All (IsBent points) fs
    all_bent = All-weaker (IsCut points) (IsBent points) (λ f c. c.bent) fs cut

    -- the rims of the triangles of the same plane as one of its triangles says
    own_rims : (f : Face) → IsBent points f → in_plane points s f ≡ true → HaveRims (IsLevel points s) (coplanar points fs f)
    own_rims f bent_f h k d low =
        let g = get_or (coplanar points fs f) k d in
        let cut_g = All-filter (in_plane points f) (IsCut points) fs cut k d low in
        rim_level g cut_g (plane_on points s f g bent bent_f h (filter_passes (in_plane points f) fs k d low))

    -- the walks of the sides of the plane
    abbrev InWalks : Side → Type 0
    InWalks t = in_plane points s t.face ≡ true → HaveWalks (IsLevel points s) t.regions

    walks_level : All InWalks ss
    walks_level =
        All-map InWalks (side_of points fs) (sides points fs)
        (All-weaker (IsBent points) (λ f. InWalks (side_of points fs f)) (λ f bent_f h. side_in (IsLevel points s) points fs f (own_rims f bent_f h)) (sides points fs)
        (All-firsts (IsBent points) (faces_as points) [] fs all_bent))

    -- so the triangles that fill it
    pub new_level : is_sound points fs ss (fillings points es ss) ≡ true → All (IsOn (IsLevel points s)) (new_in_plane points ss s)
    new_level sound =
        let none = none_forced points es ss (sound_parts points fs ss (fillings points es ss) sound).none in
        let mine : Side → Bool = λ t. in_plane points s t.face in
        let Fills : Side → Type 0 = λ t. in_plane points s t.face ≡ true → All (IsOn (IsLevel points s)) (side_triples points es t) in
        let all : All Fills ss = λ k d low h.
        let t = get_or ss k d in
        All-flat (IsOn (IsLevel points s)) (λ r. (filled points es t r).triples) t.regions
        (λ i e below. region_on (IsLevel points s) points es t (get_or t.regions i e) (none k d low i e below) (walks_level k d low h i e below)) in
        let own = filter mine ss in
        let fills = All-filter mine Fills ss all in
        All-flat (IsOn (IsLevel points s)) (side_triples points es) own (λ k d low. fills k d low (filter_passes mine ss k d low))
