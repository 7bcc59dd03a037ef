-- The triangles of a mesh over its places as they are gathered, and the surface that is made of them.
use Rattle.std.proofs.Common.{◌≡◌, ◌∙◌, ◌<◌, ◌≤◌, ◌++◌, ℕ, ℤ, Bool, List, [], ap, arith, get_or, length, map, subst, sym}
use Rattle.std.specs.Prelude.{◌↔◌, ◌+◌, true}
use Rattle.std.specs.List.{All}
use Rattle.std.proofs.lemmas.List.{get_or-map, length-append, length-map}
use Rattle.std.proofs.lemmas.List.Elements.{All-filter, All-get_or, All-map}
use Rattle.std.proofs.lemmas.List.Sums.{count_by-le-length, length-filter}
use Rattle.chain_terms.specs.Chains.{IsClosed, all_edges}
use Rattle.chain_terms.specs.Sums.{upto}
use Rattle.chain_laws.proofs.Places.{length-up_from}
use Rattle.mesh_terms.specs.Labels.{label_at}
use Rattle.mesh_terms.specs.Limits.{most_points, most_triangles}
use Rattle.mesh_terms.specs.Meshes.{IsAccepted, IsBelow, Mesh, Triple, triple_of, triples_of}
use Rattle.sheet_terms.specs.Cuts.{rim}
use Rattle.sheet_terms.specs.Faces.{Face}
use Rattle.sheet_terms.specs.Places.{has_three, place_at, place_points}
use Rattle.tidy_terms.specs.PointTriples.{same_point}
use Rattle.edge_cutting.specs.Cut.{HasRims, cut_rim}
use Rattle.edge_cutting.specs.Inside.{AreApart}
use Rattle.edge_cutting.specs.Overs.{AreOver, over_at, over_of}
use Rattle.edge_cutting.proofs.Gathering.{all_upto}
use Rattle.edge_cutting.proofs.Numbered.{any_firsts, firsts_few, member_any}
use Rattle.plane_groups.specs.Grouped.{ArePlanes, face_at, no_face}
use Rattle.plane_groups.proofs.Grouping.{any_stands}
use Rattle.plan_laws.specs.Placed.{ArePlaced, AreStored, IsPlaced, placed_faces}
use Rattle.plan_laws.proofs.Placed.{faces_are_in_order, over_is_placed}
use Rattle.plan_laws.proofs.Twice.{points_like}
use Rattle.plane_remesh.specs.declared.over_places.OverPlaces.{OverPlaces}
use Rattle.plane_remesh.specs.declared.surface.CutSurface.{CutSurface}
use Rattle.plane_remesh.specs.Placed.{IsOver}
use Rattle.plane_remesh.specs.Surfaces.{IsSurface}

-- the place of each point is one of the places
places_low : (points : List (List ℤ)) → All (λ v. v < length (place_points points)) (map (place_at (place_points points)) points)
places_low points =
    All-map (λ v. v < length (place_points points)) (place_at (place_points points)) points
    (λ k d low. any_stands (same_point (get_or points k d)) (place_points points)
    (any_firsts same_point points_like (get_or points k d) points ∙ member_any same_point points_like points k d low))

-- a mesh over the places of its points and further ones
module _ (m : Mesh) (more all : List (List ℤ)) (of : List ℕ) (accepted : IsAccepted (length m.points) m.triples) (joined : all ≡ m.points ++ more)
    (of_are : of ≡ map (place_at (place_points all)) all) where
  abbrev points : List (List ℤ)
  points = place_points all

  -- each vertex has its place
  of_many : length m.points ≤ length of
  of_many = omega (arith, ap length of_are, length-map all (place_at points), ap length joined, length-append m.points more)

  pub vertices_low : All (IsBelow (length of)) m.triples
  vertices_low k d low =
      let b = accepted.mesh.below k d low in
      record { a = omega (arith, b.a, of_many); b = omega (arith, b.b, of_many); c = omega (arith, b.c, of_many) }

  of_low : All (λ v. v < length points) of
  of_low = subst (All (λ v. v < length points)) (sym of_are) (places_low all)

  over_low : (t : Triple) → IsBelow (length of) t → IsBelow (length points) (over_of of t)
  over_low t low = record {
    a = All-get_or (λ v. v < length points) of t.0 0 low.a of_low;
    b = All-get_or (λ v. v < length points) of t.1 0 low.b of_low;
    c = All-get_or (λ v. v < length points) of t.2 0 low.c of_low;
  }

  -- the triangles that are gathered
  module _ (o : OverPlaces) (over : AreOver of m.triples (triples_of o.triples.items) o.sources.items) where
    stored_are : AreStored points m (triples_of o.triples.items) o.sources.items
    stored_are =
        over_is_placed points more m of o.sources.items (triples_of o.triples.items) accepted.mesh.below (of_are ∙ ap (map (place_at points)) joined) over

    below : All (IsBelow (length points)) (triples_of o.triples.items)
    below =
        let at = over_at of m.triples in
        let n = length m.triples in
        subst (All (IsBelow (length points))) (sym over.triples)
        (All-map (IsBelow (length points)) at o.sources.items
        (subst (All (λ t. IsBelow (length points) (at t))) (sym over.sources)
        (All-filter (λ t. has_three (at t)) (λ t. IsBelow (length points) (at t)) (upto n)
        (all_upto (λ t. IsBelow (length points) (at t)) n (λ t low. over_low (get_or m.triples t (0, 0, 0)) (vertices_low t (0, 0, 0) low))))))

    few : length o.triples.items ≤ length m.triples
    few =
        let p : ℕ → Bool = λ t. has_three (over_at of m.triples t) in
        let n = length m.triples in
        omega (
          arith,
          length-map o.triples.items triple_of,
          ap length over.triples,
          length-map o.sources.items (over_at of m.triples),
          ap length over.sources,
          length-filter p (upto n),
          count_by-le-length p (upto n),
          length-up_from 0 n,
        )

    pub over_made : o.points.items ≡ points → AreApart o.points.items → length all ≤ most_points → All (λ t. has_three t ≡ true) (triples_of o.triples.items) →
        (IsClosed (all_edges m.triples) → IsClosed (all_edges (triples_of o.triples.items))) → IsOver (place_points (m.points ++ more)) m o
    over_made are apart many three closed =
        subst (λ l. IsOver (place_points l) m o) joined
        (record {
          stored = are;
          triples = stored_are.corners;
          sources = stored_are.numbers_are;
          apart = subst AreApart are apart;
          few_points = omega (arith, many, firsts_few same_point [] all);
          few = omega (arith, few, accepted.mesh.few_triples);
          below = below;
          three = three;
          closed = closed accepted.closed;
        })

-- there are no more numbers than triangles
pub sources_few : (points : List (List ℤ)) (m : Mesh) (o : OverPlaces) → IsOver points m o → length o.sources.items ≤ most_triangles
sources_few points m o over =
    let all = placed_faces points m in
    omega (
      arith,
      ap length over.sources,
      length-map all (λ (f : Face). f.number),
      ap length over.triples,
      length-map all (λ (f : Face). f.corners),
      length-map o.triples.items triple_of,
      over.few,
    )

-- what holds of the corners of all triangles
corners_all : (P : Triple → Type 0) (all : List Face) → All P (map (λ f. f.corners) all) → All (λ f. P f.corners) all
corners_all P all h k d low =
    subst P (get_or-map (λ (f : Face). f.corners) all k d d.corners low) (h k d.corners (omega (arith, low, length-map all (λ (f : Face). f.corners))))

-- a surface over them
module _ (points : List (List ℤ)) (m : Mesh) (s : CutSurface) (over : IsOver points m s.over) where
  abbrev all : List Face
  all = placed_faces points m

  are_placed : ArePlaced points m
  are_placed = faces_are_in_order points m

  abbrev number : Face → ℕ
  number f = f.number

  number_is : (t : ℕ) → t < length all → get_or (map number all) t 0 ≡ number (face_at all t)
  number_is t low = get_or-map number all t no_face 0 low

  sources_many : length s.over.sources.items ≡ length all
  sources_many = ap length over.sources ∙ length-map all number

  triples_many : length s.over.triples.items ≡ length all
  triples_many = sym (length-map s.over.triples.items triple_of) ∙ ap length over.triples ∙ length-map all (λ (f : Face). f.corners)

  label_is : (t : ℕ) → t < length all → label_at m.labels (get_or s.over.sources.items t 0) ≡ (face_at all t).label
  label_is t low =
      ap (label_at m.labels) (ap (λ (l : List ℕ). get_or l t 0) over.sources ∙ number_is t low)
      ∙ sym (All-get_or (IsPlaced points m) all t no_face low are_placed.each).labels

  pub surface_made : HasRims s.over.points.items (triples_of s.over.triples.items) s.cuts → length s.labels.items ≡ length s.over.sources.items →
      ((i j : ℕ) → i < length s.over.sources.items → j < length s.over.sources.items →
      (get_or s.labels.items i 0 ≡ get_or s.labels.items j 0)
      ↔ (label_at m.labels (get_or s.over.sources.items i 0) ≡ label_at m.labels (get_or s.over.sources.items j 0))) →
      length s.planes.faces ≡ s.planes.count + 1 →
      ((fs : List Face) → map (λ f. f.corners) fs ≡ triples_of s.over.triples.items → ArePlanes s.over.points.items fs s.planes) →
      IsSurface points all s
  surface_made rims full same buckets planes = record {
    stored = over.stored;
    corners = over.triples;
    numbers = over.sources;
    order = λ i j less low. omega (arith, are_placed.order i j less low, number_is i (omega (arith, less, low)), number_is j low);
    rims = λ k d low. (are_placed.each k d low).rims;
    cut = λ k d low. corners_all (λ t. cut_rim s.cuts t ≡ rim points t) all rims_are k d low ∙ sym (are_placed.each k d low).rims;
    same = λ i j low high.
        let h = same i j (omega (arith, low, sources_many)) (omega (arith, high, sources_many)) in
        ((λ e. sym (label_is i low) ∙ h.0 e ∙ label_is j high), (λ e. h.1 (label_is i low ∙ e ∙ sym (label_is j high))));
    labelled = full ∙ sources_many;
    planes = subst (λ ps. ArePlanes ps all s.planes) over.stored (planes all (sym over.triples));
    buckets = buckets;
    few_points = over.few_points;
    few = omega (arith, over.few, triples_many);
    below = corners_all (IsBelow (length points)) all (subst (All (IsBelow (length points))) over.triples over.below);
    three = λ k d low. (are_placed.each k d low).three;
  }
    where
      rims_are : All (λ t. cut_rim s.cuts t ≡ rim points t) (map (λ f. f.corners) all)
      rims_are =
          subst (All (λ t. cut_rim s.cuts t ≡ rim points t)) over.triples
          (subst (λ ps. HasRims ps (triples_of s.over.triples.items) s.cuts) over.stored rims)
