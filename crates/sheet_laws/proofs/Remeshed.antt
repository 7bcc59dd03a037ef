-- What remeshing makes of a mesh that a run may hold is again such a mesh.
use Rattle.std.specs.Prelude.{◌≡◌, ℕ, suc, ◌<◌, ◌≤◌, ℤ, List, [], ◌∷◌, ◌++◌, true, false, Bool, cond, get_or, length, sum_by}
use Rattle.std.specs.List.{All, Contains}
use Rattle.std.proofs.Common.{arith, refl, sym, ap, subst, ◌∙◌}
use Rattle.std.proofs.lemmas.Bool.{both_ways, cond_both}
use Rattle.std.proofs.lemmas.List.{get_or-map, length-map}
use Rattle.std.proofs.lemmas.List.Elements.{All-cons, All-contains, All-contains_itself, All-head, All-map, All-nil, All-tail, All-weaker}
use Rattle.chain_laws.specs.Sums.{total-map, total-same_all}
use Rattle.face_plane.specs.Planes.{point_at}
use Rattle.mesh_terms.specs.Given.{IsGiven}
use Rattle.mesh_terms.specs.Labels.{AreLabels, IsLabel}
use Rattle.mesh_terms.specs.Limits.{most_triangles}
use Rattle.mesh_terms.specs.Meshes.{HasThree, IsBelow, Mesh, Soup, Triple, is_used, new_number, renumbered, soup_of, used_from}
use Rattle.mesh_terms.specs.Points.{IsPoint}
use Rattle.mesh_terms.specs.Volume.{determinant, triangle_determinant, volume6_of}
use Rattle.pinch_split.specs.Back.{named_by}
use Rattle.pinch_split.proofs.Corners.{length-corners}
use Rattle.tidy_laws.proofs.Numbered.{closed_numbered, volume_numbered}
use Rattle.unused_points.proofs.KeptMesh.{length-kept, numbered}
use Rattle.unused_points.proofs.Numbers.{AreUsed, all_used, number_below, number_known}
use Rattle.fan_laws.specs.Fanned.{IsFanned}
use Rattle.fan_laws.specs.Laws.{CanPart}
use Rattle.fan_laws.proofs.Fanned.{fanned_is_clean}
use Rattle.sheet_terms.specs.Crossings.{all_points}
use Rattle.sheet_terms.specs.Faces.{Face, faces, planes}
use Rattle.sheet_terms.specs.Remesh.{Remeshed, fanned, new_labels, new_triples}
use Rattle.sheet_terms.specs.Twins.{twins_by_angle}
use Rattle.sheet_terms.specs.Vertices.{fans_by, settled}
use Rattle.sheet_laws.specs.Promises.{IsRemeshed, RemeshedIsGiven, is_taken}
use Rattle.sheet_laws.proofs.Corners.{IsOn}
use Rattle.sheet_laws.proofs.FacesOn.{faces_labelled, rims_below}
use Rattle.sheet_laws.proofs.FewPoints.{few_of}
use Rattle.sheet_laws.proofs.KeptFew.{kept_of}
use Rattle.sheet_laws.proofs.NewTriples.{as_many_labels, gs, new_closed, new_labelled, new_on, new_three, ss}
use Rattle.sheet_laws.proofs.OnGrid.{all_on}
use Rattle.sheet_laws.proofs.Standing.{all_over}
use Rattle.sheet_laws.proofs.Volumes.{volume_kept}

-- what holds of all points holds of those that are used
used_all : (P : List ℤ → Type 0) (ts : List Triple) (v : ℕ) (points : List (List ℤ)) → All P points → All P (used_from ts v points)
used_all P ts v [] all = All-nil P
used_all P ts v (p ∷ ps) all =
    let rest = used_all P ts (suc v) ps (All-tail P p ps all) in
    cond_both (is_used ts v) (p ∷ []) [] (λ l. All P (l ++ used_from ts (suc v) ps)) (λ _. All-cons P p (used_from ts (suc v) ps) (All-head P p ps all) rest) (λ _. rest)

-- as many triples under new numbers
length-renumbered : (ts : List Triple) → length (renumbered ts) ≡ length ts
length-renumbered ts = length-map {B = Triple} ts (numbered ts)

-- so has the mesh with one vertex for each fan
length-fanned : (s : Soup) → length (fanned s).triples ≡ length s.triples
length-fanned s =
    let n = length s.points in
    length-corners (λ h. get_or (fans_by n s.triples (settled n s.triples (twins_by_angle s.points s.triples))).of h 0) (length s.triples)

-- without the points that none of them uses, triangles can be parted as before: how many points there were does not matter
without_unused : (points : List (List ℤ)) (ts : List Triple) → CanPart (length points) ts → CanPart (length (used_from ts 0 points)) (renumbered ts)
without_unused points ts can = record {
  three = All-map HasThree (numbered ts) ts (λ k d low. three (get_or ts k d) (all_used ts k d low) (can.three k d low));
  below = All-map (IsBelow (length (used_from ts 0 points))) (numbered ts) ts
      (λ k d low. subst (λ n. IsBelow n (numbered ts (get_or ts k d))) (sym (length-kept ts points)) (below (get_or ts k d) (all_used ts k d low) (can.below k d low)));
  closed = closed_numbered points ts can.three can.closed can.below;
  few_triples = omega (arith, length-renumbered ts, can.few_triples);
}
  where
    three : (t : Triple) → AreUsed ts t → HasThree t → HasThree (numbered ts t)
    three t used is = record {
      ab = λ e. is.ab (number_known ts t.0 t.1 used.a used.b e);
      bc = λ e. is.bc (number_known ts t.1 t.2 used.b used.c e);
      ca = λ e. is.ca (number_known ts t.2 t.0 used.c used.a e);
    }

    below : (t : Triple) → AreUsed ts t → IsBelow (length points) t → IsBelow (new_number ts (length points)) (numbered ts t)
    below t used is = record {
      a = number_below ts t.0 (length points) is.a used.a;
      b = number_below ts t.1 (length points) is.b used.b;
      c = number_below ts t.2 (length points) is.c used.c;
    }

-- triangles over points, with one vertex for each fan
module _ (points : List (List ℤ)) (ts : List Triple) (labels : List (List ℕ)) (on : All IsPoint points) (can : CanPart (length points) ts)
    (are : AreLabels (length ts) labels) where
  abbrev soup : Soup
  soup = soup_of points ts labels

  parts : IsFanned soup (fanned soup)
  parts = fanned_is_clean soup (without_unused points ts can)

  as_many : length (fanned soup).triples ≡ length ts
  as_many = length-fanned soup ∙ length-renumbered ts

  pub made_given : IsGiven (fanned soup)
  made_given = record {
    accepted = parts.accepted;
    on_grid = subst (All IsPoint) (sym parts.places)
        (All-map IsPoint (point_at soup.points) parts.from
        (All-weaker (λ v. v < length soup.points) (λ v. IsPoint (point_at soup.points v)) (λ v low. used_all IsPoint ts 0 points on v [] low) parts.from parts.below));
    labels = subst (λ n. AreLabels n labels) (sym as_many) are;
  }

  -- each vertex lies where the one lies from which it comes
  lies : (t : Triple) → IsBelow (length (fanned soup).points) t → triangle_determinant (fanned soup).points t ≡ triangle_determinant soup.points (named_by parts.from t)
  lies t low = let a = at t.0 low.a in let b = at t.1 low.b in let c = at t.2 low.c in λ i. determinant (a i) (b i) (c i)
    where
      at : (v : ℕ) → v < length (fanned soup).points → get_or (fanned soup).points v [] ≡ get_or soup.points (get_or parts.from v 0) []
      at v low =
          ap (λ l. get_or l v []) parts.places
          ∙ get_or-map (point_at soup.points) parts.from v 0 [] (omega (arith, low, ap length parts.places, length-map parts.from (point_at soup.points)))

  -- so the volume stays
  pub made_volume : volume6_of (fanned soup).points (fanned soup).triples ≡ volume6_of points ts
  made_volume =
      let ws = (fanned soup).triples in
      let n = length (fanned soup).points in
      total-same_all (triangle_determinant (fanned soup).points) (λ t. triangle_determinant soup.points (named_by parts.from t)) ws
      (All-weaker (IsBelow n) (λ t. triangle_determinant (fanned soup).points t ≡ triangle_determinant soup.points (named_by parts.from t)) lies ws parts.accepted.mesh.below)
      ∙ sym (total-map (triangle_determinant soup.points) (named_by parts.from) ws) ∙ ap (volume6_of soup.points) parts.back
      ∙ volume_numbered points ts can.three can.closed can.below

-- triangles that fill the planes of a mesh can be parted
module _ (m : Mesh) (given : IsGiven m) where
  abbrev points : List (List ℤ)
  points = all_points m

  abbrev fs : List Face
  fs = faces points m

  abbrev new : List Triple
  new = new_triples (gs points fs)

  abbrev labels : List (List ℕ)
  labels = new_labels (gs points fs)

  below : All (IsBelow (length m.points)) m.triples
  below = given.accepted.mesh.below

  grid : All IsPoint points
  grid = all_on m below given.on_grid

  can : is_taken m ≡ true → length new ≤ most_triangles → CanPart (length points) new
  can sound few = record {
    three = new_three points fs sound;
    below = All-weaker (IsOn (λ v. v < length points)) (IsBelow (length points)) (λ t is. record { a = is.a; b = is.b; c = is.c }) new
        (new_on points fs sound (λ v. v < length points) (rims_below points m (all_over m) below));
    closed = new_closed points fs sound;
    few_triples = few;
  }

  -- their labels are those of the mesh
  own_labels : All (Contains m.labels) labels
  own_labels = new_labelled points fs (Contains m.labels) (faces_labelled (Contains m.labels) points m given.labels.one_each (All-contains_itself m.labels))

  are_labels : AreLabels (length new) labels
  are_labels = record {
    one_each = as_many_labels (gs points fs);
    each = All-weaker (Contains m.labels) IsLabel (λ l inside. All-contains IsLabel m.labels l given.labels.each inside) labels own_labels;
  }

  abbrev taken : Remeshed
  taken = record { mesh = fanned (soup_of points new labels); planes = length (planes points fs); kept = sum_by (λ s. s.kept) (ss points fs) }

  abbrev untouched : Remeshed
  untouched = record { mesh = m; planes = length (planes points fs); kept = length m.triples }

  apart : is_taken m ≡ true → is_taken m ≡ false → ⊥
  apart sound out = both_ways (is_taken m) out sound

  -- the filling is taken
  taken_is : is_taken m ≡ true → length taken.mesh.triples ≤ most_triangles → IsRemeshed m taken
  taken_is sound few =
      let fewer : length new ≤ most_triangles = omega (arith, few, length-fanned (soup_of points new labels), length-renumbered new) in
      let ready = can sound fewer in
      let is = parts points new labels grid ready are_labels in
      record {
        given = made_given points new labels grid ready are_labels;
        few_points = is.few;
        volume = made_volume points new labels grid ready are_labels ∙ volume_kept points m sound (all_over m) below;
        labels = own_labels;
        kept = kept_of points m;
        parted = λ _. record { clean = is.clean; once = is.once };
        left = λ out. absurd (apart sound out);
      }

  -- it is not
  untouched_is : is_taken m ≡ false → IsRemeshed m untouched
  untouched_is out = record {
    given = given;
    few_points = few_of m.points m.triples given.accepted;
    volume = refl;
    labels = All-contains_itself m.labels;
    kept = omega arith;
    parted = λ sound. absurd (apart sound out);
    left = λ _. (refl, refl);
  }

pub remeshed_is_given : RemeshedIsGiven
remeshed_is_given m given = by (is_taken m) refl
  where
    by : (b : Bool) → is_taken m ≡ b → length (cond b (taken m given) (untouched m given)).mesh.triples ≤ most_triangles →
        IsRemeshed m (cond b (taken m given) (untouched m given))
    by true sound few = taken_is m given sound few
    by false out few = untouched_is m given out
