-- Signs decide whether two triangles cut one another.
use Rattle.std.specs.Prelude.{◌≡◌, ◌⊎◌, Bool, true, false, not, ◌&&◌, ◌||◌}
use Rattle.std.proofs.Common.{refl, inl, inr, ap}
use Rattle.plane_laws.specs.Decisions.{face_normal}
use Rattle.inspection_terms.specs.Cuts.{AreCutting, AreOnSamePlaces, EdgeMeets}
use Rattle.inspection_terms.specs.Inspected.{has_corner}
use Rattle.inspection_terms.specs.Triangles.{Corners, is_flat}
use Rattle.inspection_laws.specs.Signs.{are_cutting, are_on_same_places, cut, reaches, seen_along}
use Rattle.inspection_laws.proofs.Edges.{reaches_meets, meets_reaches}
use Rattle.inspection_laws.proofs.Seen.{seen}
use Rattle.inspection_laws.proofs.Spread.{spread}
use Rattle.inspection_laws.proofs.Tests.{both, and, either, or_left, or_right, is_not, corner_yes, yes_corner}

-- the same places
same_holds : (t o : Corners) → are_on_same_places t o ≡ true → AreOnSamePlaces t o
same_holds t o e =
    let h = both (has_corner o t.0 && has_corner o t.1) (has_corner o t.2) e in
    let k = both (has_corner o t.0) (has_corner o t.1) h.0 in
    record { a = yes_corner o t.0 k.0; b = yes_corner o t.1 k.1; c = yes_corner o t.2 h.1 }

same_tells : (t o : Corners) → AreOnSamePlaces t o → are_on_same_places t o ≡ true
same_tells t o h = and _ _ (and _ _ (corner_yes o t.0 h.a) (corner_yes o t.1 h.b)) (corner_yes o t.2 h.c)

-- where they say that triangles cut one another, they do
pub cut_holds : (t o : Corners) → is_flat t ≡ false → is_flat o ≡ false → cut t o ≡ true → AreOnSamePlaces t o ⊎ (EdgeMeets t o ⊎ EdgeMeets o t)
cut_holds t o ft fo e = by (either (are_on_same_places t o || reaches t o) (reaches o t) e) where
  first : (are_on_same_places t o ≡ true) ⊎ (reaches t o ≡ true) → AreOnSamePlaces t o ⊎ (EdgeMeets t o ⊎ EdgeMeets o t)
  first (inl h) = inl (same_holds t o h)
  first (inr h) = inr (inl (reaches_meets (seen_along (face_normal o.0 o.1 o.2)) t o (spread t ft) (seen o fo) h))

  by : ((are_on_same_places t o || reaches t o) ≡ true) ⊎ (reaches o t ≡ true) → AreOnSamePlaces t o ⊎ (EdgeMeets t o ⊎ EdgeMeets o t)
  by (inl h) = first (either (are_on_same_places t o) (reaches t o) h)
  by (inr h) = inr (inr (reaches_meets (seen_along (face_normal t.0 t.1 t.2)) o t (spread o fo) (seen t ft) h))

-- where triangles cut one another, they say so
pub cut_tells : (t o : Corners) → is_flat t ≡ false → is_flat o ≡ false → AreOnSamePlaces t o ⊎ (EdgeMeets t o ⊎ EdgeMeets o t) → cut t o ≡ true
cut_tells t o ft fo (inl h) = or_left _ _ (or_left _ _ (same_tells t o h))
cut_tells t o ft fo (inr (inl h)) =
    or_left (are_on_same_places t o || reaches t o) _ (or_right (are_on_same_places t o) _
    (meets_reaches (seen_along (face_normal o.0 o.1 o.2)) t o (spread t ft) (spread o fo) (seen o fo) h))
cut_tells t o ft fo (inr (inr h)) =
    or_right (are_on_same_places t o || reaches t o) _ (meets_reaches (seen_along (face_normal t.0 t.1 t.2)) o t (spread o fo) (spread t ft) (seen t ft) h)

-- so the test holds where two triangles cut one another, and nowhere else
pub cutting_holds : (t o : Corners) → are_cutting t o ≡ true → AreCutting t o
cutting_holds t o e =
    let h = both (not (is_flat t) && not (is_flat o)) (cut t o) e in
    let k = both (not (is_flat t)) (not (is_flat o)) h.0 in
    record { first = is_not _ k.0; second = is_not _ k.1; common = cut_holds t o (is_not _ k.0) (is_not _ k.1) h.1 }

pub cutting_tells : (t o : Corners) → AreCutting t o → are_cutting t o ≡ true
cutting_tells t o h = and _ _ (and _ _ (ap not h.first) (ap not h.second)) (cut_tells t o h.first h.second h.common)
