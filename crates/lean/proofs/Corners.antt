-- The list of corners, step by step, and its corners.
use Rattle.std.proofs.Common.{arith, ◌≡◌, ℕ, zero, suc, ◌+◌, ◌<◌, ℤ, pos, Bool, List, [], ◌∷◌, ◌++◌, length, take, get_or, map, min, ap, refl, ◌∙◌}
use Rattle.std.specs.List.{zip}
use Rattle.std.proofs.lemmas.Int.{ints}
use Rattle.std.proofs.lemmas.List.Elements.{All-cons, All-head, All-nil, All-tail}
use Rattle.std.proofs.lemmas.List.{take_more, map_push, take_all, length-map, get_or-map}
use Rattle.std.proofs.lemmas.Slice.Zip.{length-zip, get_or-zip}
use Rattle.mb_base.specs.declared.point.Corner.{Corner}
use Rattle.side_terms.specs.Corners.{corner_at, blank_corner, AllFine, AllWhole, IsFineCorner, IsWholeCorner}
use Rattle.side_terms.specs.Fine.{IsFine}
use Rattle.mesh_terms.specs.Meshes.{Triple}
use Rattle.mesh_terms.specs.Points.{coordinate_of}
use Rattle.side_terms.specs.Sides.{corner_of, corners_of, edge_of, face_of}

-- the corners of the first i points
abbrev pub corners_to : List (List ℤ) → List (List Bool) → ℕ → List Corner
corners_to ps us i = map (λ m. corner_of m.0 m.1) (take i (zip ps us))

-- one point more
pub corners_more :
    (ps : List (List ℤ)) (us : List (List Bool)) (i : ℕ) (p : List ℤ) (u : List Bool) →
    i < length ps → i < length us → p ≡ get_or ps i [] → u ≡ get_or us i [] →
    corners_to ps us (i + 1) ≡ corners_to ps us i ++ corner_of p u ∷ []
corners_more ps us i p u h k e f =
    let n : i < length (zip ps us) = omega (arith, length-zip ps us, h, k) in
    let g : (List ℤ × List Bool) → Corner = λ m. corner_of m.0 m.1 in
    let pair = get_or-zip ps us i ([], []) h k in
    rw (e, f) (ap (map g) (take_more (zip ps us) i ([], []) n) ∙ map_push g (take i (zip ps us)) (get_or (zip ps us) i ([], [])) ∙ ap (λ m. corners_to ps us i ++ g m ∷ []) pair)

-- all of them
pub corners_all :
    (ps : List (List ℤ)) (us : List (List Bool)) (i : ℕ) → i ≡ min (length ps) (length us) → corners_to ps us i ≡ corners_of ps us
corners_all ps us i e = ap (map (λ (m : List ℤ × List Bool). corner_of m.0 m.1)) (take_all i (zip ps us) (omega (arith, length-zip ps us, e)))

-- as many corners as points
pub corners_long : (ps : List (List ℤ)) (us : List (List Bool)) → length us ≡ length ps → length (corners_of ps us) ≡ length ps
corners_long ps us e = length-map (zip ps us) (λ (m : List ℤ × List Bool). corner_of m.0 m.1) ∙ omega (arith, length-zip ps us, e)

-- the corner at a place is that of the point and the marks there
pub corners_at :
    (ps : List (List ℤ)) (us : List (List Bool)) (i : ℕ) → i < length ps → i < length us →
    corner_at (corners_of ps us) i ≡ corner_of (get_or ps i []) (get_or us i [])
corners_at ps us i h k =
    let g : (List ℤ × List Bool) → Corner = λ m. corner_of m.0 m.1 in
    get_or-map g (zip ps us) i ([], []) blank_corner (omega (arith, length-zip ps us, h, k)) ∙ ap g (get_or-zip ps us i ([], []) h k)

-- the corner of a point lies at a grid point
corner_whole : (p : List ℤ) (u : List Bool) → IsWholeCorner (corner_of p u)
corner_whole p u = record {
  x = record { steps = coordinate_of p 0; value = refl };
  y = record { steps = coordinate_of p 1; value = refl };
  z = record { steps = coordinate_of p 2; value = refl };
}

-- so do the corners of all points
whole_each : (ms : List (List ℤ × List Bool)) → AllWhole (map (λ m. corner_of m.0 m.1) ms)
whole_each [] = All-nil IsWholeCorner
whole_each (m ∷ ms) = All-cons IsWholeCorner (corner_of m.0 m.1) (map (λ n. corner_of n.0 n.1) ms) (corner_whole m.0 m.1) (whole_each ms)

pub corners_whole : (ps : List (List ℤ)) (us : List (List Bool)) → AllWhole (corners_of ps us)
corners_whole ps us = whole_each (zip ps us)

-- where all corners of a list are fine, so is the one at any place: past the end it is blank
pub corner_fine : (cs : List Corner) → AllFine cs → (i : ℕ) → IsFineCorner (corner_at cs i)
corner_fine [] h i = record { x = zero_fine; y = zero_fine; z = zero_fine }
  where
    zero_fine : IsFine (pos 0)
    zero_fine = record { low = omega (arith, ints); high = omega (arith, ints) }
corner_fine (c ∷ cs) h zero = All-head IsFineCorner c cs h
corner_fine (c ∷ cs) h (suc i) = corner_fine cs (All-tail IsFineCorner c cs h) i

-- and so are the corners of an edge and of a triangle
pub edge_fine : (cs : List Corner) → AllFine cs → (a b : ℕ) → AllFine (edge_of cs a b)
edge_fine cs h a b =
    All-cons IsFineCorner (corner_at cs a) (corner_at cs b ∷ []) (corner_fine cs h a)
    (All-cons IsFineCorner (corner_at cs b) [] (corner_fine cs h b) (All-nil IsFineCorner))

pub face_fine : (cs : List Corner) → AllFine cs → (t : Triple) → AllFine (face_of cs t)
face_fine cs h t = All-cons IsFineCorner (corner_at cs t.0) (edge_of cs t.1 t.2) (corner_fine cs h t.0) (edge_fine cs h t.1 t.2)
