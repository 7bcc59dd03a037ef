-- The heights of segments as boxes.
use Rattle.std.proofs.Common.{arith, ◌≡◌, ℕ, ◌+◌, ◌<◌, ◌≤◌, ◌^◌, ℤ, pos, ◌*ℤ◌, ◌≤ℤ◌, List, [], ◌∷◌, ◌++◌, get_or, length, map, take, unsigned_abs, sym, ap, ◌∙◌}
use Rattle.std.specs.Int.{int_min, int_max}
use Rattle.std.proofs.lemmas.Int.{ints, clamps}
use Rattle.std.proofs.lemmas.List.{map-append, take_more}
use Rattle.box_tree.specs.Touching.{IsBox}
use Rattle.mb_base.specs.declared.point.Box3.{Box3}
use Rattle.face_plane.specs.Planes.{Plane}
use Rattle.plane_chains.specs.EdgeBoxes.{pair_of}
use Rattle.plane_sheets.specs.Boxed.{shadow_of, shadows_of}
use Rattle.plane_sheets.proofs.Kept.{kept}

-- a doubled number fits
pub doubled : (m n : ℤ) → m ≡ n → unsigned_abs n ≤ 2 ^ 30 → kept (pos 2 *ℤ kept m) ≡ pos 2 *ℤ n
doubled m n e h = omega (arith, ints, e, h)

-- the lesser and the greater of two are no larger in size
pub small_min : (x y : ℤ) → unsigned_abs x ≤ 2 ^ 30 → unsigned_abs y ≤ 2 ^ 30 → unsigned_abs (int_min x y) ≤ 2 ^ 30
small_min x y h k = omega (arith, ints, clamps, h, k)

pub small_max : (x y : ℤ) → unsigned_abs x ≤ 2 ^ 30 → unsigned_abs y ≤ 2 ^ 30 → unsigned_abs (int_max x y) ≤ 2 ^ 30
small_max x y h k = omega (arith, ints, clamps, h, k)

-- the lower end is no higher than the upper one
pub shadow_box : (p q : ℤ × ℤ) → IsBox (shadow_of p q)
shadow_box p q = record { x = low p.1 q.1; y = omega (arith, ints); z = omega (arith, ints) }
  where
    low : (x y : ℤ) → (pos 2 *ℤ int_min x y) ≤ℤ (pos 2 *ℤ int_max x y)
    low x y = omega (arith, ints, clamps)

-- one edge more
shadows_more : (at : Plane) (rows : List (List ℕ)) (i : ℕ) → i < length rows → shadows_of at (map pair_of (take (i + 1) rows))
    ≡ shadows_of at (map pair_of (take i rows)) ++ shadow_of (at (get_or (get_or rows i []) 0 0)) (at (get_or (get_or rows i []) 1 0)) ∷ []
shadows_more at rows i below =
    ap (λ l. shadows_of at (map pair_of l)) (take_more rows i [] below) ∙ ap (shadows_of at) (map-append pair_of (take i rows) (get_or rows i [] ∷ []))
    ∙ map-append (λ (e : ℕ × ℕ). shadow_of (at e.0) (at e.1)) (map pair_of (take i rows)) (pair_of (get_or rows i []) ∷ [])

pub shadow_pushed : (at : Plane) (rows : List (List ℕ)) (i : ℕ) (old new : List Box3) (r : Box3) (p q : ℤ × ℤ) → i < length rows → new ≡ old ++ r ∷ [] →
    old ≡ shadows_of at (map pair_of (take i rows)) → r ≡ shadow_of p q → p ≡ at (get_or (get_or rows i []) 0 0) → q ≡ at (get_or (get_or rows i []) 1 0) →
    new ≡ shadows_of at (map pair_of (take (i + 1) rows))
shadow_pushed at rows i old new r p q below grown before value from to =
    grown ∙ ap (λ l. l ++ r ∷ []) before
    ∙ ap (λ (b : Box3). shadows_of at (map pair_of (take i rows)) ++ b ∷ []) (value ∙ ap (λ x. shadow_of x q) from ∙ ap (shadow_of (at (get_or (get_or rows i []) 0 0))) to)
    ∙ sym (shadows_more at rows i below)
