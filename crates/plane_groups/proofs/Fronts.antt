-- Normals that are some, and keys by their front normals.
use Rattle.std.specs.Prelude.{◌≡◌, ◌<◌, ◌<ℤ◌, ℕ, ℤ, pos, List, [], ◌∷◌, true, false, ◌&&◌, unsigned_abs}
use Rattle.std.specs.Int.{w128}
use Rattle.std.specs.Ordering.{int_eq}
use Rattle.std.specs.Cmp.Lexicographic.{pointwise}
use Rattle.std.proofs.Common.{ap, arith, of_z, refl, subst, sym, to_z, ◌∙◌}
use Rattle.std.proofs.lemmas.Int.{ints}
use Rattle.std.proofs.lemmas.Bool.{and_from, and_parts, false_from_ne_true, true≢false}
use Rattle.mesh_terms.specs.Points.{coordinate_of}
use Rattle.sheet_terms.specs.Cuts.{is_none, scalar}
use Rattle.plane_groups.specs.Keys.{common_of, divisor_of_three}
use Rattle.plane_groups.specs.declared.plane_key.PlaneKey.{PlaneKey}

-- three numbers that are none are equal to three of 0
pub none_equal : (x y z : ℤ) → is_none (x ∷ y ∷ z ∷ []) ≡ true → pointwise int_eq (x ∷ y ∷ z ∷ []) (pos 0 ∷ pos 0 ∷ pos 0 ∷ []) ≡ true
none_equal x y z h =
    let all = and_parts (int_eq x (pos 0) && int_eq y (pos 0)) (int_eq z (pos 0)) h in
    let two = and_parts (int_eq x (pos 0)) (int_eq y (pos 0)) all.0 in
    and_from (int_eq x (pos 0)) (int_eq y (pos 0) && (int_eq z (pos 0) && true)) two.0
    (and_from (int_eq y (pos 0)) (int_eq z (pos 0) && true) two.1 (and_from (int_eq z (pos 0)) true all.1 refl))

-- so a normal that isn't equal to three of 0 is some
pub some_normal : (n : List ℤ) (x y z : ℤ) → n ≡ x ∷ y ∷ z ∷ [] → pointwise int_eq n (pos 0 ∷ pos 0 ∷ pos 0 ∷ []) ≡ false → is_none n ≡ false
some_normal n x y z e h = false_from_ne_true (is_none n) (λ k.
    true≢false (sym (none_equal x y z (ap is_none (sym e) ∙ k)) ∙ ap (λ l. pointwise int_eq l (pos 0 ∷ pos 0 ∷ pos 0 ∷ [])) (sym e) ∙ h))

-- the key of a front normal and the level of a point
pub key_is : (n m a : List ℤ) (l : ℤ) → n ≡ m → l ≡ scalar n a → ◌≡◌ {A = PlaneKey} (record { normal = n; level = l }) (record { normal = m; level = scalar m a })
key_is n m a l e f = rw (f, e) refl

-- a number above 0 is above 0 after it was kept at 128 bits
pub above_kept : (r : ℤ) (g : ℕ) → to_z w128 (of_z w128 r) ≡ r → r ≡ pos g → 0 < g → pos 0 <ℤ to_z w128 (of_z w128 r)
above_kept r g kept is some = subst (λ z. pos 0 <ℤ z) (sym (kept ∙ is)) (omega (arith, ints, some))

-- the greatest common divisor of coordinates as they were read
pub common_read : (n : List ℤ) (x y z : ℤ) → x ≡ coordinate_of n 0 → y ≡ coordinate_of n 1 → z ≡ coordinate_of n 2 →
    divisor_of_three (unsigned_abs x) (unsigned_abs y) (unsigned_abs z) ≡ common_of n
common_read n x y z hx hy hz =
    ap (λ t. divisor_of_three (unsigned_abs t) (unsigned_abs y) (unsigned_abs z)) hx
    ∙ ap (λ t. divisor_of_three (unsigned_abs (coordinate_of n 0)) (unsigned_abs t) (unsigned_abs z)) hy
    ∙ ap (λ t. divisor_of_three (unsigned_abs (coordinate_of n 0)) (unsigned_abs (coordinate_of n 1)) (unsigned_abs t)) hz
