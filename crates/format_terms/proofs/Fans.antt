-- The triangles of a face: how many there are, and which vertices they name.
use Rattle.std.proofs.Common.{◌≡◌, ℕ, ◌-◌, ◌<◌, Bool, true, false, List, [], ◌∷◌, length, refl, arith}
use Rattle.std.specs.Prelude.{◌==◌, ◌||◌}
use Rattle.std.specs.List.{All, list_any}
use Rattle.std.proofs.lemmas.Bool.Decides.{nat_tests}
use Rattle.std.proofs.lemmas.List.Elements.{All-nil, All-cons, All-head, All-tail}
use Rattle.mesh_terms.specs.Meshes.{HasThree, IsBelow}
use Rattle.format_terms.specs.ObjFaces.{fan_from, face_fan, has_repeat}

-- one triangle for each vertex but the last, after the first
length-fan_from : (a : ℕ) (vs : List ℕ) → length (fan_from a vs) ≡ length vs - 1
length-fan_from a [] = refl
length-fan_from a (b ∷ []) = refl
length-fan_from a (b ∷ c ∷ vs) = omega (arith, length-fan_from a (c ∷ vs))

-- two fewer than vertices
pub length-face_fan : (vs : List ℕ) → length (face_fan vs) ≡ length vs - 2
length-face_fan [] = refl
length-face_fan (a ∷ vs) = omega (arith, length-fan_from a vs)

-- of two tests that fail together each does
or_failed : (a b : Bool) → (a || b) ≡ false → (a ≡ false) × (b ≡ false)
or_failed true b e = absurd (cc)
or_failed false b e = (refl, e)

-- each names three different vertices where no vertex is named twice
three_from : (a : ℕ) (vs : List ℕ) → list_any (λ w. w == a) vs ≡ false → has_repeat vs ≡ false → All HasThree (fan_from a vs)
three_from a [] first rest = All-nil HasThree
three_from a (b ∷ []) first rest = All-nil HasThree
three_from a (b ∷ c ∷ vs) first rest =
    let at_b = or_failed (b == a) (list_any (λ w. w == a) (c ∷ vs)) first in
    let at_c = or_failed (c == a) (list_any (λ w. w == a) vs) at_b.1 in
    let of_b = or_failed (list_any (λ w. w == b) (c ∷ vs)) (has_repeat (c ∷ vs)) rest in
    let of_c = or_failed (c == b) (list_any (λ w. w == b) vs) of_b.0 in
    All-cons HasThree (a, b, c) (fan_from a (c ∷ vs))
    (record { ab = λ p. grind (arith, nat_tests, at_b.0); bc = λ p. grind (arith, nat_tests, of_c.0); ca = λ p. grind (arith, nat_tests, at_c.0) })
    (three_from a (c ∷ vs) at_b.1 of_b.1)

pub face_three : (vs : List ℕ) → has_repeat vs ≡ false → All HasThree (face_fan vs)
face_three [] apart = All-nil HasThree
face_three (a ∷ vs) apart = let p = or_failed (list_any (λ w. w == a) vs) (has_repeat vs) apart in three_from a vs p.0 p.1

-- and its vertices are those of the face
below_from : (n a : ℕ) (vs : List ℕ) → a < n → All (λ v. v < n) vs → All (IsBelow n) (fan_from a vs)
below_from n a [] first rest = All-nil (IsBelow n)
below_from n a (b ∷ []) first rest = All-nil (IsBelow n)
below_from n a (b ∷ c ∷ vs) first rest =
    let later = All-tail (λ v. v < n) b (c ∷ vs) rest in
    All-cons (IsBelow n) (a, b, c) (fan_from a (c ∷ vs))
    (record { a = first; b = All-head (λ v. v < n) b (c ∷ vs) rest; c = All-head (λ v. v < n) c vs later })
    (below_from n a (c ∷ vs) first later)

pub face_below : (n : ℕ) (vs : List ℕ) → All (λ v. v < n) vs → All (IsBelow n) (face_fan vs)
face_below n [] below = All-nil (IsBelow n)
face_below n (a ∷ vs) below = below_from n a vs (All-head (λ v. v < n) a vs below) (All-tail (λ v. v < n) a vs below)
