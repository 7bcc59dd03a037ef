-- Points that are read from a list and compared.
use Rattle.std.proofs.Common.{◌≡◌, ◌<◌, ◌&&◌, ℕ, ℤ, Bool, true, false, List, [], get_or, length, refl, ◌∙◌}
use Rattle.std.specs.Ordering.{int_eq}
use Rattle.std.proofs.lemmas.List.{get_or_read}
use Rattle.mesh_terms.specs.Points.{coordinate_of}
use Rattle.tidy_terms.specs.PointTriples.{same_point}

-- the two ways to join three tests
and_three : (x y z : Bool) → (x && (y && z)) ≡ ((x && y) && z)
and_three true y z = refl
and_three false y z = refl

abbrev pub equal_on : ℕ → List ℤ → List ℤ → Bool
equal_on i p q = int_eq (coordinate_of p i) (coordinate_of q i)

-- they compare as the points at their places
pub compared : (points : List (List ℤ)) (i j : ℕ) (p q : List ℤ) → i < length points → j < length points → p ≡ get_or points i p → q ≡ get_or points j q →
    (b : Bool) → b ≡ (equal_on 0 p q && (equal_on 1 p q && equal_on 2 p q)) → b ≡ same_point (get_or points i []) (get_or points j [])
compared points i j p q i_low j_low p_is q_is b eq =
    let x = get_or_read points i p i_low p_is [] in
    let y = get_or_read points j q j_low q_is [] in
    eq ∙ and_three (equal_on 0 p q) (equal_on 1 p q) (equal_on 2 p q) ∙ (λ k. same_point (x k) (y k))
