-- Rows on the grid: all of them, the rest of them, and one of them.
use Rattle.std.proofs.Common.{◌≡◌, ◌<◌, ◌≤◌, ◌+◌, ◌^◌, ℕ, zero, suc, ℤ, ◌+ℤ◌, ◌*ℤ◌, pos, unsigned_abs, Bool, true, false, List, [], ◌∷◌, length, get_or, drop, map, refl, ◌∙◌, ap, arith, to_z, of_z}
use Rattle.std.specs.Prelude.{if◌then◌else◌, Option, Some, None}
use Rattle.std.specs.Int.{w64}
use Rattle.std.proofs.lemmas.Bool.{and_parts}
use Rattle.std.proofs.lemmas.Int.{ints, to_z-of_z, fits_signed_mul}
use Rattle.made_terms.specs.Refusals.{is_grid_point, all_on_grid}

-- where all moved rows are on the grid, each is
pub on_grid_at : (f : List ℤ → List ℤ) (ps : List (List ℤ)) (i : ℕ) → all_on_grid (map f ps) ≡ true → i < length ps → is_grid_point (f (get_or ps i [])) ≡ true
on_grid_at f [] i all low = absurd (omega (arith, low))
on_grid_at f (p ∷ ps) zero all low = (and_parts (is_grid_point (f p)) (all_on_grid (map f ps)) all).0
on_grid_at f (p ∷ ps) (suc i) all low = on_grid_at f ps i (and_parts (is_grid_point (f p)) (all_on_grid (map f ps)) all).1 (omega (arith, low))

-- the same of rows as they stand
pub row_on_grid : (ps : List (List ℤ)) (i : ℕ) → all_on_grid ps ≡ true → i < length ps → is_grid_point (get_or ps i []) ≡ true
row_on_grid [] i all low = absurd (omega (arith, low))
row_on_grid (p ∷ ps) zero all low = (and_parts (is_grid_point p) (all_on_grid ps) all).0
row_on_grid (p ∷ ps) (suc i) all low = row_on_grid ps i (and_parts (is_grid_point p) (all_on_grid ps) all).1 (omega (arith, low))

-- one row further
further : (f : List ℤ → List ℤ) (i : ℕ) (p : List ℤ) (ps : List (List ℤ)) → all_on_grid (map f (drop (i + 1) ps)) ≡ all_on_grid (map f (drop (suc i + 1) (p ∷ ps)))
further f i p ps = let one : suc (i + 1) ≡ suc i + 1 = omega arith in ap (λ k. all_on_grid (map f (drop k (p ∷ ps)))) one

-- where the first rows are on the grid, all are so far as the rest is
pub rest_decides : (f : List ℤ → List ℤ) (ps : List (List ℤ)) (i : ℕ) → i < length ps → is_grid_point (f (get_or ps i [])) ≡ true →
    all_on_grid (map f (drop i ps)) ≡ all_on_grid (map f (drop (i + 1) ps))
rest_decides f [] i low is = absurd (omega (arith, low))
rest_decides f (p ∷ ps) zero low is = rw is refl
rest_decides f (p ∷ ps) (suc i) low is =
    rest_decides f ps i (omega (arith, low)) is ∙ further f i p ps

-- where one is not, not all are
pub one_decides : (f : List ℤ → List ℤ) (ps : List (List ℤ)) (i : ℕ) → i < length ps → is_grid_point (f (get_or ps i [])) ≡ false → all_on_grid (map f (drop i ps)) ≡ false
one_decides f [] i low is = absurd (omega (arith, low))
one_decides f (p ∷ ps) zero low is = rw is refl
one_decides f (p ∷ ps) (suc i) low is = one_decides f ps i (omega (arith, low)) is

-- a row is a row of equal coordinates
pub three : (x y z u v w : ℤ) → x ≡ u → y ≡ v → z ≡ w → ◌≡◌ {A = List ℤ} (x ∷ y ∷ z ∷ []) (u ∷ v ∷ w ∷ [])
three x y z u v w e f g = cc

-- a sum of small numbers, as it stands after it was kept at 64 bits
pub kept_sum : (x y : ℤ) → unsigned_abs x ≤ 2 ^ 30 → unsigned_abs y ≤ 2 ^ 31 → to_z w64 (of_z w64 (to_z w64 (of_z w64 x) +ℤ to_z w64 (of_z w64 y))) ≡ x +ℤ y
kept_sum x y h k = omega (arith, ints, h, k)

-- a small number, as it stands after it was kept
pub kept : (x : ℤ) → unsigned_abs x ≤ 2 ^ 60 → to_z w64 (of_z w64 x) ≡ x
kept x h = omega (arith, ints, h)

-- a product with a small factor, as it stands after it was kept
pub kept_product : (f : ℤ) (n : ℕ) (x p : ℤ) → f ≡ pos n → n ≤ 1000000 → x ≡ p → unsigned_abs p ≤ 2 ^ 30 →
    to_z w64 (of_z w64 (to_z w64 (of_z w64 f) *ℤ to_z w64 (of_z w64 x))) ≡ pos n *ℤ p
kept_product f n x p is few same small =
    let e : to_z w64 (of_z w64 f) ≡ pos n = omega (arith, ints, is, few) in
    let g : to_z w64 (of_z w64 x) ≡ p = omega (arith, ints, same, small) in
    ap (λ z. to_z w64 (of_z w64 (z *ℤ to_z w64 (of_z w64 x)))) e ∙ ap (λ z. to_z w64 (of_z w64 (pos n *ℤ z))) g
    ∙ to_z-of_z w64 (pos n *ℤ p) (fits_signed_mul w64 (pos n) p (2 ^ 20) (2 ^ 30) (omega (arith, few)) small (omega arith))

-- a row on the grid has a point
pub has_point : (row p : List ℤ) (o : Option (List ℤ)) → o ≡ (if is_grid_point row then Some row else None) → row ≡ p → is_grid_point p ≡ true → o ≡ None → ⊥
has_point row p o is same on none =
    let e : is_grid_point row ≡ true = ap is_grid_point same ∙ on in
    let f : o ≡ Some row = is ∙ ap (λ (b : Bool). if b then Some row else None) e in
    cc

-- which is that row
pub point_is : (row p q : List ℤ) (o : Option (List ℤ)) → o ≡ (if is_grid_point row then Some row else None) → row ≡ p → is_grid_point p ≡ true → o ≡ Some q → q ≡ p
point_is row p q o is same on some =
    let e : is_grid_point row ≡ true = ap is_grid_point same ∙ on in
    let f : o ≡ Some row = is ∙ ap (λ (b : Bool). if b then Some row else None) e in
    cc
