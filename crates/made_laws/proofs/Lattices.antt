-- Lattices: the triangles are a solid, the points are on the grid, and how many there are.
use Rattle.std.proofs.Common.{◌≡◌, ◌<◌, ◌≤◌, ◌+◌, ◌*◌, ℕ, zero, suc, ℤ, pos, true, List, [], ◌∷◌, ◌++◌, length, map, refl, sym, ◌∙◌, ap, subst, arith, length-append}
use Rattle.std.specs.Prelude.{◌&&◌, Bool, if◌then◌else◌, Some}
use Rattle.std.specs.List.{flat_map, list_all}
use Rattle.std.proofs.lemmas.Bool.Decides.{nat_tests}
use Rattle.std.proofs.lemmas.Bool.{and_from}
use Rattle.std.proofs.Math.Nat.{mul_assoc}
use Rattle.std.proofs.lemmas.Grind.{flat_map-append}
use Rattle.std.proofs.lemmas.List.{append-nil, append_assoc, length-map}
use Rattle.std.proofs.lemmas.List.Elements.{All-nil}
use Rattle.std.proofs.lemmas.List.Folds.{list_all-append}
use Rattle.chain_terms.specs.Sums.{upto}
use Rattle.chain_laws.proofs.Places.{upto_more}
use Rattle.made_terms.specs.Lattice.{further, boxes_triples, lattice_box, lattice_row, lattice_layer, lattice_points, lattice_triples, lattice_side}
use Rattle.made_terms.specs.Refusals.{is_grid_point, all_on_grid, excess, lattice_fault, Outside}
use Rattle.made_terms.specs.Solids.{point, box_points, box_triples}
use Rattle.text_terms.specs.Numbers.{is_on_grid}
use Rattle.mesh_terms.specs.Limits.{Limits}
use Rattle.mesh_terms.specs.Meshes.{IsAccepted}
use Rattle.made_laws.specs.Solids.{IsSolid}
use Rattle.made_laws.proofs.Points.{is_three}
use Rattle.made_laws.proofs.SolidTests.{box_solid, solid_accepted}
use Rattle.made_laws.proofs.Unions.{solid_union}

-- one more number in front of which all stand
pub flat_map_more : {X : Type 0} (f : ℕ → List X) (n : ℕ) → flat_map f (upto (n + 1)) ≡ flat_map f (upto n) ++ f n
flat_map_more f n = ap (flat_map f) (upto_more n) ∙ flat_map-append f (upto n) (n ∷ []) ∙ ap (λ l. flat_map f (upto n) ++ l) (append-nil (f n))

-- what is pushed once more
pub pushed_more : {X : Type 0} (f : ℕ → List X) (n : ℕ) (old before new : List X) → before ≡ old ++ flat_map f (upto n) → new ≡ before ++ f n →
    new ≡ old ++ flat_map f (upto (n + 1))
pushed_more f n old before new e g = g ∙ ap (λ l. l ++ f n) e ∙ append_assoc old (flat_map f (upto n)) (f n) ∙ ap (λ l. old ++ l) (sym (flat_map_more f n))

-- one more box
pub boxes_more : (n : ℕ) → boxes_triples (n + 1) ≡ boxes_triples n ++ map (further (8 * n)) box_triples
boxes_more n = flat_map_more (λ b. map (further (8 * b)) box_triples) n

-- any number of boxes is a solid
pub boxes_solid : (n : ℕ) → IsSolid (8 * n) (boxes_triples n)
boxes_solid zero = record { three = All-nil _; below = All-nil _; used = λ v low. absurd (omega (arith, low)); closed = λ a b. refl }
boxes_solid (suc n) =
    let one : n + 1 ≡ suc n = omega arith in
    let points : 8 * n + 8 ≡ 8 * suc n = omega arith in
    subst (λ k. IsSolid k (boxes_triples (suc n))) points
    (subst (λ k. IsSolid (8 * n + 8) (boxes_triples k)) one
    (subst (IsSolid (8 * n + 8)) (sym (boxes_more n)) (solid_union (8 * n) 8 (boxes_triples n) box_triples (boxes_solid n) box_solid)))

-- lists that are as long one as another
length-flat_map : {X : Type 0} (f : ℕ → List X) (m : ℕ) → ((k : ℕ) → length (f k) ≡ m) → (n : ℕ) → length (flat_map f (upto n)) ≡ m * n
length-flat_map f m each zero = omega arith
length-flat_map f m each (suc n) =
    let one : suc n ≡ n + 1 = omega arith in
    omega (arith, ap (λ k. length (flat_map f (upto k))) one, ap length (flat_map_more f n), length-append (flat_map f (upto n)) (f n), each n, length-flat_map f m each n)

-- twelve triangles for each box
pub length-boxes : (n : ℕ) → length (boxes_triples n) ≡ 12 * n
length-boxes n = length-flat_map (λ b. map (further (8 * b)) box_triples) 12 (λ b. length-map box_triples (further (8 * b))) n

-- eight points
pub length-lattice : (n seed : ℕ) → length (lattice_points n seed) ≡ 8 * n * n * n
length-lattice n seed =
    length-flat_map (lattice_layer n seed) (8 * n * n) (λ i. length-flat_map (lattice_row n seed i) (8 * n) (λ j. length-flat_map (lattice_box seed i j) 8 (λ k. refl) n) n) n

-- what all of each list pass, all of them one after another pass
passed-flat_map : {X : Type 0} (p : X → Bool) (f : ℕ → List X) (n : ℕ) → ((k : ℕ) → k < n → list_all p (f k) ≡ true) → list_all p (flat_map f (upto n)) ≡ true
passed-flat_map p f zero each = refl
passed-flat_map p f (suc n) each =
    let one : n + 1 ≡ suc n = omega arith in
    let before = flat_map f (upto n) in
    let both = and_from (list_all p before) (list_all p (f n)) (passed-flat_map p f n (λ k low. each k (omega (arith, low)))) (each n (omega arith)) in
    subst (λ k. list_all p (flat_map f (upto k)) ≡ true) one (ap (list_all p) (flat_map_more f n) ∙ list_all-append p before (f n) ∙ both)

-- what all points of each box pass, all points of a lattice pass
passed-lattice : (p : List ℤ → Bool) (n seed : ℕ) → ((i j k : ℕ) → i < n → j < n → k < n → list_all p (lattice_box seed i j k) ≡ true)
    → list_all p (lattice_points n seed) ≡ true
passed-lattice p n seed each =
    passed-flat_map p (lattice_layer n seed) n (λ i a.
    passed-flat_map p (lattice_row n seed i) n (λ j b.
    passed-flat_map p (lattice_box seed i j) n (λ k c. each i j k a b c)))

-- they are rows of three
pub lattice_threes : (n seed : ℕ) → list_all is_three (lattice_points n seed) ≡ true
lattice_threes n seed = passed-lattice is_three n seed (λ i j k a b c. refl)

-- all are on the grid where each is
all_on_grid_is : (ps : List (List ℤ)) → all_on_grid ps ≡ list_all is_grid_point ps
all_on_grid_is [] = refl
all_on_grid_is (p ∷ ps) = ap (λ b. is_grid_point p && b) (all_on_grid_is ps)

-- a small number is on the grid
on_small : (m : ℕ) → m ≤ 10000 → is_on_grid (pos m) ≡ true
on_small m low = grind (arith, nat_tests, low)

-- so is a box between small corners
box_on_grid : (x y z u v w : ℕ) → x ≤ 10000 → y ≤ 10000 → z ≤ 10000 → u ≤ 10000 → v ≤ 10000 → w ≤ 10000 →
    all_on_grid (box_points (point (pos x) (pos y) (pos z)) (point (pos u) (pos v) (pos w))) ≡ true
box_on_grid x y z u v w a b c d e f = rw (on_small x a, on_small y b, on_small z c, on_small u d, on_small v e, on_small w f) refl

-- a box of a lattice is on the grid
pub lattice_box_on_grid : (seed i j k : ℕ) → i < 60 → j < 60 → k < 60 → all_on_grid (lattice_box seed i j k) ≡ true
lattice_box_on_grid seed i j k a b c =
    let side = lattice_side seed i j k in
    let short : side ≤ 40 = omega arith in
    box_on_grid (100 * i) (100 * j) (100 * k) (100 * i + side) (100 * j + side) (100 * k + side) (omega (arith, a)) (omega (arith, b)) (omega (arith, c))
    (omega (arith, a, short)) (omega (arith, b, short)) (omega (arith, c, short))

-- and so are all
pub lattice_on_grid : (n seed : ℕ) → n ≤ 60 → all_on_grid (lattice_points n seed) ≡ true
lattice_on_grid n seed few =
    all_on_grid_is (lattice_points n seed)
    ∙ passed-lattice is_grid_point n seed (λ i j k a b c.
    sym (all_on_grid_is (lattice_box seed i j k)) ∙ lattice_box_on_grid seed i j k (omega (arith, a, few)) (omega (arith, b, few)) (omega (arith, c, few)))

-- any number of boxes that is asked for is accepted
pub boxes_accepted : (n : ℕ) → n ≤ 216000 → IsAccepted (8 * n) (boxes_triples n)
boxes_accepted n few = solid_accepted (8 * n) (boxes_triples n) (boxes_solid n) (omega (arith, few)) (omega (arith, few, length-boxes n))

-- as many points as the boxes have
pub points_of_boxes : (n seed boxes : ℕ) → boxes ≡ n * n * n → length (lattice_points n seed) ≡ 8 * boxes
points_of_boxes n seed boxes is =
    let first : 8 * n * n * n ≡ 8 * (n * n * n) = ap (λ k. k * n) (mul_assoc 8 n n) ∙ mul_assoc 8 (n * n) n in
    length-lattice n seed ∙ first ∙ ap (λ k. 8 * k) (sym is)

-- a lattice is refused for its counts alone
pub lattice_refused : (limits : Limits) (n seed boxes : ℕ) → n ≤ 60 → boxes ≡ n * n * n → lattice_fault limits n seed ≡ excess limits (8 * boxes) (12 * boxes)
lattice_refused limits n seed boxes few is =
    ap (λ (b : Bool). if b then excess limits (length (lattice_points n seed)) (length (lattice_triples n)) else Some Outside) (lattice_on_grid n seed few)
    ∙ ap (λ k. excess limits k (length (lattice_triples n))) (points_of_boxes n seed boxes is)
    ∙ ap (excess limits (8 * boxes)) (length-boxes (n * n * n) ∙ ap (λ k. 12 * k) (sym is))
