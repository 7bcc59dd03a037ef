-- Coordinates a whole part of the way from one to another, and the points of pairs of edges.
use Rattle.std.proofs.Common.{◌≡◌, ◌<◌, ◌≤◌, ◌^◌, ◌++◌, ◌∙◌, ℕ, ℤ, List, [], true, false, Option, None, Some, IfNone, IfSome, FitsSigned, ap, arith, get_or, length, map, of_z, subst, sym, to_z, w32, w64, ◌+ℤ◌, ◌-ℤ◌, ◌*ℤ◌}
use Rattle.std.specs.Prelude.{int_div, unsigned_abs}
use Rattle.std.specs.Int.{w128}
use Rattle.std.specs.List.{All}
use Rattle.std.specs.Ordering.{int_eq}
use Rattle.std.proofs.Math.Nat.{mul-le-mul}
use Rattle.std.proofs.lemmas.Bool.Decides.{Decides-int_eq}
use Rattle.std.proofs.lemmas.Int.{ints, to_z-of_z, unsigned_abs-mul}
use Rattle.std.proofs.lemmas.List.{append-nil, get_or-map, length-map}
use Rattle.std.proofs.lemmas.List.Elements.{All-push}
use Rattle.face_plane.specs.Planes.{Plane, orient, point_at}
use Rattle.mesh_terms.specs.Points.{IsOnGrid}
use Rattle.sheet_terms.specs.Chains.{cross, crossing_point, grid_point}
use Rattle.plane_chains.specs.EdgeBoxes.{pair_of}
use Rattle.plane_chains.specs.Pairs.{IsCrossingPair, edge_at, option_list}
use Rattle.plane_chains.specs.Parts.{IsPartOf, is_whole_between, part_between}
use Rattle.plane_chains.proofs.GridPoints.{IsTowards, crossing_is, crossing_part, towards, towards_grid, towards_small}
use Rattle.plane_chains.proofs.PairLists.{edge_is}

-- a way as often as a part says is small
pub multiple_small : (x y : ℤ) → unsigned_abs x ≤ 2 ^ 31 → unsigned_abs y ≤ 2 ^ 64 → unsigned_abs (x *ℤ y) ≤ 2 ^ 96
multiple_small x y h k = omega (arith, unsigned_abs-mul x y, mul-le-mul h k)

-- numbers as code shows them
abbrev pub as_32 : ℤ → ℤ
as_32 z = to_z w32 (of_z w32 z)

abbrev pub as_64 : ℤ → ℤ
as_64 z = to_z w64 (of_z w64 z)

abbrev pub as_128 : ℤ → ℤ
as_128 z = to_z w128 (of_z w128 z)

pub grid_shown : (x : ℤ) → IsOnGrid x → as_32 x ≡ x
grid_shown x h = omega (arith, ints, h)

pub grid_kept : (x : ℤ) → IsOnGrid x → IsOnGrid (as_32 x)
grid_kept x h = subst IsOnGrid (sym (grid_shown x h)) h

-- of a product of the way and the part
module _ (from to part whole way product : ℤ) (from_fits : FitsSigned w32 from) (to_fits : FitsSigned w32 to) (part_fits : FitsSigned w128 part) (whole_fits : FitsSigned w128 whole)
    (way_fits : FitsSigned w64 way) (product_fits : FitsSigned w128 product) (way_is : way ≡ as_32 to -ℤ as_32 from) (is : product ≡ as_64 way *ℤ as_128 part) where
  product_is : product ≡ (to -ℤ from) *ℤ part
  product_is =
      is ∙ (λ i. to_z-of_z w64 way way_fits i *ℤ to_z-of_z w128 part part_fits i)
      ∙ ap (λ (w : ℤ). w *ℤ part) (way_is ∙ (λ i. to_z-of_z w32 to to_fits i -ℤ to_z-of_z w32 from from_fits i))

  pub product_small : unsigned_abs way ≤ 2 ^ 31 → unsigned_abs part ≤ 2 ^ 64 → unsigned_abs (as_128 product) ≤ 2 ^ 96
  product_small h k =
      subst (λ (z : ℤ). unsigned_abs z ≤ 2 ^ 96)
      (sym (to_z-of_z w128 product product_fits ∙ is ∙ (λ i. to_z-of_z w64 way way_fits i *ℤ to_z-of_z w128 part part_fits i))) (multiple_small way part h k)

  pub not_whole : int_eq (int_div (as_128 product) (as_128 whole) *ℤ as_128 whole) (as_128 product) ≡ false → is_whole_between part whole from to ≡ false
  not_whole h =
      ap (λ (z : ℤ). int_eq (int_div z whole *ℤ whole) z) (sym (to_z-of_z w128 product product_fits ∙ product_is))
      ∙ ap (λ (d : ℤ). int_eq (int_div (as_128 product) d *ℤ d) (as_128 product)) (sym (to_z-of_z w128 whole whole_fits)) ∙ h

  module _ (q : ℤ) (got : (q ≡ int_div (as_128 product) (as_128 whole)) × (q *ℤ as_128 whole ≡ as_128 product)) (is_part : IsPartOf part whole) (from_grid : IsOnGrid from)
      (to_grid : IsOnGrid to) where
    quotient_is : q ≡ int_div ((to -ℤ from) *ℤ part) whole
    quotient_is = got.0 ∙ (λ i. int_div ((to_z-of_z w128 product product_fits ∙ product_is) i) (to_z-of_z w128 whole whole_fits i))

    whole_is : q *ℤ whole ≡ (to -ℤ from) *ℤ part
    whole_is = ap (λ (d : ℤ). q *ℤ d) (sym (to_z-of_z w128 whole whole_fits)) ∙ got.1 ∙ to_z-of_z w128 product product_fits ∙ product_is

    between : IsTowards (to -ℤ from) q
    between = towards (to -ℤ from) part whole q whole_is is_part

    shown_is : as_32 from +ℤ as_128 q ≡ from +ℤ q
    shown_is = let small = towards_small from to q from_grid to_grid between in omega (arith, ints, from_grid, small)

    pub moved_grid : IsOnGrid (as_32 from +ℤ as_128 q)
    moved_grid = subst IsOnGrid (sym shown_is) (towards_grid from to q from_grid to_grid between)

    pub moved_is : (x : ℤ) → x ≡ as_32 from +ℤ as_128 q → (is_whole_between part whole from to ≡ true) × (as_32 x ≡ from +ℤ part_between part whole from to)
    moved_is x e = (
      (Decides-int_eq (int_div ((to -ℤ from) *ℤ part) whole *ℤ whole) ((to -ℤ from) *ℤ part)).1 (ap (λ (z : ℤ). z *ℤ whole) (sym quotient_is) ∙ whole_is),
      grid_shown x (subst IsOnGrid (sym e) moved_grid) ∙ e ∙ shown_is ∙ ap (λ (z : ℤ). from +ℤ z) quotient_is,
    )

    pub result_grid : (x : ℤ) → x ≡ as_32 from +ℤ as_128 q → IsOnGrid (as_32 x)
    result_grid x e = grid_kept x (subst IsOnGrid (sym e) moved_grid)

-- what is said of shown numbers is said of the numbers
module _ (part whole from to x y : ℤ) (part_fits : FitsSigned w128 part) (whole_fits : FitsSigned w128 whole) (from_fits : FitsSigned w32 from) (to_fits : FitsSigned w32 to) (from_is : from ≡ x)
    (to_is : to ≡ y) where
  pub none_shown : (r : Option ℤ) → IfNone r (is_whole_between (as_128 part) (as_128 whole) (as_32 from) (as_32 to) ≡ false) → IfNone r (is_whole_between part whole x y ≡ false)
  none_shown r h =
      subst (λ (p : ℤ × ℤ × ℤ × ℤ). IfNone r (is_whole_between p.0 p.1 p.2 p.3 ≡ false))
      (λ i. (to_z-of_z w128 part part_fits i, to_z-of_z w128 whole whole_fits i, (to_z-of_z w32 from from_fits ∙ from_is) i, (to_z-of_z w32 to to_fits ∙ to_is) i)) h

  pub some_shown : (r : Option ℤ) →
      IfSome r (λ z. (is_whole_between (as_128 part) (as_128 whole) (as_32 from) (as_32 to) ≡ true) × (z ≡ as_32 from +ℤ part_between (as_128 part) (as_128 whole) (as_32 from) (as_32 to))) →
      IfSome r (λ z. (is_whole_between part whole x y ≡ true) × (z ≡ x +ℤ part_between part whole x y))
  some_shown r h =
      subst (λ (p : ℤ × ℤ × ℤ × ℤ). IfSome r (λ z. (is_whole_between p.0 p.1 p.2 p.3 ≡ true) × (z ≡ p.2 +ℤ part_between p.0 p.1 p.2 p.3)))
      (λ i. (to_z-of_z w128 part part_fits i, to_z-of_z w128 whole whole_fits i, (to_z-of_z w32 from from_fits ∙ from_is) i, (to_z-of_z w32 to to_fits ∙ to_is) i)) h

pub point_shown : (part whole : ℤ) (a b : List ℤ) → FitsSigned w128 part → FitsSigned w128 whole → grid_point (as_128 part) (as_128 whole) a b ≡ grid_point part whole a b
point_shown part whole a b f g = λ i. grid_point (to_z-of_z w128 part f i) (to_z-of_z w128 whole g i) a b

-- where two edges cross, from the turns of the one's ends with the other
module _ (at : Plane) (d e : ℕ × ℕ) (n m k : ℤ) (crosses : cross at d e ≡ true) (n_is : n ≡ orient at e.0 e.1 d.0) (m_is : m ≡ orient at e.0 e.1 d.1)
    (n_fits : FitsSigned w128 n) (m_fits : FitsSigned w128 m) (k_fits : FitsSigned w128 k) (k_is : k ≡ as_128 n -ℤ as_128 m) where
  turn_is : as_128 n ≡ orient at e.0 e.1 d.0
  turn_is = to_z-of_z w128 n n_fits ∙ n_is

  difference_is : as_128 k ≡ orient at e.0 e.1 d.0 -ℤ orient at e.0 e.1 d.1
  difference_is = to_z-of_z w128 k k_fits ∙ k_is ∙ (λ j. turn_is j -ℤ (to_z-of_z w128 m m_fits ∙ m_is) j)

  pub part_of_crossing : IsPartOf (as_128 n) (as_128 k)
  part_of_crossing = subst (λ (p : ℤ × ℤ). IsPartOf p.0 p.1) (λ i. (sym turn_is i, sym difference_is i)) (crossing_part at d e crosses)

  pub point_of_crossing : (points : List (List ℤ)) (p q : List ℤ) (found : List (List ℤ)) → p ≡ point_at points d.0 → q ≡ point_at points d.1 →
      found ≡ grid_point (as_128 n) (as_128 k) p q → found ≡ crossing_point points at d e
  point_of_crossing points p q found p_is q_is made = made ∙ (λ i. grid_point (turn_is i) (difference_is i) (p_is i) (q_is i)) ∙ sym (crossing_is points at d e crosses)

-- a pair by its place in a list
pub crossing_at : (at : Plane) (edges pairs : List (List ℕ)) (k : ℕ) → All (IsCrossingPair at (map pair_of edges)) (map pair_of pairs) → k < length pairs →
    IsCrossingPair at (map pair_of edges) (pair_of (get_or pairs k []))
crossing_at at edges pairs k all low =
    subst (IsCrossingPair at (map pair_of edges)) (get_or-map pair_of pairs k [] (0, 0) low) (all k (0, 0) (omega (arith, low, length-map pairs pair_of)))

pub crossing_first : (at : Plane) (edges : List (List ℕ)) (p : ℕ × ℕ) → IsCrossingPair at (map pair_of edges) p → p.0 < length edges
crossing_first at edges p h = omega (arith, h.one, length-map edges pair_of)

pub crossing_second : (at : Plane) (edges : List (List ℕ)) (p : ℕ × ℕ) → IsCrossingPair at (map pair_of edges) p → p.1 < length edges
crossing_second at edges p h = omega (arith, h.other, length-map edges pair_of)

-- its edges
module _ (at : Plane) (edges : List (List ℕ)) (i j : ℕ) (one : i < length edges) (other : j < length edges) where
  pub crosses_there : cross at (edge_at (map pair_of edges) i) (edge_at (map pair_of edges) j) ≡ true → cross at (pair_of (get_or edges i [])) (pair_of (get_or edges j [])) ≡ true
  crosses_there h = (λ k. cross at (sym (edge_is edges i one) k) (sym (edge_is edges j other) k)) ∙ h

  pub point_there : (points : List (List ℤ)) (found : List (List ℤ)) → found ≡ crossing_point points at (pair_of (get_or edges i [])) (pair_of (get_or edges j [])) →
      found ≡ crossing_point points at (edge_at (map pair_of edges) i) (edge_at (map pair_of edges) j)
  point_there points found h = h ∙ (λ k. crossing_point points at (sym (edge_is edges i one) k) (sym (edge_is edges j other) k))

-- one point more, if there is one
pub grid_more : (found new : List (List ℤ)) (r : Option (List ℤ)) → new ≡ found ++ option_list r → All (All IsOnGrid) found → IfSome r (All IsOnGrid) → All (All IsOnGrid) new
grid_more found new None e all h = subst (All (All IsOnGrid)) (sym (e ∙ append-nil found)) all
grid_more found new (Some x) e all h = subst (All (All IsOnGrid)) (sym e) (All-push (All IsOnGrid) found x all h)

-- the first edge of a pair is one of the edges
pub first_below : (n : ℕ) (pairs : List (List ℕ)) (k : ℕ) → All (λ (p : ℕ × ℕ). p.0 < n) (map pair_of pairs) → k < length pairs → get_or (get_or pairs k []) 0 0 < n
first_below n pairs k all low =
    omega (arith, all k (0, 0) (omega (arith, low, length-map pairs pair_of)), ap (λ (p : ℕ × ℕ). p.0) (get_or-map pair_of pairs k [] (0, 0) low))
