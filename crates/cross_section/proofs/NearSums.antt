-- Sums over edges: of those near an area, and edge by edge.
use Rattle.std.proofs.Common.{◌≡◌, ◌<◌, ◌≤◌, ◌+◌, ℕ, ℤ, pos, ◌+ℤ◌, ◌≤ℤ◌, false, Bool, cond, List, length, nat_abs, refl, sym, ap, subst, arith, ◌∙◌}
use Rattle.std.specs.List.{All, filter}
use Rattle.std.specs.List.Sorted.{IsPermutation}
use Rattle.std.proofs.lemmas.Bool.{cond_both}
use Rattle.std.proofs.lemmas.Int.{ints}
use Rattle.std.proofs.lemmas.List.Sorted.{All-permutation, length_permutation}
use Rattle.chain_terms.specs.Sums.{total, upto}
use Rattle.chain_laws.specs.Sums.{total-permutation}
use Rattle.chain_laws.proofs.Ascending.{total-filter}
use Rattle.chain_laws.proofs.Places.{total-places, total-upto_same, total-upto_more}
use Rattle.mb_base.specs.declared.point.Box3.{Box3}
use Rattle.mb_base.specs.declared.point.Corner.{Corner}
use Rattle.box_tree.specs.Touching.{box_at, touches, touching_numbers}
use Rattle.box_tree.proofs.NearNumbers.{touching_below, touching_few}
use Rattle.outline_pair_terms.specs.Numbers.{FlatSide, edge_at, ends_of}
use Rattle.cross_section.specs.Sides.{edge_boxes}
use Rattle.cross_section.proofs.NearHits.{many_boxes}

-- a sum over the edges by their places
pub by_places : (side : FlatSide) (part : List Corner → ℤ) →
    total (λ k. part (ends_of side (edge_at side k))) (upto (length side.edges)) ≡ total (λ e. part (ends_of side e)) side.edges
by_places side part = sym (total-places (λ (e : ℕ × ℕ). part (ends_of side e)) (0, 0) side.edges)

-- edges that are near an area, in any order
module _ (side : FlatSide) (area : Box3) (near : List ℕ) (moved : IsPermutation (touching_numbers (edge_boxes side) area) near) where
  pub near_below : All (λ k. k < length side.edges) near
  near_below = All-permutation (λ k. k < length side.edges) (touching_numbers (edge_boxes side) area) near moved
      (subst (λ n. All (λ k. k < n) (touching_numbers (edge_boxes side) area)) (many_boxes side) (touching_below (edge_boxes side) area))

  pub near_few : length near ≤ length side.edges
  near_few = omega (arith, length_permutation (touching_numbers (edge_boxes side) area) near moved, touching_few (edge_boxes side) area, many_boxes side)

  -- where no other edge has a part, they have all of the sum
  pub near_total : (part : List Corner → ℤ) → ((k : ℕ) → k < length side.edges → touches (box_at (edge_boxes side) k) area ≡ false → part (ends_of side (edge_at side k)) ≡ pos 0) →
      total (λ k. part (ends_of side (edge_at side k))) near ≡ total (λ e. part (ends_of side e)) side.edges
  near_total part none =
      let n = length side.edges in
      let value : ℕ → ℤ = λ k. part (ends_of side (edge_at side k)) in
      let p : ℕ → Bool = λ k. touches (box_at (edge_boxes side) k) area in
      let each : (k : ℕ) → k < n → cond (p k) (value k) (pos 0) ≡ value k = λ k below. cond_both
      (p k) (value k) (pos 0) (λ z. z ≡ value k) (λ y. refl) (λ far. sym (none k below far)) in
      total-permutation value (touching_numbers (edge_boxes side) area) near moved
      ∙ ap (λ m. total value (filter p (upto m))) (many_boxes side)
      ∙ total-filter value p (upto n)
      ∙ total-upto_same (λ k. cond (p k) (value k) (pos 0)) value n each
      ∙ by_places side part

-- one part more
pub one_more : (f : ℕ → ℤ) (n : ℕ) (sum part : ℤ) → sum ≡ total f (upto n) → part ≡ f n → (sum +ℤ part) ≡ total f (upto (n + 1))
one_more f n sum part e h = omega (arith, ints, total-upto_more f n, e, h)

-- one part less to come
pub one_less : (sum part rest all whole : ℤ) → all ≡ part +ℤ rest → (sum +ℤ all) ≡ whole → ((sum +ℤ part) +ℤ rest) ≡ whole
one_less sum part rest all whole e h = omega (arith, ints, e, h)

-- a number between minus a count and the count is no greater in size
pub size_of : (z : ℤ) (n : ℕ) → (pos 0 ≤ℤ (z +ℤ pos n)) → z ≤ℤ pos n → nat_abs z ≤ n
size_of z n low high = omega (arith, ints, low, high)
