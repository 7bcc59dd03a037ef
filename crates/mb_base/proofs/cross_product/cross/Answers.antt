use Rattle.std.proofs.Common.{arith, ◌≡◌, ◌≤◌, ◌^◌, ◌<◌, ◌∙◌, ℕ, zero, suc, ℤ, unsigned_abs, List, [], ◌∷◌, slice_index_or, to_z, of_z}
use Rattle.std.specs.Int.{w128}
use Rattle.mesh_terms.specs.Points.{cross_x, cross_y, cross_z}
use Rattle.mb_base.proofs.Widths.{same_at}
use Rattle.mb_base.proofs.cross_product.cross.Goals as goal

-- a coordinate as it stands after it was kept at 128 bits
kept_is : (r z : ℤ) → r ≡ z → unsigned_abs r ≤ 2 ^ 63 → to_z w128 (of_z w128 r) ≡ z
kept_is r z is small = same_at w128 r (2 ^ 63) small (omega arith) ∙ is

three : (x y z x' y' z' : ℤ) → x ≡ x' → y ≡ y' → z ≡ z' → ◌≡◌ {A = List ℤ} (x ∷ y ∷ z ∷ []) (x' ∷ y' ∷ z' ∷ [])
three x y z x' y' z' e f g = cc

pub returns-clause-value : goal.returns-clause-value
returns-clause-value c =
    let x = c.cross_on.result in
    let y = c.cross_on-2.result in
    let z = c.cross_on-3.result in
    let x' = cross_x c.args.a c.args.b c.args.c in
    let y' = cross_y c.args.a c.args.b c.args.c in
    let z' = cross_z c.args.a c.args.b c.args.c in
    three (to_z w128 (of_z w128 x)) (to_z w128 (of_z w128 y)) (to_z w128 (of_z w128 z)) x' y' z'
    (kept_is x x' c.cross_on.ensures.value c.cross_on.ensures.small)
    (kept_is y y' c.cross_on-2.ensures.value c.cross_on-2.ensures.small)
    (kept_is z z' c.cross_on-3.ensures.value c.cross_on-3.ensures.small)

-- a small number is small after it was kept at 128 bits
kept_small : (x : ℤ) → unsigned_abs x ≤ 2 ^ 63 → unsigned_abs (to_z w128 (of_z w128 x)) ≤ 2 ^ 63
kept_small x h = rw (same_at w128 x (2 ^ 63) h (omega arith)) h

-- three small numbers are small at each place
three_small : (x y z : ℤ) → unsigned_abs x ≤ 2 ^ 63 → unsigned_abs y ≤ 2 ^ 63 → unsigned_abs z ≤ 2 ^ 63 →
    (k : ℕ) → (d : ℤ) → k < 3 → unsigned_abs (slice_index_or (to_z w128 (of_z w128 x) ∷ to_z w128 (of_z w128 y) ∷ to_z w128 (of_z w128 z) ∷ []) k d) ≤ 2 ^ 63
three_small x y z h i j zero d below = kept_small x h
three_small x y z h i j (suc zero) d below = kept_small y i
three_small x y z h i j (suc (suc zero)) d below = kept_small z j
three_small x y z h i j (suc (suc (suc k))) d below = omega (arith, below)

pub returns-clause-small : goal.returns-clause-small
returns-clause-small c =
    three_small c.cross_on.result c.cross_on-2.result c.cross_on-3.result c.cross_on.ensures.small c.cross_on-2.ensures.small c.cross_on-3.ensures.small
