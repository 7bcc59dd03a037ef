-- The pairing on the line in which two faces cross, with the direction of an axis.
use Rattle.std.proofs.Common.{◌≡◌, ◌≤◌, ℕ, ℤ, zero, suc, Bool, true, false, ◌&&◌, if◌then◌else◌, List, ◌++◌, map, length, ap, ◌∙◌, arith}
use Rattle.std.proofs.lemmas.Int.{ints}
use Rattle.std.specs.Prelude.{int_le}
use Rattle.std.specs.List.{zip}
use Rattle.mb_base.specs.declared.results.Entry.{Entry}
use Rattle.mesh_terms.specs.Points.{coordinate_of}
use Rattle.edge_pairing.specs.Directions.{axis_step}
use Rattle.edge_pairing.specs.Entries.{starts_of, ends_of, place_in, places_of}
use Rattle.edge_pairing.specs.Keys.{key_along}
use Rattle.edge_pairing.specs.Pairing.{scalar_product, spread_on, spread_axis, pair_up, paired_across}
use Rattle.edge_pairing.proofs.Listed.{places_moved, both_counted}
use Rattle.edge_pairing.proofs.Spreads.{spread_axis-permutation}
use Rattle.edge_pairing.proofs.Zips.{pair_up-same, pair_up-single}

-- one of three axes
axis_low : (b d : Bool) → (if b then 0 else if d then 1 else 2) ≤ 2
axis_low true d = omega arith
axis_low false true = omega arith
axis_low false false = omega arith

-- the product with a step along an axis is the coordinate
step_reads : (axis : ℕ) (p : List ℤ) → axis ≤ 2 → scalar_product (axis_step axis) p ≡ coordinate_of p axis
step_reads zero p low = omega (arith, ints)
step_reads (suc zero) p low = omega (arith, ints)
step_reads (suc (suc zero)) p low = omega (arith, ints)
step_reads (suc (suc (suc n))) p low = absurd (omega (arith, low))

-- starts and ends by that product
pub across : (entries : List Entry) (points : List (List ℤ)) (d : List ℤ) (axis : ℕ) → d ≡ axis_step axis → axis ≡ spread_axis (places_of entries points) →
    pair_up (key_along d (place_in points)) (starts_of entries) (ends_of entries) ≡ paired_across (place_in points) (starts_of entries) (ends_of entries)
across entries points d axis along widest =
    let ss = starts_of entries in
    let es = ends_of entries in
    let place = place_in points in
    let ps = places_of entries points in
    let low : axis ≤ 2 = rw widest (axis_low (int_le (spread_on ps 1) (spread_on ps 0) && int_le (spread_on ps 2) (spread_on ps 0)) (int_le (spread_on ps 2) (spread_on ps 1))) in
    let same = widest ∙ spread_axis-permutation ps (map place (ss ++ es)) (places_moved entries points) in
    ap (λ l. pair_up (key_along l place) ss es) along
    ∙ pair_up-same (key_along (axis_step axis) place) (λ v. coordinate_of (place v) axis) ss es (λ v. step_reads axis (place v) low)
    ∙ ap (λ i. pair_up (λ v. coordinate_of (place v) i) ss es) same

-- two entries are one start and one end
pub single : (key : ℕ → ℤ) (entries : List Entry) → length entries ≡ 2 → length (starts_of entries) ≡ length (ends_of entries) →
    pair_up key (starts_of entries) (ends_of entries) ≡ zip (starts_of entries) (ends_of entries)
single key entries two even =
    let all = both_counted entries in
    pair_up-single key (starts_of entries) (ends_of entries) (omega (arith, two, even, all)) (omega (arith, two, even, all))
