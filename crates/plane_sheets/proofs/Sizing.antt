-- How large the numbers of the edges that are near are all together.
use Rattle.std.proofs.Common.{arith, ◌≡◌, ℕ, zero, suc, ◌+◌, ◌<◌, ◌≤◌, ◌^◌, List, [], get_or, length, take, refl, ap}
use Rattle.std.specs.List.{sum_by}
use Rattle.std.proofs.lemmas.List.Sums.{sum_by-take-le, sum_by_more, sum_by_more_le, sum_by_push}
use Rattle.chain_terms.specs.Sums.{upto}
use Rattle.chain_laws.proofs.Places.{upto_more}
use Rattle.plane_chains.specs.declared.nets.LabelNumber.{LabelNumber}
use Rattle.plane_sheets.specs.Sides.{size_near, size_of, sizes}

-- a sum by places
places_sum : {X : Type 0} (g : X → ℕ) (d : X) (xs : List X) (n : ℕ) → n ≤ length xs → sum_by (λ i. g (get_or xs i d)) (upto n) ≡ sum_by g (take n xs)
places_sum g d xs zero h = refl
places_sum g d xs (suc n) h =
    let f : ℕ → ℕ = λ i. g (get_or xs i d) in
    let one : suc n ≡ n + 1 = omega arith in
    omega (
      arith,
      ap (λ m. sum_by f (upto m)) one,
      ap (sum_by f) (upto_more n),
      sum_by_push f (upto n) n,
      ap (λ m. sum_by g (take m xs)) one,
      sum_by_more g xs n d (omega (arith, h)),
      places_sum g d xs n (omega (arith, h)),
    )

-- the sizes of edges that are found, each once, are no more than those of all
pub near_small : (nets : List (List LabelNumber)) (n : ℕ) (near : List ℕ) → length nets ≡ n → ((g : ℕ → ℕ) → sum_by g near ≤ sum_by g (upto n)) → sizes nets ≤ 2 ^ 61 →
    size_near nets near ≤ 2 ^ 61
near_small nets n near count few small =
    omega (
      arith,
      few (λ i. size_of (get_or nets i [])),
      places_sum size_of [] nets n (omega (arith, count)),
      sum_by-take-le size_of nets n,
      small,
    )

-- nor are those of one edge
pub own_small : (nets : List (List LabelNumber)) (e : ℕ) → e < length nets → sizes nets ≤ 2 ^ 61 → size_of (get_or nets e []) ≤ 2 ^ 61
own_small nets e below small = omega (arith, sum_by_more_le size_of nets e [] below, small)
