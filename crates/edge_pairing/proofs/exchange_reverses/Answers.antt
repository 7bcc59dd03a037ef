use Rattle.std.proofs.Common.{ℕ, ◌++◌, map, ap, ◌∙◌}
use Rattle.std.proofs.lemmas.List.Sorted.{IsPermutation-map, IsPermutation-append_comm}
use Rattle.mesh_terms.specs.Points.{coordinate_of}
use Rattle.chain_laws.specs.Sorting.{sorted_by}
use Rattle.edge_pairing.specs.Pairing.{comes_before, scalar_product, step, spread_axis, pair_up}
use Rattle.edge_pairing.proofs.Spreads.{spread_axis-permutation}
use Rattle.edge_pairing.proofs.Zips.{zip-exchanged}
use Rattle.edge_pairing.proofs.exchange_reverses.Goals as goal

pub returns-clause-along : goal.returns-clause-along
returns-clause-along c = λ a b place starts ends.
    let key = λ (v : ℕ). scalar_product (step a b) (place v) in
    zip-exchanged (sorted_by (comes_before key) starts) (sorted_by (comes_before key) ends)

pub returns-clause-across : goal.returns-clause-across
returns-clause-across c = λ place starts ends.
    let axis = spread_axis (map place (starts ++ ends)) in
    let key = λ (v : ℕ). coordinate_of (place v) axis in
    let moved = IsPermutation-map place (ends ++ starts) (starts ++ ends) (IsPermutation-append_comm ends starts) in
    ap (λ i. pair_up (λ v. coordinate_of (place v) i) ends starts) (spread_axis-permutation (map place (ends ++ starts)) (map place (starts ++ ends)) moved)
    ∙ zip-exchanged (sorted_by (comes_before key) starts) (sorted_by (comes_before key) ends)
