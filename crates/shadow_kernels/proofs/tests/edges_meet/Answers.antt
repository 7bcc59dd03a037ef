use Rattle.std.proofs.Common.{rules, arith, ◌≡◌, ◌≢◌, pos, FitsSigned, ◌∙◌}
use Rattle.std.proofs.lemmas.Int.{ints}
use Rattle.std.specs.Int.{w8}
use Rattle.shadow_kernels.specs.Shadows.{meet11}
use Rattle.shadow_kernels.proofs.Steps.{none_of_tally, some_of_tally}
use Rattle.shadow_kernels.proofs.Values.{seen}
use Rattle.shadow_kernels.proofs.tests.edges_meet.Goals as goal

pub returns-then-count-eq0 : goal.returns-then-count-eq0
unfolding meet11
returns-then-count-eq0 g c =
    let fits : FitsSigned w8 c.count-count.result = search rules in
    let zero : c.count-count.result ≡ pos 0 = omega (arith, ints) in
    none_of_tally _ _ _ c.edge_edge_tally-tally.result c.edge_edge_tally-tally.ensures.tally (omega (arith, ints, zero, c.count-count.ensures))

pub returns : goal.returns
unfolding meet11
returns g c =
    let fits : FitsSigned w8 c.count-count.result = search rules in
    let kept : seen w8 c.count-count.result ≡ c.count-count.result = omega (arith, ints) in
    let other : c.count-count.result ≢ pos 0 = λ z. omega (arith, ints) in
    let some : c.edge_edge_tally-tally.result.count ≢ pos 0 = λ z. other (c.count-count.ensures ∙ z) in
    some_of_tally _ _ _ c.edge_edge_tally-tally.result (seen w8 c.count-count.result) c.is_over_edges_at-above.result c.spot-spot.result
    c.edge_edge_tally-tally.ensures.tally some (kept ∙ c.count-count.ensures) c.spot-spot.ensures c.is_over_edges_at-above.ensures
