use Rattle.std.proofs.Common.{[], ◌++◌, ◌≡◌, ◌∙◌, ap, drop, not, rules, subst}
use Rattle.std.specs.List.{flat_map}
use Rattle.std.specs.List.Sorted.{IsPermutation}
use Rattle.chain_terms.specs.Paths.{round_edges}
use Rattle.plane_remesh.specs.Rising.{rising}
use Rattle.plane_remesh.proofs.boundary.sorted_edges.Goals as goal

pub returns-clause-moved : goal.returns-clause-moved
returns-clause-moved c =
    let rims = flat_map round_edges c.args.rims.now.0 in
    let walks = flat_map round_edges (drop c.args.first c.args.walks.now.0) in
    let none : c.new-all.result.items ≡ [] = search rules in
    subst (λ l. IsPermutation l c.sort_unstable.new.self.items)
    (c.in_ok-push_rounds-2.ensures ∙ ap (λ l. l ++ rising (not c.args.turned) walks) c.in_ok-push_rounds.ensures
    ∙ ap (λ l. (l ++ rising c.args.turned rims) ++ rising (not c.args.turned) walks) none) c.sort_unstable.ensures.permutation
