use Rattle.std.proofs.Common.{◌≡◌, rules}
use Rattle.std.specs.Ordering.{is_lt}
use Rattle.std.proofs.lemmas.Fn.{always_returns_same}
use Rattle.sheet_terms.specs.Filled.{comes_before}
use Rattle.plane_filling.proofs.Sorted.{before_order, loops_ordered}
use Rattle.plane_filling.proofs.loops.sort_loops.Goals as goal

pub returns : goal.returns
returns c =
    let says = always_returns_same _ (λ a r. is_lt r ≡ comes_before a.0.now a.1.0.now) _ (λ a r q k. (k.met, search rules)) in
    loops_ordered c.args.loops.now.items c.sort_by.new.self.items c.sort_by.ensures.permutation (c.in_ok-sort_by.ensures.sorted comes_before before_order says)
