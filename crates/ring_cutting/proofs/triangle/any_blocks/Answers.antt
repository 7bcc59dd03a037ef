use Rattle.std.proofs.Common.{rules, tests, reverse, ◌∙◌, sym}
use Rattle.std.proofs.lemmas.Iterator.Adapters.{YieldsList-from_rev_slice}
use Rattle.std.proofs.lemmas.Iterator.Search.{any_from_yields_List}
use Rattle.std.proofs.lemmas.List.Sorted.{IsPermutation-reverse, list_any-IsPermutation}
use Rattle.ring_cutting.specs.Placed.{place_blocks}
use Rattle.ring_cutting.proofs.triangle.any_blocks.Goals as goal

pub returns : goal.returns
returns c =
    let ps = c.args.places.now in
    let test = place_blocks c.args.p.now c.args.x.now c.args.n.now in
    any_from_yields_List test _ _ c.any.result c.any.ensures.ran (YieldsList-from_rev_slice ps (cc)) (λ x b q k. search (rules, tests))
    ∙ sym (list_any-IsPermutation test ps (reverse ps) (IsPermutation-reverse ps))
