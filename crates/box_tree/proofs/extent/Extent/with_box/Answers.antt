use Rattle.box_tree.specs.Extents.{IsCovered}
use Rattle.box_tree.proofs.Exact.{ends_weaker}
use Rattle.box_tree.proofs.extent.Extent.with_box.Goals as goal

pub returns-clause-new : goal.returns-clause-new
returns-clause-new c = record {
  low = ends_weaker (IsCovered c.with_ends.result) (IsCovered c.with_ends-2.result) c.with_ends-2.ensures.others c.args.one.now.low c.with_ends.ensures.new;
  high = c.with_ends-2.ensures.new;
}

pub returns-clause-others : goal.returns-clause-others
returns-clause-others c = λ z covered. c.with_ends-2.ensures.others z (c.with_ends.ensures.others z covered)
