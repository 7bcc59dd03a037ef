use Rattle.std.proofs.Common.{◌≡◌, ◌++◌, take}
use Rattle.mb_base.specs.Boxes.{box_of}
use Rattle.box_tree.specs.Touching.{touching_numbers}
use Rattle.outline_pair_terms.specs.Numbers.{edge_at, ends_of}
use Rattle.cross_section.specs.Sides.{edge_boxes}
use Rattle.cross_section.proofs.NearHits.{hits_with}
use Rattle.cross_section.proofs.numbers.hits.push_hits.Given as goal

abbrev pub invariant-loop-other : goal.invariant-loop-other
invariant-loop-other g l = record {
  hits : l.hits.items ≡ l.fn.hits.items ++ hits_with (g.K.Meets.meet_of l.kernels) (g.R.Rounding.settle_of l.rounding) l.p l.q l.edge (take l.other-index l.other-items);
  near : l.other-items ≡ touching_numbers (edge_boxes l.q) (box_of (ends_of l.p (edge_at l.p l.edge)));
}
