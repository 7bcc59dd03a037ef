use Rattle.std.proofs.Common.{arith, sym, ◌∙◌}
use Rattle.box_tree.specs.Nodes.{no_entry}
use Rattle.box_tree.proofs.Hits.{hits_missed}
use Rattle.box_tree.proofs.walk.Question.next_hit.Goals as goal

pub loop-place-preserved : goal.loop-place-preserved
loop-place-preserved c = record {
  from = omega arith;
  to = omega arith;
  same =
      c.loop-place.invariant.same
      ∙ hits_missed c.args.self.now c.loop-place.place c.args.end no_entry c.loop-place-test.true c.requires.within (sym c.is_hit.ensures ∙ c.if-is_hit.false);
}
