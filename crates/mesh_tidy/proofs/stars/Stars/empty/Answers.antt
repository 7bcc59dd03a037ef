use Rattle.std.proofs.Common.{[], length, ap, ◌∙◌, arith}
use Rattle.std.proofs.lemmas.List.{length_push}
use Rattle.mesh_tidy.specs.Stars.{stars_of}
use Rattle.mesh_tidy.proofs.StarLists.{empty_more}
use Rattle.mesh_tidy.proofs.stars.Stars.empty.Goals as goal

pub loop-alloc-preserved : goal.loop-alloc-preserved
loop-alloc-preserved c = record {
  few = omega (arith, c.loop-alloc-test.true, ap length c.in_ok-push.ensures.items, length_push c.loop-alloc.lists.items c.new.result);
  empty = empty_more c.loop-alloc.lists.items c.push.new.self.items c.new.result c.in_ok-push.ensures.items c.new.ensures.items c.loop-alloc.invariant.empty;
}

pub returns : goal.returns
returns c = c.loop-alloc.invariant.empty ∙ ap (λ n. stars_of n []) (omega (arith, c.loop-alloc.invariant.few, c.loop-alloc-test.false))
