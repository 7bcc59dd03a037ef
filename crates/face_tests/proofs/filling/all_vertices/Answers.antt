use Rattle.std.proofs.Common.{◌++◌, [], take, ap, sym, ◌∙◌}
use Rattle.std.specs.List.{concat}
use Rattle.std.proofs.lemmas.List.{get_or_default}
use Rattle.hole_joining.proofs.Lists.{concat_more}
use Rattle.face_tests.proofs.filling.all_vertices.Goals as goal

pub loop-one-preserved : goal.loop-one-preserved
loop-one-preserved c =
    let loops = c.args.loops.now in
    let i = c.loop-one.one-index in
    let read = c.vertices.ensures ∙ c.one-item.is ∙ get_or_default loops i c.one-item.result [] c.loop-one-test.true in
    c.in_ok-extend_from_slice.ensures.items ∙ ap (λ l. l ++ c.vertices.result.now) c.loop-one.invariant ∙ ap (λ l. concat (take i loops) ++ l) read
    ∙ sym (concat_more loops i c.loop-one-test.true)
