use Rattle.std.proofs.Common.{ℕ, ◌∷◌, List, [], ap, ◌∙◌, arith}
use Rattle.std.proofs.lemmas.Result.{err_from_is_err_and}
use Rattle.text_terms.specs.FirstFault.{each_read}
use Rattle.format_terms.specs.ObjFaces.{item_vertex}
use Rattle.format_terms.specs.Obj.{face_vertices}
use Rattle.obj_text.specs.Items.{read_after}
use Rattle.obj_text.proofs.ItemSteps.{IsFaultOf-all, face_vertices-three, read_after-next, length-more, fault_at, three_given, left_after_three, fault_of_three}
use Rattle.obj_text.proofs.items.read_vertices.Goals as goal

pub returns-in_err-read_three-clause-fault : goal.returns-in_err-read_three-clause-fault
returns-in_err-read_three-clause-fault c =
    let f = item_vertex c.args.count in
    let words = c.args.words in
    let x = c.in-Some.first.now in
    let y = c.in-Some.second.now in
    let z = c.in-Some.third.now in
    let given = c.in-Some.ensures.three in
    let all = face_vertices-three c.args.count c.args.number words (three_given f words x y z c.three.new.self given) in
    let p = err_from_is_err_and c.from_residual.result c.from_residual.ensures.1 in
    rw (p.1, p.2)
    (IsFaultOf-all c.args.number (each_read f (x ∷ y ∷ z ∷ [])) (each_read f words) (face_vertices c.args.count c.args.number words)
    c.in_err-read_three.field-0.0 all (fault_of_three f words x y z c.three.new.self given) c.in_err-read_three.ensures.fault)

pub loop-item-init : goal.loop-item-init
loop-item-init c =
    let f = item_vertex c.args.count in
    let words = c.args.words in
    let rest = c.three.new.self in
    let given = c.in-Some.ensures.three in
    let three = c.in_ok-read_three.ensures in
    record {
      read = rw c.into_iter-item-iterator.ensures.into_iter_gives
          (left_after_three f words c.in-Some.first.now c.in-Some.second.now c.in-Some.third.now rest given c.read_three.new.vertices.items three.read);
      words = three_given f words c.in-Some.first.now c.in-Some.second.now c.in-Some.third.now rest given;
      vertices = omega (arith, three.three);
      below = three.below;
    }

pub loop-item-preserved : goal.loop-item-preserved
loop-item-preserved c =
    let f = item_vertex c.args.count in
    let old = c.loop-item.vertices.items in
    let new = c.push_vertex.new.vertices.items in
    let read = c.in_ok-push_vertex.ensures.read in
    record {
      read = c.loop-item.invariant.read ∙ read_after-next f c.in-Some-item.item.now c.loop-item.item-iterator c.next.new.self old new c.in-Some-item.ensures.steps read;
      words = c.loop-item.invariant.words;
      vertices = length-more f c.in-Some-item.item.now old new c.loop-item.invariant.vertices read;
      below = c.in_ok-push_vertex.ensures.below c.loop-item.invariant.below;
    }

pub returns-in_err-push_vertex-clause-fault : goal.returns-in_err-push_vertex-clause-fault
returns-in_err-push_vertex-clause-fault c =
    let f = item_vertex c.args.count in
    let old = c.loop-item.vertices.items in
    let p = err_from_is_err_and c.from_residual-in_err-push_vertex.result c.from_residual-in_err-push_vertex.ensures.1 in
    rw (p.1, p.2) (fault_at c.args.count c.args.number c.args.words c.in-Some-item.item.now c.next.new.self old c.in_err-push_vertex.field-0.0
    c.loop-item.invariant.words (c.loop-item.invariant.read ∙ ap (λ (ws : List (List ℕ)). read_after old (each_read f ws)) c.in-Some-item.ensures.steps)
    c.in_err-push_vertex.ensures.fault)
