use Rattle.std.proofs.Common.{◌≡◌, ◌+◌, ◌-◌, List, take, drop, length, arith, sym, ap, subst, ◌∙◌}
use Rattle.std.proofs.lemmas.List.{length-map}
use Rattle.source_faces.specs.Agreement.{records_of}
use Rattle.source_faces.specs.Groups.{earlier}
use Rattle.source_faces.specs.declared.lists.stands.Stand.{Stand}
use Rattle.mesh_terms.specs.Meshes.{triple_of}
use Rattle.source_faces.specs.Adding.{filled_by}
use Rattle.source_faces.specs.Parts.{AreAdded, CanBePart, parts_of}
use Rattle.source_faces.proofs.Groups.{end_there, group_there, next_there}
use Rattle.source_faces.proofs.Joined.{one_more}
use Rattle.source_faces.proofs.all.push_faces.Goals as goal

pub slice_bounds-records-end : goal.slice_bounds-records-end
slice_bounds-records-end c =
    end_there c.args.stands.now (c.args.first + c.loop-face.face) c.loop-face.begin c.group_end-end.result c.requires.parts.ascend
    c.loop-face.invariant.next c.group_end-end.ensures

pub push_face-requires-clause-part : goal.push_face-requires-clause-part
push_face-requires-clause-part c =
    let f = c.loop-face.face in
    let there =
    group_there c.args.stands.now (c.args.first + f) c.loop-face.begin c.group_end-end.result c.requires.parts.ascend
    c.loop-face.invariant.next c.group_end-end.ensures in
    let below = c.loop-face-test.true in
    let all : length c.triples.result.now ≡ length c.args.side.now.triples =
    sym (length-map c.triples.result.now triple_of) ∙ ap length c.triples.ensures.value in
    subst (λ (ss : List Stand). CanBePart c.args.side.now c.args.runs.now c.args.points.now f ss) (sym there)
    (c.requires.parts.each f (omega (arith, below, all)))

pub loop-face-preserved : goal.loop-face-preserved
loop-face-preserved c =
    let side = c.args.side.now in
    let runs = c.args.runs.now in
    let points = c.args.points.now in
    let stands = c.args.stands.now in
    let x = c.args.first in
    let f = c.loop-face.face in
    let begin = c.loop-face.begin in
    let end = c.group_end-end.result in
    let next = next_there stands (x + f) begin end c.requires.parts.ascend c.loop-face.invariant.next c.group_end-end.ensures in
    let there = group_there stands (x + f) begin end c.requires.parts.ascend c.loop-face.invariant.next c.group_end-end.ensures in
    let on : x + f + 1 ≡ x + (f + 1) = omega arith in
    record {
      next = next ∙ ap (earlier stands) on;
      added = one_more x f (λ g. filled_by side runs points g (records_of stands (x + g)))
          (filled_by side runs points f (take (end - begin) (drop begin stands))) c.args.all.now c.loop-face.all c.push_face.new.all
          (ap (filled_by side runs points f) there) c.loop-face.invariant.added c.in_ok-push_face.ensures.added;
      few = c.in_ok-push_face.ensures.few;
    }

-- all faces are done
done : (c : goal.After-loop-face) → c.loop-face.face ≡ length c.args.side.now.triples
done c =
    let all : length c.triples.result.now ≡ length c.args.side.now.triples =
    sym (length-map c.triples.result.now triple_of) ∙ ap length c.triples.ensures.value in
    omega (arith, c.loop-face-test.false, c.loop-face.auto.face-end, all)

pub returns-clause-added : goal.returns-clause-added
returns-clause-added c =
    subst (λ n. AreAdded c.args.first (parts_of c.args.side.now c.args.runs.now c.args.points.now c.args.first c.args.stands.now n)
    c.args.all.now c.loop-face.all) (done c) c.loop-face.invariant.added

pub returns-clause-follow : goal.returns-clause-follow
returns-clause-follow c = c.loop-face.invariant.next ∙ ap (λ n. earlier c.args.stands.now (c.args.first + n)) (done c)
