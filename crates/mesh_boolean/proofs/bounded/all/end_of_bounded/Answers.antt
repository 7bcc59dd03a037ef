use Rattle.std.proofs.Common.{◌≡◌, ◌+◌, ◌-◌, ◌<◌, ℕ, List, [], take, drop, length, get_or, refl, arith, sym, ap, subst, ◌∙◌, below_more}
use Rattle.std.specs.List.{All}
use Rattle.std.proofs.lemmas.Bool.{false≢true}
use Rattle.std.proofs.lemmas.List.{length-map}
use Rattle.std.proofs.lemmas.List.Elements.{All-get_or}
use Rattle.chain_terms.specs.Chains.{all_edges}
use Rattle.source_faces.specs.Groups.{earlier}
use Rattle.source_faces.specs.ListParts.{CanBeSegments, segments_by}
use Rattle.source_faces.specs.declared.lists.stands.Stand.{Stand}
use Rattle.mesh_terms.specs.Meshes.{triple_of, triples_of}
use Rattle.source_faces.proofs.Groups.{end_there, group_there, next_there}
use Rattle.mesh_boolean.specs.BoundedFaces.{HaveBoundariesFrom, chosen}
use Rattle.mesh_boolean.proofs.BoundedFaces.{same_answer}
use Rattle.mesh_boolean.proofs.bounded.all.end_of_bounded.Goals as goal

pub slice_bounds-records-end : goal.slice_bounds-records-end
slice_bounds-records-end c =
    end_there c.args.stands.now (c.args.first + c.loop-face.face) c.loop-face.begin c.group_end-end.result c.requires.faces.ascend
    c.loop-face.invariant.next c.group_end-end.ensures

pub bucket-requires : goal.bucket-requires
bucket-requires c =
    let below = c.loop-face-test.true in
    let all : length c.triples.result.now ≡ length c.args.side.now.triples =
    sym (length-map c.triples.result.now triple_of) ∙ ap length c.triples.ensures.value in
    omega (arith, below, all, c.requires.full)

pub chosen-requires : goal.chosen-requires
chosen-requires c =
    let n = length c.args.triples.now in
    let below = c.loop-face-test.true in
    let all : length c.triples.result.now ≡ length c.args.side.now.triples =
    sym (length-map c.triples.result.now triple_of) ∙ ap length c.triples.ensures.value in
    subst (λ (ps : List ℕ). All (λ t. t < n) ps) (sym c.bucket.ensures)
    (All-get_or (λ (ps : List ℕ). All (λ t. t < n) ps) c.args.places.now (c.args.first + c.loop-face.face) [] (omega (arith, below, all, c.requires.full)) c.requires.within)

pub is_bounded-requires-clause-paired : goal.is_bounded-requires-clause-paired
is_bounded-requires-clause-paired c =
    let f = c.loop-face.face in
    let there =
    group_there c.args.stands.now (c.args.first + f) c.loop-face.begin c.group_end-end.result c.requires.faces.ascend
    c.loop-face.invariant.next c.group_end-end.ensures in
    let below = c.loop-face-test.true in
    let all : length c.triples.result.now ≡ length c.args.side.now.triples =
    sym (length-map c.triples.result.now triple_of) ∙ ap length c.triples.ensures.value in
    subst (λ (ss : List Stand). CanBeSegments c.args.side.now c.args.runs.now c.args.points.now f ss) (sym there)
    (c.requires.faces.each f (omega (arith, below, all)))

pub returns-then-not-branch-clause-bounded : goal.returns-then-not-branch-clause-bounded
returns-then-not-branch-clause-bounded c =
    let side = c.args.side.now in
    let runs = c.args.runs.now in
    let points = c.args.points.now in
    let stands = c.args.stands.now in
    let ts = triples_of c.args.triples.now in
    let x = c.args.first in
    let f = c.loop-face.face in
    let begin = c.loop-face.begin in
    let end = c.group_end-end.result in
    let there = group_there stands (x + f) begin end c.requires.faces.ascend c.loop-face.invariant.next c.group_end-end.ensures in
    let part : all_edges (triples_of c.deref.result.now) ≡ all_edges (chosen ts (get_or c.args.places.now (x + f) [])) =
    ap (λ l. all_edges (triples_of l)) c.deref.ensures.value ∙ ap all_edges (c.in_ok-part.ensures ∙ ap (chosen ts) c.bucket.ensures) in
    let here =
    same_answer _ (all_edges (triples_of c.deref.result.now)) _ (segments_by side runs points f (take (end - begin) (drop begin stands))) _ part
    (ap (segments_by side runs points f) there) c.in_ok-is_bounded.ensures in
    let below = c.loop-face-test.true in
    let counted : length c.triples.result.now ≡ length side.triples = sym (length-map c.triples.result.now triple_of) ∙ ap length c.triples.ensures.value in
    ((λ e. absurd (false≢true e)), (λ all. absurd (false≢true (sym c.if-not-branch.true ∙ here.1 (all f (omega (arith, below, counted)))))))

pub loop-face-preserved : goal.loop-face-preserved
loop-face-preserved c =
    let side = c.args.side.now in
    let runs = c.args.runs.now in
    let points = c.args.points.now in
    let stands = c.args.stands.now in
    let ts = triples_of c.args.triples.now in
    let x = c.args.first in
    let f = c.loop-face.face in
    let begin = c.loop-face.begin in
    let end = c.group_end-end.result in
    let next = next_there stands (x + f) begin end c.requires.faces.ascend c.loop-face.invariant.next c.group_end-end.ensures in
    let there = group_there stands (x + f) begin end c.requires.faces.ascend c.loop-face.invariant.next c.group_end-end.ensures in
    let on : x + f + 1 ≡ x + (f + 1) = omega arith in
    let part : all_edges (triples_of c.deref.result.now) ≡ all_edges (chosen ts (get_or c.args.places.now (x + f) [])) =
    ap (λ l. all_edges (triples_of l)) c.deref.ensures.value ∙ ap all_edges (c.in_ok-part.ensures ∙ ap (chosen ts) c.bucket.ensures) in
    let here =
    same_answer _ (all_edges (triples_of c.deref.result.now)) _ (segments_by side runs points f (take (end - begin) (drop begin stands))) _ part
    (ap (segments_by side runs points f) there) c.in_ok-is_bounded.ensures in
    record {
      next = next ∙ ap (earlier stands) on;
      bounded = below_more _ f c.loop-face.invariant.bounded (here.0 c.if-not-branch.false);
    }

-- all faces are done
done : (c : goal.After-loop-face) → c.loop-face.face ≡ length c.args.side.now.triples
done c =
    let all : length c.triples.result.now ≡ length c.args.side.now.triples =
    sym (length-map c.triples.result.now triple_of) ∙ ap length c.triples.ensures.value in
    omega (arith, c.loop-face-test.false, c.loop-face.auto.face-end, all)

pub returns-clause-bounded : goal.returns-clause-bounded
returns-clause-bounded c = (
  (λ e. subst (HaveBoundariesFrom c.args.side.now c.args.runs.now c.args.points.now c.args.first c.args.stands.now (triples_of c.args.triples.now) c.args.places.now) (done c)
      c.loop-face.invariant.bounded),
  (λ all. refl),
)

pub returns-clause-follow : goal.returns-clause-follow
returns-clause-follow c = c.loop-face.invariant.next ∙ ap (λ n. earlier c.args.stands.now (c.args.first + n)) (done c)
