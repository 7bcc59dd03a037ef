use Rattle.std.proofs.Common.{◌≡◌, ◌≤◌, ℕ, List, length, ap, sym, subst, ◌∙◌}
use Rattle.chain_terms.specs.Cycles.{cycles}
use Rattle.face_loops.specs.Segments.{edges_of}
use Rattle.source_faces.specs.ListParts.{segments_by}
use Rattle.hole_joining.specs.Laws.{AreFillable, settled_in}
use Rattle.source_face_terms.specs.Planes.{plane_drop_of}
use Rattle.triangulate.specs.Fills.{fill_of}
use Rattle.triangulate.specs.Laws.{HasCount}
use Rattle.source_faces.specs.Adding.{filled_by}
use Rattle.source_faces.proofs.Forced.{few_triples}
use Rattle.source_faces.proofs.Outcomes.{if_ok}
use Rattle.source_faces.proofs.face.filled_face.Goals as goal

-- the loops of the segments of the face
abbrev loops_of : goal.After-drop-segments-2 → List (List ℕ)
loops_of c = cycles (segments_by c.args.side.now c.args.runs.now c.args.points.now c.args.face c.args.stands.now)

-- are those that are filled
cycled : (c : goal.After-drop-segments-2) → c.deref-2.result.now ≡ loops_of c
cycled c = c.deref-2.ensures.value ∙ c.in_ok-loops.ensures.value ∙ ap cycles (ap edges_of c.deref.ensures.value ∙ c.in_ok-segments.ensures)

pub returns-clause-value : goal.returns-clause-value
returns-clause-value c =
    let points = c.args.points.now in
    let made = fill_of c.plane_of.result.drop points c.deref-2.result.now in
    let same : made ≡ filled_by c.args.side.now c.args.runs.now points c.args.face c.args.stands.now =
    ap (λ n. fill_of n points c.deref-2.result.now) c.plane_of.ensures.axis
    ∙ ap (fill_of (plane_drop_of c.args.side.now c.args.face) points) (cycled c) in
    if_ok c.fill.result (λ f. f ≡ made) (λ f. f ≡ filled_by c.args.side.now c.args.runs.now points c.args.face c.args.stands.now)
    (λ f e. e ∙ same) c.fill.ensures.value

pub returns-clause-few : goal.returns-clause-few
returns-clause-few c =
    let points = c.args.points.now in
    let loops = c.deref-2.result.now in
    let at = settled_in c.plane_of.result.drop points loops in
    let fillable : AreFillable loops (length points) =
    subst (λ (ls : List (List ℕ)). AreFillable ls (length points)) (sym (cycled c)) c.requires.part.filled.fillable in
    if_ok c.fill.result (λ f. HasCount at loops f.triples) (λ f. length f.triples ≤ 100000000)
    (λ f count. few_triples at loops (length points) f.triples fillable count) c.fill.ensures.count
