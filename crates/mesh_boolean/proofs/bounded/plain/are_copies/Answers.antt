use Rattle.std.proofs.Common.{◌≡◌, List, [], map, get_or, length, sym, ap, subst, ◌∙◌, rules}
use Rattle.chain_terms.specs.Sums.{upto}
use Rattle.source_faces.specs.ListParts.{no_run}
use Rattle.source_faces.specs.declared.lists.runs.CopyRange.{CopyRange}
use Rattle.lean.proofs.Triangles.{face_below}
use Rattle.mesh_terms.specs.Meshes.{IsBelow, Triple, triple_of}
use Rattle.source_faces.specs.Adding.{are_equal_runs, copy_triple}
use Rattle.source_faces.proofs.Faces.{at_face}
use Rattle.mesh_boolean.proofs.bounded.plain.are_copies.Goals as goal
use Rattle.mesh_boolean.proofs.bounded.plain.are_copies.Goals.{After-triples}

-- the copies of a triangle of a side
abbrev copies_at : List CopyRange → Triple → List Triple
copies_at runs t =
    let r = get_or runs t.0 no_run in map (copy_triple r (get_or runs t.1 no_run) (get_or runs t.2 no_run)) (upto r.count)

-- the vertices of the face have runs
have_runs : (c : After-triples) → IsBelow (length c.args.runs.now) (triple_of (get_or c.triples.result.now c.args.face []))
have_runs c =
    let side = c.args.side.now in
    let below =
    face_below (length side.corners) side.triples c.triples.result.now c.args.face c.triples.ensures.value
    c.triples.ensures.side.accepted.mesh.below c.requires.face in
    subst (λ n. IsBelow n (triple_of (get_or c.triples.result.now c.args.face []))) (sym c.requires.runs.each) below

pub are_equal-requires : goal.are_equal-requires
are_equal-requires c = have_runs (goal.at.are_equal-requires c).After-triples

pub bounds-runs-a : goal.bounds-runs-a
bounds-runs-a c = (have_runs (goal.at.bounds-runs-a c).After-triples).a

pub bounds-runs-b : goal.bounds-runs-b
bounds-runs-b c = (have_runs (goal.at.bounds-runs-b c).After-triples).b

pub bounds-runs-c : goal.bounds-runs-c
bounds-runs-c c = (have_runs (goal.at.bounds-runs-c c).After-triples).c

pub returns-clause-equal : goal.returns-clause-equal
returns-clause-equal c e =
    ap (are_equal_runs c.args.runs.now) (sym (at_face c.args.side.now.triples c.triples.result.now c.args.face c.triples.ensures.value c.requires.face))
    ∙ sym c.are_equal.ensures ∙ c.if-not-are_equal.false

pub returns-clause-copies : goal.returns-clause-copies
returns-clause-copies c e =
    let runs = c.args.runs.now in
    let t = triple_of (get_or c.triples.result.now c.args.face []) in
    let r = get_or runs t.0 no_run in
    let counted : length c.args.part.now ≡ r.count = search rules in
    c.are_numbered.ensures e ∙ ap (λ n. map (copy_triple r (get_or runs t.1 no_run) (get_or runs t.2 no_run)) (upto n)) counted
    ∙ ap (copies_at runs) (at_face c.args.side.now.triples c.triples.result.now c.args.face c.triples.ensures.value c.requires.face)
