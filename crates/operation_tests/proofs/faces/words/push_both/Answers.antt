use Rattle.std.proofs.Common.{◌≡◌, length, sym, ap, subst, ◌∙◌}
use Rattle.std.proofs.lemmas.List.{length-map}
use Rattle.mesh_terms.specs.Meshes.{triple_of}
use Rattle.source_faces.specs.Parts.{HaveParts}
use Rattle.source_faces.proofs.Groups.{none_first}
use Rattle.operation_tests.proofs.faces.words.push_both.Goals as goal

pub push_side-requires-clause-begin : goal.push_side-requires-clause-begin
push_side-requires-clause-begin c = sym (none_first c.args.stands.now)

pub push_side-requires-2-clause-parts : goal.push_side-requires-2-clause-parts
push_side-requires-2-clause-parts c =
    let all : length c.triples.result.now ≡ length c.args.p.now.triples = sym (length-map c.triples.result.now triple_of) ∙ ap length c.triples.ensures.value in
    subst (λ n. HaveParts c.args.q.now c.args.q_runs.now c.args.points.now n c.args.stands.now) (sym all) c.requires.q_parts
