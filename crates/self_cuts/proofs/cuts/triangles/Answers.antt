use Rattle.std.proofs.Common.{ap, arith, length, ◌≡◌, sym, ◌∙◌}
use Rattle.std.proofs.lemmas.List.{length-map}
use Rattle.mesh_terms.specs.Meshes.{triple_of}
use Rattle.self_cuts.proofs.cuts.triangles.Goals as goal
use Rattle.self_cuts.proofs.cuts.triangles.Goals.{After-triples}

many : (c : After-triples) → length c.triples.result.now ≡ length c.args.mesh.now.triples
many c = sym (length-map c.triples.result.now triple_of) ∙ ap length c.triples.ensures.value

pub overflow_cast-result : goal.overflow_cast-result
overflow_cast-result c = let few = c.triples.ensures.accepted.mesh.few_triples in let n = many (goal.at.overflow_cast-result c).After-triples in omega (arith, few, n)

pub returns-clause-value : goal.returns-clause-value
returns-clause-value c = let few = c.triples.ensures.accepted.mesh.few_triples in let n = many (goal.at.returns-clause-value c).After-triples in omega (arith, few, n)

pub returns-clause-few : goal.returns-clause-few
returns-clause-few c = let few = c.triples.ensures.accepted.mesh.few_triples in let n = many (goal.at.returns-clause-few c).After-triples in omega (arith, few, n)
