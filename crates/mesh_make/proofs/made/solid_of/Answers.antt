use Rattle.std.proofs.Common.{rules, arith, ◌≡◌, IfOk, length, sym, subst}
use Rattle.std.proofs.lemmas.List.{length-map}
use Rattle.mesh_terms.specs.Labels.{no_labels}
use Rattle.mesh_terms.specs.Meshes.{IsAccepted, triple_of, triples_of}
use Rattle.mesh_make.proofs.made.solid_of.Goals as goal

pub mesh_of-requires : goal.mesh_of-requires
mesh_of-requires c =
    let points = c.push_points.new.points.items in
    let same : c.in_ok-triples.triples.items ≡ c.args.triples.now = c.in_ok-triples.ensures in
    let rows : points ≡ c.args.rows.now = search rules in
    let solid = c.requires.solid in
    let few = c.requires.fine.few in
    let accepted : IsAccepted (length c.args.rows.now) (triples_of c.args.triples.now) = record {
      mesh = record {
        three = solid.three;
        below = solid.below;
        used = solid.used;
        few_points = few.few_points;
        few_triples = omega (arith, few.few_triangles, length-map c.args.triples.now triple_of);
      };
      closed = solid.closed;
    } in
    subst (λ l. IsAccepted (length points) (triples_of l)) (sym same) (subst (λ l. IsAccepted (length l) (triples_of c.args.triples.now)) (sym rows) accepted)

pub returns-clause-triples : goal.returns-clause-triples
returns-clause-triples c =
    let same : c.in_ok-triples.triples.items ≡ c.args.triples.now = c.in_ok-triples.ensures in
    subst (λ l. IfOk c.mesh_of.result (λ m. m.triples ≡ triples_of l)) same c.mesh_of.ensures.triples

pub returns-clause-labels : goal.returns-clause-labels
returns-clause-labels c =
    let same : c.in_ok-triples.triples.items ≡ c.args.triples.now = c.in_ok-triples.ensures in
    subst (λ l. IfOk c.mesh_of.result (λ m. m.labels ≡ no_labels (triples_of l))) same c.mesh_of.ensures.labels
