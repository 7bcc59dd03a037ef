use Rattle.std.proofs.Common.{rules, ◌≡◌, IfOk, length, map, sym, subst}
use Rattle.mesh_terms.specs.Meshes.{IsAccepted, triples_of}
use Rattle.mesh_terms.specs.Twins.{twins_of}
use Rattle.pinch_split.specs.Back.{named_by}
use Rattle.pinch_split.specs.Split.{split_from, split_points, split_triples}
use Rattle.pinch_split.proofs.splitting.split.Goals as goal

pub split_over-requires : goal.split_over-requires
split_over-requires c =
    let same : c.in_ok-triples.triples.items ≡ c.args.triples.now = c.in_ok-triples.ensures in
    subst (λ l. IsAccepted (length c.args.points.now) (triples_of l)) (sym same) c.requires

pub returns-clause-points : goal.returns-clause-points
returns-clause-points c =
    let same : c.in_ok-triples.triples.items ≡ c.args.triples.now = c.in_ok-triples.ensures in
    subst (λ l. IfOk c.split_over.result (λ s. s.mesh.points ≡ split_points c.args.points.now (triples_of l))) same c.split_over.ensures.points

pub returns-clause-triples : goal.returns-clause-triples
returns-clause-triples c =
    let same : c.in_ok-triples.triples.items ≡ c.args.triples.now = c.in_ok-triples.ensures in
    subst (λ l. IfOk c.split_over.result (λ s. s.mesh.triples ≡ split_triples (length c.args.points.now) (triples_of l))) same c.split_over.ensures.triples

pub returns-clause-from : goal.returns-clause-from
returns-clause-from c =
    let same : c.in_ok-triples.triples.items ≡ c.args.triples.now = c.in_ok-triples.ensures in
    subst (λ l. IfOk c.split_over.result (λ s. s.from.items ≡ split_from (length c.args.points.now) (triples_of l))) same c.split_over.ensures.from

pub returns-clause-back : goal.returns-clause-back
returns-clause-back c =
    let same : c.in_ok-triples.triples.items ≡ c.args.triples.now = c.in_ok-triples.ensures in
    subst (λ l. IfOk c.split_over.result (λ s. map (named_by s.from.items) s.mesh.triples ≡ triples_of l)) same c.split_over.ensures.back

pub returns-clause-twins : goal.returns-clause-twins
returns-clause-twins c =
    let same : c.in_ok-triples.triples.items ≡ c.args.triples.now = c.in_ok-triples.ensures in
    subst (λ l. IfOk c.split_over.result (λ s. twins_of s.mesh.triples ≡ twins_of (triples_of l))) same c.split_over.ensures.twins
