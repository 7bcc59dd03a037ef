use Rattle.std.proofs.Common.{◌≡◌, ◌+◌, ◌++◌, [], map, ap, ◌∙◌, append_assoc, rules}
use Rattle.std.specs.List.{flat_map}
use Rattle.chain_laws.specs.Triples.{opposite_triple, renamed_triple}
use Rattle.mesh_terms.specs.Meshes.{triples_of}
use Rattle.outline_terms.specs.Extrusion.{walls}
use Rattle.cross_section.proofs.extrusion.solid.triples_over.Goals as goal

pub returns : goal.returns
returns c =
    let n = c.args.count in
    let ts = triples_of c.args.fill.now in
    let sides = flat_map (walls n) c.args.edges.now in
    let bottom = map opposite_triple ts in
    let top = map (renamed_triple (λ v. v + n)) ts in
    let none : c.new-all.result.items ≡ [] = search rules in
    let low = c.in_ok-push_bottom.ensures ∙ ap (λ l. triples_of l ++ bottom) none in
    let both = c.in_ok-push_top.ensures ∙ ap (λ l. l ++ top) low in
    c.in_ok-push_walls.ensures ∙ ap (λ l. l ++ sides) both ∙ append_assoc bottom top sides
