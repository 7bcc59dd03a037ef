use Rattle.std.proofs.Common.{◌++◌, ap, sym, ◌∙◌, append_assoc, get_or, take}
use Rattle.std.specs.List.{flat_map}
use Rattle.mesh_terms.specs.Meshes.{triples_of}
use Rattle.outline_terms.specs.Extrusion.{walls}
use Rattle.cross_section.proofs.Solids.{walls_more}
use Rattle.cross_section.proofs.extrusion.walls.push_walls.Goals as goal

pub push_wall-requires-clause-from : goal.push_wall-requires-clause-from
push_wall-requires-clause-from c = (c.requires.between c.loop-from.from-index (0, 0) c.loop-from-test.true).0

pub push_wall-requires-clause-to : goal.push_wall-requires-clause-to
push_wall-requires-clause-to c = (c.requires.between c.loop-from.from-index (0, 0) c.loop-from-test.true).1

pub loop-from-preserved : goal.loop-from-preserved
loop-from-preserved c =
    let n = c.args.count in
    let es = c.args.edges.now in
    let i = c.loop-from.from-index in
    let old = triples_of c.args.triples.now.items in
    let here = walls n (get_or es i (0, 0)) in
    c.in_ok-push_wall.ensures ∙ ap (λ l. l ++ here) c.loop-from.invariant
    ∙ append_assoc old (flat_map (walls n) (take i es)) here ∙ ap (λ l. old ++ l) (sym (walls_more n es i c.loop-from-test.true))
