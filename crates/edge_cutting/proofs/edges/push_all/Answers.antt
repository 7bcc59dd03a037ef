use Rattle.std.proofs.Common.{[], ◌∷◌, ◌++◌, map, get_or, subst}
use Rattle.edge_cutting.specs.Edges.{AreLong, pair_of}
use Rattle.edge_cutting.proofs.LongEdges.{three_more}
use Rattle.edge_cutting.proofs.edges.push_all.Goals as goal

pub returns : goal.returns
returns c = λ seen h.
    let t = c.args.triple in
    let a = get_or t 0 0 in
    let b = get_or t 1 0 in
    let d = get_or t 2 0 in
    let one = c.in_ok-push_long.ensures seen h in
    let two = c.in_ok-push_long-2.ensures (seen ++ (a, b) ∷ []) one in
    let three = c.in_ok-push_long-3.ensures ((seen ++ (a, b) ∷ []) ++ (b, d) ∷ []) two in
    subst (λ l. AreLong c.args.points.now l (map pair_of c.push_long-3.new.edges.items)) (three_more seen (a, b) (b, d) (d, a)) three
