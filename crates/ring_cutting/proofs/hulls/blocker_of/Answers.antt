use Rattle.std.proofs.Common.{List, Bool, length, sym, ap, ◌∙◌, arith}
use Rattle.ring_cutting.specs.Left.{lives, place_of}
use Rattle.ring_cutting.specs.Placed.{place_blocks}
use Rattle.ring_cutting.specs.Spans.{node_of}
use Rattle.ring_cutting.proofs.Linking.{low}
use Rattle.ring_cutting.proofs.Trees.{way_to, where_none}
use Rattle.ring_cutting.proofs.hulls.blocker_of.Goals as goal

pub returns-clause-none : goal.returns-clause-none
returns-clause-none c =
    let ps = c.args.places.now in
    let links = c.args.links.now in
    let h = c.args.hulls.now in
    let e = c.corners.ensures in
    where_none c.seek.result (λ f w l.
    let within = low (length ps) links.after.items links.before.items links.living.items w c.requires.linked l in
    let way = way_to (node_of h.nodes.items w) (omega (arith, (c.requires.hulls.tree.nodes w within).least, within)) in
    (λ j. place_blocks (sym e.p j) (sym e.x j) (sym e.n j) (place_of ps w))
    ∙ f w way.way (ap (λ (b : List Bool). lives b w) c.deref.ensures.value ∙ l) way.is) c.seek.ensures.none
