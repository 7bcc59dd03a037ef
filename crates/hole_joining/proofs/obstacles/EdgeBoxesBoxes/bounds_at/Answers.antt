use Rattle.std.proofs.Common.{◌<◌, arith, length, sym, ap, ◌∙◌}
use Rattle.std.proofs.lemmas.List.{get_or-map, get_or_default, length-map}
use Rattle.box_tree.specs.Coarse.{bounds_around}
use Rattle.box_tree.specs.Touching.{no_box}
use Rattle.hole_joining.specs.Obstacles.{edge_box}
use Rattle.hole_joining.specs.Seen.{plane_at}
use Rattle.hole_joining.proofs.obstacles.EdgeBoxesBoxes.bounds_at.Goals as goal

pub returns : goal.returns
returns c =
    let edges = c.args.self.now in
    let box = edge_box (plane_at edges.flat) in
    let there : c.args.number < length edges.edges.now = omega (arith, c.requires.number, length-map edges.edges.now box) in
    c.around.ensures ∙ ap (bounds_around c.args.shift) (c.box_of.ensures ∙ ap box (get_or_default edges.edges.now c.args.number _ (0, 0) there)
    ∙ sym (get_or-map box edges.edges.now c.args.number (0, 0) no_box there))
