use Rattle.std.proofs.Common.{◌∷◌, [], ◌∙◌}
use Rattle.mesh_terms.specs.Meshes.{triple_of}
use Rattle.ring_cutting.proofs.EarsLeft.{triple_left}
use Rattle.ring_cutting.proofs.long.triple_at.Goals as goal

pub returns : goal.returns
returns c =
    let e = c.corners-c.ensures in
    (λ j. triple_of ((e.p j).vertex ∷ (e.x j).vertex ∷ (e.n j).vertex ∷ []))
    ∙ triple_left c.args.places.now c.args.links.now.after.items c.args.links.now.before.items c.args.links.now.living.items c.args.i
    c.requires.linked c.requires.living
