use Rattle.std.proofs.Common.{length}
use Rattle.ring_cutting.proofs.Linking.{after_within, before_within}
use Rattle.ring_cutting.proofs.asked.corners.Goals as goal

pub before-before-requires : goal.before-before-requires
before-before-requires c =
    before_within (length c.args.places.now) c.args.links.now.after.items c.args.links.now.before.items c.args.links.now.living.items
    c.args.i c.requires.linked c.requires.living

pub after-after-requires : goal.after-after-requires
after-after-requires c =
    after_within (length c.args.places.now) c.args.links.now.after.items c.args.links.now.before.items c.args.links.now.living.items
    c.args.i c.requires.linked c.requires.living
