use Rattle.std.proofs.Common.{◌∷◌, length}
use Rattle.mb_base.proofs.Stored.{labels-stay}
use Rattle.mb_base.proofs.labels.stored.new_place.Goals as goal

pub returns-clause-labels : goal.returns-clause-labels
returns-clause-labels c =
    let label = c.args.label.now in
    labels-stay c.args.bytes.now.items c.store.new.bytes.items (length label ∷ label) c.args.starts.now c.store.result c.store.ensures.added c.store.ensures.kept c.requires.stored
