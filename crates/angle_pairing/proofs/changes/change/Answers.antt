use Rattle.std.proofs.Common.{subst, sym}
use Rattle.fan_laws.specs.Pairs.{AreTwins}
use Rattle.fan_laws.proofs.Changes.{changed_are}
use Rattle.angle_pairing.proofs.Relabelling.{relabelled_as}
use Rattle.angle_pairing.proofs.changes.change.Goals as goal

pub label_fan-requires-clause-twins : goal.label_fan-requires-clause-twins
label_fan-requires-clause-twins c = subst AreTwins (sym c.exchange.ensures) (changed_are c.args.twins.now c.args.one c.args.other c.requires.change)

pub label_fan-requires-2-clause-twins : goal.label_fan-requires-2-clause-twins
label_fan-requires-2-clause-twins c = subst AreTwins (sym c.exchange.ensures) (changed_are c.args.twins.now c.args.one c.args.other c.requires.change)

pub label_fan-requires-3-clause-twins : goal.label_fan-requires-3-clause-twins
label_fan-requires-3-clause-twins c = subst AreTwins (sym c.exchange.ensures) (changed_are c.args.twins.now c.args.one c.args.other c.requires.change)

pub label_fan-requires-4-clause-twins : goal.label_fan-requires-4-clause-twins
label_fan-requires-4-clause-twins c = subst AreTwins (sym c.exchange.ensures) (changed_are c.args.twins.now c.args.one c.args.other c.requires.change)

pub returns-clause-labels : goal.returns-clause-labels
returns-clause-labels c =
    relabelled_as c.args.twins.now c.args.one c.args.other c.requires.change c.args.labels.now c.requires.labels c.exchange.new.twins
    c.label_fan.new.labels c.label_fan-2.new.labels c.label_fan-3.new.labels c.label_fan-4.new.labels c.next.result c.next-2.result c.exchange.ensures
    c.next.ensures c.next-2.ensures c.label_fan.ensures c.label_fan-2.ensures c.label_fan-3.ensures c.label_fan-4.ensures
