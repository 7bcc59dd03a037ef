use Rattle.std.specs.Prelude.{take}
use Rattle.std.proofs.Common.{arith, sym}
use Rattle.std.proofs.lemmas.List.{take_all}
use Rattle.std.proofs.lemmas.List.Elements.{All-more, All-same}
use Rattle.box_tree.specs.Coarse.{IsBoundsIn}
use Rattle.box_tree.specs.Nodes.{no_entry}
use Rattle.box_tree.proofs.Rounds.{round_wider}
use Rattle.box_tree.proofs.nodes.bounds_round.Goals as goal

pub loop-entry-preserved : goal.loop-entry-preserved
loop-entry-preserved c =
    All-more (λ e. IsBoundsIn e.bounds c.joined-bounds.result) c.args.entries.now c.loop-entry.entry-index no_entry (omega arith)
    (round_wider c.loop-entry.bounds c.joined-bounds.result (take c.loop-entry.entry-index c.args.entries.now) c.joined-bounds.ensures.first c.loop-entry.invariant)
    c.joined-bounds.ensures.second

pub returns : goal.returns
returns c =
    All-same (λ e. IsBoundsIn e.bounds c.loop-entry.bounds) c.args.entries.now (take c.loop-entry.entry-index c.args.entries.now)
    (sym (take_all c.loop-entry.entry-index c.args.entries.now (omega arith))) c.loop-entry.invariant
