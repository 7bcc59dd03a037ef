use Rattle.std.specs.Prelude.{◌*◌, slice_range}
use Rattle.std.proofs.Common.{arith, sym, ap, ◌∙◌}
use Rattle.std.proofs.lemmas.List.Elements.{All-same}
use Rattle.box_tree.specs.declared.TheConstants.{BLOCK}
use Rattle.box_tree.specs.Coarse.{IsBoundsIn}
use Rattle.box_tree.specs.Nodes.{run_of}
use Rattle.box_tree.proofs.Runs.{range_cut}
use Rattle.box_tree.proofs.nodes.bounds_of_block.Goals as goal

pub returns : goal.returns
returns c =
    All-same (λ e. IsBoundsIn e.bounds c.bounds_round.result) (run_of c.args.entries.now c.args.block 1) (slice_range c.args.entries.now (BLOCK * c.args.block) c.min-end.result)
    (sym (ap (λ n. slice_range c.args.entries.now (BLOCK * c.args.block) n) c.min-end.ensures ∙ range_cut c.args.entries.now (BLOCK * c.args.block) BLOCK (omega arith)))
    c.bounds_round.ensures
