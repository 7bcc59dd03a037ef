use Rattle.std.specs.Prelude.{length}
use Rattle.std.proofs.Common.{arith}
use Rattle.box_tree.proofs.KeyRuns.{run_keeps, singles_keep}
use Rattle.box_tree.proofs.keys.push_keys.Goals as goal

pub returns-in_ok-push-in-Some : goal.returns-in_ok-push-in-Some
returns-in_ok-push-in-Some g c =
    run_keeps (length (g.B.Boxes.boxes c.args.boxes.now)) c.args.first c.args.end c.args.keys.now.runs.items c.args.keys.now.singles.items _ c.key_of.result
    c.in-Some.ensures c.requires.there c.key_of.ensures
    c.in_ok-push-in-Some.ensures.items c.requires.all

pub returns-in_ok-push_singles-in-None : goal.returns-in_ok-push_singles-in-None
returns-in_ok-push_singles-in-None g c =
    singles_keep (length (g.B.Boxes.boxes c.args.boxes.now)) c.args.first c.args.end c.args.keys.now.runs.items c.args.keys.now.singles.items
    c.push_singles.new.singles.items (omega (arith, c.requires.some)) c.requires.all
    c.in_ok-push_singles-in-None.ensures
