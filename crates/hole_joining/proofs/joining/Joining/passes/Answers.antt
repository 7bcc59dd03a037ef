use Rattle.std.proofs.Common.{sym, ◌∙◌}
use Rattle.std.specs.Prelude.{◌||◌, not}
use Rattle.std.proofs.lemmas.Bool.{and_right}
use Rattle.hole_joining.specs.Seen.{clear_of}
use Rattle.hole_joining.specs.Passes.{is_after}
use Rattle.hole_joining.proofs.joining.Joining.passes.Goals as goal

pub returns-else-is_after : goal.returns-else-is_after
returns-else-is_after c =
    sym (and_right (not c.args.asks || clear_of c.args.self.now c.args.b) (is_after c.args.refused c.args.b)
    (sym c.is_after.ensures ∙ c.if-is_after.false))
