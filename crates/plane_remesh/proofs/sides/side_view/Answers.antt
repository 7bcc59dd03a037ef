use Rattle.plane_remesh.proofs.Siding.{view_back, view_front}
use Rattle.plane_remesh.proofs.sides.side_view.Goals as goal

pub returns-then-front : goal.returns-then-front
returns-then-front c points all own s is = view_front points s c.args.front c.args.work.now.view c.if-front.true is.view

pub returns-else-front : goal.returns-else-front
returns-else-front c points all own s is =
    view_back points s c.args.front c.args.work.now.view c.behind.result c.if-front.false is.view c.behind.ensures.drop c.behind.ensures.turned
