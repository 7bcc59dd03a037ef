use Rattle.std.proofs.Common.{◌≡◌, ◌++◌, filter, take}
use Rattle.edge_cutting.specs.Inside.{is_on_line, with_spans}
use Rattle.edge_cutting.proofs.inside.Edge.take.Given as goal

-- what was found, and of the places so far those on the line
abbrev pub invariant-loop-place : goal.invariant-loop-place
invariant-loop-place l =
    l.found.items ≡ l.initial.found.items ++ with_spans l.self.points.now l.self.a (filter (is_on_line l.self.points.now l.self.a l.self.b) (take l.place-index l.near))
