use Rattle.std.proofs.Common.{sym, ap, ◌∙◌}
use Rattle.std.specs.List.{list_any}
use Rattle.hole_joining.specs.declared.flat.BridgeLine.{BridgeLine}
use Rattle.hole_joining.specs.Cones.{bars}
use Rattle.hole_joining.specs.Obstacles.{all_edges}
use Rattle.hole_joining.specs.Seen.{plane_at, asked_edges}
use Rattle.hole_joining.proofs.Barring.{marks, same_any}
use Rattle.hole_joining.proofs.joining.Joining.is_barred.Goals as goal

pub returns : goal.returns
returns c =
    let j = c.args.self.now in
    let test = bars (plane_at j.flat) c.args.h c.args.r in
    let all = all_edges j.obstacles.now in
    c.bar.ensures ∙ ap (λ (s : BridgeLine). list_any (bars (plane_at j.flat) s.from.vertex s.to.vertex) all) c.segment.ensures
    ∙ sym (same_any test test (asked_edges j) all (c.requires.same (marks test)))
