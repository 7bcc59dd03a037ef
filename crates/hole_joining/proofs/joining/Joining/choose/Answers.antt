use Rattle.std.proofs.Common.{◌≡◌, sym, ap, ◌∙◌}
use Rattle.std.specs.Prelude.{None, Some, filter, true, false}
use Rattle.std.specs.Option.{option_or}
use Rattle.hole_joining.specs.Seen.{plane_at, start_of, clear_of, bridges_of}
use Rattle.hole_joining.specs.Bridges.{shortest}
use Rattle.hole_joining.specs.Passes.{is_after, passes, best_of}
use Rattle.hole_joining.proofs.Choice.{refused_none, refused_more, next_clear, next_none, rest_chosen, pass_after}
use Rattle.hole_joining.proofs.Choice.{pass_all, pass_clear, all_ascending, shortest_leads}
use Rattle.hole_joining.proofs.joining.Joining.choose.Goals as goal

pub loop-init : goal.loop-init
loop-init c =
    let j = c.args.self.now in
    record { rest = refused_none (clear_of j) (bridges_of j); next = c.best-any.ensures ∙ pass_after (clear_of j) None (bridges_of j) }

pub returns-in_default : goal.returns-in_default
returns-in_default c =
    let j = c.args.self.now in
    c.best-any.ensures ∙ pass_all (clear_of j) (bridges_of j)
    ∙ sym (next_none (clear_of j) c.loop.refused (bridges_of j) (sym c.loop.invariant.next ∙ c.in_default.is) c.loop.invariant.rest)

pub is_clear-requires-clause-ring : goal.is_clear-requires-clause-ring
is_clear-requires-clause-ring c =
    let j = c.args.self.now in
    (shortest_leads (plane_at j.flat) (start_of j) j.rings.now (is_after c.loop.refused) c.in-Some.bridge
    (sym c.loop.invariant.next ∙ c.in-Some.is)).ring

pub is_clear-requires-clause-place : goal.is_clear-requires-clause-place
is_clear-requires-clause-place c =
    let j = c.args.self.now in
    (shortest_leads (plane_at j.flat) (start_of j) j.rings.now (is_after c.loop.refused) c.in-Some.bridge
    (sym c.loop.invariant.next ∙ c.in-Some.is)).place

pub returns-then-is_clear : goal.returns-then-is_clear
returns-then-is_clear c =
    let j = c.args.self.now in
    let up = all_ascending (plane_at j.flat) (start_of j) 0 j.rings.now in
    sym (next_clear (clear_of j) c.loop.refused 0 0 (bridges_of j) up c.in-Some.bridge (sym c.loop.invariant.next ∙ c.in-Some.is)
    (sym c.is_clear.ensures ∙ c.if-is_clear.true) c.loop.invariant.rest)

pub loop-preserved : goal.loop-preserved
loop-preserved c =
    let j = c.args.self.now in
    let up = all_ascending (plane_at j.flat) (start_of j) 0 j.rings.now in
    let more =
    refused_more (clear_of j) c.loop.refused 0 0 (bridges_of j) up c.in-Some.bridge (sym c.loop.invariant.next ∙ c.in-Some.is)
    (sym c.is_clear.ensures ∙ c.if-is_clear.false) c.loop.invariant.rest in
    let passed : c.best-next.result ≡ best_of (passes (clear_of j) false (Some c.in-Some.bridge)) None (bridges_of j) = c.best-next.ensures in
    record { rest = more; next = passed ∙ pass_after (clear_of j) (Some c.in-Some.bridge) (bridges_of j) }

pub returns : goal.returns
returns c =
    let j = c.args.self.now in
    c.or.ensures ∙ ap (λ o. option_or o c.best-any.result) (c.best.ensures ∙ pass_clear (clear_of j) c.loop.refused (bridges_of j))
    ∙ ap (option_or (shortest (filter (passes (clear_of j) true c.loop.refused) (bridges_of j))))
    (c.best-any.ensures ∙ pass_all (clear_of j) (bridges_of j))
    ∙ sym (rest_chosen (clear_of j) c.loop.refused (bridges_of j) c.loop.invariant.rest)
