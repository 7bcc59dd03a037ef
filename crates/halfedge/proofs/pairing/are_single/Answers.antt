use Rattle.std.proofs.Common.{rules, ◌≡◌, ◌-◌, ◌+◌, true, ℕ, sym, ap, ◌∙◌, arith}
use Rattle.halfedge.proofs.Single.{runs_with, single_from_steps, not_single}
use Rattle.halfedge.proofs.pairing.are_single.Goals as goal

pub returns-then-eq : goal.returns-then-eq
returns-then-eq c =
    let i : ℕ = c.loop-i.i - 1 in
    let here : i + 1 ≡ c.loop-i.i = omega (arith, c.loop-i.auto.i) in
    let same : runs_with c.args.edges.now i (i + 1) ≡ true = ap (runs_with c.args.edges.now i) here ∙ sym c.eq.ensures ∙ c.if-eq.true in
    (λ t. absurd (search rules), λ single. absurd (not_single c.args.edges.now i (omega (arith, here, c.loop-i-test.true)) same single))

pub returns : goal.returns
returns c = (
  λ t. single_from_steps c.args.edges.now c.requires (λ j below. c.loop-i.invariant j (omega (arith, below, c.loop-i-test.false, c.loop-i.auto.i-end))),
  λ single. search rules,
)
