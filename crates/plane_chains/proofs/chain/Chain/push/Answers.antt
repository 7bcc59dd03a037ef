use Rattle.std.proofs.Common.{◌<◌, ◌==◌, ◌≡◌, ◌∙◌, arith, false, length, sym, true}
use Rattle.std.proofs.lemmas.Bool.{eqb-false, eqb-true}
use Rattle.plane_chains.specs.declared.chain.Chain.{Chain}
use Rattle.plane_chains.proofs.ChainParts.{pushed_none, pushed_some}
use Rattle.plane_chains.proofs.EdgeBoxLists.{on_ok}
use Rattle.plane_chains.proofs.chain.Chain.push.Goals as goal

pub returns-then-is_empty : goal.returns-then-is_empty
returns-then-is_empty c =
    let none : (length c.args.net.now == 0) ≡ true = sym c.is_empty.ensures ∙ c.if-is_empty.true in
    pushed_none c.args.self.now c.args.edge c.args.net.now (eqb-true (length c.args.net.now) 0 none)

pub returns : goal.returns
returns c =
    let full : (length c.args.net.now == 0) ≡ false = sym c.is_empty.ensures ∙ c.if-is_empty.false in
    let some : 0 < length c.args.net.now = omega (arith, eqb-false (length c.args.net.now) 0 full) in
    let new : Chain = record { edges = c.push.new.self; nets = c.push_list.new.self } in
    on_ok c.push_list.result (pushed_some c.args.self.now new c.args.edge c.args.net.now some c.in_ok-push.ensures.items) c.push_list.ensures
