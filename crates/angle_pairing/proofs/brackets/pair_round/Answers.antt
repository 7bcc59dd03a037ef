use Rattle.std.proofs.Common.{◌<◌, ℕ, drop, length, get_or, subst, sym, refl, ap, arith}
use Rattle.std.proofs.lemmas.Grind.{common_steps}
use Rattle.std.proofs.lemmas.List.{drop_all}
use Rattle.std.specs.Prelude.{◌==◌}
use Rattle.std.specs.List.{All}
use Rattle.chain_terms.specs.Chains.{all_edges}
use Rattle.chain_terms.specs.Ranks.{start}
use Rattle.mesh_terms.specs.Meshes.{triples_of}
use Rattle.angle_pairing.proofs.Bracketing.{AreLate, late_begins, late_done, late_next, late_step, reading_none, reading_step}
use Rattle.angle_pairing.proofs.brackets.pair_round.Goals as goal

pub loop-half-init : goal.loop-half-init
loop-half-init c =
    reading_none (λ h. start (all_edges (triples_of c.args.triples.now)) h == c.args.high) c.args.order.now c.new-left.result.items c.new-held.result.items c.args.twins.now
    c.new-left.ensures.items c.new-held.ensures.items

pub take-requires-clause-half : goal.take-requires-clause-half
take-requires-clause-half c =
    let h = c.requires.halves c.loop-half.half-index 0 c.loop-half-test.true in omega (arith, h, c.requires.full, c.loop-half.invariant.full)

pub take-requires-clause-held : goal.take-requires-clause-held
take-requires-clause-held c = c.loop-half.invariant.lows

pub loop-half-preserved : goal.loop-half-preserved
loop-half-preserved c =
    let order = c.args.order.now in
    let i = c.loop-half.half-index in
    let x : ℕ = get_or order i 0 in
    let olds = subst (λ n. All (λ h. h < n) order) (sym c.requires.full) c.requires.halves in
    reading_step (λ h. start (all_edges (triples_of c.args.triples.now)) h == c.args.high) order c.requires.brackets.differ i x c.loop-half-test.true refl
    c.loop-half.left.items c.loop-half.held.items c.args.twins.now c.loop-half.twins c.loop-half.invariant olds
    (start (all_edges (triples_of c.args.triples.now)) x == c.args.high) refl
    c.take.new.left.items c.take.new.held.items c.take.new.twins (λ e. c.in_ok-take.ensures.opened (grind (arith, common_steps, e)))
    (λ e. c.in_ok-take.ensures.left (grind (arith, common_steps, e))) (λ e. c.in_ok-take.ensures.closed (grind (arith, common_steps, e)))

pub loop-late-init : goal.loop-late-init
loop-late-init c =
    let order = c.args.order.now in
    subst (λ l. AreLate (λ h. start (all_edges (triples_of c.args.triples.now)) h == c.args.high) order l c.loop-half.held.items c.args.twins.now c.loop-half.twins)
    (sym c.deref-late-items.ensures.value)
    (late_begins (λ h. start (all_edges (triples_of c.args.triples.now)) h == c.args.high) order c.requires.brackets c.loop-half.half-index
    c.loop-half.left.items c.loop-half.held.items
    c.args.twins.now c.loop-half.twins (omega (arith, c.loop-half-test.false)) c.loop-half.invariant)

pub close-requires-clause-half : goal.close-requires-clause-half
close-requires-clause-half c =
    let order = c.args.order.now in
    let olds = subst (λ n. All (λ h. h < n) order) (sym c.requires.full) c.requires.halves in
    late_next (λ h. start (all_edges (triples_of c.args.triples.now)) h == c.args.high) order c.requires.brackets.differ c.deref-late-items.result.now c.loop-late.late-index _
    c.loop-late-test.true refl c.loop-late.held.items c.args.twins.now c.loop-late.twins c.loop-late.invariant olds

pub close-requires-clause-held : goal.close-requires-clause-held
close-requires-clause-held c = c.loop-late.invariant.lows

pub loop-late-preserved : goal.loop-late-preserved
loop-late-preserved c =
    let order = c.args.order.now in
    let olds = subst (λ n. All (λ h. h < n) order) (sym c.requires.full) c.requires.halves in
    late_step (λ h. start (all_edges (triples_of c.args.triples.now)) h == c.args.high) order c.requires.brackets.differ c.deref-late-items.result.now c.loop-late.late-index _
    c.loop-late-test.true refl c.loop-late.held.items c.args.twins.now c.loop-late.twins c.loop-late.invariant olds c.close.new.held.items c.close.new.twins c.close.ensures.last

pub returns-clause-pairs : goal.returns-clause-pairs
returns-clause-pairs c h there =
    let all = c.deref-late-items.result.now in
    late_done (λ h. start (all_edges (triples_of c.args.triples.now)) h == c.args.high) c.args.order.now (drop c.loop-late.late-index all)
    c.loop-late.held.items c.args.twins.now c.loop-late.twins
    (ap length (drop_all c.loop-late.late-index all (omega (arith, c.loop-late-test.false)))) c.loop-late.invariant h there

pub returns-clause-others : goal.returns-clause-others
returns-clause-others c h out = c.loop-late.invariant.others h out
