use Rattle.std.proofs.Common.{◌≡◌, ℕ, List, ◌-◌, true, false, length, get_or, sym, subst, ap, ◌∙◌, arith}
use Rattle.ring_cutting.specs.Left.{lives, place_of}
use Rattle.ring_cutting.specs.Placed.{place_blocks}
use Rattle.ring_cutting.specs.Spans.{IsIn, span_of, node_of}
use Rattle.ring_cutting.specs.declared.span.Span.{Span}
use Rattle.ring_cutting.proofs.Lefts.{lives_within}
use Rattle.ring_cutting.proofs.Trees.{in_node, leaf_is, second_false, no_block, where_none, below_both}
use Rattle.ring_cutting.proofs.hulls.+seek.Goals as goal

pub returns-then-misses-clause-none : goal.returns-then-misses-clause-none
returns-then-misses-clause-none t c = λ i way l e.
    let x = place_of c.args.places.now i in
    no_block c.args.c.now.p c.args.c.now.x c.args.c.now.n x
    (c.misses.ensures c.if-misses.true x.at
    (subst (λ s. IsIn s x.at) (sym (c.span_at-span.ensures ∙ ap (λ (ss : List Span). span_of ss c.args.node) c.deref.ensures.value))
    (in_node c.args.places.now c.args.living.now c.args.hulls.now c.args.node i way c.requires.hulls c.requires.some l e)))

pub returns-else-is_blocker-clause-none : goal.returns-else-is_blocker-clause-none
returns-else-is_blocker-clause-none t c = λ i way l e.
    let ps = c.args.places.now in
    let bs = c.args.living.now in
    let a = c.args.c.now in
    let w = c.number_at-w.result in
    let same : i ≡ w =
    leaf_is ps bs c.args.hulls.now c.args.node i w way c.requires.hulls (omega (arith, c.if-node-places.true)) l e
    (c.number_at-w.ensures ∙ ap (λ (k : List ℕ). get_or k (c.args.node - length ps) 0) c.deref-then-node-places.ensures.value) in
    subst (λ (k : ℕ). place_blocks a.p a.x a.n (place_of ps k) ≡ false) (sym same)
    (second_false (lives bs w) (place_blocks a.p a.x a.n (place_of ps w)) c.is_blocker.result c.is_blocker.ensures c.if-is_blocker.false
    (subst (λ (k : ℕ). lives bs k ≡ true) same l))

pub returns-in-None-clause-none : goal.returns-in-None-clause-none
returns-in-None-clause-none t c =
    let ps = c.args.places.now in
    let bs = c.args.living.now in
    let h = c.args.hulls.now in
    let a = c.args.c.now in
    where_none c.seek-in-None.result (λ f i way l e.
    let own = c.requires.hulls.tree.nodes i (omega (arith, lives_within bs i l, c.requires.hulls.living_long)) in
    below_both (length ps) c.args.node (node_of h.nodes.items i) (place_blocks a.p a.x a.n (place_of ps i) ≡ false) own.least c.if-node-places.false
    (λ u d. c.in-None.ensures.none i u l d) (λ u d. f i u l d) way e) c.seek-in-None.ensures.none
