use Rattle.std.proofs.Common.{ℕ, List, length, ap, sym, subst, ◌∙◌, arith}
use Rattle.chain_terms.specs.Cycles.{cycles}
use Rattle.face_loops.specs.Segments.{IsOneToOne, edges_of}
use Rattle.outline_pair_terms.specs.Lists.{flat_copies}
use Rattle.outline_terms.specs.Outlines.{IsOutline}
use Rattle.cross_section.specs.Copies.{AreCopies}
use Rattle.cross_section.proofs.combine.outline_of.Goals as goal

pub segments_of-requires-clause-copies : goal.segments_of-requires-clause-copies
segments_of-requires-clause-copies c =
    let copies = c.in_ok-copies.copies in
    let p = c.deref.ensures.value ∙ c.in_ok-p_edges.ensures.value in
    let q = c.deref-2.ensures.value ∙ c.in_ok-q_edges.ensures.value in
    subst (λ (x : List (ℕ × ℕ) × List (ℕ × ℕ)). AreCopies x.0 x.1
    (flat_copies c.args.op c.args.p.now c.args.q.now c.args.numbers.now) copies.points.items copies.starts.items copies.ends.items)
    (λ i. (p i, q i)) c.in_ok-copies.ensures

pub segments_of-requires-clause-few : goal.segments_of-requires-clause-few
segments_of-requires-clause-few c =
    let cs = flat_copies c.args.op c.args.p.now c.args.q.now c.args.numbers.now in
    omega (arith, ap length c.in_ok-copies.ensures.points, c.requires.loops.outline.few)

pub loops-requires : goal.loops-requires
loops-requires c = subst IsOneToOne (sym (ap edges_of c.deref-5.ensures.value ∙ c.in_ok-segments.ensures)) c.requires.loops.once

pub of-requires : goal.of-requires
of-requires c =
    let loops = c.in_ok-loops.ensures.value ∙ ap cycles (ap edges_of c.deref-5.ensures.value ∙ c.in_ok-segments.ensures) in
    subst IsOutline (λ i. record { points = sym c.in_ok-copies.ensures.points i; loops = sym loops i }) c.requires.loops.outline

pub returns : goal.returns
returns c =
    let loops = c.in_ok-loops.ensures.value ∙ ap cycles (ap edges_of c.deref-5.ensures.value ∙ c.in_ok-segments.ensures) in
    c.of.ensures ∙ (λ i. record { points = c.in_ok-copies.ensures.points i; loops = loops i })
