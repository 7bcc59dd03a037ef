use Rattle.std.proofs.Common.{◌≡◌, ◌<◌, ◌*◌, ℕ, List, length, get_or, sym, ap, subst, ◌∙◌, arith}
use Rattle.std.specs.List.{All}
use Rattle.chain_terms.specs.Chains.{all_edges}
use Rattle.mesh_terms.specs.Meshes.{triples_of}
use Rattle.sheet_terms.specs.Twins.{between, turns_before}
use Rattle.angle_pairing.proofs.Lists.{edge_count}
use Rattle.angle_pairing.proofs.Pairing.{between_below, bracket_is, of_order, round_brackets, to_order, two_others, two_pairs}
use Rattle.angle_pairing.proofs.Seating.{All-ordered}
use Rattle.angle_pairing.proofs.twins.pair_edge.Goals as goal

-- half-edges between the two places are below the count of half-edges
halves_low : (ts : List (List ℕ)) (low high : ℕ) → low < high → (halves : List ℕ) → halves ≡ between (all_edges (triples_of ts)) low high → All (λ h. h < 3 * length ts) halves
halves_low ts low high less halves is = between_below (all_edges (triples_of ts)) low high (3 * length ts) less (edge_count ts) halves is

pub join-requires-clause-one : goal.join-requires-clause-one
join-requires-clause-one c =
    omega (
      arith,
      c.requires.full,
      halves_low c.args.triples.now c.args.low c.args.high c.requires.low c.args.halves.now c.requires.halves 0 0 (omega arith),
    )

pub join-requires-clause-other : goal.join-requires-clause-other
join-requires-clause-other c =
    omega (
      arith,
      c.requires.full,
      halves_low c.args.triples.now c.args.low c.args.high c.requires.low c.args.halves.now c.requires.halves 1 0 (omega arith),
    )

pub returns-then-halves-eq2-clause-pairs : goal.returns-then-halves-eq2-clause-pairs
returns-then-halves-eq2-clause-pairs c h there =
    let halves = c.args.halves.now in
    let low = halves_low c.args.triples.now c.args.low c.args.high c.requires.low halves c.requires.halves in
    ap (λ l. get_or l h 0) c.join.ensures
    ∙ two_pairs c.args.points.now (triples_of c.args.triples.now) c.requires.three c.requires.closed c.args.low c.args.high c.requires.low halves c.requires.halves
    c.if-halves-eq2.true c.args.twins.now (omega (arith, c.requires.full, low 0 0 (omega arith))) (omega (arith, c.requires.full, low 1 0 (omega arith))) h there

pub returns-then-halves-eq2-clause-others : goal.returns-then-halves-eq2-clause-others
returns-then-halves-eq2-clause-others c h out =
    ap (λ l. get_or l h 0) c.join.ensures
    ∙ two_others c.args.points.now (triples_of c.args.triples.now) c.requires.three c.requires.closed c.args.low c.args.high c.requires.low c.args.halves.now
    c.requires.halves c.if-halves-eq2.true c.args.twins.now h out

pub round_edge-requires-clause-halves : goal.round_edge-requires-clause-halves
round_edge-requires-clause-halves c = halves_low c.args.triples.now c.args.low c.args.high c.requires.low c.args.halves.now c.requires.halves

pub pair_round-requires-clause-halves : goal.pair_round-requires-clause-halves
pair_round-requires-clause-halves c =
    let ts = triples_of c.args.triples.now in
    let halves = c.args.halves.now in
    let before = turns_before c.args.points.now (all_edges ts) c.args.low c.args.high (get_or halves 0 0) in
    subst (All (λ h. h < 3 * length c.args.triples.now)) (sym (c.deref.ensures.value ∙ c.in_ok-order.ensures))
    (All-ordered (λ h. h < 3 * length c.args.triples.now) before halves
    (halves_low c.args.triples.now c.args.low c.args.high c.requires.low halves c.requires.halves))

pub pair_round-requires-clause-brackets : goal.pair_round-requires-clause-brackets
pair_round-requires-clause-brackets c =
    round_brackets c.args.points.now (triples_of c.args.triples.now) c.requires.three c.requires.closed c.args.low c.args.high c.requires.low c.args.halves.now
    c.deref.result.now c.requires.halves (c.deref.ensures.value ∙ c.in_ok-order.ensures)

pub returns-clause-pairs : goal.returns-clause-pairs
returns-clause-pairs c h there =
    let order_is = c.deref.ensures.value ∙ c.in_ok-order.ensures in
    c.in_ok-pair_round.ensures.pairs h
    (to_order c.args.points.now (triples_of c.args.triples.now) c.requires.three c.requires.closed c.args.low c.args.high c.requires.low c.args.halves.now
    c.deref.result.now c.requires.halves order_is h there)
    ∙ bracket_is c.args.points.now (triples_of c.args.triples.now) c.requires.three c.requires.closed c.args.low c.args.high c.requires.low c.args.halves.now
    c.deref.result.now c.requires.halves order_is h

pub returns-clause-others : goal.returns-clause-others
returns-clause-others c h out =
    c.in_ok-pair_round.ensures.others h
    (λ there. out
    (of_order c.args.points.now (triples_of c.args.triples.now) c.requires.three c.requires.closed c.args.low c.args.high c.requires.low c.args.halves.now
    c.deref.result.now c.requires.halves (c.deref.ensures.value ∙ c.in_ok-order.ensures) h there))
