use Rattle.std.proofs.Common.{length, map, ap, ◌∙◌, arith}
use Rattle.std.proofs.lemmas.List.{take_all}
use Rattle.chain_terms.specs.Ranks.{start}
use Rattle.plane_chains.specs.EdgeBoxes.{pair_of}
use Rattle.sheet_terms.specs.Walks.{follower}
use Rattle.plane_sheets.specs.Seen.{seen_in}
use Rattle.plane_sheets.proofs.Following.{length-listed, round_below, walks_are}
use Rattle.plane_sheets.proofs.walks.walks_of.Goals as goal

pub rounds-requires : goal.rounds-requires
rounds-requires c =
    let follow = follower (seen_in c.args.flat) (map pair_of c.args.edges.now) in
    let many = length-listed follow (length c.args.edges.now) c.deref.result.now (c.deref.ensures.value ∙ c.in_ok-next.ensures) in
    omega (arith, many, c.if-edges.false)

pub starts_of-requires : goal.starts_of-requires
starts_of-requires c =
    let follow = follower (seen_in c.args.flat) (map pair_of c.args.edges.now) in
    let rounds = c.in_ok-rounds.rounds.items in
    let items = c.deref-round-items.result.now in
    let many = length-listed follow (length c.args.edges.now) c.deref.result.now (c.deref.ensures.value ∙ c.in_ok-next.ensures) in
    round_below (length c.args.edges.now) (length c.deref.result.now) c.loop-round.round-index rounds items c.vertices.result.now c.round-item.result c.in_ok-rounds.ensures.below
    c.deref-round-items.ensures.value many (omega (arith, c.loop-round-test.true)) (c.vertices.ensures ∙ c.round-item.is)

pub returns : goal.returns
returns c =
    let es = map pair_of c.args.edges.now in
    let next = c.deref.result.now in
    let rounds = c.deref-round-items.result.now in
    c.loop-round.invariant
    ∙ ap (map (map (start es))) (take_all c.loop-round.round-index rounds (omega (arith, c.loop-round-test.false)))
    ∙ walks_are (seen_in c.args.flat) c.args.edges.now next rounds (c.deref.ensures.value ∙ c.in_ok-next.ensures) (c.deref-round-items.ensures.value ∙ c.in_ok-rounds.ensures.value)
