use Rattle.std.proofs.Common.{◌≡◌, ◌<◌, ◌+◌, ◌*◌, ℕ, length, get_or, map, rules, sym, ap, subst, ◌∙◌, arith, Vec, Global}
use Rattle.std.specs.Prelude.{replicate}
use Rattle.std.specs.List.{Contains}
use Rattle.std.proofs.lemmas.List.{length-map, length-replicate, with_items_is}
use Rattle.chain_terms.specs.Chains.{all_edges}
use Rattle.mesh_terms.specs.Meshes.{triples_of}
use Rattle.sheet_terms.specs.Chains.{upward}
use Rattle.angle_pairing.proofs.Groups.{many_firsts, many_groups}
use Rattle.angle_pairing.proofs.Lists.{edge_count}
use Rattle.angle_pairing.proofs.Pairing.{AreTwinned, group_between, leads_from, other_from, twinned_all, twinned_more, twinned_none, twinned_same, way_below, way_from}
use Rattle.angle_pairing.proofs.twins.twins_by_angle.Goals as goal
use Rattle.angle_pairing.proofs.twins.twins_by_angle.Goals.{then-index-half+in_ok-pair_edge, else-index-half}

pub loop-half-init : goal.loop-half-init
loop-half-init c =
    let es = all_edges (triples_of c.args.triples.now) in
    let made : c.in_ok-twins.twins.items ≡ replicate (3 * length c.args.triples.now) 0 = search rules in
    twinned_none c.args.points.now es c.args.edges.now.gathered.firsts.items c.in_ok-twins.twins.items
    (ap length made ∙ length-replicate (3 * length c.args.triples.now) 0 ∙ sym (edge_count c.args.triples.now))

pub index-requires : goal.index-requires
index-requires c =
    let es = all_edges (triples_of c.args.triples.now) in
    let gathered = c.args.edges.now.gathered in
    omega (
      arith,
      c.loop-half-test.true,
      many_firsts (map upward es) gathered.firsts.items gathered.groups c.requires.gathered,
      length-map es upward,
      edge_count c.args.triples.now,
      gathered.firsts.ok.0,
    )

pub index-requires-then-index-half : goal.index-requires-then-index-half
index-requires-then-index-half c =
    omega (
      arith,
      c.loop-half-test.true,
      ap length c.requires.ways,
      length-map (all_edges (triples_of c.args.triples.now)) upward,
      edge_count c.args.triples.now,
      c.args.edges.now.ways.ok.0,
    )

pub bucket-requires : goal.bucket-requires
bucket-requires c =
    let es = all_edges (triples_of c.args.triples.now) in
    let gathered = c.args.edges.now.gathered in
    omega (
      arith,
      c.loop-half-test.true,
      many_groups (map upward es) gathered.firsts.items gathered.groups c.requires.gathered,
      length-map es upward,
      edge_count c.args.triples.now,
    )

pub pair_edge-requires-clause-full : goal.pair_edge-requires-clause-full
pair_edge-requires-clause-full c = ap length c.deref_mut.ensures.value ∙ c.loop-half.invariant.full ∙ edge_count c.args.triples.now

pub pair_edge-requires-clause-low : goal.pair_edge-requires-clause-low
pair_edge-requires-clause-low c =
    let half_low : c.loop-half.half < length (all_edges (triples_of c.args.triples.now)) = omega (arith, c.loop-half-test.true, edge_count c.args.triples.now) in
    (way_from c.args.points.now (triples_of c.args.triples.now) c.requires.three c.requires.closed c.args.edges.now.ways.items
    c.requires.ways
    c.loop-half.half half_low c.index-then-index-half.result.now c.index-then-index-half.ensures).less

pub pair_edge-requires-clause-high : goal.pair_edge-requires-clause-high
pair_edge-requires-clause-high c =
    let half_low : c.loop-half.half < length (all_edges (triples_of c.args.triples.now)) = omega (arith, c.loop-half-test.true, edge_count c.args.triples.now) in
    way_below c.args.points.now (triples_of c.args.triples.now) c.requires.three c.requires.closed (length c.args.points.now) c.requires.below c.loop-half.half
    c.index-then-index-half.result.now.0 c.index-then-index-half.result.now.1 half_low
    (way_from c.args.points.now (triples_of c.args.triples.now) c.requires.three c.requires.closed c.args.edges.now.ways.items
    c.requires.ways
    c.loop-half.half half_low c.index-then-index-half.result.now c.index-then-index-half.ensures)

pub pair_edge-requires-clause-halves : goal.pair_edge-requires-clause-halves
pair_edge-requires-clause-halves c =
    let half_low : c.loop-half.half < length (all_edges (triples_of c.args.triples.now)) = omega (arith, c.loop-half-test.true, edge_count c.args.triples.now) in
    let gathered = c.args.edges.now.gathered in
    let are = c.requires.gathered in
    group_between c.args.points.now (triples_of c.args.triples.now) c.requires.three c.requires.closed gathered.firsts.items gathered.groups are c.loop-half.half
    c.index-then-index-half.result.now.0 c.index-then-index-half.result.now.1 half_low
    (leads_from c.args.points.now (triples_of c.args.triples.now) c.requires.three c.requires.closed gathered.firsts.items gathered.groups are c.loop-half.half half_low
    c.index.result.now c.index.ensures c.if-index-half.true)
    (way_from c.args.points.now (triples_of c.args.triples.now) c.requires.three c.requires.closed c.args.edges.now.ways.items
    c.requires.ways
    c.loop-half.half half_low c.index-then-index-half.result.now c.index-then-index-half.ensures)
    c.bucket.result.now c.bucket.ensures

pub loop-half-preserved : goal.loop-half-preserved
loop-half-preserved c =
    let points = c.args.points.now in
    let ts = triples_of c.args.triples.now in
    let three = c.requires.three in
    let closed = c.requires.closed in
    let half = c.loop-half.half in
    let twins = c.loop-half.twins.items in
    let gathered = c.args.edges.now.gathered in
    let are = c.requires.gathered in
    let half_low : half < length (all_edges ts) = omega (arith, c.loop-half-test.true, edge_count c.args.triples.now) in
    elim c.if-index-half.branch [
      | then-index-half+in_ok-pair_edge w ↦
          let e = w.index-then-index-half.result.now in
          let new = w.pair_edge.new.twins in
          let leads = leads_from points ts three closed gathered.firsts.items gathered.groups are half half_low c.index.result.now c.index.ensures w.if-index-half.true in
          let way = way_from points ts three closed c.args.edges.now.ways.items c.requires.ways half half_low e
          w.index-then-index-half.ensures in
          let group = group_between points ts three closed gathered.firsts.items gathered.groups are half e.0 e.1 half_low leads way w.bucket.result.now w.bucket.ensures in
          let full : length new ≡ length twins = w.pair_edge.ensures.full ∙ ap length w.deref_mut.ensures.value in
          let kept : length new ≡ c.loop-half.twins.len = full ∙ sym c.loop-half.twins.ok.0 in
          subst (λ l. AreTwinned points (all_edges ts) gathered.firsts.items (half + 1) l)
          (sym (ap (λ (v : Vec ℕ Global). v.items) w.twins-is ∙ with_items_is c.loop-half.twins new kept))
          (twinned_more points ts three closed gathered.firsts.items gathered.groups are half e.0 e.1 twins new half_low leads way c.loop-half.invariant full
          (λ h there. w.in_ok-pair_edge.ensures.pairs h (subst (λ l. Contains l h) (sym group) there))
          (λ h out. w.in_ok-pair_edge.ensures.others h (λ there. out (subst (λ l. Contains l h) group there)) ∙ ap (λ l. get_or l h 0) w.deref_mut.ensures.value))
      | else-index-half w ↦
          subst (λ l. AreTwinned points (all_edges ts) gathered.firsts.items (half + 1) l) (sym (ap (λ (v : Vec ℕ Global). v.items) w.twins-is))
          (twinned_same points ts three closed gathered.firsts.items gathered.groups are half twins half_low
          (other_from points ts three closed gathered.firsts.items gathered.groups are half half_low c.index.result.now c.index.ensures w.if-index-half.false)
          c.loop-half.invariant)
    ]

pub returns : goal.returns
returns c =
    let gathered = c.args.edges.now.gathered in
    twinned_all c.args.points.now (triples_of c.args.triples.now) c.requires.three c.requires.closed gathered.firsts.items gathered.groups
    c.requires.gathered c.loop-half.half c.loop-half.twins.items (omega (arith, c.loop-half-test.false, edge_count c.args.triples.now))
    c.loop-half.invariant
