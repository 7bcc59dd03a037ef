use Rattle.std.proofs.Common.{◌<◌, ◌∙◌, ap, arith, length, map, subst, sym}
use Rattle.std.specs.List.{All}
use Rattle.std.proofs.lemmas.List.{length-map}
use Rattle.chain_laws.proofs.Places.{length-up_from}
use Rattle.chain_terms.specs.Sums.{upto}
use Rattle.places_by_key.specs.Buckets.{places_of}
use Rattle.sheet_terms.specs.Chains.{same_edge}
use Rattle.plane_chains.specs.Nets.{nonzero}
use Rattle.plane_chains.specs.Ways.{net_among, way_up}
use Rattle.plane_chains.proofs.ChainParts.{bucket_is, chained_start}
use Rattle.plane_chains.proofs.FirstKeys.{placed_below, placed_long}
use Rattle.plane_chains.proofs.WayLists.{bucket_below, bucket_few, bucket_nets, chained_all, chained_more, edges_equal}
use Rattle.plane_chains.proofs.chain.chain_of.Goals as goal

pub by_key-requires-clause-below : goal.by_key-requires-clause-below
by_key-requires-clause-below c = placed_below same_edge edges_equal (map way_up c.args.ways.now) c.args.edges.now c.args.edge_of.now c.requires.placed

pub by_key-requires-clause-few : goal.by_key-requires-clause-few
by_key-requires-clause-few c =
    omega (
      arith,
      placed_long same_edge edges_equal (map way_up c.args.ways.now) c.args.edges.now c.args.edge_of.now c.requires.placed,
      length-map c.args.ways.now way_up,
      c.requires.few,
    )

pub loop-number-init : goal.loop-number-init
loop-number-init c = chained_start c.args.ways.now c.args.edges.now c.new.result.items c.none.result c.new.ensures.items c.none.ensures

pub bucket-requires : goal.bucket-requires
bucket-requires c =
    let n = length c.args.edges.now in
    omega (arith, ap length c.in_ok-gathered.ensures, length-map (upto n) (places_of c.args.edge_of.now), length-up_from 0 n, c.loop-number-test.true)

pub add_up-requires-clause-below : goal.add_up-requires-clause-below
add_up-requires-clause-below c =
    let is = bucket_is c.args.edge_of.now (length c.args.edges.now) c.loop-number.number c.in_ok-gathered.gathered c.bucket.result.now c.in_ok-gathered.ensures
    c.loop-number-test.true c.bucket.ensures in
    subst (λ ns. All (λ i. i < length c.args.ways.now) ns) (sym is)
    (bucket_below c.args.ways.now c.args.edges.now c.args.edge_of.now c.requires.placed c.loop-number.number c.loop-number-test.true)

pub add_up-requires-clause-few : goal.add_up-requires-clause-few
add_up-requires-clause-few c =
    let is = bucket_is c.args.edge_of.now (length c.args.edges.now) c.loop-number.number c.in_ok-gathered.gathered c.bucket.result.now c.in_ok-gathered.ensures
    c.loop-number-test.true c.bucket.ensures in
    omega (
      arith,
      ap length is,
      bucket_few c.args.ways.now c.args.edges.now c.args.edge_of.now c.requires.placed c.loop-number.number c.loop-number-test.true,
      c.requires.few,
    )

pub loop-number-preserved : goal.loop-number-preserved
loop-number-preserved c =
    let ways = c.args.ways.now in
    let edges = c.args.edges.now in
    let of = c.args.edge_of.now in
    let k = c.loop-number.number in
    let is = bucket_is of (length edges) k c.in_ok-gathered.gathered c.bucket.result.now c.in_ok-gathered.ensures c.loop-number-test.true c.bucket.ensures in
    chained_more ways edges k c.loop-number.chain.edges.items c.push.new.self.edges.items c.loop-number.chain.nets c.push.new.self.nets c.deref.result.now
    c.loop-number-test.true c.loop-number.invariant c.in_ok-push.ensures.edges c.in_ok-push.ensures.nets
    (λ n h. c.deref.ensures.value ∙ c.in_ok-add_up.ensures n h ∙ ap (λ s. nonzero (net_among n ways s)) is
    ∙ ap nonzero (bucket_nets ways edges of c.requires.placed k c.loop-number-test.true n))

pub returns : goal.returns
returns c = λ n h.
    chained_all n c.args.ways.now c.args.edges.now c.args.edge_of.now c.loop-number.number c.loop-number.chain.edges.items c.loop-number.chain.nets c.requires.placed
    c.loop-number-test.false c.loop-number.invariant h
