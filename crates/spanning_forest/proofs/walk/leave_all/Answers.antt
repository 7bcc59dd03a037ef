use Rattle.std.proofs.Common.{arith, ◌<◌, ◌≤◌, length, sym, ap, subst}
use Rattle.std.specs.List.{All, Contains}
use Rattle.chain_terms.specs.Chains.{all_edges}
use Rattle.chain_terms.specs.Ranks.{start}
use Rattle.places_by_key.proofs.Upto.{length-map-upto}
use Rattle.places_by_key.specs.Buckets.{places_of}
use Rattle.mesh_terms.specs.Meshes.{triples_of}
use Rattle.spanning_forest.specs.Forests.{vertices_of}
use Rattle.spanning_forest.specs.Walks.{starts_of, AreReached}
use Rattle.spanning_forest.proofs.Growing.{growing_begins, growing_ends, growing_goes_on, next_below, next_read, next_spokes, next_starts}
use Rattle.spanning_forest.proofs.Spokes.{spokes_within}
use Rattle.spanning_forest.proofs.walk.leave_all.Goals as goal

pub loop-next-init : goal.loop-next-init
loop-next-init c =
    growing_begins (all_edges (triples_of c.args.triples.now)) c.args.seen.now c.args.entrances.now.items c.args.next c.requires.entered c.requires.next c.requires.left

pub bucket-requires : goal.bucket-requires
bucket-requires c =
    let es = all_edges (triples_of c.args.triples.now) in
    let seen = c.args.seen.now in
    let entrances = c.loop-next.entrances.items in
    let next = c.loop-next.next in
    let inside : next < length entrances = omega (arith, c.loop-next-test.true, c.len.ensures, c.loop-next.entrances.ok.0) in
    let at = next_read es entrances next c.entered-vertex.result c.index.result.now inside c.index.ensures c.entered-vertex.ensures in
    let low = next_below es seen c.args.entrances.now.items c.loop-next.seen entrances next c.loop-next.invariant inside in
    omega (arith, at, low, ap length c.requires.spokes, length-map-upto (places_of (starts_of es)) (length seen))

pub enter_ends-requires-clause-within : goal.enter_ends-requires-clause-within
enter_ends-requires-clause-within c =
    let es = all_edges (triples_of c.args.triples.now) in
    let old = c.args.seen.now in
    let before = c.args.entrances.now.items in
    let x = c.entered-vertex.result in
    let entrances = c.loop-next.entrances.items in
    let next = c.loop-next.next in
    let inside : next < length entrances = omega (arith, c.loop-next-test.true, c.len.ensures, c.loop-next.entrances.ok.0) in
    let at = next_read es entrances next x c.index.result.now inside c.index.ensures c.entered-vertex.ensures in
    let growing = c.loop-next.invariant in
    let is = next_spokes es x old before c.loop-next.seen entrances next c.args.spokes.now c.bucket.result.now growing inside at c.requires.spokes c.bucket.ensures in
    spokes_within c.args.triples.now x c.bucket.result.now is

pub enter_ends-requires-clause-starts : goal.enter_ends-requires-clause-starts
enter_ends-requires-clause-starts c =
    let es = all_edges (triples_of c.args.triples.now) in
    let old = c.args.seen.now in
    let before = c.args.entrances.now.items in
    let x = c.entered-vertex.result in
    let entrances = c.loop-next.entrances.items in
    let next = c.loop-next.next in
    let inside : next < length entrances = omega (arith, c.loop-next-test.true, c.len.ensures, c.loop-next.entrances.ok.0) in
    let at = next_read es entrances next x c.index.result.now inside c.index.ensures c.entered-vertex.ensures in
    let growing = c.loop-next.invariant in
    let is = next_spokes es x old before c.loop-next.seen entrances next c.args.spokes.now c.bucket.result.now growing inside at c.requires.spokes c.bucket.ensures in
    subst (All (λ h. Contains (vertices_of es entrances) (start es h))) (sym is) (next_starts es entrances next x inside at)

pub loop-next-preserved : goal.loop-next-preserved
loop-next-preserved c =
    let es = all_edges (triples_of c.args.triples.now) in
    let x = c.entered-vertex.result in
    let old = c.args.seen.now in
    let before = c.args.entrances.now.items in
    let seen = c.loop-next.seen in
    let entrances = c.loop-next.entrances.items in
    let next = c.loop-next.next in
    let new = c.enter_ends.new.seen in
    let later = c.enter_ends.new.entrances.items in
    let inside : next < length entrances = omega (arith, c.loop-next-test.true, c.len.ensures, c.loop-next.entrances.ok.0) in
    let at = next_read es entrances next x c.index.result.now inside c.index.ensures c.entered-vertex.ensures in
    let growing = c.loop-next.invariant in
    let is = next_spokes es x old before seen entrances next c.args.spokes.now c.bucket.result.now growing inside at c.requires.spokes c.bucket.ensures in
    growing_goes_on es x old before seen entrances next new later growing inside at
    (subst (λ l. AreReached es l seen entrances new later) is c.in_ok-enter_ends.ensures)

pub returns : goal.returns
returns c =
    let es = all_edges (triples_of c.args.triples.now) in
    let all : length c.loop-next.entrances.items ≤ c.loop-next.next = omega (arith, c.loop-next-test.false, c.len.ensures, c.loop-next.entrances.ok.0) in
    growing_ends es c.args.seen.now c.args.entrances.now.items c.loop-next.seen c.loop-next.entrances.items c.loop-next.next c.loop-next.invariant all
