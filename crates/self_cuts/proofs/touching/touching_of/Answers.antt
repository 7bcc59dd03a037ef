use Rattle.std.proofs.Common.{◌≡◌, ◌<◌, ◌≤◌, ◌+◌, ◌∙◌, [], ap, arith, get_or, length, subst, sym}
use Rattle.std.specs.Prelude.{◌==◌, count_by, nat_lt}
use Rattle.std.specs.List.{All}
use Rattle.std.proofs.lemmas.List.{length-map}
use Rattle.chain_terms.specs.Sums.{upto}
use Rattle.chain_laws.proofs.Places.{length-up_from}
use Rattle.places_by_key.specs.Buckets.{places_of}
use Rattle.inspection_terms.specs.Inspected.{is_touching, pairs_below}
use Rattle.inspection_laws.specs.Sharing.{edges_upto}
use Rattle.inspection_laws.proofs.Counting.{count-up_from}
use Rattle.inspection_laws.proofs.Ends.{bucket_is, ends_same, few_edges, lows_below, places_below, places_few}
use Rattle.inspection_laws.proofs.Sharing.{touching_at, touching_more}
use Rattle.self_cuts.proofs.touching.touching_of.Goals as goal
use Rattle.self_cuts.proofs.touching.touching_of.Goals.{After-met_often-more, After-bucket}

pub bucket-requires : goal.bucket-requires
bucket-requires c =
    let n = length c.args.mesh.now.points in
    let many : length c.args.by_high.now ≡ n = ap length c.requires.by_high ∙ length-map (upto n) (places_of c.args.edges.now.highs.items) ∙ length-up_from 0 n in
    omega (arith, many, c.loop-v-test.true, c.loop-v.auto.v-end, c.requires.firsts.full)

-- the places of the edges with this greater end
bucket : (c : After-bucket) → c.bucket.result.now ≡ places_of c.args.edges.now.highs.items c.loop-v.v
bucket c =
    let n = length c.args.mesh.now.points in
    let within : c.loop-v.v < n = omega (arith, c.loop-v-test.true, c.loop-v.auto.v-end, c.requires.firsts.full) in
    c.bucket.ensures ∙ ap (λ bs. get_or bs c.loop-v.v []) c.requires.by_high ∙ bucket_is c.args.edges.now.highs.items n c.loop-v.v within

pub met_often-more-requires-clause-lows : goal.met_often-more-requires-clause-lows
met_often-more-requires-clause-lows c =
    let m = c.args.mesh.now in
    subst (All (λ low. low < length c.loop-v.uses)) (sym (c.deref.ensures.value ∙ c.requires.lows))
    (λ k d h. omega (arith, lows_below m c.args.firsts.now c.requires.firsts c.triples.ensures.accepted.mesh.below k d h, c.loop-v.invariant.full))

pub met_often-more-requires-clause-places : goal.met_often-more-requires-clause-places
met_often-more-requires-clause-places c =
    let m = c.args.mesh.now in
    let highs = c.args.edges.now.highs.items in
    let is = bucket (goal.at.met_often-more-requires-clause-places c).After-bucket in
    let same = ends_same (edges_upto m c.args.firsts.now (length m.triples)) c.deref.result.now highs (c.deref.ensures.value ∙ c.requires.lows) c.requires.highs in
    subst (All (λ p. p < length c.deref.result.now)) (sym is) (λ k d h. omega (arith, places_below highs c.loop-v.v k d h, same))

pub met_often-more-requires-clause-few : goal.met_often-more-requires-clause-few
met_often-more-requires-clause-few c =
    let m = c.args.mesh.now in
    let highs = c.args.edges.now.highs.items in
    let is = bucket (goal.at.met_often-more-requires-clause-few c).After-bucket in
    let edges = edges_upto m c.args.firsts.now (length m.triples) in
    let few = c.triples.ensures.accepted.mesh.few_triples in
    let many : length highs ≡ length edges = ap length c.requires.highs ∙ length-map edges (λ e. e.1) in
    omega (arith, ap length is, places_few highs c.loop-v.v, many, few_edges m c.args.firsts.now (length m.triples), few)

pub met_often-more-requires-clause-none : goal.met_often-more-requires-clause-none
met_often-more-requires-clause-none c = c.loop-v.invariant.none

-- so many of them touch
more_is : (c : After-met_often-more) → c.met_often-more.result ≡ count_by (λ s. is_touching c.args.mesh.now (s, c.loop-v.v)) (upto c.loop-v.v)
more_is c =
    let m = c.args.mesh.now in
    let firsts = c.args.firsts.now in
    let lows = c.deref.result.now in
    let highs = c.args.edges.now.highs.items in
    let v = c.loop-v.v in
    let low : v < length m.points = omega (arith, c.loop-v-test.true, c.loop-v.auto.v-end, c.requires.firsts.full) in
    let is : c.bucket.result.now ≡ places_of highs v =
    c.bucket.ensures ∙ ap (λ bs. get_or bs v []) c.requires.by_high ∙ bucket_is highs (length m.points) v low in
    let within : v ≤ length m.points = omega (arith, c.loop-v-test.true, c.loop-v.auto.v-end, c.requires.firsts.full) in
    c.met_often-more.ensures.value
    ∙ (λ i. count_by (λ s. nat_lt 2 (count_by (λ p. get_or lows p 0 == s) (is i))) (upto (c.loop-v.invariant.full i)))
    ∙ touching_at m firsts c.requires.firsts c.triples.ensures.accepted.mesh.below lows highs (c.deref.ensures.value ∙ c.requires.lows) c.requires.highs v within

pub overflow_add-count : goal.overflow_add-count
overflow_add-count c =
    let m = c.args.mesh.now in
    let is = more_is (goal.at.overflow_add-count c).After-met_often-more in
    let few = c.triples.ensures.accepted.mesh.few_points in
    omega (
      arith,
      is,
      count-up_from (λ s. is_touching m (s, c.loop-v.v)) 0 c.loop-v.v,
      c.loop-v.invariant.few,
      c.from-count.ensures,
      few,
      c.loop-v-test.true,
      c.loop-v.auto.v-end,
      c.requires.firsts.full,
    )

pub loop-v-preserved : goal.loop-v-preserved
loop-v-preserved c =
    let m = c.args.mesh.now in
    let is = more_is (goal.at.loop-v-preserved c).After-met_often-more in
    let few = c.triples.ensures.accepted.mesh.few_points in
    record {
      value = ap (λ k. c.loop-v.count + k) c.from-count.ensures
          ∙ touching_more m c.loop-v.v c.loop-v.count c.met_often-more.result c.loop-v.invariant.value is;
      few = omega (
        arith,
        is,
        count-up_from (λ s. is_touching m (s, c.loop-v.v)) 0 c.loop-v.v,
        c.loop-v.invariant.few,
        c.from-count.ensures,
        few,
        c.loop-v-test.true,
        c.loop-v.auto.v-end,
        c.requires.firsts.full,
      );
      full = c.met_often-more.ensures.length ∙ c.loop-v.invariant.full;
      none = c.met_often-more.ensures.none;
    }

pub returns : goal.returns
returns c =
    let m = c.args.mesh.now in
    let end : c.loop-v.v ≡ length m.points = omega (arith, c.loop-v-test.false, c.loop-v.auto.v-end, c.requires.firsts.full) in
    c.loop-v.invariant.value ∙ ap (λ n. count_by (is_touching m) (pairs_below n)) end
