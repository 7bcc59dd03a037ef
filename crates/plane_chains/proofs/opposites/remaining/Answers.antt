use Rattle.std.proofs.Common.{[], ap, arith, length, get_or, refl, rules, sym, take, ◌*◌, ◌+◌, ◌<◌, ◌==◌, ◌≡◌, ◌∙◌, set}
use Rattle.std.specs.Prelude.{count_by, not}
use Rattle.std.proofs.lemmas.List.{length-map}
use Rattle.chain_laws.proofs.Places.{length-up_from}
use Rattle.chain_terms.specs.Sums.{upto}
use Rattle.places_by_key.specs.Buckets.{places_of}
use Rattle.plane_chains.specs.Opposites.{kinds_of, some_at}
use Rattle.plane_chains.proofs.ChainParts.{bucket_is}
use Rattle.plane_chains.proofs.Opposed.{counted_more, counted_none, kind_at, kind_low, kinds_long, left_all, left_more, stays_is}
use Rattle.plane_chains.proofs.opposites.remaining.Goals as goal

pub loop-i-init : goal.loop-i-init
loop-i-init c = record {
  counted = counted_none (kinds_of c.args.sets.now c.args.some.now) (2 * length c.args.some.now) c.args.passed.now c.requires.passed;
  left = λ rims are. (let none : c.new-left.result.items ≡ [] = search rules in none);
}

pub bucket-requires : goal.bucket-requires
bucket-requires c =
    let n = 2 * length c.args.some.now in
    let i = c.loop-i.i in
    omega (
      arith,
      ap length c.requires.gathered,
      length-map (upto n) (places_of (kinds_of c.args.sets.now c.args.some.now)),
      length-up_from 0 n,
      kind_low c.args.some.now c.args.sets.now c.requires.long c.requires.below i (not (some_at c.args.some.now i).1) c.loop-i-test.true,
      c.kind-against.ensures,
    )

pub bounds-passed-like : goal.bounds-passed-like
bounds-passed-like c =
    let i = c.loop-i.i in
    omega (
      arith,
      kind_low c.args.some.now c.args.sets.now c.requires.long c.requires.below i (some_at c.args.some.now i).1 c.loop-i-test.true,
      c.kind-like.ensures,
      c.loop-i.invariant.counted.long,
    )

pub loop-i-preserved : goal.loop-i-preserved
loop-i-preserved c =
    let some = c.args.some.now in
    let sets = c.args.sets.now in
    let i = c.loop-i.i in
    let low = c.loop-i-test.true in
    let k = c.kind-like.result in
    let inside : k < 2 * length some = omega (arith, kind_low some sets c.requires.long c.requires.below i (some_at some i).1 low, c.kind-like.ensures) in
    let against : c.kind-against.result < 2 * length some =
    omega (arith, kind_low some sets c.requires.long c.requires.below i (not (some_at some i).1) low, c.kind-against.ensures) in
    let bucket = bucket_is (kinds_of sets some) (2 * length some) c.kind-against.result c.args.gathered.now c.bucket.result.now c.requires.gathered against c.bucket.ensures in
    record {
      counted = counted_more (kinds_of sets some) (2 * length some) i c.loop-i.passed (set c.loop-i.passed k (get_or c.loop-i.passed k 0 + 1)) k
          (omega (arith, low, kinds_long some sets)) (kind_at some sets i low ∙ sym c.kind-like.ensures) inside c.loop-i.invariant.counted refl;
      left = λ rims are.
          left_more rims some i c.loop-i.left.items c.push_if.new.left.items _ (some_at some i).0
          (stays_is rims some sets are i (length c.bucket.result.now) (get_or c.loop-i.passed k 0) low
          (ap length bucket ∙ ap (λ m. length (places_of (kinds_of sets some) m)) c.kind-against.ensures)
          (c.loop-i.invariant.counted.counts k inside ∙ ap (λ m. count_by (λ j. j == m) (take i (kinds_of sets some))) c.kind-like.ensures))
          refl (c.loop-i.invariant.left rims are) c.in_ok-push_if.ensures;
    }

pub returns : goal.returns
returns c = λ rims are.
    left_all rims c.args.some.now c.loop-i.i c.loop-i.left.items (omega (arith, c.loop-i-test.false, c.loop-i.auto.i-end)) (c.loop-i.invariant.left rims are)
