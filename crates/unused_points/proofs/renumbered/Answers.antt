use Rattle.std.proofs.Common.{◌<◌, [], length, get_or, ap, ◌∙◌, arith}
use Rattle.mesh_terms.specs.Meshes.{triple_of}
use Rattle.unused_points.proofs.KeptMesh.{numbered}
use Rattle.unused_points.proofs.TripleSteps.{same_from, still_below, three_numbers, renamed_more, later_stays}
use Rattle.unused_points.proofs.renumbered.Goals as goal

pub bounds-numbers-a : goal.bounds-numbers-a
bounds-numbers-a c =
    (still_below (length c.args.numbers.now) c.loop-triple.triple-index c.loop-triple.triple-items c.args.triples.items c.requires
    (omega (arith, c.loop-triple-test.true, c.loop-triple.auto.triple-items)) c.loop-triple.invariant.rest).a

pub bounds-numbers-b : goal.bounds-numbers-b
bounds-numbers-b c =
    (still_below (length c.args.numbers.now) c.loop-triple.triple-index c.loop-triple.triple-items c.args.triples.items c.requires
    (omega (arith, c.loop-triple-test.true, c.loop-triple.auto.triple-items)) c.loop-triple.invariant.rest).b

pub bounds-numbers-c : goal.bounds-numbers-c
bounds-numbers-c c =
    (still_below (length c.args.numbers.now) c.loop-triple.triple-index c.loop-triple.triple-items c.args.triples.items c.requires
    (omega (arith, c.loop-triple-test.true, c.loop-triple.auto.triple-items)) c.loop-triple.invariant.rest).c

pub loop-triple-preserved : goal.loop-triple-preserved
loop-triple-preserved c =
    let xs = c.loop-triple.triple-items in
    let i = c.loop-triple.triple-index in
    let old = c.args.triples.items in
    let low : i < length xs = omega (arith, c.loop-triple-test.true, c.loop-triple.auto.triple-items) in
    let known = same_from i xs old low c.loop-triple.invariant.rest in
    let below = still_below (length c.args.numbers.now) i xs old c.requires low c.loop-triple.invariant.rest in
    record {
      done = λ ts numbers.
          renamed_more ts xs old i _ low known.within (c.loop-triple.invariant.done ts numbers)
          (three_numbers (length c.args.numbers.now) c.args.numbers.now ts (triple_of (get_or xs i [])) numbers below ∙ ap (λ t. numbered ts (triple_of t)) known.here);
      rest = later_stays xs old i _ known.later;
    }
