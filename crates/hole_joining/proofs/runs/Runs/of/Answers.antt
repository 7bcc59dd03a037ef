use Rattle.std.proofs.Common.{◌≡◌, ◌+◌, ◌-◌, ◌*◌, ◌≤◌, ℕ, List, length, take, drop, arith, sym, ap, subst, ◌∙◌}
use Rattle.std.specs.List.{All}
use Rattle.std.proofs.lemmas.List.{length-drop, length-take-le}
use Rattle.hole_joining.specs.declared.runs.Run.{Run}
use Rattle.hole_joining.specs.Runs.{IsRound, AreRuns}
use Rattle.hole_joining.specs.Seen.{plane_at}
use Rattle.hole_joining.proofs.Following.{counted, counted_more, one_run_more}
use Rattle.hole_joining.proofs.runs.Runs.of.Goals as goal

pub loop-k-preserved : goal.loop-k-preserved
loop-k-preserved c =
    let at = plane_at c.args.flat.now in
    let ring : List ℕ = c.args.ring.now in
    let rs : List Run = c.loop-k.runs.items in
    let run : Run = c.run_of-run.result in
    let a = c.loop-k.k * 64 in
    let within : a + 64 ≤ length ring = omega (arith, c.loop-k-test.true) in
    let width : a + 64 - a ≡ 64 = omega arith in
    let count : run.count ≡ 64 =
    c.run_of-run.ensures.count ∙ ap (λ n. length (take n (drop a ring))) width
    ∙ length-take-le 64 (drop a ring) (omega (arith, within, length-drop a ring)) in
    let same : a + 64 - a ≡ run.count = width ∙ sym count in
    let placed : a ≡ counted rs = sym c.loop-k.invariant.counted in
    let pushed = c.in_ok-push.ensures.items in
    let round : All (λ v. IsRound run (at v)) (take run.count (drop (counted rs) ring)) =
    subst (All (λ v. IsRound run (at v))) (λ j. take (same j) (drop (placed j) ring)) c.run_of-run.ensures.round in
    record {
      are = subst (λ l. AreRuns at l ring) (sym pushed)
          (one_run_more at rs run ring c.loop-k.invariant.are (omega (arith, within, count, placed)) round);
      counted = ap counted pushed ∙ counted_more rs run ∙ omega (arith, count, placed);
    }
