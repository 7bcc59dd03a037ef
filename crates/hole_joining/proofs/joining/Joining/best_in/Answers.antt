use Rattle.std.proofs.Common.{◌≡◌, ◌+◌, ◌<◌, ◌≤◌, ℕ, List, [], ◌∷◌, length, get_or, take, drop, arith, sym, ap, subst, ◌∙◌}
use Rattle.std.specs.List.{All}
use Rattle.std.proofs.lemmas.List.{get_or_default, drop_more, drop-drop, length-drop}
use Rattle.std.proofs.lemmas.List.Elements.{All-weaker}
use Rattle.face_plane.specs.Planes.{squared_distance}
use Rattle.hole_joining.specs.declared.runs.Run.{Run}
use Rattle.hole_joining.specs.Bridges.{bridges_to}
use Rattle.hole_joining.specs.Seen.{plane_at, start_of, clear_of, bridges_from}
use Rattle.hole_joining.specs.Passes.{passes, best_of}
use Rattle.hole_joining.specs.Runs.{IsRound, IsFar, AreRuns}
use Rattle.hole_joining.proofs.Following.{far_passed}
use Rattle.hole_joining.proofs.joining.Joining.best_in.Goals as goal
use Rattle.hole_joining.proofs.joining.Joining.best_in.Goals.{then-not-is_far, else-not-is_far}

pub loop-run-preserved : goal.loop-run-preserved
loop-run-preserved c =
    let j = c.args.self.now in
    let at = plane_at j.flat in
    let h = start_of j in
    let i = c.args.ring in
    let k = c.loop-run.run-index in
    let place = c.loop-run.place in
    let run : Run = c.run-item.result in
    let items : List ℕ = get_or j.rings.now i [] in
    let rs : List Run = get_or j.runs.now i [] in
    let passing = passes (clear_of j) c.args.asks c.args.refused in
    let there : i < length j.runs.now = omega (arith, c.requires.ring, c.requires.ready.runs.count) in
    let read : c.as_slice-run-items.result.now ≡ rs =
    c.as_slice-run-items.ensures ∙ c.index-runs-ring.is ∙ get_or_default j.runs.now i c.index-runs-ring.result [] there in
    let within : k < length rs = omega (arith, c.loop-run-test.true, ap length read) in
    let this : run ≡ get_or rs k run = c.run-item.is ∙ ap (λ l. get_or l k run) read in
    let left : drop k rs ≡ run ∷ drop (k + 1) rs = drop_more rs k run within ∙ ap (λ r. r ∷ drop (k + 1) rs) (sym this) in
    let are : AreRuns at (run ∷ drop (k + 1) rs) (drop place items) = subst (λ l. AreRuns at l (drop place items)) left c.loop-run.invariant.are in
    let long : place + run.count ≤ length items = omega (arith, c.loop-run.invariant.within, are.0, length-drop place items) in
    let rest : AreRuns at (drop (k + 1) rs) (drop (place + run.count) items) =
    subst (AreRuns at (drop (k + 1) rs)) (drop-drop run.count place items) are.2 in
    elim c.if-not-is_far.branch [
      | then-not-is_far w ↦ record {
        value = ap (λ o. best_of passing o (bridges_from j i c.if-not-is_far.place)) w.best-is
            ∙ ap (λ n. best_of passing w.best_among-best.result (bridges_from j i n)) w.place-is ∙ w.best_among-best.ensures ∙ c.loop-run.invariant.value;
        within = omega (arith, w.place-is, long);
        are = subst (λ n. AreRuns at (drop (k + 1) rs) (drop n items)) (sym w.place-is) rest;
      }
      | else-not-is_far w ↦
          let From : ℕ → Type 0 = λ v. IsFar c.loop-run.best (squared_distance (at h) (at v)) in
          let start = c.at-start.ensures ∙ ap at c.vertex_at.ensures in
          let far : All From (take run.count (drop place items)) =
          All-weaker (λ v. IsRound run (at v)) From
          (λ v round. subst (λ p. IsFar c.loop-run.best (squared_distance p (at v))) start
          (c.is_far.ensures w.if-not-is_far.false (at v) round)) (take run.count (drop place items)) are.1 in
          let passed = far_passed at h i passing c.loop-run.best run.count place (drop place items) are.0 far in
          record {
            value = ap (λ o. best_of passing o (bridges_from j i c.if-not-is_far.place)) w.best-is
                ∙ ap (λ n. best_of passing c.loop-run.best (bridges_from j i n)) w.place-is
                ∙ sym (ap (λ l. best_of passing c.loop-run.best (bridges_to at h i (place + run.count) l))
                (drop-drop run.count place items)) ∙ passed ∙ c.loop-run.invariant.value;
            within = omega (arith, w.place-is, long);
            are = subst (λ n. AreRuns at (drop (k + 1) rs) (drop n items)) (sym w.place-is) rest;
          }
    ]
