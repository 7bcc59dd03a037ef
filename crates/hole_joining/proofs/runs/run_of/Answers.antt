use Rattle.std.proofs.Common.{◌≡◌, ◌+◌, ℕ, ℤ, List, [], ◌∷◌, get_or, take, arith, sym, ap, subst, ◌∙◌}
use Rattle.std.specs.List.{All}
use Rattle.std.proofs.lemmas.List.{take_more, take_all}
use Rattle.std.proofs.lemmas.List.Elements.{All-append, All-cons, All-nil, All-weaker}
use Rattle.hole_joining.specs.declared.runs.Run.{Run}
use Rattle.hole_joining.specs.Runs.{IsRound, both, run_at}
use Rattle.hole_joining.specs.Seen.{plane_at}
use Rattle.hole_joining.proofs.Following.{both_first, both_second, one_place}
use Rattle.hole_joining.proofs.runs.run_of.Goals as goal

pub loop-vertex-preserved : goal.loop-vertex-preserved
loop-vertex-preserved c =
    let at = plane_at c.args.flat.now in
    let vs : List ℕ = c.args.places.now in
    let i = c.loop-vertex.vertex-index in
    let run : Run = c.loop-vertex.run in
    let p : ℤ × ℤ = c.at.result in
    let v = get_or vs i 0 in
    let wide = both run (run_at p) in
    let now : c.with-run.result ≡ wide = c.with-run.ensures ∙ ap (both run) c.run_at.ensures in
    let Round : Run → ℕ → Type 0 = λ r v. IsRound r (at v) in
    let old = All-weaker (Round run) (Round wide) (λ v h. both_first run (run_at p) (at v) h) (take i vs) c.loop-vertex.invariant.round in
    let here : Round wide v = both_second run (run_at p) (at v) (one_place p (at v) c.at.ensures) in
    let all : All (Round wide) (take (i + 1) vs) =
    subst (All (Round wide)) (sym (take_more vs i 0 c.loop-vertex-test.true))
    (All-append (Round wide) (take i vs) (v ∷ []) old (All-cons (Round wide) v [] here (All-nil (Round wide)))) in
    record {
      count = omega (arith, ap (λ (r : Run). r.count) now, c.loop-vertex.invariant.count);
      round =
          subst (λ r. All (Round r) (take (i + 1) vs)) (sym now) all;
    }

pub returns-clause-round : goal.returns-clause-round
returns-clause-round c =
    let at = plane_at c.args.flat.now in
    subst (All (λ v. IsRound c.loop-vertex.run (at v))) (take_all c.loop-vertex.vertex-index c.args.places.now c.loop-vertex-test.false)
    c.loop-vertex.invariant.round
