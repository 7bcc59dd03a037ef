use Rattle.std.proofs.Common.{◌≡◌, ◌+◌, ◌++◌, ℤ, List, [], ◌∷◌, Vec, Global, length, sym, ◌∙◌, ap, subst, arith}
use Rattle.std.proofs.lemmas.List.{length-append}
use Rattle.mesh_terms.specs.Meshes.{Triple, new_number}
use Rattle.unused_points.specs.Used.{MarksUsed, NumbersUsed}
use Rattle.unused_points.proofs.PointSteps.{kept_used, kept_unused, kept_number, numbers_more}
use Rattle.unused_points.proofs.kept_points.Goals as goal
use Rattle.unused_points.proofs.kept_points.Goals.{then-marks-place+in_ok-push-2, else-marks-place}

-- as many points are kept as stand used before the place
number_here : (c : goal.Joined-marks-place) (ts : List Triple) → MarksUsed (length c.args.points.now) ts c.args.marks.now →
    NumbersUsed (c.loop-place.place + 1) ts c.push.new.self.items
number_here c ts marks =
    let i = c.loop-place.place in
    let number : c.len.result ≡ new_number ts i =
    c.len.ensures ∙ c.loop-place.kept.ok.0 ∙ ap length (c.loop-place.invariant.kept ts marks) ∙ kept_number ts c.args.points.now i (omega (arith, c.loop-place-test.true)) in
    subst (NumbersUsed (i + 1) ts) (sym c.in_ok-push.ensures.items) (numbers_more ts i c.len.result c.loop-place.numbers.items (c.loop-place.invariant.numbers ts marks) number)

pub loop-place-preserved : goal.loop-place-preserved
loop-place-preserved c =
    elim c.if-marks-place.branch [
      | then-marks-place+in_ok-push-2 w ↦
          let new : c.if-marks-place.kept.items ≡ c.loop-place.kept.items ++ c.index-points-place.result ∷ [] =
          ap (λ (v : Vec (List ℤ) Global). v.items) w.kept-is ∙ w.in_ok-push-2.ensures.items in
          record {
            few = omega (arith, ap length new, length-append c.loop-place.kept.items (c.index-points-place.result ∷ []), c.loop-place.invariant.few);
            kept = λ ts marks.
                kept_used ts c.args.points.now c.loop-place.place c.index-points-place.result c.loop-place.kept.items c.if-marks-place.kept.items
                c.loop-place-test.true c.index-points-place.is
                (sym (marks.used c.loop-place.place c.loop-place-test.true) ∙ w.if-marks-place.true) (c.loop-place.invariant.kept ts marks) new;
            numbers = number_here c;
          }
      | else-marks-place w ↦
          let new : c.if-marks-place.kept.items ≡ c.loop-place.kept.items = ap (λ (v : Vec (List ℤ) Global). v.items) w.kept-is in
          record {
            few = omega (arith, ap length new, c.loop-place.invariant.few);
            kept = λ ts marks.
                kept_unused ts c.args.points.now c.loop-place.place c.index-points-place.result c.loop-place.kept.items c.if-marks-place.kept.items c.loop-place-test.true
                (sym (marks.used c.loop-place.place c.loop-place-test.true) ∙ w.if-marks-place.false) (c.loop-place.invariant.kept ts marks) new;
            numbers = number_here c;
          }
    ]

pub returns-clause-numbers : goal.returns-clause-numbers
returns-clause-numbers c ts marks =
    let done : c.loop-place.place ≡ length c.args.points.now = omega (arith, c.loop-place-test.false, c.loop-place.auto.place-end) in
    subst (λ n. NumbersUsed n ts c.loop-place.numbers.items) done (c.loop-place.invariant.numbers ts marks)
