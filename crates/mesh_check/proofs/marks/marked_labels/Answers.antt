use Rattle.std.proofs.Common.{◌++◌, ◌≤◌, ℕ, Bool, false, cond, List, [], ◌∷◌, length, get_or, take, sym, ◌∙◌, ap, arith}
use Rattle.std.proofs.lemmas.List.{append-nil, take_all}
use Rattle.mesh_check.specs.Reduced.{picked}
use Rattle.mesh_check.proofs.KeptMarks.{picked_more, picked-take}
use Rattle.mesh_check.proofs.marks.marked_labels.Goals as goal
use Rattle.mesh_check.proofs.marks.marked_labels.Goals.{then-marks-place+in_ok-push, else-marks-place}

pub loop-place-preserved : goal.loop-place-preserved
loop-place-preserved c =
    let marks = c.args.marks.now in
    let labels = c.args.labels.now in
    let i = c.loop-place.place in
    let before : List (List ℕ) = picked (take i marks) (take i labels) in
    let more = picked_more marks labels i false [] (omega (arith, c.loop-place-test.true, c.len-place-end.ensures.value, c.requires.few))
    (omega (arith, c.loop-place-test.true, c.len-place-end.ensures.value)) in
    elim c.if-marks-place.branch [
      | then-marks-place+in_ok-push w ↦
          w.kept-is ∙ w.in_ok-push.ensures.added ∙ (λ k. c.loop-place.invariant k ++ w.get.ensures.value k ∷ [])
          ∙ ap (λ (b : Bool). before ++ cond b (get_or labels i [] ∷ []) []) (sym w.if-marks-place.true) ∙ sym more
      | else-marks-place w ↦
          w.kept-is ∙ c.loop-place.invariant ∙ sym (append-nil before)
          ∙ ap (λ (b : Bool). before ++ cond b (get_or labels i [] ∷ []) []) (sym w.if-marks-place.false) ∙ sym more
    ]

pub returns : goal.returns
returns c =
    let marks = c.args.marks.now in
    let labels = c.args.labels.now in
    let i = c.loop-place.place in
    let end : length labels ≤ i = omega (arith, c.loop-place-test.false, c.len-place-end.ensures.value) in
    c.loop-place.invariant ∙ ap (picked (take i marks)) (take_all i labels end) ∙ picked-take marks labels i end
