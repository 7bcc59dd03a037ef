use Rattle.std.proofs.Common.{◌≡◌, ◌<◌, ◌+◌, ◌++◌, ℕ, Bool, false, cond, List, [], ◌∷◌, Vec, Global, length, get_or, take, sym, ◌∙◌, ap, arith}
use Rattle.std.proofs.lemmas.List.{append-nil, take_all}
use Rattle.chain_terms.specs.Sums.{upto}
use Rattle.chain_laws.proofs.Places.{get_or-up_from, length-up_from}
use Rattle.mesh_check.specs.Reduced.{picked}
use Rattle.mesh_check.proofs.KeptMarks.{picked_more}
use Rattle.mesh_check.proofs.marks.marked_places.Goals as goal
use Rattle.mesh_check.proofs.marks.marked_places.Goals.{then-marks-place+in_ok-push, else-marks-place}

-- the place that stands at a place of all
there : (n i : ℕ) → i < n → get_or (upto n) i 0 ≡ i
there n i low = let first : 0 + i ≡ i = omega arith in get_or-up_from 0 n i 0 low ∙ first

pub loop-place-preserved : goal.loop-place-preserved
loop-place-preserved c =
    let marks = c.args.marks.now in
    let i = c.loop-place.place in
    let all = upto (length marks) in
    let low : i < length marks = omega (arith, c.loop-place-test.true) in
    let before : List ℕ = picked (take i marks) (take i all) in
    let more = picked_more marks all i false 0 low (omega (arith, low, length-up_from 0 (length marks))) ∙
    ap (λ p. before ++ cond (get_or marks i false) (p ∷ []) []) (there (length marks) i low) in
    elim c.if-marks-place.branch [
      | then-marks-place+in_ok-push w ↦
          ap (λ (v : Vec ℕ Global). v.items) w.places-is ∙ w.in_ok-push.ensures.items ∙ ap (λ l. l ++ i ∷ []) c.loop-place.invariant
          ∙ ap (λ (b : Bool). before ++ cond b (i ∷ []) []) (sym w.if-marks-place.true) ∙ sym more
      | else-marks-place w ↦
          ap (λ (v : Vec ℕ Global). v.items) w.places-is ∙ c.loop-place.invariant ∙ sym (append-nil before)
          ∙ ap (λ (b : Bool). before ++ cond b (i ∷ []) []) (sym w.if-marks-place.false) ∙ sym more
    ]

pub returns : goal.returns
returns c =
    let marks = c.args.marks.now in
    let i = c.loop-place.place in
    let all_marks : take i marks ≡ marks = take_all i marks (omega (arith, c.loop-place-test.false)) in
    let all : take i (upto (length marks)) ≡ upto (length marks) =
    take_all i (upto (length marks)) (omega (arith, c.loop-place-test.false, length-up_from 0 (length marks))) in
    c.loop-place.invariant ∙ (λ k. picked (all_marks k) (all k))
