use Rattle.std.proofs.Common.{◌≡◌, ◌++◌, ℕ, Bool, false, cond, List, [], ◌∷◌, Vec, Global, get_or, take, sym, ◌∙◌, ap, arith}
use Rattle.std.proofs.lemmas.List.{append-nil, take_all}
use Rattle.mesh_terms.specs.Meshes.{triple_of, triples_of}
use Rattle.mesh_check.specs.Reduced.{picked}
use Rattle.mesh_check.proofs.KeptMarks.{picked_more, map-picked}
use Rattle.mesh_check.proofs.marks.marked.Goals as goal
use Rattle.mesh_check.proofs.marks.marked.Goals.{then-marks-place+in_ok-push, else-marks-place}

pub loop-place-preserved : goal.loop-place-preserved
loop-place-preserved c =
    let marks = c.args.marks.now in
    let triples = c.args.triples.now in
    let i = c.loop-place.place in
    let before : List (List ℕ) = picked (take i marks) (take i triples) in
    let more = picked_more marks triples i false [] (omega (arith, c.loop-place-test.true, c.requires)) c.loop-place-test.true in
    elim c.if-marks-place.branch [
      | then-marks-place+in_ok-push w ↦
          ap (λ (v : Vec (List ℕ) Global). v.items) w.kept-is ∙ w.in_ok-push.ensures.items ∙ ap (λ l. l ++ get_or triples i [] ∷ []) c.loop-place.invariant
          ∙ ap (λ (b : Bool). before ++ cond b (get_or triples i [] ∷ []) []) (sym w.if-marks-place.true) ∙ sym more
      | else-marks-place w ↦
          ap (λ (v : Vec (List ℕ) Global). v.items) w.kept-is ∙ c.loop-place.invariant ∙ sym (append-nil before)
          ∙ ap (λ (b : Bool). before ++ cond b (get_or triples i [] ∷ []) []) (sym w.if-marks-place.false) ∙ sym more
    ]

pub returns : goal.returns
returns c =
    let marks = c.args.marks.now in
    let triples = c.args.triples.now in
    let i = c.loop-place.place in
    let all_marks : take i marks ≡ marks = take_all i marks (omega (arith, c.loop-place-test.false, c.requires)) in
    let all : take i triples ≡ triples = take_all i triples (omega (arith, c.loop-place-test.false)) in
    ap triples_of (c.loop-place.invariant ∙ (λ k. picked (all_marks k) (all k))) ∙ map-picked triple_of marks triples
