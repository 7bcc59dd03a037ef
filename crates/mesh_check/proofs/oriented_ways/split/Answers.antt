use Rattle.std.proofs.Common.{◌≡◌, ℕ, List, [], ◌∷◌, ◌++◌, get_or, map, sym, ◌∙◌, ap, subst, arith}
use Rattle.std.specs.List.{All, filter}
use Rattle.std.proofs.lemmas.List.{take_all}
use Rattle.std.proofs.lemmas.Simd.{map-map}
use Rattle.mesh_terms.specs.Meshes.{triples_of}
use Rattle.halfedge.specs.Pairing.{Half, turned}
use Rattle.halfedge.specs.Ways.{half_of, runs_up}
use Rattle.mesh_check.specs.declared.oriented.Oriented.{Oriented}
use Rattle.mesh_check.specs.Cancelling.{vertices_of, as_half, turned_over}
use Rattle.mesh_check.specs.Orientations.{orientation_edges, IsNarrow}
use Rattle.mesh_check.proofs.WaySteps.{half_there, up_from_second, not_up, taken, left_out, all_narrow, other_narrow}
use Rattle.mesh_check.proofs.oriented_ways.split.Goals as goal
use Rattle.mesh_check.proofs.oriented_ways.split.Goals.{then-one+in_ok-push, else-one+then-one-2+in_ok-push-2, else-one+else-one-2}

pub loop-place-preserved : goal.loop-place-preserved
loop-place-preserved c =
    let bucket : List ℕ = c.args.bucket.now in
    let i = c.loop-place.place-index in
    let f : ℕ → Half = half_of (orientation_edges (triples_of c.args.triples.now)) in
    let back : ℕ → Half = λ h. turned (f h) in
    let one : Oriented = c.of-one.result in
    let other : Oriented = turned_over one in
    let ones : List Oriented = c.loop-place.ones.items in
    let others : List Oriented = c.loop-place.others.items in
    let inv = c.loop-place.invariant in
    let low = c.loop-place-test.true in
    let here : as_half one ≡ f (get_or bucket i 0) = half_there c.args.triples.now (get_or bucket i 0) one (c.requires i 0 low) c.of-one.ensures.vertices c.of-one.ensures.place in
    let there : as_half other ≡ back (get_or bucket i 0) = ap turned here in
    elim c.if-one.branch [
      | then-one+in_ok-push w ↦
          let more : c.if-one.ones.items ≡ ones ++ one ∷ [] = (λ k. (w.ones-is k).items) ∙ w.in_ok-push.ensures.items in
          let same : c.if-one.others.items ≡ others = λ k. (w.others-is k).items in
          record {
            ones = taken f bucket i 0 ones c.if-one.ones.items one low inv.ones more here (up_from_second one w.if-one.true);
            others = left_out back bucket i 0 others c.if-one.others.items other low inv.others same there (not_up other (λ less. omega (arith, less, w.if-one.true)));
            ones_narrow = all_narrow ones c.if-one.ones.items one more inv.ones_narrow c.of-one.ensures.narrow;
            others_narrow = subst (All (λ o. IsNarrow (vertices_of o))) (sym same) inv.others_narrow;
          }
      | else-one+then-one-2+in_ok-push-2 w ↦
          let same : c.if-one.ones.items ≡ ones = λ k. (w.ones-is k).items in
          let more : c.if-one.others.items ≡ others ++ other ∷ [] = (λ k. (w.others-is k).items) ∙ w.in_ok-push-2.ensures.items
          ∙ ap (λ o. others ++ o ∷ []) w.turned_over.ensures in
          record {
            ones = left_out f bucket i 0 ones c.if-one.ones.items one low inv.ones same here (not_up one (λ less. omega (arith, less, w.if-one-2.true)));
            others = taken back bucket i 0 others c.if-one.others.items other low inv.others more there (up_from_second other w.if-one-2.true);
            ones_narrow = subst (All (λ o. IsNarrow (vertices_of o))) (sym same) inv.ones_narrow;
            others_narrow = all_narrow others c.if-one.others.items other more inv.others_narrow (other_narrow one c.of-one.ensures.narrow);
          }
      | else-one+else-one-2 w ↦
          let same : c.if-one.ones.items ≡ ones = λ k. (w.ones-is k).items in
          let still : c.if-one.others.items ≡ others = λ k. (w.others-is k).items in
          record {
            ones = left_out f bucket i 0 ones c.if-one.ones.items one low inv.ones same here (not_up one (λ less. omega (arith, less, w.if-one.false)));
            others = left_out back bucket i 0 others c.if-one.others.items other low inv.others still there (not_up other (λ less. omega (arith, less, w.if-one-2.false)));
            ones_narrow = subst (All (λ o. IsNarrow (vertices_of o))) (sym same) inv.ones_narrow;
            others_narrow = subst (All (λ o. IsNarrow (vertices_of o))) (sym still) inv.others_narrow;
          }
    ]

pub returns-clause-others : goal.returns-clause-others
returns-clause-others c =
    let f : ℕ → Half = half_of (orientation_edges (triples_of c.args.triples.now)) in
    c.loop-place.invariant.others ∙ ap (λ l. filter runs_up (map (λ h. turned (f h)) l))
    (take_all c.loop-place.place-index c.args.bucket.now (omega (arith, c.loop-place-test.false))) ∙ ap (filter runs_up) (sym (map-map turned f c.args.bucket.now))
