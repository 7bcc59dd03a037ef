use Rattle.std.proofs.Common.{◌≡◌, ℤ, List, [], ◌∷◌, Bool, false, length, replicate, pos, ap, sym, subst, ◌∙◌, arith}
use Rattle.std.specs.Array.{AllZipBelow}
use Rattle.std.specs.List.{All}
use Rattle.std.proofs.lemmas.List.Elements.{same_from_all_zip}
use Rattle.std.proofs.lemmas.Result.{IfOk-weaker}
use Rattle.mesh_terms.specs.Points.{coordinate_of}
use Rattle.side_terms.specs.Sides.{corners_of}
use Rattle.outline_pair_terms.specs.Numbers.{FlatSide, q_flat}
use Rattle.outline_terms.specs.Outlines.{IsBetween, q_marks}
use Rattle.cross_section.proofs.numbers.both.q_side.Goals as goal

pub of-requires-clause-marks : goal.of-requires-clause-marks
of-requires-clause-marks c = omega (arith, ap length c.deref.ensures.value, c.in_ok-ups.ensures.len, ap length c.points.ensures.value, ap length c.points-2.ensures.value)

pub of-requires-clause-below : goal.of-requires-clause-below
of-requires-clause-below c = subst (λ (ps : List (List ℤ)). All (IsBetween (length ps)) c.in_ok-edges.edges.items) (sym c.points-2.ensures.value) c.in_ok-edges.ensures.between

pub of-requires-clause-flat : goal.of-requires-clause-flat
of-requires-clause-flat c = subst (All (λ p. coordinate_of p 2 ≡ pos 0)) (sym c.points-2.ensures.value) c.points.ensures.outline.flat

pub of-requires-clause-few : goal.of-requires-clause-few
of-requires-clause-few c = omega (arith, c.in_ok-edges.ensures.length, c.points.ensures.outline.few)

pub returns : goal.returns
returns c =
    let o = c.args.q.now in
    let ups = c.in_ok-ups.ups.items in
    let clone : (y : List Bool) → AllZipBelow (λ (a b : Bool). b ≡ a) (false ∷ false ∷ false ∷ []) y 3 →
    y ≡ false ∷ false ∷ false ∷ [] = λ y same. same_from_all_zip (λ a b. b ≡ a) (false ∷ false ∷ false ∷ []) y same.whole (λ a b e. e) in
    let plain : ups ≡ q_marks o = c.in_ok-ups.ensures.items_if_clones_equal clone ∙ ap (λ l. replicate (length l) (false ∷ false ∷ false ∷ [])) c.points.ensures.value in
    let marks : c.deref.result.now ≡ q_marks o = c.deref.ensures.value ∙ plain in
    let whole : FlatSide = record { corners = corners_of c.points-2.result.now c.deref.result.now; edges = c.in_ok-edges.edges.items } in
    let same : whole ≡ q_flat o = λ i. record { corners = corners_of (c.points-2.ensures.value i) (marks i); edges = c.in_ok-edges.ensures.value i } in
    IfOk-weaker c.of.result (λ side. side ≡ whole) (λ side. side ≡ q_flat o) (λ side is. is ∙ same) c.of.ensures
