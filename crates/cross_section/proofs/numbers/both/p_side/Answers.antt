use Rattle.std.proofs.Common.{◌≡◌, ℕ, ℤ, List, [], Bool, length, get_or, map, pos, ap, sym, subst, ◌∙◌, arith}
use Rattle.std.specs.List.{All}
use Rattle.std.proofs.lemmas.Result.{IfOk-weaker}
use Rattle.chain_terms.specs.Sums.{upto}
use Rattle.mb_base.specs.declared.op.Op.{Op}
use Rattle.mesh_terms.specs.Points.{coordinate_of}
use Rattle.side_terms.specs.Sides.{corners_of}
use Rattle.outline_pair_terms.specs.Numbers.{FlatSide, p_flat}
use Rattle.outline_terms.specs.Outlines.{IsBetween, after, before, marks_between, p_marks}
use Rattle.outlines.proofs.Written.{values_long}
use Rattle.cross_section.proofs.numbers.both.p_side.Goals as goal

-- the marks of all points along edges
abbrev marks_along : Op → List (List ℤ) → List (ℕ × ℕ) → List (List Bool)
marks_along op ps es = map (λ v. marks_between op (get_or ps (before es v) []) (get_or ps (after es v) [])) (upto (length ps))

-- one for each point
marks_long : (op : Op) (ps : List (List ℤ)) (es : List (ℕ × ℕ)) → length (marks_along op ps es) ≡ length ps
marks_long op ps es = values_long (λ v. marks_between op (get_or ps (before es v) []) (get_or ps (after es v) [])) (length ps)

pub marks_of-requires : goal.marks_of-requires
marks_of-requires c =
    subst (λ (x : List (List ℤ) × List (ℕ × ℕ)). All (IsBetween (length x.0)) x.1) (λ i. (sym c.points.ensures.value i, sym c.deref.ensures.value i)) c.in_ok-edges.ensures.between

pub of-requires-clause-marks : goal.of-requires-clause-marks
of-requires-clause-marks c =
    ap length (c.deref-2.ensures.value ∙ c.in_ok-ups.ensures) ∙ marks_long c.args.op c.points.result.now c.deref.result.now
    ∙ ap length (c.points.ensures.value ∙ sym c.points-2.ensures.value)

pub of-requires-clause-below : goal.of-requires-clause-below
of-requires-clause-below c = subst (λ (ps : List (List ℤ)). All (IsBetween (length ps)) c.in_ok-edges.edges.items) (sym c.points-2.ensures.value) c.in_ok-edges.ensures.between

pub of-requires-clause-flat : goal.of-requires-clause-flat
of-requires-clause-flat c = subst (All (λ p. coordinate_of p 2 ≡ pos 0)) (sym c.points-2.ensures.value) c.points.ensures.outline.flat

pub of-requires-clause-few : goal.of-requires-clause-few
of-requires-clause-few c = omega (arith, c.in_ok-edges.ensures.length, c.points.ensures.outline.few)

pub returns : goal.returns
returns c =
    let o = c.args.p.now in
    let edges = c.deref.ensures.value ∙ c.in_ok-edges.ensures.value in
    let marks : c.deref-2.result.now ≡ p_marks c.args.op o = c.deref-2.ensures.value ∙ c.in_ok-ups.ensures ∙ (λ i. marks_along c.args.op (c.points.ensures.value i) (edges i)) in
    let whole : FlatSide = record { corners = corners_of c.points-2.result.now c.deref-2.result.now; edges = c.in_ok-edges.edges.items } in
    let same : whole ≡ p_flat c.args.op o = λ i. record { corners = corners_of (c.points-2.ensures.value i) (marks i); edges = c.in_ok-edges.ensures.value i } in
    IfOk-weaker c.of.result (λ side. side ≡ whole) (λ side. side ≡ p_flat c.args.op o) (λ side is. is ∙ same) c.of.ensures
