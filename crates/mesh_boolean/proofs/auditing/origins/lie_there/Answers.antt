use Rattle.std.proofs.Common.{◌≡◌, ◌<◌, ◌≢◌, ℕ, ℤ, Bool, false, true, not, int_eq, List, [], length, get_or, sym, ap, ◌∙◌, arith}
use Rattle.std.specs.Cmp.Lexicographic.{pointwise}
use Rattle.std.specs.Cmp.Rules.{signed_items}
use Rattle.std.proofs.lemmas.Bool.{false≢true, not-false}
use Rattle.std.proofs.lemmas.List.{get_or_default}
use borrow.Author.Count.{below_more}
use Rattle.mesh_boolean.specs.Audited.{LieThere}
use Rattle.mesh_boolean.proofs.auditing.origins.lie_there.Goals as goal

-- the place of a point that was read
place : (xs : List (List ℤ)) (k : ℕ) (x at : List ℤ) → k < length xs → x ≡ get_or xs k x → at ≡ x → get_or xs k [] ≡ at
place xs k x at low is value = get_or_default xs k [] x low ∙ sym is ∙ sym value

-- places that do not differ are the same
same : (a b : List ℤ) (r : Bool) → r ≡ not (pointwise int_eq a b) → r ≡ false → a ≡ b
same a b r is told = (signed_items a b).0 (not-false (pointwise int_eq a b) (sym is ∙ told))

-- and those that do are not
differ : (a b : List ℤ) (r : Bool) → r ≡ not (pointwise int_eq a b) → r ≡ true → a ≢ b
differ a b r is told e = false≢true (ap not (sym ((signed_items a b).1 e)) ∙ sym is ∙ told)

pub loop-vertex-preserved : goal.loop-vertex-preserved
loop-vertex-preserved c =
    let v = c.loop-vertex.vertex in
    let ps = c.args.points.now in
    let old = c.args.old.now in
    let n = get_or c.args.from.now v 0 in
    let P : ℕ → Type 0 = λ w. (get_or c.args.from.now w 0 < length old) × (get_or ps w [] ≡ get_or old (get_or c.args.from.now w 0) []) in
    let here = place ps v c.index-points-vertex.result c.at.result (omega arith) c.index-points-vertex.is c.at.ensures.value in
    let there = place old n c.index-old-number.result c.at-in-loop-vertex.result c.if-number-old.false c.index-old-number.is c.at-in-loop-vertex.ensures.value in
    below_more P _ c.loop-vertex.invariant (c.if-number-old.false, here ∙ same c.at.result c.at-in-loop-vertex.result c.ne.result c.ne.ensures c.if-ne.false ∙ sym there)

pub returns-then-ne : goal.returns-then-ne
returns-then-ne c =
    let v = c.loop-vertex.vertex in
    let ps = c.args.points.now in
    let old = c.args.old.now in
    let n = get_or c.args.from.now v 0 in
    let below : v < length ps = omega arith in
    let here = place ps v c.index-points-vertex.result c.at.result below c.index-points-vertex.is c.at.ensures.value in
    let there = place old n c.index-old-number.result c.at-in-loop-vertex.result c.if-number-old.false c.index-old-number.is c.at-in-loop-vertex.ensures.value in (
      (λ no. absurd (false≢true no)),
      (λ (s : LieThere ps old c.args.from.now).
          absurd (differ c.at.result c.at-in-loop-vertex.result c.ne.result c.ne.ensures c.if-ne.true (sym here ∙ (s.there v below).1 ∙ there))),
    )
