use Rattle.std.proofs.Common.{◌≡◌, ◌<◌, ◌++◌, ℕ, List, [], ◌∷◌, Bool, length, get_or, map, ap, sym, subst, ◌∙◌, arith}
use Rattle.std.proofs.lemmas.List.{map_push}
use Rattle.chain_terms.specs.Sums.{upto}
use Rattle.chain_laws.proofs.Places.{upto_more}
use Rattle.outline_terms.specs.Outlines.{after, before, marks_between}
use Rattle.outlines.proofs.Written.{value_at, values_long}
use Rattle.cross_section.proofs.numbers.marks.marks_of.Goals as goal

pub index-requires : goal.index-requires
index-requires c = omega (arith, c.loop-v-test.true, ap length c.in_ok-before.ensures.value, values_long (before c.args.edges.now) (length c.args.points.now))

pub index-requires-in-loop-v : goal.index-requires-in-loop-v
index-requires-in-loop-v c = omega (arith, c.loop-v-test.true, ap length c.in_ok-after.ensures.value, values_long (after c.args.edges.now) (length c.args.points.now))

pub marks_at-requires-clause-a : goal.marks_at-requires-clause-a
marks_at-requires-clause-a c =
    let n = length c.args.points.now in
    let low : c.loop-v.v < length c.in_ok-before.before.items
    = omega (arith, c.loop-v-test.true, ap length c.in_ok-before.ensures.value, values_long (before c.args.edges.now) n) in
    subst (λ w. w < n) (sym c.index.ensures) (c.in_ok-before.ensures.below c.loop-v.v c.index.result.now low)

pub marks_at-requires-clause-b : goal.marks_at-requires-clause-b
marks_at-requires-clause-b c =
    let n = length c.args.points.now in
    let low : c.loop-v.v < length c.in_ok-after.after.items = omega (arith, c.loop-v-test.true, ap length c.in_ok-after.ensures.value, values_long (after c.args.edges.now) n) in
    subst (λ w. w < n) (sym c.index-in-loop-v.ensures) (c.in_ok-after.ensures.below c.loop-v.v c.index-in-loop-v.result.now low)

pub loop-v-preserved : goal.loop-v-preserved
loop-v-preserved c =
    let ps = c.args.points.now in
    let es = c.args.edges.now in
    let v = c.loop-v.v in
    let f : ℕ → List Bool = λ w. marks_between c.args.op (get_or ps (before es w) []) (get_or ps (after es w) []) in
    let a = c.index.ensures ∙ ap (λ (l : List ℕ). get_or l v c.index.result.now) c.in_ok-before.ensures.value
    ∙ value_at (before es) (length ps) v c.index.result.now c.loop-v-test.true in
    let b = c.index-in-loop-v.ensures ∙ ap (λ (l : List ℕ). get_or l v c.index-in-loop-v.result.now) c.in_ok-after.ensures.value
    ∙ value_at (after es) (length ps) v c.index-in-loop-v.result.now c.loop-v-test.true in
    let marks : c.marks_at.result ≡ f v = c.marks_at.ensures ∙ (λ i. marks_between c.args.op (get_or ps (a i) []) (get_or ps (b i) [])) in
    c.in_ok-push.ensures.items ∙ (λ i. c.loop-v.invariant i ++ marks i ∷ []) ∙ sym (ap (map f) (upto_more v) ∙ map_push f (upto v) v)
