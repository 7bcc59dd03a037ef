use Rattle.std.proofs.Common.{◌≡◌, ◌<◌, ◌-◌, length, drop, map, set, rules, ap, sym, subst, ◌∙◌, arith}
use Rattle.std.specs.Prelude.{replicate}
use Rattle.std.specs.List.{All}
use Rattle.std.proofs.lemmas.List.Elements.{All-set}
use Rattle.chain_terms.specs.Ranks.{finish, start}
use Rattle.chain_terms.specs.Sums.{upto}
use Rattle.outline_terms.specs.Outlines.{before}
use Rattle.outlines.proofs.Written.{values_long}
use Rattle.cross_section.proofs.Neighbours.{back_before, none_before, zeros_below}
use Rattle.cross_section.proofs.numbers.marks.all_before.Goals as goal

pub loop-k-init : goal.loop-k-init
loop-k-init c =
    let n = c.args.count in
    let made : c.in_ok-vertices.vertices.items ≡ replicate n 0 = search rules in
    record { value = made ∙ none_before c.args.edges.now n; below = subst (All (λ v. v < n)) (sym made) (zeros_below n) }

pub index_mut-requires : goal.index_mut-requires
index_mut-requires c =
    let i = c.loop-k.k in
    let e = c.requires (i - 1) (0, 0) (omega (arith, c.loop-k-test.true, c.loop-k.auto.k)) in
    omega (arith, e.1, ap length c.loop-k.invariant.value, values_long (before (drop i c.args.edges.now)) c.args.count)

pub loop-k-preserved : goal.loop-k-preserved
loop-k-preserved c =
    let es = c.args.edges.now in
    let n = c.args.count in
    let i = c.loop-k.k in
    let e = c.requires (i - 1) (0, 0) (omega (arith, c.loop-k-test.true, c.loop-k.auto.k)) in
    record {
      value = ap (λ l. set l (finish es (i - 1)) (start es (i - 1))) c.loop-k.invariant.value ∙ back_before es n i c.loop-k-test.true c.loop-k.auto.k e.1;
      below = All-set (λ v. v < n) c.loop-k.vertices.items (finish es (i - 1)) (start es (i - 1)) e.0 c.loop-k.invariant.below;
    }

pub returns-clause-value : goal.returns-clause-value
returns-clause-value c =
    let none : c.loop-k.k ≡ 0 = omega (arith, c.loop-k-test.false) in
    c.loop-k.invariant.value ∙ ap (λ j. map (before (drop j c.args.edges.now)) (upto c.args.count)) none
