use Rattle.std.proofs.Common.{◌≡◌, ◌∙◌, ap, arith, get_or, length, of_z, rules, subst, to_z, w64}
use Rattle.std.proofs.lemmas.List.{take_all}
use Rattle.plane_chains.specs.Nets.{IsAdded, nonzero}
use Rattle.plane_chains.specs.Ways.{net_among, no_way}
use Rattle.plane_chains.proofs.WayLists.{added_more, none_added, step_small}
use Rattle.plane_chains.proofs.chain.add_up.Goals as goal

pub loop-i-init : goal.loop-i-init
loop-i-init c = record {
  net = λ n h. c.clear.ensures.items ∙ none_added n c.args.ways.now c.args.some.now;
  small = λ k d low. absurd (omega (arith, low, ap length c.clear.ensures.items));
}

pub add_number-requires-clause-small : goal.add_number-requires-clause-small
add_number-requires-clause-small c = λ k d low. let s = c.loop-i.invariant.small k d low in omega (arith, s, c.loop-i-test.true, c.requires.few)

pub loop-i-preserved : goal.loop-i-preserved
loop-i-preserved c =
    let ways = c.args.ways.now in
    let some = c.args.some.now in
    let i = c.loop-i.i-index in
    let way = get_or ways (get_or some i 0) no_way in
    let same : to_z w64 (of_z w64 c.step.result) ≡ c.step.result = search rules in
    let added = subst (λ v. IsAdded c.loop-i.net.items c.add_number.new.net.items way.label v) (same ∙ c.step.ensures.value) c.in_ok-add_number.ensures in
    let short = step_small way in
    record {
      net = λ n h. added_more n ways some i c.loop-i-test.true (c.requires.below i 0 c.loop-i-test.true) h c.loop-i.net.items c.add_number.new.net.items (c.loop-i.invariant.net n h) added;
      small = λ k d low. let s = added.small i c.loop-i.invariant.small k d low in omega (arith, s, short);
    }

pub returns : goal.returns
returns c = λ n h. c.loop-i.invariant.net n h ∙ ap (λ s. nonzero (net_among n c.args.ways.now s)) (take_all c.loop-i.i-index c.args.some.now c.loop-i-test.false)
