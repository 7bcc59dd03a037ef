use Rattle.std.proofs.Common.{◌∙◌, refl, sym, subst, arith}
use Rattle.std.specs.List.{All}
use Rattle.angle_pairing.specs.Gathered.{IsPairBelow}
use Rattle.angle_pairing.proofs.Firsts.{end_low, found_all, found_more, found_none, found_others, h_low, led_both}
use Rattle.angle_pairing.proofs.alike.find_firsts.Goals as goal

pub loop-number-init : goal.loop-number-init
loop-number-init c = record {
  all = refl;
  found = found_none c.args.pairs.now c.args.numbers.now c.args.firsts.now c.args.leads.now c.args.firsts.now c.requires.leads refl;
}

pub lead-requires-clause-number : goal.lead-requires-clause-number
lead-requires-clause-number c =
    let pairs = c.args.pairs.now in
    let inv = c.loop-number.invariant in
    let ends = subst (λ n. All (IsPairBelow n) pairs) (sym inv.all) c.requires.below in
    h_low pairs c.requires.one.0 c.args.numbers.now c.requires.one.1 c.args.firsts.now c.loop-number.leads c.loop-number.firsts ends c.loop-number.number-index
    c.loop-number-test.true inv.found

pub lead-requires-clause-end : goal.lead-requires-clause-end
lead-requires-clause-end c =
    let pairs = c.args.pairs.now in
    let inv = c.loop-number.invariant in
    let ends = subst (λ n. All (IsPairBelow n) pairs) (sym inv.all) c.requires.below in
    end_low pairs c.requires.one.0 c.args.numbers.now c.requires.one.1 c.args.firsts.now c.loop-number.leads c.loop-number.firsts ends c.loop-number.number-index
    c.loop-number-test.true inv.found

pub bounds-firsts-number : goal.bounds-firsts-number
bounds-firsts-number c =
    let pairs = c.args.pairs.now in
    let inv = c.loop-number.invariant in
    let ends = subst (λ n. All (IsPairBelow n) pairs) (sym inv.all) c.requires.below in
    omega (
      arith,
      h_low pairs c.requires.one.0 c.args.numbers.now c.requires.one.1 c.args.firsts.now c.loop-number.leads c.loop-number.firsts ends c.loop-number.number-index
          c.loop-number-test.true inv.found,
      inv.found.full,
      c.requires.full,
    )

pub loop-number-preserved : goal.loop-number-preserved
loop-number-preserved c =
    let pairs = c.args.pairs.now in
    let inv = c.loop-number.invariant in
    let ends = subst (λ n. All (IsPairBelow n) pairs) (sym inv.all) c.requires.below in
    let led = led_both pairs c.requires.one.0 c.args.numbers.now c.requires.one.1 c.args.firsts.now c.loop-number.leads c.loop-number.firsts ends c.loop-number.number-index
    c.loop-number-test.true inv.found c.lead.new.leads c.lead.result c.lead.ensures.same c.lead.ensures.other in
    record {
      all = c.lead.ensures.full ∙ inv.all;
      found = found_more pairs c.requires.one.0 c.args.numbers.now c.requires.one.1 c.args.firsts.now c.loop-number.leads c.loop-number.firsts ends
          c.loop-number.number-index c.loop-number-test.true inv.found c.lead.new.leads _ c.lead.result led c.requires.full refl;
    }

pub returns-clause-found : goal.returns-clause-found
returns-clause-found c h there =
    found_all c.args.pairs.now c.args.numbers.now c.args.firsts.now c.loop-number.leads c.loop-number.firsts c.loop-number.number-index c.loop-number.invariant.found
    (omega (arith, c.loop-number-test.false, c.loop-number.auto.number-index-end)) h there

pub returns-clause-others : goal.returns-clause-others
returns-clause-others c h absent =
    found_others c.args.pairs.now c.args.numbers.now c.args.firsts.now c.loop-number.leads c.loop-number.firsts c.loop-number.number-index c.loop-number.invariant.found
    (omega (arith, c.loop-number-test.false, c.loop-number.auto.number-index-end)) h absent
