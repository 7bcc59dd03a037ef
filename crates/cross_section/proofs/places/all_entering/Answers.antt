use Rattle.std.proofs.Common.{◌≡◌, ◌-◌, ℕ, length, get_or, map, set, rules, ap, ◌∙◌, arith}
use Rattle.std.specs.Prelude.{replicate}
use Rattle.chain_terms.specs.Sums.{upto}
use Rattle.outlines.proofs.Written.{values_long}
use Rattle.cross_section.proofs.First.{all_found, first_from, found_back, none_found}
use Rattle.cross_section.proofs.places.all_entering.Goals as goal

-- the end of an edge that is asked for
abbrev number : (ℕ × ℕ) → ℕ
number e = e.1

pub loop-k-init : goal.loop-k-init
loop-k-init c =
    let made : c.in_ok-places.places.items ≡ replicate c.args.count (length c.args.edges.now) = search rules in
    made ∙ none_found number c.args.edges.now c.args.count

pub index_mut-requires : goal.index_mut-requires
index_mut-requires c =
    let i = c.loop-k.k in
    let e = c.requires.between (i - 1) (0, 0) (omega (arith, c.loop-k-test.true, c.loop-k.auto.k)) in
    omega (arith, e.1, ap length c.loop-k.invariant, values_long (first_from number c.args.edges.now i) c.args.count)

pub loop-k-preserved : goal.loop-k-preserved
loop-k-preserved c =
    let es = c.args.edges.now in
    let i = c.loop-k.k in
    let e = c.requires.between (i - 1) (0, 0) (omega (arith, c.loop-k-test.true, c.loop-k.auto.k)) in
    ap (λ l. set l (number (get_or es (i - 1) (0, 0))) (i - 1)) c.loop-k.invariant ∙ found_back number es c.args.count i c.loop-k-test.true c.loop-k.auto.k e.1

pub returns : goal.returns
returns c =
    let none : c.loop-k.k ≡ 0 = omega (arith, c.loop-k-test.false) in
    c.loop-k.invariant ∙ ap (λ j. map (first_from number c.args.edges.now j) (upto c.args.count)) none ∙ all_found number c.args.edges.now c.args.count
