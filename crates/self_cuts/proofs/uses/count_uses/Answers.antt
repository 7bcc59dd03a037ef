use Rattle.std.proofs.Common.{◌≡◌, ◌+◌, ◌∙◌, ap, arith, get_or, length, refl, subst, sym}
use Rattle.std.specs.Prelude.{count_by, nat_lt}
use Rattle.std.proofs.lemmas.Bool.{eqb-false, eqb-true}
use Rattle.inspection_laws.specs.Uses.{AreUses}
use Rattle.inspection_laws.proofs.Uses.{no_uses, none_often, often_all, often_no, often_yes, uses_few, uses_more}
use Rattle.self_cuts.proofs.uses.count_uses.Goals as goal
use Rattle.self_cuts.proofs.uses.count_uses.Goals.{then-is_third, else-is_third}

pub loop-place-init : goal.loop-place-init
loop-place-init c = record {
  uses = no_uses c.args.lows.now c.args.places.now c.args.uses.now c.requires.none;
  value = sym (none_often c.args.uses.now c.requires.none);
  few = omega arith;
}

pub is_third-requires-clause-within : goal.is_third-requires-clause-within
is_third-requires-clause-within c =
    let places = c.args.places.now in
    let i = c.loop-place.place-index in
    omega (arith, c.requires.lows (get_or places i 0) 0 (c.requires.places i 0 c.loop-place-test.true), c.loop-place.invariant.uses.full)

pub is_third-requires-clause-few : goal.is_third-requires-clause-few
is_third-requires-clause-few c =
    let lows = c.args.lows.now in
    let places = c.args.places.now in
    let i = c.loop-place.place-index in
    let k = get_or places i 0 in
    let below = c.requires.lows k 0 (c.requires.places i 0 c.loop-place-test.true) in
    omega (
      arith,
      uses_few lows places c.loop-place.uses (length c.args.uses.now) i (get_or lows k 0) c.loop-place-test.true refl below c.loop-place.invariant.uses,
      c.loop-place-test.true,
      c.requires.few,
    )

pub loop-place-preserved : goal.loop-place-preserved
loop-place-preserved c =
    let lows = c.args.lows.now in
    let places = c.args.places.now in
    let uses = c.loop-place.uses in
    let n = length c.args.uses.now in
    let i = c.loop-place.place-index in
    let k = get_or places i 0 in
    let low = get_or lows k 0 in
    let inv = c.loop-place.invariant in
    let below = c.requires.lows k 0 (c.requires.places i 0 c.loop-place-test.true) in
    let more = uses_more lows places uses n i low c.loop-place-test.true refl below inv.uses in
    elim c.if-is_third.branch [
      | then-is_third w ↦ record {
        uses = subst (λ xs. AreUses lows places xs n (i + 1)) (sym w.if-is_third.ensures.uses) more;
        value = w.count-is
            ∙ often_yes lows places uses n i low c.loop-place-test.true refl below c.loop-place.count inv.uses.full inv.value
            (eqb-true (get_or uses low 0 + 1) 3 (sym w.if-is_third.ensures.third))
            ∙ ap (count_by (λ u. nat_lt 2 u)) (sym w.if-is_third.ensures.uses);
        few = omega (arith, w.count-is, inv.few);
      }
      | else-is_third w ↦ record {
        uses = subst (λ xs. AreUses lows places xs n (i + 1)) (sym w.if-is_third.ensures.uses) more;
        value = w.count-is
            ∙ often_no lows places uses n i low c.loop-place-test.true refl below c.loop-place.count inv.uses.full inv.value
            (eqb-false (get_or uses low 0 + 1) 3 (sym w.if-is_third.ensures.third))
            ∙ ap (count_by (λ u. nat_lt 2 u)) (sym w.if-is_third.ensures.uses);
        few = omega (arith, w.count-is, inv.few);
      }
    ]

pub returns-clause-value : goal.returns-clause-value
returns-clause-value c =
    let places = c.args.places.now in
    let end : c.loop-place.place-index ≡ length places = omega (arith, c.loop-place-test.false) in
    c.loop-place.invariant.value
    ∙ often_all c.args.lows.now places c.loop-place.uses (length c.args.uses.now)
    (subst (AreUses c.args.lows.now places c.loop-place.uses (length c.args.uses.now)) end c.loop-place.invariant.uses)

pub returns-clause-uses : goal.returns-clause-uses
returns-clause-uses c =
    let places = c.args.places.now in
    let end : c.loop-place.place-index ≡ length places = omega (arith, c.loop-place-test.false) in
    subst (AreUses c.args.lows.now places c.loop-place.uses (length c.args.uses.now)) end c.loop-place.invariant.uses
