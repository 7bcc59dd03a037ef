use Rattle.std.proofs.Common.{◌≡◌, ◌+◌, ℕ, arith, ap, get_or, sym, ◌∙◌}
use Rattle.std.specs.Prelude.{◌&&◌, nat_lt}
use Rattle.std.proofs.lemmas.List.Sums.{count_by_more_no, count_by_more_yes}
use Rattle.inspection_laws.specs.Signs.{are_cutting}
use Rattle.self_cuts.specs.Faces.{corners, places}
use Rattle.self_cuts.specs.declared.seen.Seen.{Seen}
use Rattle.self_cuts.proofs.near.cut_before.Goals as goal
use Rattle.self_cuts.proofs.near.cut_before.Goals.{then-is_counted, else-is_counted}

pub loop-s-preserved : goal.loop-s-preserved
loop-s-preserved c =
    let seen = c.args.seen.now in
    let i = c.loop-s.s-index in
    let s = c.s-item.result in
    let test = λ (s : Seen). nat_lt s.number c.args.t && are_cutting (places s.triangle) (corners c.args.o.now) in
    let item : get_or seen i s ≡ s = sym c.s-item.is in
    elim c.if-is_counted.branch [
      | then-is_counted w ↦ record {
        value = w.count-is ∙ ap (λ (n : ℕ). n + 1) c.loop-s.invariant.value ∙ sym (count_by_more_yes test seen i s c.loop-s-test.true (ap test item ∙ sym w.if-is_counted.ensures));
        few = omega (arith, w.count-is, c.loop-s.invariant.few);
      }
      | else-is_counted w ↦ record {
        value = w.count-is ∙ c.loop-s.invariant.value ∙ sym (count_by_more_no test seen i s c.loop-s-test.true (ap test item ∙ sym w.if-is_counted.ensures));
        few = omega (arith, w.count-is, c.loop-s.invariant.few);
      }
    ]
