use Rattle.std.proofs.Common.{◌≡◌, ℤ, sym, ap, ◌∙◌, arith}
use Rattle.std.proofs.lemmas.Int.{ints}
use Rattle.ring_cutting.proofs.Beside.{IsFurthest, right_too}
use Rattle.ring_cutting.proofs.span.lies_right.Goals.{then-v, else-v, then-u, else-u}
use Rattle.ring_cutting.proofs.span.lies_right.Goals as goal

pub returns : goal.returns
returns c =
    let a = c.args.a in
    let b = c.args.b in
    let s = c.args.span.now in
    let first : c.mixed.result.0 ≡ c.if-v.u.0 = ap (λ (p : ℤ × ℤ). p.0) c.mixed.ensures in
    let second : c.mixed.result.1 ≡ c.if-u.v.1 = ap (λ (p : ℤ × ℤ). p.1) c.mixed.ensures in
    let corner : IsFurthest s a b c.mixed.result = record {
      up = λ l. first ∙ elim c.if-v.branch as (λ _. c.if-v.u.0 ≡ s.low.0) [
        | then-v w ↦ ap (λ (p : ℤ × ℤ). p.0) w.u-is
        | else-v w ↦ absurd (omega (arith, ints, w.if-v.false, c.v.ensures.value, c.v-2.ensures.value, l))
      ];
      down = λ l. first ∙ elim c.if-v.branch as (λ _. c.if-v.u.0 ≡ s.high.0) [
        | then-v w ↦ absurd (omega (arith, ints, w.if-v.true, c.v.ensures.value, c.v-2.ensures.value, l))
        | else-v w ↦ ap (λ (p : ℤ × ℤ). p.0) w.u-is
      ];
      on = λ l. second ∙ elim c.if-u.branch as (λ _. c.if-u.v.1 ≡ s.high.1) [
        | then-u w ↦ ap (λ (p : ℤ × ℤ). p.1) w.v-is
        | else-u w ↦ absurd (omega (arith, ints, w.if-u.false, c.u.ensures.value, c.u-2.ensures.value, l))
      ];
      back = λ l. second ∙ elim c.if-u.branch as (λ _. c.if-u.v.1 ≡ s.low.1) [
        | then-u w ↦ absurd (omega (arith, ints, w.if-u.true, c.u.ensures.value, c.u-2.ensures.value, l))
        | else-u w ↦ ap (λ (p : ℤ × ℤ). p.1) w.v-is
      ];
    } in
    λ y x h. right_too s a b c.mixed.result x corner (sym c.turns_right.ensures ∙ y) h
