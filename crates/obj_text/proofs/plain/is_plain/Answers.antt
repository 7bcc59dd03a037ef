use Rattle.std.proofs.Common.{◌≡◌, ℕ, ◌<◌, ◌≤◌, Bool, true, false, not, ne_eqb, refl, ap, ◌∙◌, sym, ⊎_elim, arith}
use Rattle.std.specs.Prelude.{nat_lt, ◌&&◌, ◌==◌}
use Rattle.std.proofs.lemmas.Bool.Decides.{nat_tests}
use Rattle.obj_text.specs.Plain.{is_plain}
use Rattle.obj_text.proofs.plain.is_plain.Goals.{then-byte-gt32, else-byte-gt32}
use Rattle.obj_text.proofs.plain.is_plain.Goals as goal

-- the last test decides
last_decides : (byte : ℕ) → 32 < byte → (byte ≡ 35 → ⊥) → not (byte == 92) ≡ is_plain byte
last_decides byte above other =
    let over : nat_lt 32 byte ≡ true = grind (arith, nat_tests) in
    sym (ap (λ (b : Bool). b && not (byte == 35) && not (byte == 92)) over ∙ ap (λ (b : Bool). not b && not (byte == 92)) (ne_eqb byte 35 other))

-- # is not plain
not_a_mark : (byte : ℕ) (test : Bool) → byte ≡ 35 → test ≡ not (byte == 35) → test ≡ is_plain byte
not_a_mark byte test is e = e ∙ rw is refl

-- neither is a space or a byte below it
not_low : (byte : ℕ) (test : Bool) → byte ≤ 32 → test ≡ nat_lt 32 byte → test ≡ is_plain byte
not_low byte test low e =
    let under : nat_lt 32 byte ≡ false = grind (arith, nat_tests) in
    e ∙ under ∙ sym (ap (λ (b : Bool). b && not (byte == 35) && not (byte == 92)) under)

pub returns-then-byte-ne35 : goal.returns-then-byte-ne35
returns-then-byte-ne35 c = last_decides c.args.byte c.if-byte-ne35.true.0 c.if-byte-ne35.true.1

pub returns-else-byte-ne35 : goal.returns-else-byte-ne35
returns-else-byte-ne35 c =
    elim c.if-byte-gt32.branch [
      | then-byte-gt32 w ↦ ⊎_elim (λ p. not_a_mark c.args.byte _ p.1 w.t-3-is) (λ low. absurd (omega (arith, low, w.if-byte-gt32.true))) c.if-byte-ne35.either
      | else-byte-gt32 w ↦ not_low c.args.byte _ w.if-byte-gt32.false w.t-3-is
    ]
