use Rattle.std.proofs.Common.{◌*◌, ◌%◌, ◌^◌, pos, ap, ◌∙◌}
use Rattle.std.proofs.lemmas.Bool.{eqb-true}
use Rattle.std.proofs.lemmas.Nat.{one_shl}
use Rattle.lean.proofs.grid.is_grid_step.Goals as goal

pub returns-then-shift-lt64 : goal.returns-then-shift-lt64
returns-then-shift-lt64 c = λ same.
    let shift = c.args.shift in
    let small = c.if-shift-lt64.true in
    record { small = small; same = ap pos (eqb-true 256 ((1 * 2 ^ shift) % 2 ^ 64) same ∙ one_shl shift 64 small) }
