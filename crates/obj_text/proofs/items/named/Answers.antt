use Rattle.std.proofs.Common.{◌≡◌, ℕ, ◌-◌, ◌<◌, ◌≤◌, Bool, true, Some, Ok, Err, ap, ◌∙◌, arith}
use Rattle.std.specs.Prelude.{nat_lt, nat_le, ◌&&◌, if◌then◌else◌}
use Rattle.std.proofs.lemmas.Bool.Decides.{nat_tests}
use Rattle.format_terms.specs.ObjFaces.{named_vertex}
use Rattle.obj_text.proofs.items.named.Goals as goal

-- a number of a vertex that is there
named_so : (count size vertex : ℕ) (negative : Bool) → (size ≡ 0 → ⊥) → size ≤ count →
    (if negative then count - size else size - 1) ≡ vertex → named_vertex count (Some (negative, size)) ≡ Ok vertex
named_so count size vertex negative some within so =
    let positive : 0 < size = omega arith in
    let there : (nat_lt 0 size && nat_le size count) ≡ true = grind (arith, nat_tests) in
    ap (λ (b : Bool). if b then Ok (if negative then count - size else size - 1) else Err 6) there
    ∙ ap (λ (v : ℕ). Ok v) so

pub returns-then-negative-clause-value : goal.returns-then-negative-clause-value
returns-then-negative-clause-value c =
    let count = c.args.count in
    let size = c.args.size in
    named_so count size (count - size) c.args.negative c.if-size-eq0.false (omega (arith, c.if-size-from.false, c.from.ensures))
    (ap (λ (b : Bool). if b then count - size else size - 1) c.if-negative.true)

pub returns-else-negative-clause-value : goal.returns-else-negative-clause-value
returns-else-negative-clause-value c =
    let count = c.args.count in
    let size = c.args.size in
    named_so count size (size - 1) c.args.negative c.if-size-eq0.false (omega (arith, c.if-size-from.false, c.from.ensures))
    (ap (λ (b : Bool). if b then count - size else size - 1) c.if-negative.false)
