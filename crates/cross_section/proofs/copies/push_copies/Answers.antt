use Rattle.std.proofs.Common.{◌≡◌, ◌++◌, nat_abs, replicate, ap, ◌∙◌, to_z, of_z, w64, arith}
use Rattle.std.proofs.lemmas.Int.{ints}
use Rattle.cross_section.specs.Copies.{by_sign}
use Rattle.cross_section.proofs.copies.push_copies.Goals as goal

pub returns-clause-points : goal.returns-clause-points
returns-clause-points c =
    let kept : to_z w64 (of_z w64 c.args.number) ≡ c.args.number = omega (arith, ints) in
    let count = c.unsigned_abs.ensures.value ∙ ap nat_abs kept in
    c.in_ok-push_many.ensures.points ∙ (λ i. c.args.copies.now.points.items ++ replicate (count i) c.args.point)

pub returns-clause-starts : goal.returns-clause-starts
returns-clause-starts c =
    let kept : to_z w64 (of_z w64 c.args.number) ≡ c.args.number = omega (arith, ints) in
    let count = c.unsigned_abs.ensures.value ∙ ap nat_abs kept in
    let start = c.by_sign-start.ensures ∙ ap (λ z. by_sign z c.args.from c.args.to) kept in
    c.in_ok-push_many.ensures.starts ∙ (λ i. c.args.copies.now.starts.items ++ replicate (count i) (start i))

pub returns-clause-ends : goal.returns-clause-ends
returns-clause-ends c =
    let kept : to_z w64 (of_z w64 c.args.number) ≡ c.args.number = omega (arith, ints) in
    let count = c.unsigned_abs.ensures.value ∙ ap nat_abs kept in
    let end = c.by_sign-end.ensures ∙ ap (λ z. by_sign z c.args.to c.args.from) kept in
    c.in_ok-push_many.ensures.ends ∙ (λ i. c.args.copies.now.ends.items ++ replicate (count i) (end i))
