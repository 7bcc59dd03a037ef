use Rattle.std.proofs.Common.{rules, ◌≡◌, sym, subst}
use Rattle.std.proofs.lemmas.Result.{IfOk-weaker}
use Rattle.mesh_check.specs.Reduced.{NoOpposite}
use Rattle.side_terms.specs.Sides.{Side}
use Rattle.mesh_boolean.specs.Operation.{q_side, reduced_mesh}
use Rattle.mesh_boolean.proofs.Reduced.{side_of_reduced}
use Rattle.mesh_boolean.proofs.sides.second_side.Goals as goal

pub returns-then-is_plainly_reduced-clause-value : goal.returns-then-is_plainly_reduced-clause-value
returns-then-is_plainly_reduced-clause-value c =
    IfOk-weaker c.plain_side.result (λ side. side ≡ q_side c.args.q.now) (λ side. side ≡ q_side (reduced_mesh c.args.q.now))
    (λ side is. side_of_reduced q_side c.args.q.now c.args.q.now side (c.is_plainly_reduced.ensures.points (search rules))
    (c.is_plainly_reduced.ensures.triples (search rules)) (c.is_plainly_reduced.ensures.labels (search rules)) is) c.plain_side.ensures

pub returns-then-is_plainly_reduced-clause-apart : goal.returns-then-is_plainly_reduced-clause-apart
returns-then-is_plainly_reduced-clause-apart c =
    IfOk-weaker c.plain_side.result (λ side. side ≡ q_side c.args.q.now) (λ side. NoOpposite side.triples)
    (λ side is. subst (λ (s : Side). NoOpposite s.triples) (sym is) (c.is_plainly_reduced.ensures.apart (search rules))) c.plain_side.ensures

pub returns-clause-value : goal.returns-clause-value
returns-clause-value c =
    let m = c.in_ok-q.q in
    IfOk-weaker c.plain_side-2.result (λ side. side ≡ q_side m) (λ side. side ≡ q_side (reduced_mesh c.args.q.now))
    (λ side is. side_of_reduced q_side m c.args.q.now side c.in_ok-q.ensures.points c.in_ok-q.ensures.triples c.in_ok-q.ensures.labels is) c.plain_side-2.ensures

pub returns-clause-apart : goal.returns-clause-apart
returns-clause-apart c =
    let m = c.in_ok-q.q in
    IfOk-weaker c.plain_side-2.result (λ side. side ≡ q_side m) (λ side. NoOpposite side.triples)
    (λ side is. subst (λ (s : Side). NoOpposite s.triples) (sym is) c.in_ok-q.ensures.apart) c.plain_side-2.ensures
