use Rattle.std.proofs.Common.{rules, sym, subst}
use Rattle.source_faces.specs.Given.{AreGiven}
use Rattle.operation_tests.proofs.faces.written.Goals as goal

pub push_faces-pushed-requires : goal.push_faces-pushed-requires
push_faces-pushed-requires g c =
    let given : AreGiven c.args.op c.args.p.now c.args.q.now c.args.windings.now c.args.hits.now c.expect-prescribed.result = search rules in
    subst (λ s. AreGiven c.args.op s c.surface-q.result.now c.args.windings.now c.args.hits.now c.expect-prescribed.result) (sym c.surface-p.ensures)
    (subst (λ s. AreGiven c.args.op c.args.p.now s c.args.windings.now c.args.hits.now c.expect-prescribed.result) (sym c.surface-q.ensures) given)
