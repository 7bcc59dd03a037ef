use Rattle.std.proofs.Common.{rules, sym}
use Rattle.mesh_boolean.specs.Operation.{reduced_mesh}
use Rattle.mesh_boolean.proofs.Labelled.{both_none, face_label-of, reduced_none}
use Rattle.mesh_boolean.proofs.labels.face_labels.Goals as goal

pub returns-then-has_none-2 : goal.returns-then-has_none-2
returns-then-has_none-2 c = λ x.
    let p = c.args.p.now in
    let q = c.args.q.now in
    sym (both_none (reduced_mesh p).labels (reduced_mesh q).labels (reduced_none p (c.has_none.ensures (search rules)))
    (reduced_none q (c.has_none-then-has_none.ensures (search rules))) x)

pub returns : goal.returns
returns c =
    face_label-of (reduced_mesh c.args.p.now).labels (reduced_mesh c.args.q.now).labels
    (record { first = c.in_ok-first.first; second = c.in_ok-second.second; faces = c.in_ok-first.faces })
    c.in_ok-first.ensures.labels c.in_ok-second.ensures.labels c.in_ok-first.ensures.count
