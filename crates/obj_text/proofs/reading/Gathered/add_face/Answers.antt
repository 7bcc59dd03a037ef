use Rattle.std.proofs.Common.{◌≡◌, ◌+◌, ◌-◌, ◌++◌, List, length, replicate, Ok, refl, ap, sym, ◌∙◌, arith, length-append}
use Rattle.mesh_terms.specs.Labels.{labels_for}
use Rattle.mesh_terms.specs.Meshes.{Triple, triples_of}
use Rattle.format_terms.specs.ObjFaces.{face_fan}
use Rattle.format_terms.specs.Obj.{Gathered}
use Rattle.format_terms.proofs.Fans.{length-face_fan}
use Rattle.obj_text.proofs.FaceSteps.{IsSound-face, length-triples_of, with_triples-over, with_triples-within}
use Rattle.obj_text.proofs.LabelSteps.{labels_more}
use Rattle.obj_text.proofs.reading.Gathered.add_face.Goals as goal

pub returns-then-seen-from-clause-fault : goal.returns-then-seen-from-clause-fault
returns-then-seen-from-clause-fault c =
    let vertices = c.args.vertices.now in
    let triples = c.self.inside.triples.items in
    let s : Gathered =
    record {
      points = c.self.inside.points.items;
      triples = triples_of triples;
      labels =
          labels_for (triples_of triples) c.self.inside.groups.labels;
      label = c.self.inside.groups.label;
    } in
    rw (← c.self.view_is)
    (with_triples-over c.args.limits.now s (face_fan vertices) (c.len.result + (length vertices - 2))
    (omega (arith, c.len.ensures, length-triples_of triples, length-face_fan vertices)) (omega (arith, c.if-seen-from.true, c.from.ensures, c.triangles.ensures.value)))

pub invariant_of-self-in_err-extend : goal.invariant_of-self-in_err-extend
invariant_of-self-in_err-extend c =
    let vertices = c.args.vertices.now in
    let triples = c.self.inside.triples.items in
    let points : length c.args.self.now.points ≡ length c.self.inside.points.items = rw (← c.self.view_is) refl in
    record {
      sound = IsSound-face (length c.self.inside.points.items) (triples_of triples) (triples_of c.push_fan.new.triples.items) vertices
          c.self.invariant.sound c.in_ok-push_fan.ensures.added c.requires.apart
          (rw points at c.requires.below)
          (omega (
            arith,
            c.len.ensures,
            length-triples_of triples,
            c.if-seen-from.false,
            c.from.ensures,
            c.triangles.ensures.value,
            c.triangles.ensures.lawful.few_triangles,
          ));
      few = omega (arith, c.extend.ensures.few, c.len-2.ensures, length-triples_of c.push_fan.new.triples.items);
    }

pub invariant_of-self-2 : goal.invariant_of-self-2
invariant_of-self-2 c =
    let vertices = c.args.vertices.now in
    let triples = c.self.inside.triples.items in
    let points : length c.args.self.now.points ≡ length c.self.inside.points.items = rw (← c.self.view_is) refl in
    record {
      sound = IsSound-face (length c.self.inside.points.items) (triples_of triples) (triples_of c.push_fan.new.triples.items) vertices
          c.self.invariant.sound c.in_ok-push_fan.ensures.added c.requires.apart
          (rw points at c.requires.below)
          (omega (
            arith,
            c.len.ensures,
            length-triples_of triples,
            c.if-seen-from.false,
            c.from.ensures,
            c.triangles.ensures.value,
            c.triangles.ensures.lawful.few_triangles,
          ));
      few = omega (arith, c.extend.ensures.few, c.len-2.ensures, length-triples_of c.push_fan.new.triples.items);
    }

pub returns-clause-added : goal.returns-clause-added
returns-clause-added c =
    let vertices = c.args.vertices.now in
    let triples = c.self.inside.triples.items in
    let new = c.push_fan.new.triples.items in
    let before = c.len-before.result in
    let s : Gathered =
    record {
      points = c.self.inside.points.items;
      triples = triples_of triples;
      labels =
          labels_for (triples_of triples) c.self.inside.groups.labels;
      label = c.self.inside.groups.label;
    } in
    let added : triples_of new ≡ triples_of triples ++ face_fan vertices = c.in_ok-push_fan.ensures.added in
    let starts : length (triples_of triples) ≡ before = omega (arith, c.len-before.ensures, length-triples_of triples) in
    let ends : length (triples_of new) ≡ c.len-2.result = omega (arith, c.len-2.ensures, length-triples_of new) in
    let more : c.len-2.result - before ≡ length (face_fan vertices) =
    omega (arith, starts, ends, ap length added, length-append (triples_of triples) (face_fan vertices)) in
    let labels : labels_for (triples_of new) c.extend.new.self.labels ≡ s.labels ++ replicate (length (face_fan vertices)) s.label =
    labels_more (triples_of triples) (triples_of new) c.self.inside.groups.labels c.extend.new.self.labels s.label before c.len-2.result
    (length (face_fan vertices)) starts ends more c.in_ok-extend.ensures.added in
    rw (← c.self.view_is)
    (with_triples-within c.args.limits.now s (face_fan vertices)
    (omega (arith, c.len.ensures, length-triples_of triples, length-face_fan vertices, c.if-seen-from.false, c.from.ensures, c.triangles.ensures.value))
    ∙ λ i. Ok (record { points = s.points; triples = sym added i; labels = sym labels i; label = sym c.in_ok-extend.ensures.label i }))
