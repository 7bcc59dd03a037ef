use Rattle.std.proofs.Common.{◌≡◌, ◌+◌, List, [], ◌∷◌, ◌++◌, length, refl, ap, arith, length-append}
use Rattle.mesh_terms.specs.Labels.{labels_for}
use Rattle.mesh_terms.specs.Meshes.{Triple, IsBelow, triples_of}
use Rattle.obj_text.proofs.FaceSteps.{IsSound-triple, length-triples_of, triples_of-push}
use Rattle.obj_text.proofs.LabelSteps.{labels_more}
use Rattle.obj_text.proofs.reading.Gathered.push_triangle.Goals as goal

pub invariant_of-self : goal.invariant_of-self
invariant_of-self c = rw c.in_err-push.ensures.items c.self.invariant

pub invariant_of-self-2 : goal.invariant_of-self-2
invariant_of-self-2 c =
    let triples = c.self.inside.triples.items in
    let points : length c.args.self.now.points ≡ length c.self.inside.points.items = rw (← c.self.view_is) refl in
    let stored : length c.args.self.now.triples ≡ length (triples_of triples) = rw (← c.self.view_is) refl in
    let below : IsBelow (length c.self.inside.points.items) (c.args.a, c.args.b, c.args.c) = rw points at c.requires.below in
    let added = triples_of-push triples c.push.new.self.items c.args.a c.args.b c.args.c c.in_ok-push.ensures.items in
    record {
      sound = IsSound-triple (length c.self.inside.points.items) (triples_of triples) (triples_of c.push.new.self.items)
          (c.args.a, c.args.b, c.args.c) c.self.invariant.sound
          added c.requires.apart below (omega (arith, c.requires.room, stored));
      few = omega (
        arith,
        c.extend.ensures.few,
        c.len-before.ensures,
        length-triples_of triples,
        ap length added,
        length-append (triples_of triples) ((c.args.a, c.args.b, c.args.c) ∷ []),
      );
    }

pub returns : goal.returns
returns c =
    let triples = c.self.inside.triples.items in
    let new = c.push.new.self.items in
    let before = c.len-before.result in
    let old_labels = c.self.inside.groups.labels in
    let groups = c.extend.new.self in
    let added : triples_of new ≡ triples_of triples ++ (c.args.a, c.args.b, c.args.c) ∷ [] =
    triples_of-push triples new c.args.a c.args.b c.args.c c.in_ok-push.ensures.items in
    let starts : length (triples_of triples) ≡ before = omega (arith, c.len-before.ensures, length-triples_of triples) in
    let ends : length (triples_of new) ≡ before + 1 = omega (arith, starts, ap length added, length-append (triples_of triples) ((c.args.a, c.args.b, c.args.c) ∷ [])) in
    let labels : labels_for (triples_of new) groups.labels ≡ labels_for (triples_of triples) old_labels ++ c.self.inside.groups.label ∷ [] =
    labels_more (triples_of triples) (triples_of new) old_labels groups.labels c.self.inside.groups.label before (before + 1) 1 starts ends
    (omega arith) c.in_ok-extend.ensures.added in
    rw (← c.self.view_is) (λ i. record { points = c.self.inside.points.items; triples = added i; labels = labels i; label = c.in_ok-extend.ensures.label i })
