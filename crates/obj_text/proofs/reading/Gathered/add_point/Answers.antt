use Rattle.std.proofs.Common.{◌≡◌, ◌+◌, ℤ, List, [], ◌∷◌, Ok, length, sym, ap, ◌∙◌, arith, length-append}
use Rattle.mesh_terms.specs.Labels.{labels_for}
use Rattle.mesh_terms.specs.Meshes.{triples_of}
use Rattle.format_terms.specs.Obj.{Gathered}
use Rattle.obj_text.proofs.FaceSteps.{IsSound-point, with_point-over, with_point-within}
use Rattle.obj_text.proofs.reading.Gathered.add_point.Goals as goal

pub returns-then-seen-from-clause-fault : goal.returns-then-seen-from-clause-fault
returns-then-seen-from-clause-fault c =
    let s : Gathered =
    record {
      points = c.self.inside.points.items;
      triples = triples_of c.self.inside.triples.items;
      labels =
          labels_for (triples_of c.self.inside.triples.items) c.self.inside.groups.labels;
      label = c.self.inside.groups.label;
    } in
    rw (← c.self.view_is)
    (with_point-over c.args.limits.now s c.args.point (c.len.result + 1) (omega (arith, c.len.ensures))
    (omega (arith, c.if-seen-from.true, c.from.ensures, c.points.ensures.value)))

pub invariant_of-self : goal.invariant_of-self
invariant_of-self c = rw c.in_err-push.ensures.items c.self.invariant

pub invariant_of-self-2 : goal.invariant_of-self-2
invariant_of-self-2 c =
    let points = c.self.inside.points.items in
    let more : length c.push.new.self.items ≡ length points + 1 = rw c.in_ok-push.ensures.items (omega (arith, length-append points (c.args.point ∷ []))) in
    record {
      sound = IsSound-point (length points) (length c.push.new.self.items) (triples_of c.self.inside.triples.items) c.self.invariant.sound more
          (omega (arith, more, c.len.ensures, c.if-seen-from.false, c.from.ensures, c.points.ensures.value, c.points.ensures.lawful.few_points));
      few = c.self.invariant.few;
    }

pub returns-clause-added : goal.returns-clause-added
returns-clause-added c =
    let s : Gathered =
    record {
      points = c.self.inside.points.items;
      triples = triples_of c.self.inside.triples.items;
      labels =
          labels_for (triples_of c.self.inside.triples.items) c.self.inside.groups.labels;
      label = c.self.inside.groups.label;
    } in
    rw (← c.self.view_is)
    (with_point-within c.args.limits.now s c.args.point (omega (arith, c.len.ensures, c.if-seen-from.false, c.from.ensures, c.points.ensures.value))
    ∙ ap (λ (ps : List (List ℤ)). Ok (record { points = ps; triples = s.triples; labels = s.labels; label = s.label })) (sym c.in_ok-push.ensures.items))
