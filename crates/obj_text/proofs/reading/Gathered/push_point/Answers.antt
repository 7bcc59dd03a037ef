use Rattle.std.proofs.Common.{◌≡◌, ◌+◌, ℤ, List, [], ◌∷◌, length, refl, ap, arith, length-append}
use Rattle.mesh_terms.specs.Labels.{labels_for}
use Rattle.mesh_terms.specs.Meshes.{triples_of}
use Rattle.format_terms.specs.Obj.{Gathered}
use Rattle.obj_text.proofs.FaceSteps.{IsSound-point}
use Rattle.obj_text.proofs.reading.Gathered.push_point.Goals as goal

pub invariant_of-self : goal.invariant_of-self
invariant_of-self c = rw c.in_err-push.ensures.items c.self.invariant

pub invariant_of-self-2 : goal.invariant_of-self-2
invariant_of-self-2 c =
    let points = c.self.inside.points.items in
    let seen : length c.args.self.now.points ≡ length points = rw (← c.self.view_is) refl in
    let more : length c.push.new.self.items ≡ length points + 1 = rw c.in_ok-push.ensures.items (omega (arith, length-append points (c.args.point ∷ []))) in
    record {
      sound = IsSound-point (length points) (length c.push.new.self.items) (triples_of c.self.inside.triples.items) c.self.invariant.sound more
          (omega (arith, c.requires, seen, more));
      few = c.self.invariant.few;
    }

pub returns : goal.returns
returns c =
    let with_points : List (List ℤ) → Gathered =
    λ ps. record {
      points = ps;
      triples = triples_of c.self.inside.triples.items;
      labels =
          labels_for (triples_of c.self.inside.triples.items) c.self.inside.groups.labels;
      label = c.self.inside.groups.label;
    } in
    rw (← c.self.view_is) (ap with_points c.in_ok-push.ensures.items)
