use Rattle.std.proofs.Common.{◌<◌, length, rules}
use Rattle.mesh_terms.specs.Meshes.{HasThree, IsBelow}
use Rattle.obj_text.proofs.PlainReads.{face-read, face-fewer}
use Rattle.obj_text.proofs.reading.Gathered.read_plain_face.Goals as goal

pub returns : goal.returns
returns c k =
    let below : IsBelow (length c.args.self.now.points) (c.in-Some.a, c.in-Some.b, c.in-Some.c) = search rules in
    let apart : HasThree (c.in-Some.a, c.in-Some.b, c.in-Some.c) = search rules in
    let room : length c.args.self.now.triples < c.args.limits.now.triangles = search rules in
    record {
      read = face-read k c.args.limits.now c.args.lines.now c.in-Some.after c.in-Some.a c.in-Some.b c.in-Some.c c.args.self.now c.push_triangle.new.self
          c.in-Some.ensures below apart room c.in_ok-push_triangle.ensures;
      fewer = λ _. face-fewer c.args.lines.now c.in-Some.after c.in-Some.a c.in-Some.b c.in-Some.c c.in-Some.ensures;
      kept = search rules;
    }
