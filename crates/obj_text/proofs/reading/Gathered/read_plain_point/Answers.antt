use Rattle.std.proofs.Common.{◌≡◌, ◌<◌, [], ◌∷◌, ◌++◌, List, ℤ, length, rules, arith, ap, ◌∙◌, to_z, of_z}
use Rattle.std.specs.Int.{w32}
use Rattle.format_terms.specs.Obj.{Gathered}
use Rattle.obj_text.proofs.PlainReads.{point-read, point-fewer}
use Rattle.obj_text.proofs.reading.Gathered.read_plain_point.Goals as goal

pub returns : goal.returns
returns c =
    let p : List ℤ = c.in-Some.x ∷ c.in-Some.y ∷ c.in-Some.z ∷ [] in
    let s = c.args.self.now in
    let room : length s.points < c.args.limits.now.points = omega (arith, c.count.ensures, c.points.ensures.value, c.if-count-points.false) in
    let with_one : List ℤ → Gathered = λ q. record { points = s.points ++ q ∷ []; triples = s.triples; labels = s.labels; label = s.label } in
    let x_same : to_z w32 (of_z w32 c.in-Some.x) ≡ c.in-Some.x = search rules in
    let y_same : to_z w32 (of_z w32 c.in-Some.y) ≡ c.in-Some.y = search rules in
    let z_same : to_z w32 (of_z w32 c.in-Some.z) ≡ c.in-Some.z = search rules in
    let is = rw (x_same, y_same, z_same) at c.in-Some-of.ensures.value in
    record {
      read = point-read c.args.digits c.args.limits.now c.args.lines.now c.in-Some.after p s c.push_point.new.self c.in-Some.ensures room
          (c.in_ok-push_point.ensures ∙ ap with_one is);
      fewer = λ _. point-fewer c.args.digits c.args.lines.now c.in-Some.after p c.in-Some.ensures;
      kept = search rules;
    }
