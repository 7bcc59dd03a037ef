use Rattle.std.proofs.Common.{◌≡◌, ℕ, IfOk, IfSome, length, map, take, arith, ap, subst, ◌∙◌}
use Rattle.std.proofs.lemmas.List.{length-map, take_all}
use Rattle.lean.specs.Leans.{is_up, normals_of}
use Rattle.lean.proofs.Normals.{length-normals}
use Rattle.lean.proofs.marks.leans.Goals as goal

pub returns-clause-length : goal.returns-clause-length
returns-clause-length c =
    let mesh = c.args.mesh.now in
    let sums = c.deref-normal-items.result.now in
    let i = c.loop-normal.normal-index in
    let all : take i sums ≡ sums = take_all i sums (omega arith) in
    ap length c.loop-normal.invariant.marks ∙ length-map (take i sums) (map (is_up c.args.op)) ∙ ap length all ∙ ap length c.loop-normal.invariant.sums
    ∙ length-normals mesh.points mesh.triples

pub returns-in-Some-clause-length : goal.returns-in-Some-clause-length
returns-in-Some-clause-length c =
    let mesh = c.args.mesh.now in
    let told : IfSome c.in_ok-normals.field-0 (λ normals. normals.items ≡ normals_of mesh.points mesh.triples) = c.in_ok-normals.ensures in
    let known = rw c.in-Some.is at told in
    let long : length c.deref.result.now ≡ length mesh.points = ap length (c.deref.ensures.value ∙ known) ∙ length-normals mesh.points mesh.triples in
    subst (λ (n : ℕ). IfOk c.short_marks.result (λ ups. length ups.items ≡ n)) long c.short_marks.ensures.length
