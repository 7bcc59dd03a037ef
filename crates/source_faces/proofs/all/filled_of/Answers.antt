use Rattle.std.proofs.Common.{◌≡◌, ◌+◌, length, arith, sym, ap, subst, ◌∙◌}
use Rattle.std.proofs.lemmas.List.{length-map}
use Rattle.chain_terms.specs.Sums.{upto}
use Rattle.chain_laws.proofs.Places.{length-up_from}
use Rattle.source_faces.specs.Agreement.{records_of}
use Rattle.mesh_terms.specs.Meshes.{triple_of}
use Rattle.source_faces.specs.Adding.{filled_by}
use Rattle.source_faces.specs.Parts.{AreAdded, HaveParts, both_parts, parts_of}
use Rattle.source_faces.proofs.Groups.{none_first}
use Rattle.source_faces.proofs.Joined.{all_joined, joined}
use Rattle.source_faces.proofs.all.filled_of.Goals as goal

pub push_faces-requires-clause-begin : goal.push_faces-requires-clause-begin
push_faces-requires-clause-begin c = sym (none_first c.args.stands.now)

pub push_faces-requires-2-clause-parts : goal.push_faces-requires-2-clause-parts
push_faces-requires-2-clause-parts c =
    let all : length c.triples.result.now ≡ length c.args.p.now.triples =
    sym (length-map c.triples.result.now triple_of) ∙ ap length c.triples.ensures.value in
    subst (λ n. HaveParts c.args.q.now c.args.q_runs.now c.args.points.now n c.args.stands.now) (sym all) c.requires.q_parts

pub returns : goal.returns
returns c =
    let p = c.args.p.now in
    let q = c.args.q.now in
    let points = c.args.points.now in
    let stands = c.args.stands.now in
    let m = length p.triples in
    let n = length q.triples in
    let mid = c.push_faces.new.all in
    let last = c.push_faces-2.new.all in
    let all : length c.triples.result.now ≡ m = sym (length-map c.triples.result.now triple_of) ∙ ap length c.triples.ensures.value in
    let ps = parts_of p c.args.p_runs.now points 0 stands m in
    let qs = parts_of q c.args.q_runs.now points m stands n in
    let second = subst (λ y. AreAdded y (parts_of q c.args.q_runs.now points y stands n) mid last) all c.in_ok-push_faces.ensures.added in
    let long : m ≡ 0 + length ps =
    omega (arith, length-map (upto m) (λ f. filled_by p c.args.p_runs.now points f (records_of stands (0 + f))), length-up_from 0 m) in
    all_joined (both_parts p q c.args.p_runs.now c.args.q_runs.now points stands) c.in_ok-all.all last c.in_ok-all.ensures.triples
    c.in_ok-all.ensures.source c.in_ok-all.ensures.forced
    (joined 0 m ps qs c.in_ok-all.all mid last long c.in_ok-begin.ensures.added second)
