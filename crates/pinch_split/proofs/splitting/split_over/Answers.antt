use Rattle.std.proofs.Common.{◌≡◌, ◌≤◌, ◌*◌, Result, Ok, Err, IfOk, length, sym, ◌∙◌, ap, subst, arith}
use Rattle.std.proofs.lemmas.Result.{IfOk-weaker}
use Rattle.chain_terms.specs.Chains.{all_edges}
use Rattle.chain_terms.specs.Sums.{upto}
use Rattle.mesh_terms.specs.Meshes.{IsAccepted, triples_of}
use Rattle.mesh_terms.specs.Twins.{twins_of}
use Rattle.halfedge.specs.Clean.{IsClean}
use Rattle.pinch_split.specs.Split.{split_from, split_points, split_triples}
use Rattle.pinch_split.specs.Given.{corners, starts_of, points_of}
use Rattle.pinch_split.proofs.Clean.{clean_anew}
use Rattle.pinch_split.proofs.CleanFans.{unchanged}
use Rattle.pinch_split.proofs.FanLists.{starts_are_from, corners_are_split}
use Rattle.pinch_split.proofs.TwinsStay.{twins_stay}
use Rattle.pinch_split.proofs.Whole.{has_fans}
use Rattle.pinch_split.proofs.splitting.split_over.Goals as goal

pub returns-clause-points : goal.returns-clause-points
returns-clause-points c =
    let points = c.args.points.now in
    let ts = c.in_ok-twins.twins.triples in
    let of = c.in_ok-fans.fans.of.items in
    let first = c.in_ok-fans.fans.first.items in
    let accepted = subst (IsAccepted (length points)) (sym c.in_ok-twins.ensures) c.requires in
    let from = starts_are_from (length points) ts of first accepted (has_fans (length points) ts of first accepted c.in_ok-fans.ensures.fans) in
    IfOk-weaker c.split_by.result (λ s. s.mesh.points ≡ points_of points (starts_of ts first)) (λ s. s.mesh.points ≡ split_points points (triples_of c.args.triples.items))
    (λ s same. same ∙ ap (points_of points) from ∙ ap (split_points points) c.in_ok-twins.ensures) c.split_by.ensures.points

pub returns-clause-triples : goal.returns-clause-triples
returns-clause-triples c =
    let points = c.args.points.now in
    let ts = c.in_ok-twins.twins.triples in
    let of = c.in_ok-fans.fans.of.items in
    let first = c.in_ok-fans.fans.first.items in
    let accepted = subst (IsAccepted (length points)) (sym c.in_ok-twins.ensures) c.requires in
    let split = corners_are_split (length points) ts of first accepted (has_fans (length points) ts of first accepted c.in_ok-fans.ensures.fans) in
    IfOk-weaker c.split_by.result (λ s. s.mesh.triples ≡ corners of (length ts)) (λ s. s.mesh.triples ≡ split_triples (length points) (triples_of c.args.triples.items))
    (λ s same. same ∙ split ∙ ap (split_triples (length points)) c.in_ok-twins.ensures) c.split_by.ensures.triples

pub returns-clause-from : goal.returns-clause-from
returns-clause-from c =
    let points = c.args.points.now in
    let ts = c.in_ok-twins.twins.triples in
    let of = c.in_ok-fans.fans.of.items in
    let first = c.in_ok-fans.fans.first.items in
    let accepted = subst (IsAccepted (length points)) (sym c.in_ok-twins.ensures) c.requires in
    let from = starts_are_from (length points) ts of first accepted (has_fans (length points) ts of first accepted c.in_ok-fans.ensures.fans) in
    IfOk-weaker c.split_by.result (λ s. s.from.items ≡ starts_of ts first) (λ s. s.from.items ≡ split_from (length points) (triples_of c.args.triples.items))
    (λ s same. same ∙ from ∙ ap (split_from (length points)) c.in_ok-twins.ensures) c.split_by.ensures.from

pub returns-clause-clean : goal.returns-clause-clean
returns-clause-clean c =
    let ts = c.in_ok-twins.twins.triples in
    let of = c.in_ok-fans.fans.of.items in
    let first = c.in_ok-fans.fans.first.items in
    let accepted = subst (IsAccepted (length c.args.points.now)) (sym c.in_ok-twins.ensures) c.requires in
    let known = has_fans (length c.args.points.now) ts of first accepted c.in_ok-fans.ensures.fans in
    IfOk-weaker c.split_by.result (λ s. s.mesh.triples ≡ corners of (length ts)) (λ s. IsClean (all_edges s.mesh.triples))
    (λ s same. subst (λ l. IsClean (all_edges l)) (sym same) (clean_anew ts of first known)) c.split_by.ensures.triples

pub returns-clause-twins : goal.returns-clause-twins
returns-clause-twins c =
    let ts = c.in_ok-twins.twins.triples in
    let of = c.in_ok-fans.fans.of.items in
    let first = c.in_ok-fans.fans.first.items in
    let accepted = subst (IsAccepted (length c.args.points.now)) (sym c.in_ok-twins.ensures) c.requires in
    let known = has_fans (length c.args.points.now) ts of first accepted c.in_ok-fans.ensures.fans in
    IfOk-weaker c.split_by.result (λ s. s.mesh.triples ≡ corners of (length ts)) (λ s. twins_of s.mesh.triples ≡ twins_of (triples_of c.args.triples.items))
    (λ s same. ap twins_of same ∙ twins_stay ts of first known ∙ ap twins_of c.in_ok-twins.ensures) c.split_by.ensures.triples

-- what is known of the value both ways
both : {X Y : Type 0} (r : Result X Y) (P Q : X → Type 0) → IfOk r P → IfOk r Q → IfOk r (λ x. P x × Q x)
both (Ok x) P Q p q = (p, q)
both (Err e) P Q p q = tt

pub returns-then-branch-clause-points : goal.returns-then-branch-clause-points
returns-then-branch-clause-points c =
    let points = c.args.points.now in
    let ts = c.in_ok-twins.twins.triples in
    let same = unchanged points ts (subst (IsAccepted (length points)) (sym c.in_ok-twins.ensures) c.requires) (c.in_ok-are_clean.ensures.0 c.if-branch.true) in
    IfOk-weaker c.whole.result (λ s. s.mesh.points ≡ points) (λ s. s.mesh.points ≡ split_points points (triples_of c.args.triples.items))
    (λ s is. is ∙ same.same_points ∙ ap (split_points points) c.in_ok-twins.ensures) c.whole.ensures.points

pub returns-then-branch-clause-triples : goal.returns-then-branch-clause-triples
returns-then-branch-clause-triples c =
    let points = c.args.points.now in
    let ts = c.in_ok-twins.twins.triples in
    let same = unchanged points ts (subst (IsAccepted (length points)) (sym c.in_ok-twins.ensures) c.requires) (c.in_ok-are_clean.ensures.0 c.if-branch.true) in
    IfOk-weaker c.whole.result (λ s. s.mesh.triples ≡ ts) (λ s. s.mesh.triples ≡ split_triples (length points) (triples_of c.args.triples.items))
    (λ s is. is ∙ same.triples ∙ ap (split_triples (length points)) c.in_ok-twins.ensures) c.whole.ensures.triples

pub returns-then-branch-clause-from : goal.returns-then-branch-clause-from
returns-then-branch-clause-from c =
    let points = c.args.points.now in
    let ts = c.in_ok-twins.twins.triples in
    let same = unchanged points ts (subst (IsAccepted (length points)) (sym c.in_ok-twins.ensures) c.requires) (c.in_ok-are_clean.ensures.0 c.if-branch.true) in
    IfOk-weaker c.whole.result (λ s. s.from.items ≡ upto (length points)) (λ s. s.from.items ≡ split_from (length points) (triples_of c.args.triples.items))
    (λ s is. is ∙ same.from ∙ ap (split_from (length points)) c.in_ok-twins.ensures) c.whole.ensures.from

pub returns-then-branch-clause-clean : goal.returns-then-branch-clause-clean
returns-then-branch-clause-clean c =
    let ts = c.in_ok-twins.twins.triples in
    let clean = c.in_ok-are_clean.ensures.0 c.if-branch.true in
    IfOk-weaker c.whole.result (λ s. s.mesh.triples ≡ ts) (λ s. IsClean (all_edges s.mesh.triples))
    (λ s is. subst (λ l. IsClean (all_edges l)) (sym is) clean) c.whole.ensures.triples

pub returns-then-branch-clause-few : goal.returns-then-branch-clause-few
returns-then-branch-clause-few c =
    let points = c.args.points.now in
    let ts = c.in_ok-twins.twins.triples in
    let same = unchanged points ts (subst (IsAccepted (length points)) (sym c.in_ok-twins.ensures) c.requires) (c.in_ok-are_clean.ensures.0 c.if-branch.true) in
    let few = same.few in
    IfOk-weaker c.whole.result (λ s. (s.mesh.points ≡ points) × (s.mesh.triples ≡ ts)) (λ s. 2 * length s.mesh.points ≤ 3 * length s.mesh.triples)
    (λ s is. omega (arith, few, ap length is.0, ap length is.1))
    (both c.whole.result (λ s. s.mesh.points ≡ points) (λ s. s.mesh.triples ≡ ts) c.whole.ensures.points c.whole.ensures.triples)
