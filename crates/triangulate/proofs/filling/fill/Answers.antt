use Rattle.std.proofs.Common.{◌≡◌, ◌≤◌, ℕ, List, Result, Ok, Err, length, sym, ap, subst, ◌∙◌, arith}
use Rattle.std.specs.Prelude.{IfOk}
use Rattle.std.specs.List.{All, flat_map}
use Rattle.chain_terms.specs.Chains.{all_edges}
use Rattle.chain_laws.specs.Chains.{boundary_same}
use Rattle.chain_terms.specs.Odd.{SameChain}
use Rattle.chain_terms.specs.Paths.{round_edges}
use Rattle.face_plane.specs.Keeping.{AreProper, KeepsChain}
use Rattle.face_plane.specs.Planes.{Plane, face_plane}
use Rattle.hole_joining.specs.Holes.{is_hole}
use Rattle.hole_joining.specs.Laws.{settled_in}
use Rattle.ring_cutting.specs.Cuts.{Cut}
use Rattle.ring_cutting.specs.Laws.{TurnsLeft}
use Rattle.triangulate.specs.Fills.{cuts}
use Rattle.triangulate.specs.Laws.{AreCuttings, HasCount, HasAreas}
use Rattle.triangulate.proofs.Areas.{areas}
use Rattle.triangulate.proofs.CutRings.{cuttings, all_short, settled, three_each}
use Rattle.triangulate.proofs.filling.fill.Goals as goal

pub cut_all-requires-clause-few : goal.cut_all-requires-clause-few
cut_all-requires-clause-few c =
    let loops = c.args.loops.now in
    let j = c.in_ok-joined.ensures in
    let at = settled_in c.args.plane.drop c.args.points.now loops in
    let places = j.places in
    all_short c.in_ok-joined.joined.rings.items 100000000 (omega (arith, places, three_each (is_hole at) loops c.requires.loops.long, c.requires.loops.few))

-- what holds of the filling holds of what was made
of_made : {E : Type 0} (c : Cut) (P : Cut → Type 0) (r : Result Cut E) → P c → IfOk r (λ f. f ≡ c) → IfOk r P
of_made c P (Ok f) h e = subst P (sym e) h
of_made c P (Err x) h e = e

-- the plane that the loops settle
abbrev plane_at : goal.After-cut_all → Plane
plane_at c = settled_in c.args.plane.drop c.args.points.now c.args.loops.now

abbrev rings_of : goal.After-cut_all → List (List ℕ)
rings_of c = c.in_ok-joined.joined.rings.items

made : (c : goal.After-cut_all) → IfOk c.cut_all.result (λ f. f ≡ cuts (plane_at c) (rings_of c))
made c =
    let drop_axis = c.args.plane.drop in
    let points = c.args.points.now in
    let loops = c.args.loops.now in
    let turned = c.in_ok-joined.ensures.turned in
    let plane : ◌≡◌ {A = Plane} (face_plane drop_axis c.in_ok-joined.joined.turned points) (plane_at c) =
    ap {B = Plane} (λ b. face_plane drop_axis b points) turned ∙ settled drop_axis points loops in
    subst (λ (at : Plane). IfOk c.cut_all.result (λ f. f ≡ cuts at (rings_of c))) plane c.cut_all.ensures

laws : (c : goal.After-cut_all) → AreCuttings (plane_at c) (length c.args.points.now) (rings_of c) (cuts (plane_at c) (rings_of c))
laws c = cuttings (plane_at c) (length c.args.points.now) (rings_of c) (c.in_ok-joined.ensures.proper c.requires.loops.different).ringy c.in_ok-joined.ensures.below

pub returns-clause-value : goal.returns-clause-value
returns-clause-value c =
    let rings = c.in_ok-joined.ensures.rings in
    subst (λ (rs : List (List ℕ)). IfOk c.cut_all.result (λ f. f ≡ cuts (plane_at c) rs)) rings (made c)

pub returns-clause-count : goal.returns-clause-count
returns-clause-count c =
    let at = plane_at c in
    let loops = c.args.loops.now in
    let j = c.in_ok-joined.ensures in
    let count = j.count in
    let places = j.places in
    let whole = cuts at (rings_of c) in
    let is : HasCount at loops whole.triples = omega (arith, count, places, (laws c).count) in
    of_made whole (λ f. HasCount at loops f.triples) c.cut_all.result is (made c)

-- the triangles have the chain of the loops
chained : (c : goal.After-cut_all) → SameChain (all_edges (cuts (plane_at c) (rings_of c)).triples) (flat_map round_edges c.args.loops.now)
chained c = λ f odd. (laws c).chain f odd ∙ c.in_ok-joined.ensures.keeps.chain f odd

pub returns-clause-keeps : goal.returns-clause-keeps
returns-clause-keeps c =
    let loops = c.args.loops.now in
    let whole = cuts (plane_at c) (rings_of c) in
    of_made whole (λ f. KeepsChain (all_edges f.triples) (flat_map round_edges loops)) c.cut_all.result
    (record { boundary = boundary_same (all_edges whole.triples) (flat_map round_edges loops) (chained c); chain = chained c }) (made c)

pub returns-clause-areas : goal.returns-clause-areas
returns-clause-areas c =
    let loops = c.args.loops.now in
    let whole = cuts (plane_at c) (rings_of c) in
    of_made whole (λ f. HasAreas (plane_at c) loops f.triples) c.cut_all.result (areas (plane_at c) loops whole.triples (chained c)) (made c)

pub returns-clause-proper : goal.returns-clause-proper
returns-clause-proper c =
    of_made (cuts (plane_at c) (rings_of c)) (λ f. AreProper (length c.args.points.now) f.triples) c.cut_all.result
    (record { three = (laws c).three; below = (laws c).below }) (made c)

pub returns-clause-most : goal.returns-clause-most
returns-clause-most c = of_made (cuts (plane_at c) (rings_of c)) (λ f. f.forced ≤ length f.triples) c.cut_all.result (laws c).most (made c)

pub returns-clause-left : goal.returns-clause-left
returns-clause-left c = of_made (cuts (plane_at c) (rings_of c)) (λ f. f.forced ≡ 0 → All (TurnsLeft (plane_at c)) f.triples) c.cut_all.result (laws c).left (made c)
