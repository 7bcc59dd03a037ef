use Rattle.std.proofs.Common.{◌≡◌, ◌<◌, ℕ, ℤ, pos, List, Bool, true, false, cond, length, refl, ap, sym, subst, ◌∙◌}
use Rattle.std.specs.Prelude.{int_lt}
use Rattle.std.specs.List.{All, flat_map}
use Rattle.chain_terms.specs.Paths.{round_edges}
use Rattle.chain_laws.specs.Chains.{boundary_same}
use Rattle.face_plane.specs.Keeping.{AreRings}
use Rattle.face_plane.specs.Planes.{Plane, exchanged, plane_of, point_at, face_plane, is_turned, settled_plane}
use Rattle.hole_joining.specs.Holes.{ring_list, hole_list}
use Rattle.hole_joining.specs.Bridges.{joined, join_holes}
use Rattle.hole_joining.specs.Laws.{AreFillable, AreLoops, KeepsLoops, settled_in}
use Rattle.hole_joining.proofs.Areas.{areas_kept}
use Rattle.hole_joining.proofs.Keeps.{fillable_of, is_joining, keeps_loops}
use Rattle.hole_joining.proofs.Room.{few_edges, has_room, some_rings, some_holes}
use Rattle.hole_joining.proofs.joined.join_holes.Goals as goal

-- the plane that is exchanged or not
settled : (drop_axis : ℕ) (points : List (List ℤ)) (t : Bool) →
    face_plane drop_axis t points ≡ cond t (exchanged (plane_of drop_axis (point_at points))) (plane_of drop_axis (point_at points))
settled drop_axis points true = refl
settled drop_axis points false = refl

-- rings and holes of the settled plane, joined
all_joined : (at : Plane) (loops rings holes now : List (List ℕ)) → rings ≡ ring_list at loops → holes ≡ hole_list at loops →
    now ≡ joined at rings holes → now ≡ join_holes at loops
all_joined at loops rings holes now e f g = g ∙ ap (λ r. joined at r holes) e ∙ ap (joined at (ring_list at loops)) f

-- the rings that were made
made : (drop_axis : ℕ) (points : List (List ℤ)) (loops rings holes now : List (List ℕ)) (t : Bool) →
    t ≡ is_turned (plane_of drop_axis (point_at points)) loops → rings ≡ ring_list (face_plane drop_axis t points) loops →
    holes ≡ hole_list (face_plane drop_axis t points) loops → now ≡ joined (face_plane drop_axis t points) rings holes →
    now ≡ join_holes (settled_in drop_axis points loops) loops
made drop_axis points loops rings holes now t turned e f g =
    let straight = plane_of drop_axis (point_at points) in
    let same = settled drop_axis points t ∙ ap (λ t. cond t (exchanged straight) straight) turned in
    all_joined (face_plane drop_axis t points) loops rings holes now e f g ∙ ap (λ p. join_holes p loops) same

-- what is kept of them
kept : (drop_axis : ℕ) (points : List (List ℤ)) (loops now : List (List ℕ)) → AreLoops loops (length points) →
    now ≡ join_holes (settled_in drop_axis points loops) loops → KeepsLoops (settled_in drop_axis points loops) loops now (length points)
kept drop_axis points loops now fits e =
    subst (λ (r : List (List ℕ)). KeepsLoops (settled_in drop_axis points loops) loops r (length points)) (sym e)
    (keeps_loops (plane_of drop_axis (point_at points)) loops (length points) fits)

-- of loops that can be filled
joined_rings : (at : Plane) (loops : List (List ℕ)) (points : ℕ) → AreFillable loops points →
    AreRings points (join_holes (settled_plane at loops) loops)
joined_rings at loops points f = let all = is_joining at loops points f in record { ringy = all.ringy; below = all.below }

pub returns-clause-rings : goal.returns-clause-rings
returns-clause-rings c =
    made c.args.plane.drop c.args.points.now c.args.loops.now c.in_ok-rings.rings.items c.in_ok-holes.holes.items
    c.in_ok-rings-2.rings.items c.is_turned-turned.result
    (c.is_turned-turned.ensures ∙ ap (λ (z : ℤ). int_lt z (pos 0)) c.in_ok-areas.ensures.sum) c.in_ok-rings.ensures
    c.in_ok-holes.ensures
    (c.in_ok-rings-2.ensures ∙ c.in_ok-join_all.ensures
    ∙ ap (joined (face_plane c.args.plane.drop c.is_turned-turned.result c.args.points.now) c.in_ok-rings.rings.items) c.deref-4.ensures.value)

pub returns-clause-count : goal.returns-clause-count
returns-clause-count c =
    (kept c.args.plane.drop c.args.points.now c.args.loops.now c.in_ok-rings-2.rings.items c.requires.loops (returns-clause-rings c)).count

pub returns-clause-places : goal.returns-clause-places
returns-clause-places c =
    (kept c.args.plane.drop c.args.points.now c.args.loops.now c.in_ok-rings-2.rings.items c.requires.loops (returns-clause-rings c)).places

pub returns-clause-below : goal.returns-clause-below
returns-clause-below c =
    (kept c.args.plane.drop c.args.points.now c.args.loops.now c.in_ok-rings-2.rings.items c.requires.loops (returns-clause-rings c)).below

pub returns-clause-proper : goal.returns-clause-proper
returns-clause-proper c different =
    let drop_axis = c.args.plane.drop in
    let points = c.args.points.now in
    let loops = c.args.loops.now in
    subst (AreRings (length points)) (sym (returns-clause-rings c))
    (joined_rings (plane_of drop_axis (point_at points)) loops (length points) (fillable_of loops (length points) c.requires.loops different))

pub returns-clause-keeps : goal.returns-clause-keeps
returns-clause-keeps c =
    let chain = (kept c.args.plane.drop c.args.points.now c.args.loops.now c.in_ok-rings-2.rings.items c.requires.loops (returns-clause-rings c)).chain in
    record { boundary = boundary_same (flat_map round_edges c.in_ok-rings-2.rings.items) (flat_map round_edges c.args.loops.now) chain; chain = chain }

pub returns-clause-areas : goal.returns-clause-areas
returns-clause-areas c =
    areas_kept (settled_in c.args.plane.drop c.args.points.now c.args.loops.now) c.args.loops.now c.in_ok-rings-2.rings.items (returns-clause-keeps c).chain

pub circles_of-requires : goal.circles_of-requires
circles_of-requires c =
    subst (λ (rs : List (List ℕ)). All (λ r. 0 < length r) rs) (sym (c.deref-3.ensures.value ∙ c.in_ok-rings.ensures))
    (some_rings (face_plane c.args.plane.drop c.is_turned-turned.result c.args.points.now) c.args.loops.now (length c.args.points.now)
    c.requires.loops)

pub join_all-requires-clause-some : goal.join_all-requires-clause-some
join_all-requires-clause-some c =
    subst (λ (hs : List (List ℕ)). All (λ h. 0 < length h) hs) (sym (c.deref-4.ensures.value ∙ c.in_ok-holes.ensures))
    (some_holes (face_plane c.args.plane.drop c.is_turned-turned.result c.args.points.now) c.args.loops.now (length c.args.points.now)
    c.requires.loops)

pub join_all-requires-clause-few : goal.join_all-requires-clause-few
join_all-requires-clause-few c =
    has_room (face_plane c.args.plane.drop c.is_turned-turned.result c.args.points.now) c.args.loops.now c.in_ok-rings.rings.items
    c.deref-4.result.now (length c.args.points.now) c.requires.loops c.in_ok-rings.ensures (c.deref-4.ensures.value ∙ c.in_ok-holes.ensures)

pub join_all-requires-clause-long : goal.join_all-requires-clause-long
join_all-requires-clause-long c =
    subst (λ (rs : List (List ℕ)). All (λ r. 0 < length r) rs) (sym c.in_ok-rings.ensures)
    (some_rings (face_plane c.args.plane.drop c.is_turned-turned.result c.args.points.now) c.args.loops.now (length c.args.points.now)
    c.requires.loops)

pub join_all-requires-clause-edges : goal.join_all-requires-clause-edges
join_all-requires-clause-edges c =
    few_edges (face_plane c.args.plane.drop c.is_turned-turned.result c.args.points.now) c.args.loops.now c.in_ok-rings.rings.items
    c.deref-4.result.now (length c.args.points.now) c.requires.loops c.in_ok-rings.ensures (c.deref-4.ensures.value ∙ c.in_ok-holes.ensures)
