use Rattle.std.proofs.Common.{◌≡◌, ◌*ℤ◌, ◌-ℤ◌, pos, ℤ, List, length, sym, ap, subst, ◌∙◌}
use Rattle.std.specs.Prelude.{IfOk, Result, Ok, Err}
use Rattle.mesh_terms.specs.Meshes.{IsAccepted, Mesh, Triple, triples_of}
use Rattle.mesh_terms.specs.Volume.{volume6_of}
use Rattle.outline_terms.specs.Extrusion.{extruded_points, extruded_triples}
use Rattle.outline_terms.specs.Outlines.{outline_edges}
use Rattle.ring_cutting.specs.Cuts.{Cut}
use Rattle.cross_section.specs.Extruded.{doubled_area}
use Rattle.cross_section.proofs.Solids.{kept_32, solid_accepted, solid_volume}
use Rattle.cross_section.proofs.extrusion.extruding.solid.Goals.{After-deref-3}
use Rattle.cross_section.proofs.extrusion.extruding.solid.Goals as goal

-- the points are those of both heights
points_are : (c : After-deref-3) → c.in_ok-points.points.items ≡ extruded_points c.args.low c.args.high c.args.outline.now.points
points_are c =
    c.in_ok-points.ensures ∙ (λ i. extruded_points (kept_32 c.args.low c.requires.low i) (kept_32 c.args.high c.requires.high i) (c.points-2.ensures.value i))

-- the triangles are those of the filling, twice, and of the walls
triples_are : (c : After-deref-3) →
    triples_of c.deref-3.result.now ≡ extruded_triples (length c.args.outline.now.points) c.args.filled.now.triples (outline_edges c.args.outline.now)
triples_are c =
    let fill : triples_of c.deref.result.now ≡ c.args.filled.now.triples = ap triples_of c.deref.ensures.value ∙ ap (λ (x : Cut). x.triples) c.filled.view_is in
    let edges = c.deref-2.ensures.value ∙ c.in_ok-edges.ensures.value in
    ap triples_of c.deref-3.ensures.value ∙ c.in_ok-triples.ensures ∙ (λ i. extruded_triples (length (c.points.ensures.value i)) (fill i) (edges i))

pub mesh_of-requires : goal.mesh_of-requires
mesh_of-requires c =
    let o = c.args.outline.now in
    let here = (goal.at.mesh_of-requires c).After-deref-3 in
    subst (λ (x : List (List ℤ) × List Triple). IsAccepted (length x.0) x.1) (λ i. (sym (points_are here) i, sym (triples_are here) i))
    (solid_accepted o c.points.ensures.outline c.args.low c.args.high c.args.filled.now.triples c.requires.over c.requires.few)

-- the volume of a mesh that is made of points and triangles
volume_of : {E : Type 0} (r : Result Mesh E) (ps : List (List ℤ)) (ts : List Triple) (v : ℤ) → IfOk r (λ m. m.points ≡ ps) →
    IfOk r (λ m. m.triples ≡ ts) → volume6_of ps ts ≡ v → IfOk r (λ m. volume6_of m.points m.triples ≡ v)
volume_of (Ok m) ps ts v p t e = (λ i. volume6_of (p i) (t i)) ∙ e
volume_of (Err x) ps ts v p t e = tt

pub returns-clause-volume : goal.returns-clause-volume
returns-clause-volume c =
    let o = c.args.outline.now in
    let here = (goal.at.returns-clause-volume c).After-deref-3 in
    let same : volume6_of c.in_ok-points.points.items (triples_of c.deref-3.result.now)
    ≡ volume6_of (extruded_points c.args.low c.args.high o.points) (extruded_triples (length o.points) c.args.filled.now.triples (outline_edges o)) =
    λ i. volume6_of (points_are here i) (triples_are here i) in
    volume_of c.mesh_of.result c.in_ok-points.points.items (triples_of c.deref-3.result.now)
    (pos 3 *ℤ ((c.args.high -ℤ c.args.low) *ℤ doubled_area o)) c.mesh_of.ensures.points c.mesh_of.ensures.triples
    (same ∙ solid_volume o c.points.ensures.outline c.args.low c.args.high c.args.filled.now.triples c.requires.over)
