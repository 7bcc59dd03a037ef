use Rattle.std.proofs.Common.{◌≡◌, ◌+◌, ◌*◌, length, sym, ap, ◌∙◌, refl, arith}
use Rattle.std.specs.Prelude.{None, Some}
use Rattle.std.proofs.lemmas.List.{length-map}
use Rattle.std.proofs.lemmas.Result.{err_from_is_err_and}
use Rattle.mb_base.specs.declared.fault.Counted.TheVariants.{Triangles}
use Rattle.mesh_terms.specs.Meshes.{triple_of}
use Rattle.ring_cutting.specs.Cuts.{Cut}
use Rattle.cross_section.specs.Extruded.{filling_of, flat_or_over, over}
use Rattle.cross_section.proofs.Solids.{all_done, answers_some, fault_is, kept_32, memory_wants, refused_by}
use Rattle.cross_section.proofs.extrusion.extruding.extrude.Goals.{After-flat_or_over, After-over}
use Rattle.cross_section.proofs.extrusion.extruding.extrude.Goals as goal

-- the first test is on twice as many points
asked_first : (c : After-flat_or_over) → c.flat_or_over.result ≡ flat_or_over c.args.limits.now c.args.low c.args.high (2 * length c.args.outline.now.points)
asked_first c =
    c.flat_or_over.ensures
    ∙ (λ i. flat_or_over c.args.limits.now (kept_32 c.args.low c.requires.low i) (kept_32 c.args.high c.requires.high i) (2 * length (c.points.ensures.value i)))

-- the second on the triangles of the filling, twice, and of the walls
asked_next : (c : After-over) → c.over.result ≡ over Triangles c.args.limits.now.triangles (2 * (length (filling_of c.args.outline.now).triples + length c.args.outline.now.points))
asked_next c =
    let made = c.filled.inside.triples in
    let count : c.len.result ≡ length made.items = omega (arith, c.len.ensures, made.ok) in
    let many = count ∙ sym (length-map made.items triple_of) ∙ ap (λ (x : Cut). length x.triples) (c.filled.view_is ∙ c.in_ok-filled.ensures.value) in
    c.over.ensures.value ∙ (λ i. over Triangles (c.triangles.ensures.value i) (2 * (many i + length (c.points.ensures.value i))))

pub returns-in-Some-clause-refused : goal.returns-in-Some-clause-refused
returns-in-Some-clause-refused c =
    let o = c.args.outline.now in
    let limits = c.args.limits.now in
    let first = sym (asked_first (goal.at.returns-in-Some-clause-refused c).After-flat_or_over) ∙ c.in-Some.is in
    let second = over Triangles limits.triangles (2 * (length (filling_of o).triples + length o.points)) in
    refused_by _ _ c.in-Some.fault (fault_is limits o c.points.ensures.outline c.args.low c.args.high (Some c.in-Some.fault) second first refl)

pub returns-in-Some-clause-at_once : goal.returns-in-Some-clause-at_once
returns-in-Some-clause-at_once c =
    let first = sym (asked_first (goal.at.returns-in-Some-clause-at_once c).After-flat_or_over) ∙ c.in-Some.is in
    answers_some _ (flat_or_over c.args.limits.now c.args.low c.args.high (2 * length c.args.outline.now.points)) c.in-Some.fault first

pub returns-in_err-filled-clause-refused : goal.returns-in_err-filled-clause-refused
returns-in_err-filled-clause-refused c = let p = err_from_is_err_and c.from_residual.result c.from_residual.ensures.1 in rw (p.1, p.2) (memory_wants _ _)

pub returns-in_err-mesh-clause-refused : goal.returns-in_err-mesh-clause-refused
returns-in_err-mesh-clause-refused c =
    let p = err_from_is_err_and c.from_residual-in_err-mesh.result c.from_residual-in_err-mesh.ensures.1 in rw (p.1, p.2) (memory_wants _ _)

pub returns-in-Some-over-clause-refused : goal.returns-in-Some-over-clause-refused
returns-in-Some-over-clause-refused c =
    let at = goal.at.returns-in-Some-over-clause-refused c in
    let first = sym (asked_first at.After-flat_or_over) ∙ c.in_default.is in
    let second = sym (asked_next at.After-over) ∙ c.in-Some-over.is in
    refused_by _ _ c.in-Some-over.fault
    (fault_is c.args.limits.now c.args.outline.now c.points.ensures.outline c.args.low c.args.high None (Some c.in-Some-over.fault) first second)

pub returns-clause-refused : goal.returns-clause-refused
returns-clause-refused c =
    let at = goal.at.returns-clause-refused c in
    let first = sym (asked_first at.After-flat_or_over) ∙ c.in_default.is in
    let second = sym (asked_next at.After-over) ∙ c.in_default-over.is in
    all_done _ _ (fault_is c.args.limits.now c.args.outline.now c.points.ensures.outline c.args.low c.args.high None None first second)
