use Rattle.std.proofs.Common.{◌≡◌, length, subst, sym, ◌∙◌, ap}
use Rattle.made_terms.specs.Refusals.{is_flat_box}
use Rattle.made_terms.specs.Solids.{box_points, box_triples}
use Rattle.made_laws.specs.Solids.{IsSolid}
use Rattle.mesh_make.proofs.Refusing.{same_refused}
use Rattle.made_laws.proofs.SolidTests.{box_solid}
use Rattle.mesh_make.proofs.solids.make_box.Goals as goal

pub solid-requires : goal.solid-requires
solid-requires c = subst (λ rows. IsSolid (length rows) box_triples) (sym c.box_rows.ensures) box_solid

pub returns-clause-refused : goal.returns-clause-refused
returns-clause-refused c =
    let flat : c.is_flat_box.result ≡ is_flat_box c.args.low c.args.high =
    c.is_flat_box.ensures ∙ ap (λ l. is_flat_box l c.row_of-high.result) c.row_of-low.ensures.value ∙ ap (is_flat_box c.args.low) c.row_of-high.ensures.value in
    let rows : c.box_rows.result ≡ box_points c.args.low c.args.high =
    c.box_rows.ensures ∙ ap (λ l. box_points l c.row_of-high.result) c.row_of-low.ensures.value ∙ ap (box_points c.args.low) c.row_of-high.ensures.value in
    same_refused c.args.limits.now c.is_flat_box.result (is_flat_box c.args.low c.args.high) c.box_rows.result (box_points c.args.low c.args.high) 12
    c.solid.result flat rows c.solid.ensures.refused
