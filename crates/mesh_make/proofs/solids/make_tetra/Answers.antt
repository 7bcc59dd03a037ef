use Rattle.std.proofs.Common.{◌≡◌, IfOk, length, subst, sym, ◌∙◌, ap, pos, arith, to_z, of_z}
use Rattle.std.specs.Prelude.{int_le}
use Rattle.std.specs.Int.{w32, w64}
use Rattle.std.proofs.lemmas.Int.{ints}
use Rattle.made_terms.specs.Solids.{tetra_points, tetra_triples}
use Rattle.made_laws.specs.Solids.{IsSolid}
use Rattle.mesh_make.proofs.Refusing.{same_refused}
use Rattle.made_laws.proofs.SolidTests.{tetra_solid}
use Rattle.mesh_make.proofs.solids.make_tetra.Goals as goal

pub solid-requires : goal.solid-requires
solid-requires c = subst (λ rows. IsSolid (length rows) tetra_triples) (sym c.tetra_rows-rows.ensures) tetra_solid

pub returns-clause-refused : goal.returns-clause-refused
returns-clause-refused c =
    let at = c.args.at in
    let size = c.args.size in
    let s : to_z w32 (of_z w32 size) ≡ size = omega (arith, ints, c.ranges.size.sfits) in
    let t : to_z w64 (of_z w64 c.from.result) ≡ size = omega (arith, ints, c.from.ensures, c.ranges.size.sfits) in
    let flat : c.is_flat.result ≡ int_le size (pos 0) = c.is_flat.ensures ∙ ap (λ z. int_le z (pos 0)) s in
    let rows : c.tetra_rows-rows.result ≡ tetra_points at size = c.tetra_rows-rows.ensures ∙ ap (tetra_points c.row_of.result) t
    ∙ ap (λ l. tetra_points l size) c.row_of.ensures.value in
    same_refused c.args.limits.now c.is_flat.result (int_le size (pos 0)) c.tetra_rows-rows.result (tetra_points at size) 4 c.solid.result flat rows c.solid.ensures.refused

pub returns-clause-points : goal.returns-clause-points
returns-clause-points c =
    let at = c.args.at in
    let size = c.args.size in
    let t : to_z w64 (of_z w64 c.from.result) ≡ size = omega (arith, ints, c.from.ensures, c.ranges.size.sfits) in
    let rows : c.tetra_rows-rows.result ≡ tetra_points at size = c.tetra_rows-rows.ensures ∙ ap (tetra_points c.row_of.result) t
    ∙ ap (λ l. tetra_points l size) c.row_of.ensures.value in
    subst (λ rs. IfOk c.solid.result (λ m. m.points ≡ rs)) rows c.solid.ensures.points
