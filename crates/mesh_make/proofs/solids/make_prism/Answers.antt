use Rattle.std.proofs.Common.{◌≡◌, IfOk, length, subst, sym, ◌∙◌, ap, pos, arith, to_z, of_z}
use Rattle.std.specs.Prelude.{int_le, ◌||◌}
use Rattle.std.specs.Int.{w32, w64}
use Rattle.std.proofs.lemmas.Int.{ints}
use Rattle.made_terms.specs.Solids.{prism_points, prism_triples}
use Rattle.made_laws.specs.Solids.{IsSolid}
use Rattle.mesh_make.proofs.Refusing.{same_refused}
use Rattle.made_laws.proofs.SolidTests.{prism_solid}
use Rattle.mesh_make.proofs.solids.make_prism.Goals as goal

pub solid-requires : goal.solid-requires
solid-requires c = subst (λ rows. IsSolid (length rows) prism_triples) (sym c.prism_rows-rows.ensures) prism_solid

pub returns-clause-refused : goal.returns-clause-refused
returns-clause-refused c =
    let at = c.args.at in
    let size = c.args.size in
    let height = c.args.height in
    let s : to_z w32 (of_z w32 size) ≡ size = omega (arith, ints, c.ranges.size.sfits) in
    let h : to_z w32 (of_z w32 height) ≡ height = omega (arith, ints, c.ranges.height.sfits) in
    let t : to_z w64 (of_z w64 c.from.result) ≡ size = omega (arith, ints, c.from.ensures, c.ranges.size.sfits) in
    let u : to_z w64 (of_z w64 c.from-2.result) ≡ height = omega (arith, ints, c.from-2.ensures, c.ranges.height.sfits) in
    let flat : c.are_flat.result ≡ (int_le size (pos 0) || int_le height (pos 0)) = c.are_flat.ensures
    ∙ ap (λ z. int_le z (pos 0) || int_le (to_z w32 (of_z w32 height)) (pos 0)) s ∙ ap (λ z. int_le size (pos 0) || int_le z (pos 0)) h in
    let rows : c.prism_rows-rows.result ≡ prism_points at size height =
    c.prism_rows-rows.ensures ∙ ap (λ z. prism_points c.row_of.result z (to_z w64 (of_z w64 c.from-2.result))) t ∙ ap (prism_points c.row_of.result size) u
    ∙ ap (λ l. prism_points l size height) c.row_of.ensures.value in
    same_refused c.args.limits.now c.are_flat.result (int_le size (pos 0) || int_le height (pos 0)) c.prism_rows-rows.result (prism_points at size height) 8
    c.solid.result flat rows c.solid.ensures.refused

pub returns-clause-points : goal.returns-clause-points
returns-clause-points c =
    let at = c.args.at in
    let size = c.args.size in
    let height = c.args.height in
    let t : to_z w64 (of_z w64 c.from.result) ≡ size = omega (arith, ints, c.from.ensures, c.ranges.size.sfits) in
    let u : to_z w64 (of_z w64 c.from-2.result) ≡ height = omega (arith, ints, c.from-2.ensures, c.ranges.height.sfits) in
    let rows : c.prism_rows-rows.result ≡ prism_points at size height =
    c.prism_rows-rows.ensures ∙ ap (λ z. prism_points c.row_of.result z (to_z w64 (of_z w64 c.from-2.result))) t ∙ ap (prism_points c.row_of.result size) u
    ∙ ap (λ l. prism_points l size height) c.row_of.ensures.value in
    subst (λ rs. IfOk c.solid.result (λ m. m.points ≡ rs)) rows c.solid.ensures.points
