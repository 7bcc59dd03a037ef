use Rattle.std.proofs.Common.{length, ap, sym, subst, ◌∙◌}
use Rattle.mesh_terms.specs.Meshes.{IsAccepted}
use Rattle.mesh_terms.specs.Twins.{Twins, IsTwinned}
use Rattle.lean.proofs.surface.Surface.of.Goals as goal

-- the clone is the twins of the mesh
pub invariant_of-result : goal.invariant_of-result
invariant_of-result c =
    let twins = c.in_ok-twins.twins in
    let same = c.in_ok-twins.ensures.cases in
    let triples = ap (λ (t : Twins). t.triples) same ∙ c.twins.ensures.triples in
    let count = c.in_ok-corners.ensures.length ∙ ap length c.points.ensures.value in
    record {
      fine = c.in_ok-corners.ensures.fine;
      whole = c.in_ok-corners.ensures.whole;
      accepted = subst (λ n. IsAccepted n twins.triples) (sym count) (subst (IsAccepted (length c.args.mesh.now.points)) (sym triples) c.twins.ensures.accepted);
      twinned = subst (λ (t : Twins). IsTwinned t.triples t.twins) (sym same)
          (subst (λ l. IsTwinned l c.twins.result.now.twins) (sym c.twins.ensures.triples) c.twins.ensures.twins);
    }
