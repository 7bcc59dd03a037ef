use Rattle.std.proofs.Common.{◌≡◌, ℕ, arith, ap, length, sym, ◌∙◌}
use Rattle.std.specs.Prelude.{count_by}
use Rattle.chain_terms.specs.Sums.{upto}
use Rattle.inspection_terms.specs.Triangles.{corners_at, is_flat}
use Rattle.inspection_laws.proofs.Near.{count-upto_no, count-upto_yes}
use Rattle.self_cuts.proofs.flats.flats.Goals as goal
use Rattle.self_cuts.proofs.flats.flats.Goals.{then-is_flat_at, else-is_flat_at}

pub loop-t-preserved : goal.loop-t-preserved
loop-t-preserved c =
    let test = λ (t : ℕ). is_flat (corners_at c.args.mesh.now t) in
    elim c.if-is_flat_at.branch [
      | then-is_flat_at w ↦ record {
        value = w.count-is ∙ count-upto_yes test c.loop-t.t c.loop-t.count c.loop-t.invariant.value (sym w.if-is_flat_at.ensures);
        few = omega (arith, w.count-is, c.loop-t.invariant.few);
      }
      | else-is_flat_at w ↦ record {
        value = w.count-is ∙ count-upto_no test c.loop-t.t c.loop-t.count c.loop-t.invariant.value (sym w.if-is_flat_at.ensures);
        few = omega (arith, w.count-is, c.loop-t.invariant.few);
      }
    ]

pub returns : goal.returns
returns c =
    let end : c.loop-t.t ≡ length c.args.mesh.now.triples = omega (arith, c.loop-t-test.false, c.loop-t.auto.t-end, c.triangles-t-end.ensures.value) in
    c.loop-t.invariant.value ∙ ap (λ n. count_by (λ t. is_flat (corners_at c.args.mesh.now t)) (upto n)) end
