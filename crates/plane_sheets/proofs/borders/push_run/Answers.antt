use Rattle.std.proofs.Common.{arith, ◌≡◌, ◌≤◌, ◌+◌, ◌++◌, ◌∷◌, [], refl, sym, ap, ◌∙◌, append-nil, append_assoc, inl, inr}
use Rattle.std.proofs.lemmas.Bool.{cases_lt}
use Rattle.plane_sheets.specs.declared.borders.RegionEdge.{RegionEdge}
use Rattle.plane_sheets.specs.Dealt.{run}
use Rattle.plane_sheets.proofs.Growing.{run_more, run_none}
use Rattle.plane_sheets.proofs.borders.push_run.Goals as goal

pub loop-level-init : goal.loop-level-init
loop-level-init c = record {
  value = sym (ap (λ l. c.args.found.now.items ++ l) (run_none c.args.label c.args.low c.args.low c.args.ends (omega arith)) ∙ append-nil c.args.found.now.items);
  still = λ h. refl;
}

pub loop-level-preserved : goal.loop-level-preserved
loop-level-preserved c =
    let old = c.args.found.now.items in
    let level = c.loop-level.level in
    let up : c.args.low ≤ level = omega arith in
    let e : RegionEdge = record { label = c.args.label; level = level + 1; ends = c.args.ends } in
    record {
      value = c.in_ok-push.ensures.items ∙ ap (λ l. l ++ e ∷ []) c.loop-level.invariant.value ∙ append_assoc old (run c.args.label c.args.low level c.args.ends) (e ∷ [])
          ∙ sym (ap (λ l. old ++ l) (run_more c.args.label c.args.low level c.args.ends up));
      still = λ h. absurd (omega arith);
    }

pub returns : goal.returns
returns c =
    let old = c.args.found.now.items in
    elim (cases_lt c.args.high c.args.low) as (λ _. c.loop-level.found.items ≡ old ++ run c.args.label c.args.low c.args.high c.args.ends) [
      | inl none ↦
          let stays : c.loop-level.level ≡ c.args.low = c.loop-level.invariant.still none in
          c.loop-level.invariant.value
          ∙ ap (λ l. old ++ l) (run_none c.args.label c.args.low c.loop-level.level c.args.ends (omega arith)
          ∙ sym (run_none c.args.label c.args.low c.args.high c.args.ends (omega arith)))
      | inr some ↦
          let end : c.loop-level.level ≡ c.args.high = omega arith in
          c.loop-level.invariant.value ∙ ap (λ n. old ++ run c.args.label c.args.low n c.args.ends) end
    ]
