use Rattle.std.specs.Prelude.{ℕ, ℤ, FitsSigned}
use Rattle.std.specs.Int.{w64, cast_signed, cast_unsigned}
use Rattle.std.proofs.Common.{rules, subst}
use Rattle.std.proofs.lemmas.Int.{to_z-of_z}
use Rattle.box_tree.specs.declared.extent.Extent.{Extent}
use Rattle.box_tree.specs.Extents.{IsCovered}
use Rattle.box_tree.specs.Touching.{end_on}
use Rattle.box_tree.proofs.extent.Extent.with_ends.Goals as goal

-- an end that was passed as a number is the end
passed : (extent : Extent) (z : ℤ) → FitsSigned w64 z → IsCovered extent (cast_signed w64 (cast_unsigned w64 z)) → IsCovered extent z
passed extent z fits h = subst (λ x. IsCovered extent x) (to_z-of_z w64 z fits) h

pub returns-clause-new : goal.returns-clause-new
returns-clause-new c =
    let at : ℕ → ℤ = λ i. end_on i c.args.ends.now in
    record {
      count = search rules;
      x = c.with.ensures.others (at 0) (c.with-two.ensures.others (at 0) (passed c.with-one.result (at 0) (search rules) c.with-one.ensures.new));
      y = c.with.ensures.others (at 1) (passed c.with-two.result (at 1) (search rules) c.with-two.ensures.new);
      z = passed c.with.result (at 2) (search rules) c.with.ensures.new;
    }

pub returns-clause-others : goal.returns-clause-others
returns-clause-others c = λ z covered. c.with.ensures.others z (c.with-two.ensures.others z (c.with-one.ensures.others z covered))
