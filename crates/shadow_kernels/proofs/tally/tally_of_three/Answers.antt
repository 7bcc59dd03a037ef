use Rattle.std.proofs.Common.{[], ◌∷◌, arith}
use Rattle.std.proofs.lemmas.Int.{ints}
use Rattle.shadow_kernels.specs.Sizes.{shadow_bounds, sized_bounds}
use Rattle.shadow_kernels.specs.Bounds.{IsTallyOf}
use Rattle.shadow_kernels.proofs.Steps.{no_tally, put_tally, fine_tally}
use Rattle.shadow_kernels.proofs.tally.tally_of_three.Goals as goal

pub returns : goal.returns
returns c =
    let a = c.args.first.now in
    let b = c.args.second.now in
    let d = c.args.third.now in
    let zero = no_tally c.none-tally.result c.none-tally.ensures in
    let one = put_tally d [] c.none-tally.result c.put.new.self zero c.put.ensures.count c.put.ensures.below c.put.ensures.above in
    let two = put_tally b (d ∷ []) c.put.new.self c.put-2.new.self one c.put-2.ensures.count c.put-2.ensures.below c.put-2.ensures.above in
    let three : IsTallyOf (a ∷ b ∷ d ∷ []) c.put-3.new.self = put_tally a (b ∷ d ∷ []) c.put-2.new.self c.put-3.new.self two c.put-3.ensures.count
    c.put-3.ensures.below c.put-3.ensures.above in
    let count = three.count in
    record {
      tally = three;
      fine = fine_tally (a ∷ b ∷ d ∷ []) c.put-3.new.self (c.requires.first_fine.fine, (c.requires.second_fine.fine, (c.requires.third_fine.fine, tt))) three;
      few = omega (
        arith,
        ints,
        count,
        shadow_bounds a (sized_bounds a c.requires.first_fine.sized),
        shadow_bounds b (sized_bounds b c.requires.second_fine.sized),
        shadow_bounds d (sized_bounds d c.requires.third_fine.sized),
      );
    }
