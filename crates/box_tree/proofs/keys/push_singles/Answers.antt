use Rattle.std.specs.Prelude.{ℕ, ◌≡◌, ◌+◌, ◌-◌, ◌++◌, length}
use Rattle.std.proofs.Common.{arith, subst}
use Rattle.chain_terms.specs.Sums.{up_from}
use Rattle.box_tree.specs.Keys.{numbers_of_runs}
use Rattle.box_tree.proofs.KeyRuns.{single_more}
use Rattle.box_tree.proofs.keys.push_singles.Goals as goal

pub loop-number-preserved : goal.loop-number-preserved
loop-number-preserved g c =
    let n = length (g.B.Boxes.boxes c.args.boxes.now) in
    let before = numbers_of_runs n 1 c.args.singles.now.items in
    let P : ℕ → Type 0 = λ k. numbers_of_runs n 1 c.loop-number.singles.items ≡ before ++ up_from c.args.first (k - c.args.first) in
    let Q : ℕ → Type 0 = λ k. numbers_of_runs n 1 c.push.new.self.items ≡ before ++ up_from c.args.first (k + 1 - c.args.first) in
    let at : c.loop-number.number ≡ c.key_of.result.first = omega (arith, c.key_of.ensures) in
    record {
      within = omega arith;
      all = subst Q c.key_of.ensures
          (single_more n c.loop-number.singles.items _ c.key_of.result before c.args.first c.in_ok-push.ensures.items
          (omega (arith, c.key_of.ensures, c.requires.there)) (omega (arith, c.key_of.ensures)) (subst P at c.loop-number.invariant.all));
    }
