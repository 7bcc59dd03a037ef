use Rattle.std.proofs.Common.{◌≡◌, ℕ, true, sym, ◌∙◌, arith, length}
use Rattle.std.specs.Prelude.{◌==◌}
use Rattle.std.proofs.lemmas.Bool.Decides.{nat_tests}
use Rattle.mb_outside.proofs.folder_shelf.FolderShelfShelf.append.Goals.{then-count-gt0, else-count-gt0}
use Rattle.mb_outside.proofs.folder_shelf.FolderShelfShelf.append.Goals as goal

-- a test for 0
is_none : (n : ℕ) → (n == 0) ≡ true → n ≡ 0
is_none n test = grind (arith, nat_tests, test)

pub returns-in-Ok-clause-some : goal.returns-in-Ok-clause-some
returns-in-Ok-clause-some g c = λ none.
    elim c.if-count-gt0.branch [
      | then-count-gt0 w ↦ absurd (omega (arith, none, w.if-count-gt0.true))
      | else-count-gt0 w ↦ is_none (length c.args.piece.now) (sym w.is_empty.ensures ∙ sym w.value-is ∙ c.if-is_empty.true)
    ]
