use Rattle.std.proofs.Common.{ap}
use Rattle.run_terms.specs.Files.{Bytes}
use Rattle.mb_outside.specs.SureState.{SureState}
use Rattle.mb_outside.proofs.sure_shelf.SureShelfShelf.begin.Goals as goal

pub returns-clause-after : goal.returns-clause-after
returns-clause-after c =
    let s = c.self.inside in
    let with_text : Bytes → SureState = λ text.
    record { name = s.name.items; bytes = s.bytes.items; out = s.out.items; text = text; left = s.left; write_faults = s.write_faults } in
    rw (← c.self.view_is) (ap with_text c.clear.ensures.items)
