use Rattle.std.proofs.Common.{◌≡◌, arith, sym, subst}
use Rattle.std.proofs.lemmas.Grind.{common_steps}
use Rattle.text_terms.specs.Written.{written}
use Rattle.grid_number.proofs.Bytes.{AreNumberBytes-written, AreNumberBytes, on_grid-bound}
use Rattle.grid_number.proofs.write.write_grid.Goals as goal
use Rattle.grid_number.proofs.write.write_grid.Goals.{In-Ok}

-- the text
text : (c : In-Ok) → c.try_extend_from_slice.new.self.items ≡ written c.args.digits c.args.value
text c = grind (arith, common_steps)

pub returns-clause-bytes : goal.returns-clause-bytes
returns-clause-bytes c = subst AreNumberBytes (sym (text c))
    (AreNumberBytes-written c.args.digits c.args.value (omega (arith, on_grid-bound c.args.value c.requires.on_grid)))
