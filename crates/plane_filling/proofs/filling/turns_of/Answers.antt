use Rattle.std.proofs.Common.{◌*◌, ◌<◌, ap, subst, sym, ◌∙◌}
use Rattle.std.specs.List.{All}
use Rattle.plane_filling.specs.Pieces.{first_keys}
use Rattle.plane_filling.proofs.Fillable.{keys_low}
use Rattle.plane_filling.proofs.filling.turns_of.Goals as goal

pub by_key-requires-clause-below : goal.by_key-requires-clause-below
by_key-requires-clause-below c =
    subst (All (λ k. k < 2 * c.args.count)) (sym (c.deref-2.ensures.value ∙ c.in_ok-keys.ensures ∙ ap first_keys c.deref.ensures.value))
    (keys_low c.args.count c.args.regions.now.all.items c.requires.firsts)
