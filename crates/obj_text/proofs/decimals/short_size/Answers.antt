use Rattle.std.proofs.Common.{◌≡◌, ◌<◌, ◌∷◌, rules}
use Rattle.std.proofs.lemmas.Option.{IfSome_then}
use Rattle.obj_text.proofs.ShortNumbers.{begins_with}
use Rattle.obj_text.proofs.decimals.short_size.Goals as goal

pub returns-in-Some : goal.returns-in-Some
returns-in-Some c =
    let count = c.leading_digits-whole.result.1 in
    let some : 0 < count = search rules in
    let point : c.split_at.result.1.now ≡ 46 ∷ c.in-Some.fraction.now = search rules in
    IfSome_then c.size_with.result c.size_with.ensures
    (λ r ends. begins_with c.args.digits c.leading_digits-whole.result.0 r.0 count c.args.text.now c.split_at.result.1.now c.in-Some.fraction.now r.1.now
    c.leading_digits-whole.ensures.spelled some c.split_at.ensures.back point ends)
