use Rattle.std.proofs.Common.{◌≡◌, ◌+◌, ◌++◌, ◌∷◌, [], get_or, take, refl, rules}
use Rattle.std.proofs.lemmas.List.{take_more}
use Rattle.mesh_boolean.proofs.Marks.{one_marked}
use Rattle.mesh_boolean.proofs.auditing.origins.marked.Goals as goal

pub loop-number-preserved : goal.loop-number-preserved
loop-number-preserved c =
    let xs = c.args.numbers.now in
    let i = c.loop-number.number-index in
    let more : take (i + 1) xs ≡ take i xs ++ get_or xs i 0 ∷ [] = take_more xs i 0 (search rules) in
    rw more
    (one_marked c.loop-number.seen.items _ c.args.count (get_or xs i 0) (take i xs) c.loop-number.invariant (search rules) refl)
