use Rattle.std.proofs.Common.{◌≡◌, Bool, true, List, sym, subst}
use Rattle.std.specs.List.{All}
use Rattle.mesh_boolean.proofs.Marks.{AreMarkedIn, all_marked}
use Rattle.mesh_boolean.proofs.auditing.origins.all_occur.Goals as goal

pub returns : goal.returns
returns c =
    let xs = c.args.numbers.now in
    let marked : AreMarkedIn c.in_ok-seen.seen.items c.args.count xs = record { long = c.in_ok-seen.ensures.long; each = c.in_ok-seen.ensures.each } in
    let all = all_marked c.in_ok-seen.seen.items c.args.count xs marked in
    let set : (List Bool → Type 0) = All (λ mark. mark ≡ true) in
    ((λ yes. all.0 (subst set c.deref.ensures.value (c.are_all_set.ensures.0 yes))), (λ occur. c.are_all_set.ensures.1 (subst set (sym c.deref.ensures.value) (all.1 occur))))
