use Rattle.std.proofs.Common.{◌≡◌, ◌<◌, ◌==◌, ◌∷◌, [], ℕ, List, filter, get_or, length, map, sym, subst, arith}
use Rattle.std.specs.List.{All}
use Rattle.std.proofs.lemmas.List.Elements.{All-filter}
use Rattle.plane_sheets.specs.declared.leaving.Leaving.{Leaving}
use Rattle.plane_sheets.specs.Seen.{seen_in}
use Rattle.plane_sheets.proofs.Following.{follower_at}
use Rattle.plane_sheets.proofs.followers.follower.Goals as goal

pub edges_from-leaving-requires : goal.edges_from-leaving-requires
edges_from-leaving-requires c = c.requires.order.rise

-- those that leave a place end among the places
ends_below : (n s : ℕ) (order ls : List Leaving) → ls ≡ filter (λ l. l.from == s) order → All (λ l. l.to < n) order → All (λ l. l.to < n) ls
ends_below n s order ls own all = subst (All (λ (l : Leaving). l.to < n)) (sym own) (All-filter (λ (l : Leaving). l.from == s) (λ l. l.to < n) order all)

-- so does the first, where there is one
first_below : (n first : ℕ) (ls : List Leaving) → first ≡ get_or (map (λ l. l.to) ls) 0 0 → All (λ l. l.to < n) ls → 0 < length ls → first < n
first_below n first [] e all some = absurd (omega (arith, some))
first_below n first (l ∷ ls) e all some = omega (arith, e, all 0 l some)

pub first_met-place-requires-clause-n : goal.first_met-place-requires-clause-n
first_met-place-requires-clause-n c =
    let n = length c.args.flat.points.now in
    first_below n c.first_end.result c.edges_from-leaving.result.now c.first_end.ensures
    (ends_below n _ c.args.order.now c.edges_from-leaving.result.now c.edges_from-leaving.ensures c.requires.ends)

pub first_met-place-requires-clause-ends : goal.first_met-place-requires-clause-ends
first_met-place-requires-clause-ends c =
    ends_below (length c.args.flat.points.now) _ c.args.order.now c.edges_from-leaving.result.now c.edges_from-leaving.ensures c.requires.ends

pub returns : goal.returns
returns c =
    follower_at (seen_in c.args.flat) c.args.edges.now c.args.order.now c.edges_from-leaving.result.now c.args.i c.first_end.result c.first_met-place.result c.number_to.result
    c.requires.inside c.requires.order c.edges_from-leaving.ensures c.first_end.ensures c.first_met-place.ensures c.number_to.ensures
