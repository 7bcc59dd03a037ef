use Rattle.std.proofs.Common.{◌≡◌, length, map, sym, ap, ◌∙◌}
use Rattle.std.specs.List.{zip}
use Rattle.std.specs.List.Sorted.{IsPermutation}
use Rattle.std.proofs.lemmas.Result.{IfOk-weaker}
use Rattle.edge_pairing.specs.Entries.{edge_of, starts_of, ends_of, place_in}
use Rattle.edge_pairing.specs.Keys.{key_along, sorted_along}
use Rattle.edge_pairing.specs.Pairing.{pair_up}
use Rattle.edge_pairing.proofs.Across.{single}
use Rattle.edge_pairing.proofs.Ordered.{order_length}
use Rattle.edge_pairing.proofs.Paired.{starts_moved, ends_moved, vertices}
use Rattle.edge_pairing.proofs.pairs.in_turn.Goals as goal

-- the only segment goes from the one start to the one end
pub returns-then-entries-eq2-clause-value : goal.returns-then-entries-eq2-clause-value
returns-then-entries-eq2-clause-value c =
    c.only_segment.ensures ∙ sym (single (key_along c.args.along.now (place_in c.args.points.now)) c.args.entries.now c.if-entries-eq2.true c.requires.balanced)

pub returns-then-entries-eq2-clause-starts : goal.returns-then-entries-eq2-clause-starts
returns-then-entries-eq2-clause-starts c =
    starts_moved (key_along c.args.along.now (place_in c.args.points.now)) (starts_of c.args.entries.now)
    (ends_of c.args.entries.now) c.only_segment.result.items c.requires.balanced
    (returns-then-entries-eq2-clause-value c)

pub returns-then-entries-eq2-clause-ends : goal.returns-then-entries-eq2-clause-ends
returns-then-entries-eq2-clause-ends c =
    ends_moved (key_along c.args.along.now (place_in c.args.points.now)) (starts_of c.args.entries.now) (ends_of c.args.entries.now) c.only_segment.result.items c.requires.balanced
    (returns-then-entries-eq2-clause-value c)

-- as many starts as ends in their order
pub joined-requires : goal.joined-requires
joined-requires c =
    let key = key_along c.args.along.now (place_in c.args.points.now) in
    let starts = order_length key (starts_of c.args.entries.now) c.in_ok-starts.starts.items c.in_ok-starts.ensures in
    let ends = order_length key (ends_of c.args.entries.now) c.in_ok-ends.ends.items c.in_ok-ends.ensures in
    ap (λ l. length l) c.deref.ensures.value ∙ starts ∙ c.requires.balanced ∙ sym ends ∙ sym (ap (λ l. length l) c.deref-2.ensures.value)

-- the segments join the two orders
pub returns-clause-value : goal.returns-clause-value
returns-clause-value c =
    let first = ap vertices c.deref.ensures.value ∙ c.in_ok-starts.ensures in
    let second = ap vertices c.deref-2.ensures.value ∙ c.in_ok-ends.ensures in
    IfOk-weaker c.joined.result (λ s. map edge_of s.items ≡ zip (vertices c.deref.result.now) (vertices c.deref-2.result.now))
    (λ s. map edge_of s.items ≡ pair_up (key_along c.args.along.now (place_in c.args.points.now)) (starts_of c.args.entries.now) (ends_of c.args.entries.now))
    (λ s is. is ∙ ap (λ l. zip l (vertices c.deref-2.result.now)) first
    ∙ ap (zip (sorted_along c.args.along.now (place_in c.args.points.now) (starts_of c.args.entries.now))) second) c.joined.ensures

-- so each start is where a segment starts, and each end where one ends
pub returns-clause-starts : goal.returns-clause-starts
returns-clause-starts c =
    let key = key_along c.args.along.now (place_in c.args.points.now) in
    let ss = starts_of c.args.entries.now in
    let es = ends_of c.args.entries.now in
    IfOk-weaker c.joined.result (λ s. map edge_of s.items ≡ pair_up key ss es) (λ s. IsPermutation ss (map (λ x. x.from) s.items))
    (λ s is. starts_moved key ss es s.items c.requires.balanced is) (returns-clause-value c)

pub returns-clause-ends : goal.returns-clause-ends
returns-clause-ends c =
    let key = key_along c.args.along.now (place_in c.args.points.now) in
    let ss = starts_of c.args.entries.now in
    let es = ends_of c.args.entries.now in
    IfOk-weaker c.joined.result (λ s. map edge_of s.items ≡ pair_up key ss es) (λ s. IsPermutation es (map (λ x. x.to) s.items))
    (λ s is. ends_moved key ss es s.items c.requires.balanced is) (returns-clause-value c)
