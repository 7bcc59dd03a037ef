use Rattle.std.proofs.Common.{arith, ◌≡◌, ◌<◌, ◌≤◌, ◌+◌, [], ℕ, List, get_or, length, map, sym, ap, subst, ◌∙◌}
use Rattle.std.specs.List.{Contains}
use Rattle.std.specs.List.Sorted.{IsPermutation}
use Rattle.chain_terms.specs.Sums.{upto}
use Rattle.std.proofs.lemmas.List.{get_or-map, length-map, length-set}
use Rattle.plane_chains.specs.EdgeBoxes.{pair_of}
use Rattle.plane_sheets.specs.declared.seats.Seat.{Seat}
use Rattle.plane_sheets.specs.declared.side_numbers.SideNumbers.{SideNumbers}
use Rattle.plane_sheets.specs.Boxed.{HasEdges}
use Rattle.plane_sheets.specs.Seen.{seen_in}
use Rattle.plane_sheets.specs.Sided.{IsSided, no_seat, seat_numbers, table_of}
use Rattle.plane_sheets.proofs.Seated.{seat_below, seat_there, table_more}
use Rattle.plane_sheets.proofs.sided.sides_of.Goals as goal

-- the seats that are gone over are those of all edges
all_seats : (rows used : List (List ℕ)) (order made : List Seat) → used ≡ rows → order ≡ made → IsPermutation (upto (length used)) (seat_numbers made) →
    IsPermutation (upto (length rows)) (seat_numbers order)
all_seats rows used order made same is moved =
    subst (λ (o : List Seat). IsPermutation (upto (length rows)) (seat_numbers o)) (sym is)
    (subst (λ (l : List (List ℕ)). IsPermutation (upto (length l)) (seat_numbers made)) same moved)

pub loop-seat-init : goal.loop-seat-init
loop-seat-init c = record {
  listed = c.in_ok-sided.ensures.listed;
  count = omega (arith, c.in_ok-sided.ensures.count, c.len.ensures, c.args.chain.now.edges.ok.0);
  edges = subst (λ (rows : List (List ℕ)). HasEdges (seen_in c.args.flat) (map pair_of rows) c.in_ok-passing.passing) c.deref-2.ensures.value c.in_ok-passing.ensures;
  sides = λ e (there : Contains [] e). absurd (omega (arith, there.1));
}

pub find_at-requires-clause-edge : goal.find_at-requires-clause-edge
find_at-requires-clause-edge c =
    let rows = c.args.chain.now.edges.items in
    let order = c.deref-seat-items.result.now in
    let i = c.loop-seat.seat-index in
    let below : i < length order = omega (arith, c.loop-seat-test.true) in
    let moved = all_seats rows c.deref.result.now order c.in_ok-order.order.items c.deref.ensures.value c.deref-seat-items.ensures.value c.in_ok-order.ensures in
    let is : get_or (seat_numbers order) i 0 ≡ (get_or order i no_seat).number = get_or-map (λ (s : Seat). s.number) order i no_seat 0 below in
    let there = seat_below (length rows) order i below moved in
    omega (arith, there, is)

pub find_at-requires-clause-edges : goal.find_at-requires-clause-edges
find_at-requires-clause-edges c = c.loop-seat.invariant.edges

pub put-requires-clause-listed : goal.put-requires-clause-listed
put-requires-clause-listed c = c.loop-seat.invariant.listed

pub put-requires-clause-edge : goal.put-requires-clause-edge
put-requires-clause-edge c =
    let rows = c.args.chain.now.edges.items in
    let order = c.deref-seat-items.result.now in
    let i = c.loop-seat.seat-index in
    let below : i < length order = omega (arith, c.loop-seat-test.true) in
    let moved = all_seats rows c.deref.result.now order c.in_ok-order.order.items c.deref.ensures.value c.deref-seat-items.ensures.value c.in_ok-order.ensures in
    let is : get_or (seat_numbers order) i 0 ≡ (get_or order i no_seat).number = get_or-map (λ (s : Seat). s.number) order i no_seat 0 below in
    let there = seat_below (length rows) order i below moved in
    omega (arith, there, is, c.loop-seat.invariant.count)

pub loop-seat-preserved : goal.loop-seat-preserved
loop-seat-preserved c =
    let rows = c.args.chain.now.edges.items in
    let order = c.deref-seat-items.result.now in
    let i = c.loop-seat.seat-index in
    let below : i < length order = omega (arith, c.loop-seat-test.true) in
    let moved = all_seats rows c.deref.result.now order c.in_ok-order.order.items c.deref.ensures.value c.deref-seat-items.ensures.value c.in_ok-order.ensures in
    let is : get_or (seat_numbers order) i 0 ≡ (get_or order i no_seat).number = get_or-map (λ (s : Seat). s.number) order i no_seat 0 below in
    let there = seat_below (length rows) order i below moved in
    let at = seen_in c.args.flat in
    let es = map pair_of rows in
    let nets = c.args.chain.now.nets.0 in
    let e = (get_or order i no_seat).number in
    let old = table_of c.loop-seat.sided in
    let l = c.deref-in-loop-seat.result.now in
    let next : i < length (seat_numbers order) = omega (arith, below, length-map order (λ (s : Seat). s.number)) in
    let inside : e < length old = omega (arith, there, is, c.loop-seat.invariant.count) in
    let own : IsSided at es nets e l = subst (IsSided at es nets e) (sym c.deref-in-loop-seat.ensures.value) c.in_ok-find_at.ensures.sides in
    record {
      listed = c.in_ok-put.ensures.listed;
      count = ap (λ (t : List (List SideNumbers)). length t) c.in_ok-put.ensures.table ∙ length-set old e l ∙ c.loop-seat.invariant.count;
      edges = c.in_ok-find_at.ensures.edges;
      sides = λ d there. subst (λ (t : List (List SideNumbers)). IsSided at es nets d (get_or t d [])) (sym c.in_ok-put.ensures.table)
          (table_more (IsSided at es nets) (seat_numbers order) i e old l next (sym is) inside own c.loop-seat.invariant.sides d there);
    }

pub returns-clause-sides : goal.returns-clause-sides
returns-clause-sides c =
    let rows = c.args.chain.now.edges.items in
    let order = c.deref-seat-items.result.now in
    let count = length-map rows pair_of in
    let moved = all_seats rows c.deref.result.now order c.in_ok-order.order.items c.deref.ensures.value c.deref-seat-items.ensures.value c.in_ok-order.ensures in
    let end : length order ≤ c.loop-seat.seat-index = omega (arith, c.loop-seat-test.false) in
    record {
      count = c.loop-seat.invariant.count ∙ sym count;
      each = λ e inside. c.loop-seat.invariant.sides e (seat_there (length rows) e c.loop-seat.seat-index order (omega (arith, inside, count)) end moved);
    }
