use Rattle.std.proofs.Common.{arith, ◌<◌, ◌≤◌, ◌^◌, [], ℕ, ℤ, List, get_or, length, map, take, sym, ap, subst, ◌∙◌}
use Rattle.std.proofs.lemmas.List.{take_all}
use Rattle.face_plane.specs.Planes.{Plane}
use Rattle.plane_chains.specs.EdgeBoxes.{pair_of}
use Rattle.plane_sheets.specs.Seen.{seen_in}
use Rattle.plane_chains.specs.declared.nets.LabelNumber.{LabelNumber}
use Rattle.plane_sheets.specs.Sides.{HasSums, crosses, left_sum_of, lefts, right_sum_of, rights, size_near, size_of}
use Rattle.plane_sheets.specs.declared.beside.Passes.TheVariants.{Down, No}
use Rattle.plane_sheets.specs.declared.side_numbers.SideNumbers.{SideNumbers}
use Rattle.plane_sheets.proofs.Adding.{times_less}
use Rattle.plane_sheets.proofs.Finding.{fits_near, own_left, own_right, sums_near}
use Rattle.plane_sheets.proofs.Held.{sums_none}
use Rattle.plane_sheets.proofs.Outcomes.{on_ok}
use Rattle.plane_sheets.proofs.numbers.find_sides.Goals as goal

pub loop-other-init : goal.loop-other-init
loop-other-init c =
    let at = seen_in c.args.flat in
    let es = map pair_of c.args.chain.now.edges.items in
    let nets = c.args.chain.now.nets.0 in
    record {
      left = subst (λ (ss : List SideNumbers). HasSums nets (left_sum_of at es nets c.args.edge []) 0 (lefts ss)) (sym c.clear.ensures.items) (sums_none nets 0);
      right = subst (λ (ss : List SideNumbers). HasSums nets (left_sum_of at es nets c.args.edge []) 0 (rights ss)) (sym c.clear.ensures.items) (sums_none nets 0);
    }

pub loop-other-preserved : goal.loop-other-preserved
loop-other-preserved c =
    let at = seen_in c.args.flat in
    let es = map pair_of c.args.chain.now.edges.items in
    let nets = c.args.chain.now.nets.0 in
    let near = c.args.near.now in
    let i = c.loop-other.other-index in
    let below : i < length near = c.loop-other-test.true in
    let inside : get_or near i 0 < length nets = omega (arith, c.requires.near i 0 below, c.requires.nets) in
    let turn = c.passes_of-passes.ensures ∙ ap (λ (l : List (List ℕ)). crosses at (map pair_of l) c.args.edge (get_or near i 0)) c.deref.ensures.value in
    record {
      left = sums_near at es nets c.args.edge near i c.numbers.result.now _ (lefts c.loop-other.sides.items) _ below inside c.numbers.ensures turn
          c.in_ok-add_crossed.ensures.left c.loop-other.invariant.left;
      right = sums_near at es nets c.args.edge near i c.numbers.result.now _ (rights c.loop-other.sides.items) _ below inside c.numbers.ensures turn
          c.in_ok-add_crossed.ensures.right c.loop-other.invariant.right;
    }

pub add_crossed-requires-clause-rise : goal.add_crossed-requires-clause-rise
add_crossed-requires-clause-rise c = c.loop-other.invariant.left.rise

pub add_crossed-requires-clause-left_fits : goal.add_crossed-requires-clause-left_fits
add_crossed-requires-clause-left_fits c =
    fits_near c.args.chain.now.nets.0 c.args.near.now c.loop-other.other-index c.numbers.result.now _ (lefts c.loop-other.sides.items) c.loop-other-test.true c.numbers.ensures
    c.requires.small c.loop-other.invariant.left

pub add_crossed-requires-clause-right_fits : goal.add_crossed-requires-clause-right_fits
add_crossed-requires-clause-right_fits c =
    fits_near c.args.chain.now.nets.0 c.args.near.now c.loop-other.other-index c.numbers.result.now _ (rights c.loop-other.sides.items) c.loop-other-test.true c.numbers.ensures
    c.requires.small c.loop-other.invariant.right

-- what the loop found, where it has come to the end
all_near : (at : Plane) (es : List (ℕ × ℕ)) (nets : List (List LabelNumber)) (e : ℕ) (near : List ℕ) (i : ℕ) (ps : List (ℕ × ℤ)) → length near ≤ i →
    HasSums nets (left_sum_of at es nets e (take i near)) (size_near nets (take i near)) ps → HasSums nets (left_sum_of at es nets e near) (size_near nets near) ps
all_near at es nets e near i ps end s = subst (λ (l : List ℕ). HasSums nets (left_sum_of at es nets e l) (size_near nets l) ps) (take_all i near end) s

pub returns-clause-left : goal.returns-clause-left
returns-clause-left c =
    let at = seen_in c.args.flat in
    let es = map pair_of c.args.chain.now.edges.items in
    let nets = c.args.chain.now.nets.0 in
    let near = c.args.near.now in
    let own = c.numbers-2.result.now in
    let ps = lefts c.loop-other.sides.items in
    let inside : c.args.edge < length nets = omega (arith, c.requires.edge, c.requires.nets) in
    let small : size_of own ≤ 2 ^ 61 = omega (arith, ap size_of c.numbers-2.ensures, c.requires.own_small) in
    let whole = all_near at es nets c.args.edge near c.loop-other.other-index ps (omega arith) c.loop-other.invariant.left in
    on_ok c.add_all.result _ _
    (λ e. subst (HasSums nets (left_sum_of at es nets c.args.edge near) (2 ^ 62)) (sym e)
    (own_left nets (left_sum_of at es nets c.args.edge near) (size_near nets near) c.args.edge own ps (times_less No) c.numbers-2.ensures inside
    c.requires.small small whole)) c.add_all.ensures.left

pub returns-clause-right : goal.returns-clause-right
returns-clause-right c =
    let at = seen_in c.args.flat in
    let es = map pair_of c.args.chain.now.edges.items in
    let nets = c.args.chain.now.nets.0 in
    let near = c.args.near.now in
    let own = c.numbers-2.result.now in
    let ps = rights c.loop-other.sides.items in
    let inside : c.args.edge < length nets = omega (arith, c.requires.edge, c.requires.nets) in
    let small : size_of own ≤ 2 ^ 61 = omega (arith, ap size_of c.numbers-2.ensures, c.requires.own_small) in
    let whole = all_near at es nets c.args.edge near c.loop-other.other-index ps (omega arith) c.loop-other.invariant.right in
    on_ok c.add_all.result _ _
    (λ e. subst (HasSums nets (right_sum_of at es nets c.args.edge near) (2 ^ 62)) (sym e)
    (own_right at es nets near (size_near nets near) c.args.edge own ps (times_less Down) c.numbers-2.ensures inside c.requires.small small whole)) c.add_all.ensures.right
