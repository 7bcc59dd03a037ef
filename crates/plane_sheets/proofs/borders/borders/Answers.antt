use Rattle.std.proofs.Common.{arith, ◌≡◌, ℕ, ◌<◌, ◌≤◌, ◌^◌, [], List, get_or, length, map, refl, sym, ap, subst, ◌∙◌}
use Rattle.std.specs.List.{All}
use Rattle.std.proofs.lemmas.List.{length-map}
use Rattle.std.proofs.lemmas.List.Elements.{All-nil, All-same}
use Rattle.chain_terms.specs.Sums.{upto}
use Rattle.plane_chains.specs.EdgeBoxes.{pair_of}
use Rattle.sheet_terms.specs.Numbers.{above_zero}
use Rattle.plane_sheets.specs.declared.borders.RegionEdge.{RegionEdge}
use Rattle.plane_sheets.specs.Dealt.{edges_in}
use Rattle.plane_sheets.specs.Found.{IsWithin}
use Rattle.plane_sheets.specs.Seen.{seen_in}
use Rattle.plane_sheets.specs.Sided.{IsSided, table_of}
use Rattle.plane_sheets.specs.Sides.{all_held, left_sum_of, lefts, rights}
use Rattle.plane_sheets.proofs.Bordered.{border_all, border_more, end_inside, end_read, places_more, within_more}
use Rattle.plane_sheets.proofs.Bordering.{as_read}
use Rattle.plane_sheets.proofs.NearEdges.{all_crossing}
use Rattle.plane_sheets.proofs.borders.borders.Goals as goal

pub loop-edge-init : goal.loop-edge-init
loop-edge-init c =
    let inside : RegionEdge → Type 0 = λ e. All (λ v. v < length c.args.flat.points.now) e.ends in
    let none = c.new-found.ensures.items in
    record {
      borders = λ labels cs stored counted j k below some few. ap (edges_in j k) none;
      within = λ n few. All-same (IsWithin n c.args.most) c.new-found.result.items [] none (All-nil (IsWithin n c.args.most));
      places = All-same inside c.new-found.result.items [] none (All-nil inside);
    }

pub list-requires-clause-edge : goal.list-requires-clause-edge
list-requires-clause-edge c =
    let rows = c.args.chain.now.edges.items in
    let below : c.loop-edge.edge < length rows = omega (arith, c.loop-edge-test.true, c.len-edge-end.ensures, c.args.chain.now.edges.ok.0) in
    omega (arith, below, c.in_ok-sided.ensures.sides.count, length-map rows pair_of)

pub push_edge-requires-clause-left_small : goal.push_edge-requires-clause-left_small
push_edge-requires-clause-left_small c =
    let rows = c.args.chain.now.edges.items in
    let below : c.loop-edge.edge < length rows = omega (arith, c.loop-edge-test.true, c.len-edge-end.ensures, c.args.chain.now.edges.ok.0) in
    let inside : c.loop-edge.edge < length (map pair_of rows) = omega (arith, below, length-map rows pair_of) in
    let own : IsSided (seen_in c.args.flat) (map pair_of rows) c.args.chain.now.nets.0 c.loop-edge.edge c.list.result.now =
    subst (IsSided (seen_in c.args.flat) (map pair_of rows) c.args.chain.now.nets.0 c.loop-edge.edge) (sym c.list.ensures)
    (c.in_ok-sided.ensures.sides.each c.loop-edge.edge inside) in
    own.left.small

pub push_edge-requires-clause-right_small : goal.push_edge-requires-clause-right_small
push_edge-requires-clause-right_small c =
    let rows = c.args.chain.now.edges.items in
    let below : c.loop-edge.edge < length rows = omega (arith, c.loop-edge-test.true, c.len-edge-end.ensures, c.args.chain.now.edges.ok.0) in
    let inside : c.loop-edge.edge < length (map pair_of rows) = omega (arith, below, length-map rows pair_of) in
    let own : IsSided (seen_in c.args.flat) (map pair_of rows) c.args.chain.now.nets.0 c.loop-edge.edge c.list.result.now =
    subst (IsSided (seen_in c.args.flat) (map pair_of rows) c.args.chain.now.nets.0 c.loop-edge.edge) (sym c.list.ensures)
    (c.in_ok-sided.ensures.sides.each c.loop-edge.edge inside) in
    own.right.small

pub loop-edge-preserved : goal.loop-edge-preserved
loop-edge-preserved c =
    let at = seen_in c.args.flat in
    let rows = c.args.chain.now.edges.items in
    let used = c.deref.result.now in
    let es = map pair_of rows in
    let nets = c.args.chain.now.nets.0 in
    let e = c.loop-edge.edge in
    let n = length c.args.flat.points.now in
    let now = c.loop-edge.invariant in
    let ss = c.list.result.now in
    let ends = c.places_of.result in
    let a = get_or ends 0 0 in
    let b = get_or ends 1 0 in
    let x = above_zero (all_held (lefts ss)) in
    let y = above_zero (all_held (rights ss)) in
    let old = c.loop-edge.found.items in
    let new = c.push_edge.new.found.items in
    let below : e < length rows = omega (arith, c.loop-edge-test.true, c.len-edge-end.ensures, c.args.chain.now.edges.ok.0) in
    let inside : e < length es = omega (arith, below, length-map rows pair_of) in
    let own : IsSided at es nets e ss = subst (IsSided at es nets e) (sym c.list.ensures) (c.in_ok-sided.ensures.sides.each e inside) in
    let same : used ≡ rows = c.deref.ensures.value in
    let read : ends ≡ get_or rows e ends = c.places_of.ensures.value ∙ ap (λ (l : List (List ℕ)). get_or l e ends) same in
    let places : All (λ v. v < n) (get_or used e []) = subst (λ (l : List (List ℕ)). All (λ v. v < n) (get_or l e [])) (sym same) (c.requires.places e [] below) in
    let pair = end_read rows e ends below read in
    let grown = c.in_ok-push_edge.ensures in
    record {
      borders = λ labels cs stored counted j k label some few.
          border_more c.args.most at es nets e (upto (length es)) ss (2 ^ 62) (2 ^ 62) a b old new inside (all_crossing at es e (upto (length es)) refl) own.left own.right
          (ap (λ (p : ℕ × ℕ). p.0) pair)
          (ap (λ (p : ℕ × ℕ). p.1) pair) grown labels cs
          (as_read cs rows nets stored) counted j k label some few (now.borders labels cs stored counted j k label some few);
      within = within_more c.args.most nets (left_sum_of at es nets e (upto (length es))) (2 ^ 62) a b x y ss old new own.left grown now.within;
      places = places_more c.args.most n a b x y ss old new
          (end_inside rows used n e 0 ends (omega arith) below read same places c.places_of.ensures.two)
          (end_inside rows used n e 1 ends (omega arith) below read same places c.places_of.ensures.two)
          grown now.places;
    }

pub returns-clause-borders : goal.returns-clause-borders
returns-clause-borders c = λ labels cs stored counted j k label some few.
    let end : length c.args.chain.now.edges.items ≤ c.loop-edge.edge = omega (arith, c.loop-edge-test.false, c.len-edge-end.ensures, c.args.chain.now.edges.ok.0) in
    border_all (seen_in c.args.flat) labels cs c.args.chain.now.edges.items c.args.chain.now.nets.0 j k c.loop-edge.edge c.loop-edge.found.items stored end
    (c.loop-edge.invariant.borders labels cs stored counted j k label some few)
