use Rattle.std.proofs.Common.{arith, ◌≡◌, ◌<◌, min, ◌++◌, get_or, length, rules, sym, ap, ◌∙◌, append-nil}
use Rattle.std.proofs.lemmas.List.{drop_all}
use Rattle.sheet_terms.specs.Numbers.{above_zero}
use Rattle.plane_sheets.specs.declared.side_numbers.SideNumbers.{SideNumbers}
use Rattle.plane_sheets.specs.Dealt.{dealt_edges}
use Rattle.plane_sheets.specs.Sides.{all_held, lefts, no_sides, rights}
use Rattle.plane_sheets.proofs.Dealing.{dealt_next}
use Rattle.plane_sheets.proofs.Kept.{kept, kept_same}
use Rattle.plane_sheets.proofs.Putting.{size_at}
use Rattle.plane_sheets.proofs.borders.push_edge.Goals as goal

pub loop-each-init : goal.loop-each-init
loop-each-init c =
    let ss = c.args.sides.now in
    let old = c.args.found.now.items in
    let a = get_or c.args.ends 0 0 in
    let b = get_or c.args.ends 1 0 in
    let kl : kept c.left_sum.result ≡ c.left_sum.result = search rules in
    let kr : kept c.right_sum.result ≡ c.right_sum.result = search rules in
    let left : c.above_zero-left.result ≡ above_zero (all_held (lefts ss)) = c.above_zero-left.ensures ∙ ap above_zero (kl ∙ c.left_sum.ensures) in
    let right : c.above_zero-right.result ≡ above_zero (all_held (rights ss)) = c.above_zero-right.ensures ∙ ap above_zero (kr ∙ c.right_sum.ensures) in
    ap (λ n. old ++ dealt_edges c.args.most a b n c.above_zero-right.result ss) left ∙ ap (λ n. old ++ dealt_edges c.args.most a b (above_zero (all_held (lefts ss))) n ss) right

pub loop-each-preserved : goal.loop-each-preserved
loop-each-preserved c =
    let ss = c.args.sides.now in
    let i = c.loop-each.each-index in
    let below : i < length ss = c.loop-each-test.true in
    let s = get_or ss i no_sides in
    let kl : kept s.left ≡ s.left = kept_same s.left (omega (arith, size_at (λ (s : SideNumbers). s.left) ss i below, c.requires.left_small)) in
    let kr : kept s.right ≡ s.right = kept_same s.right (omega (arith, size_at (λ (s : SideNumbers). s.right) ss i below, c.requires.right_small)) in
    let x : c.min-x.result ≡ min c.loop-each.left (above_zero s.left) = c.min-x.ensures ∙ ap (min c.loop-each.left) (c.above_zero.ensures ∙ ap above_zero kl) in
    let y : c.min-y.result ≡ min c.loop-each.right (above_zero s.right) = c.min-y.ensures ∙ ap (min c.loop-each.right) (c.above_zero-in-loop-each.ensures ∙ ap above_zero kr) in
    dealt_next c.args.most (get_or c.args.ends 0 0) (get_or c.args.ends 1 0) c.loop-each.left c.loop-each.right ss i c.min-x.result c.min-y.result
    c.capped.result c.capped-in-loop-each.result
    c.loop-each.found.items c.push_levels.new.found.items _ below x y c.capped.ensures c.capped-in-loop-each.ensures c.in_ok-push_levels.ensures c.loop-each.invariant

pub returns : goal.returns
returns c =
    let ss = c.args.sides.now in
    let found = c.loop-each.found.items in
    sym (append-nil found)
    ∙ ap (λ l. found ++ dealt_edges c.args.most (get_or c.args.ends 0 0) (get_or c.args.ends 1 0) c.loop-each.left c.loop-each.right l)
    (sym (drop_all c.loop-each.each-index ss (omega arith)))
    ∙ c.loop-each.invariant
