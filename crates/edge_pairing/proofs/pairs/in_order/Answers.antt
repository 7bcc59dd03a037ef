use Rattle.std.proofs.Common.{◌≡◌, ◌<◌, ◌∷◌, ◌++◌, [], length, map, get_or, to_z, of_z, w64, rules, ap, ◌∙◌, subst, arith}
use mir.Val.{SFits}
use Rattle.std.specs.List.Sorted.{IsPermutation}
use Rattle.std.proofs.lemmas.Int.{to_z-of_z}
use Rattle.std.proofs.lemmas.List.{take_all}
use Rattle.edge_pairing.specs.Pairing.{scalar_product}
use Rattle.edge_pairing.specs.Entries.{chosen, place_in}
use Rattle.edge_pairing.specs.Keys.{keyed_by, key_along}
use Rattle.edge_pairing.proofs.Keying.{keyed_more, keyed_same}
use Rattle.edge_pairing.proofs.Listed.{no_entry}
use Rattle.edge_pairing.proofs.Ordered.{sorted_vertices}
use Rattle.edge_pairing.proofs.Spreading.{read_place}
use Rattle.edge_pairing.proofs.pairs.in_order.Goals as goal
use Rattle.edge_pairing.proofs.pairs.in_order.Goals.{then-entry-start+in_ok-push, else-entry-start}

pub loop-entry-preserved : goal.loop-entry-preserved
loop-entry-preserved c =
    let key = key_along c.args.along.now (place_in c.args.points.now) in
    let entries = c.args.entries.now in
    let i = c.loop-entry.entry-index in
    let below : i < length entries = c.loop-entry-test.true in
    let v = (get_or entries i no_entry).vertex in
    elim c.if-entry-start.branch [
      | then-entry-start+in_ok-push w ↦
          let point = read_place c.args.points.now v w.index-points-vertex.result (c.requires.below i no_entry below) w.index-points-vertex.is in
          let fits : SFits w64 w.key.result = search rules in
          let kept : to_z w64 (of_z w64 w.key.result) ≡ key v = to_z-of_z w64 w.key.result fits ∙ w.key.ensures ∙ ap (scalar_product c.args.along.now) point in
          ap (λ l. l.items) w.order-is ∙ w.in_ok-push.ensures.items ∙ ap (λ k. c.loop-entry.order.items ++ record { key = k; vertex = v } ∷ []) kept
          ∙ keyed_more key c.args.start entries i c.loop-entry.order.items below w.if-entry-start.true c.loop-entry.invariant
      | else-entry-start w ↦ ap (λ l. l.items) w.order-is ∙ c.loop-entry.invariant ∙ keyed_same key c.args.start entries i below w.if-entry-start.false
    ]

pub returns : goal.returns
returns c =
    let key = key_along c.args.along.now (place_in c.args.points.now) in
    let all = ap (λ l. map (keyed_by key) (chosen c.args.start l)) (take_all c.loop-entry.entry-index c.args.entries.now (omega (arith, c.loop-entry-test.false))) in
    let sorted = c.sort_unstable.new.self.items in
    sorted_vertices key (chosen c.args.start c.args.entries.now) sorted
    (subst (λ l. IsPermutation l sorted) (c.loop-entry.invariant ∙ all) c.sort_unstable.ensures.permutation)
    c.sort_unstable.ensures.sorted
