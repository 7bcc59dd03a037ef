use Rattle.std.proofs.Common.{◌≡◌, ◌≢◌, ◌<◌, ◌*◌, List, ℕ, length, get_or, replicate, sym, subst, ap, ◌∙◌, arith, ◌+◌, Vec, Global}
use Rattle.std.proofs.lemmas.List.{get_or_default, length-map, with_items_is}
use Rattle.chain_terms.specs.Chains.{all_edges}
use Rattle.halfedge.specs.Numbering.{no_fan, AreInOrder, ordered_at, IsFanNumbered}
use Rattle.halfedge.proofs.FanProgress.{AreFansSoFar}
use Rattle.mesh_terms.specs.Meshes.{triple_of}
use Rattle.halfedge.proofs.Edges.{length-all_edges}
use Rattle.halfedge.proofs.FanOrder.{ordered_below, order_length}
use Rattle.halfedge.proofs.FansOnce.{one_numbering}
use Rattle.halfedge.proofs.FanSteps.{no_fans, fans_as, fan_seen, fan_more, all_fans}
use Rattle.halfedge.proofs.twins.Twins.fans.Goals as goal
use Rattle.halfedge.proofs.twins.Twins.fans.Goals.{then-index+in_ok-push, else-index}

pub loop-half-init : goal.loop-half-init
loop-half-init c =
    let ts = c.args.self.now.triples in
    let es = all_edges ts in
    let known = subst (AreInOrder es) (sym c.deref-half-items.ensures.value) c.in_ok-order.ensures in
    let made : c.in_ok-of.of.items ≡ replicate (3 * length c.triples.result.now) no_fan = c.in_ok-of.ensures.items_if_clones_equal (λ y same. same) in
    let listed = ap length c.triples.ensures.value in
    let count : 3 * length c.triples.result.now ≡ length es = omega (arith, length-map c.triples.result.now triple_of, listed, length-all_edges ts) in
    let start = no_fans ts c.triples.ensures.twinned.closed c.deref-half-items.result.now (3 * length c.triples.result.now) count in
    record {
      known = known;
      fans = subst (λ of. AreFansSoFar es c.deref-half-items.result.now 0 of c.new-first.result.items) (sym made)
          (subst (λ first. AreFansSoFar es c.deref-half-items.result.now 0 (replicate (3 * length c.triples.result.now) no_fan) first) (sym c.new-first.ensures.items) start);
    }

pub index-requires : goal.index-requires
index-requires c =
    let inv = c.loop-half.invariant in
    let below = ordered_below (all_edges c.args.self.now.triples) _ inv.known c.loop-half.half-index c.loop-half-test.true in
    let read = c.loop-half.of.ok.0 in
    omega (arith, below, read, inv.fans.full)

few_fans : (c : goal.After-len) → c.len.result < no_fan
few_fans c =
    let ts = c.args.self.now.triples in
    let inv = c.loop-half.invariant in
    let read = c.loop-half.first.ok.0 in
    omega (arith, c.len.ensures, read, inv.fans.few, c.loop-half-test.true, order_length (all_edges ts) _ inv.known, length-all_edges ts, c.triples.ensures.twinned.few)

pub number_fan-requires-clause-half : goal.number_fan-requires-clause-half
number_fan-requires-clause-half c = ordered_below (all_edges c.args.self.now.triples) _ c.loop-half.invariant.known c.loop-half.half-index c.loop-half-test.true

pub number_fan-requires-clause-fresh : goal.number_fan-requires-clause-fresh
number_fan-requires-clause-fresh c =
    let inv = c.loop-half.invariant in
    let below = ordered_below (all_edges c.args.self.now.triples) _ inv.known c.loop-half.half-index c.loop-half-test.true in
    ap (λ l. get_or l (get_or c.deref-half-items.result.now c.loop-half.half-index (0, 0)).1 0) c.deref_mut.ensures.value
    ∙ sym (get_or_default c.loop-half.of.items _ c.index.result.now 0 (omega (arith, below, inv.fans.full))) ∙ sym c.index.ensures ∙ c.if-index.true

pub overflow_cast-len : goal.overflow_cast-len
overflow_cast-len c = let few = few_fans c in omega (arith, few)

pub number_fan-requires-clause-number : goal.number_fan-requires-clause-number
number_fan-requires-clause-number c = few_fans c

pub loop-half-preserved : goal.loop-half-preserved
loop-half-preserved c = elim c.if-index.branch [
  | then-index+in_ok-push w ↦
      let ts = c.args.self.now.triples in
      let es = all_edges ts in
      let inv = c.loop-half.invariant in
      let order : List (ℕ × ℕ) = c.deref-half-items.result.now in
      let i = c.loop-half.half-index in
      let below = ordered_below es order inv.known i c.loop-half-test.true in
      let none : get_or c.loop-half.of.items (ordered_at order i) 0 ≡ no_fan =
      sym (get_or_default c.loop-half.of.items _ c.index.result.now 0 (omega (arith, below, inv.fans.full))) ∙ sym c.index.ensures ∙ w.if-index.true in
      let count : w.len.result ≡ length c.loop-half.first.items = w.len.ensures ∙ c.loop-half.first.ok.0 in
      let numbered = subst (λ n. IsFanNumbered es (ordered_at order i) n c.loop-half.of.items w.number_fan.new.of) count
      (subst (λ l. IsFanNumbered es (ordered_at order i) w.len.result l w.number_fan.new.of) w.deref_mut.ensures.value w.number_fan.ensures) in
      let full : length w.number_fan.new.of ≡ c.loop-half.of.len = numbered.full ∙ sym inv.fans.full ∙ sym c.loop-half.of.ok.0 in
      record {
        known = inv.known;
        fans = fans_as es order (i + 1) _ _ _ _ (ap (λ (v : Vec ℕ Global). v.items) w.of-is ∙ with_items_is c.loop-half.of w.number_fan.new.of full)
            (ap (λ (v : Vec ℕ Global). v.items) w.first-is ∙ w.in_ok-push.ensures.items)
            (fan_more ts c.triples.ensures.twinned.closed c.triples.ensures.twinned.few order i c.loop-half.of.items w.number_fan.new.of c.loop-half.first.items
            inv.known c.loop-half-test.true inv.fans none numbered);
      }
  | else-index w ↦
      let es = all_edges c.args.self.now.triples in
      let inv = c.loop-half.invariant in
      let order : List (ℕ × ℕ) = c.deref-half-items.result.now in
      let i = c.loop-half.half-index in
      let below = ordered_below es order inv.known i c.loop-half-test.true in
      let has : get_or c.loop-half.of.items (ordered_at order i) 0 ≢ no_fan =
      λ none. w.if-index.false (c.index.ensures ∙ get_or_default c.loop-half.of.items _ c.index.result.now 0 (omega (arith, below, inv.fans.full)) ∙ none) in
      record {
        known = inv.known;
        fans = fans_as es order (i + 1) _ _ _ _ (ap (λ (v : Vec ℕ Global). v.items) w.of-is) (ap (λ (v : Vec ℕ Global). v.items) w.first-is)
            (fan_seen es order i c.loop-half.of.items c.loop-half.first.items inv.known c.loop-half-test.true inv.fans has);
      }
]

pub returns-clause-fans : goal.returns-clause-fans
returns-clause-fans c =
    let ts = c.args.self.now.triples in
    let inv = c.loop-half.invariant in
    let order : List (ℕ × ℕ) = c.deref-half-items.result.now in
    let done : c.loop-half.half-index ≡ length order = omega (arith, c.loop-half-test.false, c.loop-half.auto.half-index-end) in
    all_fans ts c.triples.ensures.twinned.closed c.triples.ensures.twinned.few order c.loop-half.of.items c.loop-half.first.items inv.known
    (subst (λ n. AreFansSoFar (all_edges ts) order n c.loop-half.of.items c.loop-half.first.items) done inv.fans)

pub returns-clause-only : goal.returns-clause-only
returns-clause-only c of first again =
    one_numbering c.args.self.now.triples c.triples.ensures.twinned.closed of first c.loop-half.of.items c.loop-half.first.items again (returns-clause-fans c)
