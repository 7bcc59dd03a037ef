use Rattle.std.proofs.Common.{◌≡◌, ℕ, List, ◌+◌, ◌*◌, ◌<◌, ◌≤◌, length, get_or, refl, sym, subst, ap, ◌∙◌, arith}
use Rattle.std.specs.Vec.{with_items}
use Rattle.std.proofs.lemmas.List.{with_items_is}
use Rattle.std.specs.List.Sorted.{IsPermutation}
use Rattle.chain_terms.specs.Sums.{upto}
use Rattle.ring_cutting.specs.declared.place.Place.{Place}
use Rattle.ring_cutting.specs.declared.span.Span.{Span}
use Rattle.ring_cutting.specs.Left.{place_of}
use Rattle.ring_cutting.specs.Spans.{IsIn, span_of, node_of, AreNested}
use Rattle.ring_cutting.proofs.Lefts.{lives_within}
use Rattle.ring_cutting.proofs.Placing.{order_long, order_low, has_nodes, placed_on}
use Rattle.ring_cutting.proofs.hulls.hulls_of.Goals as goal

pub nodes_of-requires-clause-few : goal.nodes_of-requires-clause-few
nodes_of-requires-clause-few c =
    let order = c.in_ok-order.order.items in
    omega (arith, ap length c.deref.ensures.value, order_long (length c.args.places.now) order c.in_ok-order.ensures, c.requires.few)

pub nodes_of-requires-clause-moved : goal.nodes_of-requires-clause-moved
nodes_of-requires-clause-moved c =
    let order = c.in_ok-order.order.items in
    subst (λ (l : List ℕ). IsPermutation (upto (length l)) l) (sym c.deref.ensures.value)
    (subst (λ (m : ℕ). IsPermutation (upto m) order) (sym (order_long (length c.args.places.now) order c.in_ok-order.ensures)) c.in_ok-order.ensures)

pub number_at-requires : goal.number_at-requires
number_at-requires c =
    omega (
      arith,
      ap length c.deref-in-loop-i.ensures.value,
      c.in_ok-nodes.ensures.many,
      ap length c.deref.ensures.value,
      order_long (length c.args.places.now) c.in_ok-order.order.items c.in_ok-order.ensures,
      c.loop-i-test.true,
    )

pub put_span-requires-clause-within : goal.put_span-requires-clause-within
put_span-requires-clause-within c =
    let ps = c.args.places.now in
    let n = length ps in
    let order = c.in_ok-order.order.items in
    let nodes = c.in_ok-nodes.nodes.items in
    let each =
    has_nodes n order c.deref.result.now nodes c.deref.ensures.value (order_long n order c.in_ok-order.ensures) c.in_ok-nodes.ensures.nodes in
    let i = c.loop-i.i in
    let number : c.number_at.result ≡ node_of nodes i = c.number_at.ensures ∙ ap (λ (l : List ℕ). get_or l i 0) c.deref-in-loop-i.ensures.value in
    omega (arith, number, (each i c.loop-i-test.true).most, c.loop-i.invariant.many, ap length c.deref_mut.ensures.value)

pub put_span-requires-clause-last : goal.put_span-requires-clause-last
put_span-requires-clause-last c =
    let ps = c.args.places.now in
    let n = length ps in
    let order = c.in_ok-order.order.items in
    let nodes = c.in_ok-nodes.nodes.items in
    let each =
    has_nodes n order c.deref.result.now nodes c.deref.ensures.value (order_long n order c.in_ok-order.ensures) c.in_ok-nodes.ensures.nodes in
    let i = c.loop-i.i in
    let number : c.number_at.result ≡ node_of nodes i = c.number_at.ensures ∙ ap (λ (l : List ℕ). get_or l i 0) c.deref-in-loop-i.ensures.value in
    omega (arith, number, (each i c.loop-i-test.true).least, c.loop-i.invariant.many, ap length c.deref_mut.ensures.value)

pub loop-i-preserved : goal.loop-i-preserved
loop-i-preserved c =
    let ps = c.args.places.now in
    let n = length ps in
    let order = c.in_ok-order.order.items in
    let nodes = c.in_ok-nodes.nodes.items in
    let each =
    has_nodes n order c.deref.result.now nodes c.deref.ensures.value (order_long n order c.in_ok-order.ensures) c.in_ok-nodes.ensures.nodes in
    let i = c.loop-i.i in
    let number : c.number_at.result ≡ node_of nodes i = c.number_at.ensures ∙ ap (λ (l : List ℕ). get_or l i 0) c.deref-in-loop-i.ensures.value in
    let old = c.loop-i.spans.items in
    let new = c.put_span.new.spans in
    let is = c.put_span.ensures in
    let e : c.deref_mut.result.now ≡ old = c.deref_mut.ensures.value in
    let full : length new ≡ c.loop-i.spans.len = is.many ∙ ap length e ∙ sym c.loop-i.spans.ok.0 in
    let items : (with_items c.loop-i.spans new).items ≡ new = with_items_is c.loop-i.spans new full in
    let here : IsIn (span_of new (node_of nodes i)) (place_of ps i).at =
    subst (λ (k : ℕ). IsIn (span_of new k) (place_of ps i).at) number
    (subst (λ (s : Span). IsIn s (place_of ps i).at) (sym is.here)
    (subst (λ (p : Place). IsIn c.around.result p.at) c.place.ensures c.around.ensures)) in
    record {
      many = ap length items ∙ is.many ∙ ap length e ∙ c.loop-i.invariant.many;
      nested = subst AreNested (sym items) is.nested;
      places =
          subst (λ (s : List Span). (j : ℕ) → j < i + 1 → IsIn (span_of s (node_of nodes j)) (place_of ps j).at) (sym items)
          (placed_on n ps order nodes old new i refl c.loop-i-test.true c.loop-i.invariant.many each here
          (λ k l apart. is.others k (subst (λ (s : List Span). length s ≤ 2 * k) (sym e) l) (λ same. apart (same ∙ number))
          ∙ ap (λ (s : List Span). span_of s k) e)
          c.loop-i.invariant.places);
    }

pub returns : goal.returns
returns c = λ bs long.
    let ps = c.args.places.now in
    let n = length ps in
    let order = c.in_ok-order.order.items in
    let nodes = c.in_ok-nodes.nodes.items in
    let each =
    has_nodes n order c.deref.result.now nodes c.deref.ensures.value (order_long n order c.in_ok-order.ensures) c.in_ok-nodes.ensures.nodes in
    let moved = c.in_ok-order.ensures in
    record {
      living_long = long;
      tree = record {
        many = c.loop-i.invariant.many;
        ordered = order_long n order moved;
        each = c.in_ok-nodes.ensures.many ∙ ap length c.deref.ensures.value ∙ order_long n order moved;
        known = order_low n order moved;
        nodes = each;
        nested = c.loop-i.invariant.nested;
      };
      places = λ i l. c.loop-i.invariant.places i (omega (arith, lives_within bs i l, long, c.loop-i-test.false));
    }
