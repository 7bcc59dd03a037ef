use Rattle.std.proofs.Common.{◌≡◌, ◌<◌, ◌≤◌, ℕ, length, get_or, map, refl, subst, sym, ap, ◌∙◌, arith}
use Rattle.std.specs.List.{All}
use Rattle.std.proofs.lemmas.List.{get_or_read, take_all}
use Rattle.chain_terms.specs.Chains.{all_edges}
use Rattle.mesh_terms.specs.Meshes.{triples_of}
use Rattle.sheet_terms.specs.Vertices.{fan_list, leaders}
use Rattle.fan_laws.proofs.Leaders.{leader, leader_below, leader_read, length-leaders}
use Rattle.angle_pairing.specs.Numbers.{AreDifferent, AreNumbered}
use Rattle.angle_pairing.proofs.Lists.{edge_count, map_step}
use Rattle.angle_pairing.proofs.Numbering.{firsts_below, firsts_differ, firsts_few, numbers_are}
use Rattle.angle_pairing.proofs.fans.fans_by.Goals as goal

pub leaders-requires-clause-few : goal.leaders-requires-clause-few
leaders-requires-clause-few c = omega (arith, c.requires.twins.full, edge_count c.args.triples.now, c.requires.few)

pub own_leaders-requires-clause-full : goal.own_leaders-requires-clause-full
own_leaders-requires-clause-full c =
    ap length (c.deref.ensures.value ∙ c.in_ok-leaders.ensures) ∙ length-leaders c.args.twins.now ∙ c.requires.twins.full ∙ edge_count c.args.triples.now

-- the list of all fans
fans_are : (c : goal.After-deref-2) → c.deref-2.result.now ≡ fan_list c.args.places (all_edges (triples_of c.args.triples.now)) (leaders c.args.twins.now)
fans_are c =
    c.deref-2.ensures.value ∙ c.in_ok-firsts.ensures ∙ ap (fan_list c.args.places (all_edges (triples_of c.args.triples.now))) (c.deref.ensures.value ∙ c.in_ok-leaders.ensures)

-- as many leaders as half-edges
many_leaders : (c : goal.After-deref-2) → c.len.result ≡ length c.args.twins.now
many_leaders c = c.len.ensures ∙ c.in_ok-leaders.leaders.ok.0 ∙ ap length c.in_ok-leaders.ensures ∙ length-leaders c.args.twins.now

pub places_in-requires-clause-below : goal.places_in-requires-clause-below
places_in-requires-clause-below c =
    let ts = triples_of c.args.triples.now in
    let first = fan_list c.args.places (all_edges ts) (leaders c.args.twins.now) in
    subst (All (λ h. h < c.len.result)) (sym (fans_are c))
    (subst (λ m. All (λ h. h < m) first) (sym (many_leaders c)) (firsts_below c.args.places ts c.requires.below c.args.twins.now c.requires.twins))

pub places_in-requires-clause-differ : goal.places_in-requires-clause-differ
places_in-requires-clause-differ c =
    subst AreDifferent (sym (fans_are c)) (firsts_differ c.args.places (triples_of c.args.triples.now) c.requires.below c.args.twins.now c.requires.twins)

pub places_in-requires-clause-few : goal.places_in-requires-clause-few
places_in-requires-clause-few c =
    let many = ap length (fans_are c) in
    omega (
      arith,
      many,
      firsts_few c.args.places (triples_of c.args.triples.now) c.requires.below c.args.twins.now c.requires.twins,
      c.requires.twins.full,
      edge_count c.args.triples.now,
      c.requires.few,
    )

pub index-requires : goal.index-requires
index-requires c =
    let twins = c.args.twins.now in
    let i = c.loop-leader.leader-index in
    let items = c.loop-leader.invariant.items in
    let many : length c.deref-leader-items.result.now ≡ length twins = ap length items ∙ length-leaders twins in
    let low : i < length twins = omega (arith, many, c.loop-leader-test.true) in
    let here : get_or c.deref-leader-items.result.now i 0 ≡ leader twins i = ap (λ l. get_or l i 0) items ∙ leader_read twins i low in
    let count : c.len.result ≡ length twins = c.len.ensures ∙ c.in_ok-leaders.leaders.ok.0 ∙ ap length c.in_ok-leaders.ensures ∙ length-leaders twins in
    omega (arith, here, leader_below twins c.requires.twins.are i low, c.in_ok-numbers.numbers.ok.0, c.in_ok-numbers.ensures.full, count)

pub loop-leader-preserved : goal.loop-leader-preserved
loop-leader-preserved c =
    let twins = c.args.twins.now in
    let i = c.loop-leader.leader-index in
    let items = c.loop-leader.invariant.items in
    let numbers = c.in_ok-numbers.numbers.items in
    let many : length c.deref-leader-items.result.now ≡ length twins = ap length items ∙ length-leaders twins in
    let low : i < length twins = omega (arith, many, c.loop-leader-test.true) in
    let x : ℕ = get_or c.deref-leader-items.result.now i 0 in
    let here : x ≡ leader twins i = ap (λ l. get_or l i 0) items ∙ leader_read twins i low in
    let count : c.len.result ≡ length twins = c.len.ensures ∙ c.in_ok-leaders.leaders.ok.0 ∙ ap length c.in_ok-leaders.ensures ∙ length-leaders twins in
    let x_low : x < length numbers = omega (arith, here, leader_below twins c.requires.twins.are i low, c.in_ok-numbers.ensures.full, count) in
    record {
      items = items;
      of = map_step (λ n. get_or numbers n 0) c.deref-leader-items.result.now i x c.index.result.now c.loop-leader.of.items c.push.new.self.items
          (omega (arith, many, low)) refl c.loop-leader.invariant.of c.in_ok-push.ensures.items (get_or_read numbers x c.index.result.now x_low c.index.ensures 0);
    }

pub returns-clause-of : goal.returns-clause-of
returns-clause-of c =
    let twins = c.args.twins.now in
    let ts = triples_of c.args.triples.now in
    let numbers = c.in_ok-numbers.numbers.items in
    let first = fan_list c.args.places (all_edges ts) (leaders twins) in
    let fans : c.deref-2.result.now ≡ first =
    c.deref-2.ensures.value ∙ c.in_ok-firsts.ensures ∙ ap (fan_list c.args.places (all_edges ts)) (c.deref.ensures.value ∙ c.in_ok-leaders.ensures) in
    let count : c.len.result ≡ length twins = c.len.ensures ∙ c.in_ok-leaders.leaders.ok.0 ∙ ap length c.in_ok-leaders.ensures ∙ length-leaders twins in
    let are : AreNumbered (length twins) numbers first = subst (AreNumbered (length twins) numbers) fans
    (subst (λ n. AreNumbered n numbers c.deref-2.result.now) count c.in_ok-numbers.ensures) in
    let end : length c.deref-leader-items.result.now ≤ c.loop-leader.leader-index = omega (arith, c.loop-leader-test.false) in
    c.loop-leader.invariant.of ∙ ap (map (λ n. get_or numbers n 0)) (take_all c.loop-leader.leader-index c.deref-leader-items.result.now end ∙ c.loop-leader.invariant.items)
    ∙ numbers_are c.args.places ts c.requires.below twins c.requires.twins numbers are
