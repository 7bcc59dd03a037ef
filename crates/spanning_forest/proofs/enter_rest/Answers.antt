use Rattle.std.proofs.Common.{arith, ◌≡◌, ◌<◌, ◌+◌, [], length, map, sym, ◌∙◌, ap, subst}
use Rattle.std.specs.List.{All}
use Rattle.std.proofs.lemmas.List.Elements.{All-from_get_or}
use Rattle.chain_terms.specs.Chains.{all_edges}
use Rattle.chain_terms.specs.Sums.{upto}
use Rattle.places_by_key.specs.Buckets.{places_of}
use Rattle.mesh_terms.specs.Meshes.{IsBelow, triples_of}
use Rattle.spanning_forest.specs.Walks.{starts_of}
use Rattle.spanning_forest.proofs.Components.{AreWalked, spanning, walked_component, walked_first, walked_past, walked_same}
use Rattle.spanning_forest.proofs.Marks.{marked_within}
use Rattle.spanning_forest.proofs.Spokes.{edges_below, flat_starts, starts_below}
use Rattle.spanning_forest.proofs.enter_rest.Goals as goal
use Rattle.spanning_forest.proofs.enter_rest.Goals.{then-not-seen-vertex+in_ok-enter_component, else-not-seen-vertex}

pub by_key-requires-clause-below : goal.by_key-requires-clause-below
by_key-requires-clause-below c =
    let triples = c.args.triples.now in
    let es = all_edges (triples_of triples) in
    let three = All-from_get_or (λ t. length t ≡ 3) triples [] c.told-triples in
    let keys : c.as_flattened.result.now ≡ starts_of es = c.as_flattened.ensures.value ∙ flat_starts triples three in
    let n = length c.args.seen.now in
    subst (All (λ k. k < n)) (sym keys) (starts_below n es (edges_below n (triples_of triples) c.requires.accepted.mesh.below))

pub leave_all-requires-clause-spokes : goal.leave_all-requires-clause-spokes
leave_all-requires-clause-spokes c =
    let triples = c.args.triples.now in
    let es = all_edges (triples_of triples) in
    let three = All-from_get_or (λ t. length t ≡ 3) triples [] c.told-triples in
    let keys : c.as_flattened.result.now ≡ starts_of es = c.as_flattened.ensures.value ∙ flat_starts triples three in
    c.in_ok-spokes.ensures ∙ ap (λ l. map (places_of l) (upto (length c.args.seen.now))) keys

pub leave_all-requires-clause-left : goal.leave_all-requires-clause-left
leave_all-requires-clause-left c i b low some = absurd (omega (arith, low))

pub enter_component-requires-clause-spokes : goal.enter_component-requires-clause-spokes
enter_component-requires-clause-spokes c =
    let triples = c.args.triples.now in
    let es = all_edges (triples_of triples) in
    let three = All-from_get_or (λ t. length t ≡ 3) triples [] c.told-triples in
    let keys : c.as_flattened.result.now ≡ starts_of es = c.as_flattened.ensures.value ∙ flat_starts triples three in
    c.in_ok-spokes.ensures ∙ ap (λ l. map (places_of l) (upto (length c.args.seen.now))) keys
    ∙ ap (λ n. map (places_of (starts_of es)) (upto n)) (sym c.loop-vertex.invariant.full)

pub enter_component-requires-clause-below : goal.enter_component-requires-clause-below
enter_component-requires-clause-below c = subst (λ n. All (IsBelow n) (triples_of c.args.triples.now)) (sym c.loop-vertex.invariant.full) c.requires.accepted.mesh.below

pub loop-vertex-init : goal.loop-vertex-init
loop-vertex-init c =
    let es = all_edges (triples_of c.args.triples.now) in
    walked_first es (length c.args.seen.now) c.args.seen.now c.args.entrances.now.items c.leave_all.new.seen c.leave_all.new.entrances.items c.requires.begun
    c.in_ok-leave_all.ensures

pub loop-vertex-preserved : goal.loop-vertex-preserved
loop-vertex-preserved c =
    let es = all_edges (triples_of c.args.triples.now) in
    let n = length c.args.seen.now in
    let v = c.loop-vertex.vertex in
    let seen = c.loop-vertex.seen in
    let entrances = c.loop-vertex.entrances.items in
    elim c.if-not-seen-vertex.branch [
      | then-not-seen-vertex+in_ok-enter_component w ↦
          walked_same es n (v + 1) c.if-not-seen-vertex.seen w.enter_component.new.seen c.if-not-seen-vertex.entrances.items w.enter_component.new.entrances.items w.seen-is
          (ap (λ l. l.items) w.entrances-is)
          (walked_component es n v seen entrances w.enter_component.new.seen w.enter_component.new.entrances.items c.requires.accepted.closed c.loop-vertex.invariant
          w.if-not-seen-vertex.true w.in_ok-enter_component.ensures)
      | else-not-seen-vertex w ↦
          walked_same es n (v + 1) c.if-not-seen-vertex.seen seen c.if-not-seen-vertex.entrances.items entrances w.seen-is (ap (λ l. l.items) w.entrances-is)
          (walked_past es n v seen entrances c.loop-vertex.invariant w.if-not-seen-vertex.false)
    ]

pub returns : goal.returns
returns c =
    let triples = triples_of c.args.triples.now in
    let es = all_edges triples in
    let n = length c.args.seen.now in
    let all : c.loop-vertex.vertex ≡ n
    = omega (
      arith,
      c.loop-vertex-test.false,
      c.loop-vertex.auto.vertex-end,
      c.in_ok-leave_all.ensures.full,
      marked_within c.args.seen.now 0 c.requires.begun.first,
    ) in
    spanning es n c.loop-vertex.seen c.loop-vertex.entrances.items (edges_below n triples c.requires.accepted.mesh.below)
    (subst (λ v. AreWalked es n v c.loop-vertex.seen c.loop-vertex.entrances.items) all c.loop-vertex.invariant)
