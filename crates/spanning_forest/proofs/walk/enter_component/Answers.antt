use Rattle.std.proofs.Common.{arith, ◌≡◌, ◌∷◌, ◌++◌, [], length, map, set, true, refl, sym, ◌∙◌, ap, subst, length-append}
use Rattle.std.specs.List.{All}
use Rattle.std.proofs.lemmas.List.{length-set}
use Rattle.std.proofs.lemmas.Result.{on_ok_weaker}
use Rattle.chain_terms.specs.Chains.{all_edges}
use Rattle.chain_terms.specs.Sums.{upto}
use Rattle.places_by_key.specs.Buckets.{places_of}
use Rattle.mesh_terms.specs.Meshes.{IsBelow, triples_of}
use Rattle.spanning_forest.specs.declared.entrance.Entrance.TheVariants.{Root}
use Rattle.spanning_forest.specs.Walks.{starts_of, AreAllEntered, AreEntered, AreLeft}
use Rattle.spanning_forest.proofs.Entering.{entered_push}
use Rattle.spanning_forest.proofs.Growing.{component_entered, left_before}
use Rattle.spanning_forest.proofs.walk.enter_component.Goals as goal

pub leave_all-requires-clause-spokes : goal.leave_all-requires-clause-spokes
leave_all-requires-clause-spokes c =
    c.requires.spokes ∙ ap (λ n. map (places_of (starts_of (all_edges (triples_of c.args.triples.now)))) (upto n)) (sym (length-set c.args.seen.now c.args.root true))

pub leave_all-requires-clause-below : goal.leave_all-requires-clause-below
leave_all-requires-clause-below c = subst (λ n. All (IsBelow n) (triples_of c.args.triples.now)) (sym (length-set c.args.seen.now c.args.root true)) c.requires.below

pub leave_all-requires-clause-next : goal.leave_all-requires-clause-next
leave_all-requires-clause-next c =
    let before = c.args.entrances.now.items in
    omega (arith, c.len-next.ensures, c.args.entrances.now.ok.0, ap length c.in_ok-push.ensures.items, length-append before (Root c.args.root ∷ []))

pub leave_all-requires-clause-left : goal.leave_all-requires-clause-left
leave_all-requires-clause-left c =
    let es = all_edges (triples_of c.args.triples.now) in
    let root = c.args.root in
    let seen = c.args.seen.now in
    let before = c.args.entrances.now.items in
    let at : length before ≡ c.len-next.result = omega (arith, c.len-next.ensures, c.args.entrances.now.ok.0) in
    subst (λ l. AreLeft es (set seen root true) l c.len-next.result) (sym c.in_ok-push.ensures.items)
    (subst (AreLeft es (set seen root true) (before ++ Root root ∷ [])) at (left_before es root seen before c.requires.entered c.requires.whole))

pub leave_all-requires-clause-entered : goal.leave_all-requires-clause-entered
leave_all-requires-clause-entered c =
    let es = all_edges (triples_of c.args.triples.now) in
    let root = c.args.root in
    let seen = c.args.seen.now in
    let before = c.args.entrances.now.items in
    subst (AreEntered es (set seen root true)) (sym c.in_ok-push.ensures.items)
    (entered_push es seen before (Root root) root c.requires.entered c.requires.unmarked c.requires.root refl tt)

pub returns : goal.returns
returns c =
    let es = all_edges (triples_of c.args.triples.now) in
    let root = c.args.root in
    let seen = c.args.seen.now in
    let new = c.leave_all.new.seen in
    let later = c.leave_all.new.entrances.items in
    on_ok_weaker c.leave_all.result
    (λ a. component_entered es root seen c.args.entrances.now.items new later c.requires.root
    (subst (λ l. AreAllEntered es (set seen root true) l new later) c.in_ok-push.ensures.items a))
    c.leave_all.ensures
