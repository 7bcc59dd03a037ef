use Rattle.std.proofs.Common.{◌≡◌, ◌<◌, ℕ, List, [], length, get_or, subst, sym, ap, ◌∙◌, arith}
use Rattle.std.specs.List.{All}
use Rattle.chain_terms.specs.Chains.{all_edges}
use Rattle.mesh_terms.specs.Meshes.{triples_of}
use Rattle.places_by_key.specs.Buckets.{places_of}
use Rattle.places_by_key.proofs.Upto.{get_or-map-upto, length-map-upto}
use Rattle.angle_pairing.proofs.Lists.{edge_count, starts_low, starts_many}
use Rattle.angle_pairing.proofs.Numbering.{own_below, own_more}
use Rattle.angle_pairing.proofs.fans.own_leaders.Goals as goal

pub by_key-requires-clause-below : goal.by_key-requires-clause-below
by_key-requires-clause-below c =
    starts_low c.args.places (triples_of c.args.triples.now) c.requires.below c.deref.result.now (c.deref.ensures.value ∙ c.in_ok-starts.ensures)

pub by_key-requires-clause-few : goal.by_key-requires-clause-few
by_key-requires-clause-few c =
    let many = starts_many (triples_of c.args.triples.now) c.deref.result.now (c.deref.ensures.value ∙ c.in_ok-starts.ensures) in
    omega (arith, many, edge_count c.args.triples.now, c.requires.few)

pub bucket-requires : goal.bucket-requires
bucket-requires c =
    let many : length c.in_ok-groups.groups ≡ c.args.places = ap length c.in_ok-groups.ensures ∙ length-map-upto (places_of c.deref.result.now) c.args.places in
    omega (arith, many, c.loop-place-test.true)

pub push_own-requires : goal.push_own-requires
push_own-requires c =
    let v = c.loop-place.place in
    let starts = c.deref.result.now in
    let is = c.bucket.ensures ∙ ap (λ (l : List (List ℕ)). get_or l v []) c.in_ok-groups.ensures ∙ get_or-map-upto (places_of starts) c.args.places v [] c.loop-place-test.true in
    let all = own_below (all_edges (triples_of c.args.triples.now)) c.args.leaders.now starts (c.deref.ensures.value ∙ c.in_ok-starts.ensures) v in
    let count : length (all_edges (triples_of c.args.triples.now)) ≡ length c.args.leaders.now = edge_count c.args.triples.now ∙ sym c.requires.full in
    subst (All (λ h. h < length c.args.leaders.now)) (sym is) (subst (λ n. All (λ h. h < n) (places_of starts v)) count all)

pub loop-place-preserved : goal.loop-place-preserved
loop-place-preserved c =
    let v = c.loop-place.place in
    let starts = c.deref.result.now in
    let is = c.bucket.ensures ∙ ap (λ (l : List (List ℕ)). get_or l v []) c.in_ok-groups.ensures ∙ get_or-map-upto (places_of starts) c.args.places v [] c.loop-place-test.true in
    own_more (all_edges (triples_of c.args.triples.now)) c.args.leaders.now starts (c.deref.ensures.value ∙ c.in_ok-starts.ensures) v c.bucket.result.now
    c.loop-place.firsts.items c.push_own.new.firsts.items is c.loop-place.invariant c.in_ok-push_own.ensures
