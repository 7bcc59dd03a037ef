use Rattle.std.proofs.Common.{◌≡◌, ◌∙◌, ◌+◌, ◌<◌, ap, length, subst, sym}
use Rattle.std.specs.List.{All}
use Rattle.std.proofs.lemmas.List.{length-map}
use Rattle.chain_terms.specs.Sums.{upto}
use Rattle.chain_laws.proofs.Places.{length-up_from}
use Rattle.mesh_terms.specs.Meshes.{triples_of}
use Rattle.places_by_key.specs.Buckets.{places_of}
use Rattle.plane_groups.specs.Numbers.{keys_of}
use Rattle.plane_groups.proofs.Grouping.{numbers_below, planes_are}
use Rattle.plane_groups.proofs.planes.planes_of.Goals as goal

pub by_key-requires-clause-below : goal.by_key-requires-clause-below
by_key-requires-clause-below c =
    let points = c.args.points.now in
    let ts = triples_of c.args.triples.now in
    let count : c.len-count.result ≡ length (keys_of points ts) = c.len-count.ensures.len ∙ ap length c.in_ok-seen.ensures.keys in
    subst (λ m. All (λ v. v < m + 1) c.deref.result.now) (sym count) (numbers_below points ts c.deref.result.now (c.deref.ensures.value ∙ c.in_ok-seen.ensures.of))

pub returns-clause-full : goal.returns-clause-full
returns-clause-full c =
    let n = c.len-count.result + 1 in
    ap length c.in_ok-faces.ensures ∙ length-map (upto n) (places_of c.deref.result.now) ∙ length-up_from 0 n

pub returns-clause-planes : goal.returns-clause-planes
returns-clause-planes c = λ all e.
    let points = c.args.points.now in
    let ts = triples_of c.args.triples.now in
    planes_are points all ts _ c.deref.result.now e (c.len-count.ensures.len ∙ ap length c.in_ok-seen.ensures.keys) (c.deref.ensures.value ∙ c.in_ok-seen.ensures.of)
    c.in_ok-seen.ensures.fronts c.in_ok-faces.ensures
