use Rattle.std.proofs.Common.{◌≡◌, ◌∙◌, ℕ, Bool, List, [], length, sym, ap, arith}
use Rattle.std.proofs.lemmas.Result.{IfOk-weaker}
use Rattle.chain_terms.specs.Sums.{upto}
use Rattle.mesh_terms.specs.Meshes.{Triple, renumbered, triples_of}
use Rattle.mesh_check.specs.Reduced.{kept_marks, kept_places, members_at, picked}
use Rattle.mesh_check.proofs.KeptLabels.{length-kept_marks}
use Rattle.mesh_check.proofs.KeptPlaces.{labels_there, triples_there}
use Rattle.mesh_check.proofs.reduction.kept_places.Goals as goal

-- the places with a mark are those of the kept triples
places_are : (ts read : List Triple) (marks : List Bool) (places : List ℕ) → marks ≡ kept_marks read → read ≡ ts → places ≡ picked marks (upto (length marks))
    → places ≡ kept_places ts
places_are ts read marks places known same is =
    let marked : marks ≡ kept_marks ts = known ∙ ap kept_marks same in
    is ∙ ap (λ ms. picked ms (upto (length ms))) marked ∙ ap (λ n. picked (kept_marks ts) (upto n)) (length-kept_marks ts)

pub returns-then-is_plainly_reduced-clause-triples : goal.returns-then-is_plainly_reduced-clause-triples
returns-then-is_plainly_reduced-clause-triples c =
    let m = c.args.mesh.now in
    IfOk-weaker c.places_of_all.result _ _
    (λ places is. triples_there m.points m.triples m.labels ∙ ap (λ ps. renumbered (members_at (0, 0, 0) m.triples ps)) (sym is)) c.places_of_all.ensures

pub returns-then-is_plainly_reduced-clause-labels : goal.returns-then-is_plainly_reduced-clause-labels
returns-then-is_plainly_reduced-clause-labels c =
    let m = c.args.mesh.now in
    IfOk-weaker c.places_of_all.result _ _
    (λ places is. labels_there m.points m.triples m.labels c.labels.ensures.labels.one_each ∙ ap (members_at [] m.labels) (sym is)) c.places_of_all.ensures

pub marked_places-requires : goal.marked_places-requires
marked_places-requires c =
    let ts = triples_of c.triples.result.now in
    let few = c.triples.ensures.accepted.mesh.few_triples in
    omega (arith, ap length c.deref.ensures.value, ap length c.in_ok-marks.ensures, length-kept_marks ts, ap length c.triples.ensures.value, few)

pub returns-clause-places : goal.returns-clause-places
returns-clause-places c =
    IfOk-weaker c.marked_places.result _ _
    (λ places is. places_are c.args.mesh.now.triples (triples_of c.triples.result.now) c.deref.result.now places.items
    (c.deref.ensures.value ∙ c.in_ok-marks.ensures) c.triples.ensures.value is) c.marked_places.ensures

pub returns-clause-triples : goal.returns-clause-triples
returns-clause-triples c =
    let m = c.args.mesh.now in
    IfOk-weaker c.marked_places.result _ _
    (λ places is. triples_there m.points m.triples m.labels ∙ ap (λ ps. renumbered (members_at (0, 0, 0) m.triples ps)) (sym is)) (returns-clause-places c)

pub returns-clause-labels : goal.returns-clause-labels
returns-clause-labels c =
    let m = c.args.mesh.now in
    IfOk-weaker c.marked_places.result _ _
    (λ places is. labels_there m.points m.triples m.labels c.labels.ensures.labels.one_each ∙ ap (members_at [] m.labels) (sym is)) (returns-clause-places c)
