use Rattle.std.proofs.Common.{◌<◌, ◌==◌, ◌≡◌, ◌∙◌, arith, ap, length, subst, sym}
use Rattle.std.specs.List.{All}
use Rattle.sheet_terms.specs.Places.{firsts}
use Rattle.plane_chains.specs.Listed.{first_places, picked}
use Rattle.plane_remesh.proofs.Listing.{faces_made, numbers_few, numbers_low, numbers_triples}
use Rattle.plane_remesh.proofs.plane_work.faces_of.Goals as goal

pub faces_of-numbers-requires-clause-full : goal.faces_of-numbers-requires-clause-full
faces_of-numbers-requires-clause-full c = c.requires.surface.2.buckets

pub rims_of-requires : goal.rims_of-requires
rims_of-requires c =
    let w = c.requires.surface in
    subst (All (λ t. t < length c.args.surface.now.over.triples.items)) (sym c.faces_of-numbers.ensures)
    (numbers_triples w.0 w.1 c.args.surface.now w.2 c.args.plane c.requires.plane)

pub of-requires-clause-below : goal.of-requires-clause-below
of-requires-clause-below c =
    let w = c.requires.surface in
    subst (λ n. All (λ t. t < n) c.faces_of-numbers.result.now) (sym (ap length c.deref.ensures.value ∙ w.2.labelled))
    (subst (All (λ t. t < length w.1)) (sym c.faces_of-numbers.ensures) (numbers_low w.0 w.1 c.args.surface.now w.2 c.args.plane c.requires.plane))

pub of-requires-clause-few : goal.of-requires-clause-few
of-requires-clause-few c =
    let w = c.requires.surface in
    omega (arith, ap length c.faces_of-numbers.ensures, numbers_few w.0 w.1 c.args.surface.now w.2 c.args.plane c.requires.plane)

pub returns : goal.returns
returns c = λ points all is.
    faces_made points all c.args.surface.now is c.args.plane c.requires.plane
    (record { numbers = c.faces_of-numbers.result; fronts = c.deref-2.result; rims = c.in_ok-rims.rims; labels = c.in_ok-labels.labels })
    c.faces_of-numbers.ensures c.deref-2.ensures.value c.in_ok-rims.ensures
    (c.in_ok-labels.ensures.of ∙ ap (λ ls. first_places (picked ls c.faces_of-numbers.result.now)) c.deref.ensures.value)
    (subst (λ ls. picked ls c.in_ok-labels.labels.firsts.items ≡ firsts (λ i j. i == j) (picked ls c.faces_of-numbers.result.now))
    c.deref.ensures.value c.in_ok-labels.ensures.firsts)
    (subst (λ ls. All (λ t. t < length ls) c.in_ok-labels.labels.firsts.items) c.deref.ensures.value c.in_ok-labels.ensures.below)
