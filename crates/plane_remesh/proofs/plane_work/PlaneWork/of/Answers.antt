use Rattle.std.proofs.Common.{List, ap, length, refl, subst, sym, ◌<◌, ◌≡◌, ◌∙◌, ℤ}
use Rattle.std.specs.List.{All}
use Rattle.face_plane.specs.Planes.{Plane, face_plane}
use Rattle.plane_chains.specs.Tellings.{IsTold}
use Rattle.sheet_terms.specs.Kept.{free}
use Rattle.plane_remesh.specs.Surfaces.{own_at, plane_at}
use Rattle.plan_laws.specs.Views.{front_seen}
use Rattle.plane_remesh.proofs.Listing.{own_rises, plane_some}
use Rattle.plane_remesh.proofs.Telling.{labels_many, listed, numbers_fronts, numbers_many, rims_many, seen_front}
use Rattle.plane_remesh.proofs.plane_work.PlaneWork.of.Goals as goal

pub tell-requires-clause-places : goal.tell-requires-clause-places
tell-requires-clause-places c =
    let w = c.requires.surface in
    subst (λ ps. All (λ rim. All (λ v. v < length ps) rim) c.in_ok-faces.faces.rims.0) (sym (c.seen.ensures.points ∙ c.deref.ensures.value ∙ w.2.stored))
    (c.in_ok-faces.ensures w.0 w.1 w.2).places

pub tell-requires-clause-numbers : goal.tell-requires-clause-numbers
tell-requires-clause-numbers c =
    let w = c.requires.surface in
    numbers_many w.0 w.1 (own_at w.0 w.1 c.args.plane) (plane_at w.0 w.1 c.args.plane) c.in_ok-faces.faces (c.in_ok-faces.ensures w.0 w.1 w.2) refl
    (plane_some w.0 w.1 c.args.surface.now w.2 c.args.plane c.requires.plane)

pub tell-requires-clause-labels : goal.tell-requires-clause-labels
tell-requires-clause-labels c =
    let w = c.requires.surface in
    labels_many w.0 w.1 (own_at w.0 w.1 c.args.plane) (plane_at w.0 w.1 c.args.plane) c.in_ok-faces.faces (c.in_ok-faces.ensures w.0 w.1 w.2) refl
    (plane_some w.0 w.1 c.args.surface.now w.2 c.args.plane c.requires.plane)

pub tell-requires-clause-fronts : goal.tell-requires-clause-fronts
tell-requires-clause-fronts c =
    let w = c.requires.surface in
    numbers_fronts w.0 w.1 (own_at w.0 w.1 c.args.plane) (plane_at w.0 w.1 c.args.plane) c.in_ok-faces.faces (c.in_ok-faces.ensures w.0 w.1 w.2) refl
    (plane_some w.0 w.1 c.args.surface.now w.2 c.args.plane c.requires.plane)

pub returns : goal.returns
returns c = λ points all is.
    let u = c.args.surface.now in
    let k = c.args.plane in
    let own = own_at points all k in
    let s = plane_at points all k in
    let faces = c.in_ok-faces.ensures points all is in
    let some = plane_some points all u is k c.requires.plane in
    let sees = c.view-view.ensures points all is in
    let stored = c.deref.ensures.value ∙ is.stored in
    let now = c.seen.ensures.points ∙ stored in
    let t = c.in_ok-told.told in
    let at = face_plane c.seen.result.plane.drop c.seen.result.turned c.seen.result.points.now in
    let same : at ≡ front_seen points s =
    seen_front points c.seen.result.points.now s c.view-view.result c.seen.result.turned
    c.seen.result.plane.drop sees (ap (λ p. p.drop) c.seen.ensures.plane) c.seen.ensures.turned now in
    let list = listed points all own s c.in_ok-faces.faces faces refl some at same (own_rises points all u is k c.requires.plane) in
    record {
      faces = faces;
      are = refl;
      some = some;
      stored = c.deref-2.ensures.value ∙ is.stored;
      view = sees;
      told = subst (λ (q : List (List ℤ) × Plane). IsTold q.0 q.1 own t.points.items t.kept.items t.chain.edges.items t.chain.nets.0) (λ i. (now i, same i))
          (c.in_ok-told.ensures.told own list);
      free = c.in_ok-told.ensures.free own list ∙ ap (λ p. length (free p own)) same;
      kept = subst (λ n. All (λ i. i < n) t.kept.items) (rims_many points all own s c.in_ok-faces.faces faces refl some) c.in_ok-told.ensures.below;
      few = c.in_ok-told.ensures.few;
      places = subst (λ ps. All (λ e. All (λ v. v < length ps) e) t.chain.edges.items) now c.in_ok-told.ensures.places;
      nets = c.in_ok-told.ensures.full;
      small = c.in_ok-told.ensures.small;
    }
