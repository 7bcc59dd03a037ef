use Rattle.std.proofs.Common.{◌≡◌, ℕ, List, [], get_or, sym, ap, ◌∙◌}
use Rattle.std.proofs.lemmas.List.{get_or_default}
use Rattle.face_plane.specs.Planes.{squared_distance}
use Rattle.hole_joining.specs.Seen.{plane_at, start_of, clear_of}
use Rattle.hole_joining.specs.Passes.{passes}
use Rattle.hole_joining.proofs.Choice.{from_bound}
use Rattle.hole_joining.proofs.joining.Joining.bound_at.Goals as goal

pub returns-then-improves : goal.returns-then-improves
returns-then-improves c =
    let j = c.args.self.now in
    let at = plane_at j.flat in
    let k = c.args.place in
    let items : List ℕ = get_or j.rings.now c.args.ring [] in
    let read : c.places.inside.places.items ≡ items =
    c.places.view_is ∙ c.index-rings-ring.is ∙ get_or_default j.rings.now c.args.ring c.index-rings-ring.result [] c.requires.ring in
    let here : c.index.result.now ≡ get_or items k 0 =
    c.index.ensures ∙ ap (λ l. get_or l k c.index.result.now) read ∙ get_or_default items k c.index.result.now 0 c.requires.place in
    let far =
    c.squared_distance-squared_length.ensures
    ∙ ap (λ x. squared_distance x c.at.result) (c.at-start.ensures ∙ ap at c.vertex_at.ensures)
    ∙ ap (squared_distance (at (start_of j))) (c.at.ensures ∙ ap at here) in
    from_bound at (start_of j) c.args.ring k c.squared_distance-squared_length.result (passes (clear_of j) c.args.asks c.args.refused) c.args.best items
    c.requires.place far (sym c.improves.ensures ∙ c.if-improves.true)
