use Rattle.std.proofs.Common.{◌≡◌, ◌<◌, ◌+◌, ℕ, List, [], ◌∷◌, ◌++◌, length, get_or, take, sym, ap, subst, ◌∙◌, arith}
use Rattle.std.proofs.lemmas.List.{take_more, map_push, get_or_default}
use Rattle.std.proofs.lemmas.List.Elements.{All-push}
use Rattle.face_plane.specs.Planes.{Plane, face_plane, flat_at}
use Rattle.ring_cutting.specs.declared.place.Place.{Place}
use Rattle.ring_cutting.specs.Placed.{vertices_of, IsPlaced}
use Rattle.loop_ring.specs.Turning.{turned_to}
use Rattle.loop_ring.proofs.Turning.{length-turned_to}
use Rattle.loop_ring.proofs.Reading.{read_turned, turned_more}
use Rattle.ring_cutting.proofs.place.placed.Goals as goal

-- one place more
vertices_more : (ring : List ℕ) (ps new : List Place) (i : ℕ) (p : Place) → i < length ring → p.vertex ≡ get_or ring i 0 →
    new ≡ ps ++ p ∷ [] → vertices_of ps ≡ take i ring → vertices_of new ≡ take (i + 1) ring
vertices_more ring ps new i p h e more before =
    ap vertices_of more ∙ map_push (λ (q : Place). q.vertex) ps p ∙ ap (λ l. l ++ p.vertex ∷ []) before ∙ ap (λ v. take i ring ++ v ∷ []) e
    ∙ sym (take_more ring i 0 h)

placed_more : (at : Plane) (ps new : List Place) (p : Place) → p.at ≡ at p.vertex → new ≡ ps ++ p ∷ [] → IsPlaced at ps → IsPlaced at new
placed_more at ps new p e more before = subst (IsPlaced at) (sym more) (All-push (λ (q : Place). q.at ≡ at q.vertex) ps p before e)

pub loop-preserved : goal.loop-preserved
loop-preserved c =
    let ring = c.args.ring in
    let points = c.args.points.now in
    let k = c.loop.counter in
    let v = c.get-vertex.result in
    let p : Place = record { vertex = v; at = c.flat-at.result } in
    let count = c.len-end.ensures.count in
    let less = c.loop-test.true in
    let same = c.loop.invariant.ring in
    let within : k < length ring = omega (arith, length-turned_to k ring, ap length same) in
    let read : v ≡ get_or ring k 0 = c.get-vertex.ensures ∙ ap (λ r. get_or r 0 0) same ∙ read_turned k ring within in
    let low : v < length points = subst (λ n. n < length points) (sym read) (c.requires k 0 within) in
    let more : c.push.new.self.items ≡ c.loop.places.items ++ p ∷ [] = c.in_ok-push.ensures.items in
    let flat : p.at ≡ face_plane c.args.plane.drop c.args.turned points v =
    c.flat-at.ensures
    ∙ ap (flat_at c.args.plane.drop c.args.turned) (c.index-points-vertex.is ∙ get_or_default points v c.index-points-vertex.result [] low) in
    record {
      vertices = vertices_more ring c.loop.places.items c.push.new.self.items k p within read more c.loop.invariant.vertices;
      at = placed_more (face_plane c.args.plane.drop c.args.turned points) c.loop.places.items c.push.new.self.items p flat more c.loop.invariant.at;
      ring = c.step.ensures ∙ ap (turned_to 1) same ∙ turned_more k ring within;
    }
