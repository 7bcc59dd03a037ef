use Rattle.std.proofs.Common.{◌≡◌, ◌+◌, ℕ, List, [], ◌∷◌, ◌++◌, sym, ap, ◌∙◌, take, drop, append_assoc}
use Rattle.std.proofs.lemmas.Iterator.{items_from_drains}
use Rattle.std.proofs.lemmas.List.{map-id}
use Rattle.std.proofs.lemmas.Iterator.Adapters.{YieldsList-from_vec}
use Rattle.face_plane.specs.Rings.{vertex_at}
use Rattle.hole_joining.specs.Bridges.{join}
use Rattle.hole_joining.proofs.places.Places.join.Goals as goal

-- what was put between the two parts
joined_parts : (old xs all hole none front new : List ℕ) (place start end : ℕ) → none ≡ [] → front ≡ none ++ hole →
    all ≡ front ++ start ∷ end ∷ [] → xs ≡ all → start ≡ vertex_at hole 0 → end ≡ vertex_at old place →
    new ≡ take (place + 1) old ++ (xs ++ drop (place + 1) old) → new ≡ join old place hole
joined_parts old xs all hole none front new place start end e f g same s t h =
    let made : xs ≡ hole ++ vertex_at hole 0 ∷ vertex_at old place ∷ [] =
    same ∙ g ∙ ap (λ l. l ++ start ∷ end ∷ []) (f ∙ ap (λ l. l ++ hole) e) ∙ (λ j. hole ++ s j ∷ t j ∷ []) in
    let front = take (place + 1) old in
    let back = drop (place + 1) old in
    let two = vertex_at hole 0 ∷ vertex_at old place ∷ [] in
    h ∙ ap (λ l. front ++ (l ++ back)) made ∙ sym (append_assoc front (hole ++ two) back) ∙ ap (λ l. l ++ back) (sym (append_assoc front hole two))

pub returns : goal.returns
returns c =
    let old : List ℕ = c.self.inside.places.items in
    let r = c.in_ok-splice.ensures.items in
    let gives = r.2 in
    let runs = r.3 in
    let all : List ℕ = c.extend_from_slice-2.new.self.items in
    let same : r.1 ≡ all =
    sym (map-id r.1)
    ∙ items_from_drains r.1 (runs.1.0, runs.1.1, λ _. (runs.0, runs.1.2))
    (YieldsList-from_vec all gives.0 (gives.1 ∙ c.extend_from_slice-2.new.self.ok.0)) in
    joined_parts old r.1 all c.args.hole.now c.in_ok-added.added.items c.extend_from_slice.new.self.items c.splice.new.self.items
    c.args.place c.vertex_at-start.result c.vertex_at-end.result
    c.in_ok-added.ensures.items c.in_ok-extend_from_slice.ensures.items c.in_ok-extend_from_slice-2.ensures.items same
    c.vertex_at-start.ensures (c.vertex_at-end.ensures ∙ ap (λ l. vertex_at l c.args.place) c.deref.ensures.value) r.4
    ∙ ap (λ l. join l c.args.place c.args.hole.now) c.self.view_is
