use Rattle.std.proofs.Common.{◌≡◌, ◌+◌, ◌<◌, ◌≤◌, List, [], true, Bool, length, sym, ap, subst, ◌∙◌, arith}
use Rattle.std.specs.List.{remove}
use Rattle.std.proofs.lemmas.List.Edits.{length-remove}
use Rattle.mesh_terms.specs.Meshes.{Triple, triple_of, triples_of}
use Rattle.std.specs.Prelude.{int_lt, pos}
use Rattle.face_plane.specs.Planes.{Plane, orient}
use Rattle.face_plane.specs.Rings.{vertex_at, vertex_before, vertex_after}
use Rattle.ring_cutting.specs.declared.place.Place.{Place}
use Rattle.ring_cutting.specs.Cuts.{is_allowed, triple_at}
use Rattle.ring_cutting.specs.Placed.{vertices_of, IsPlaced}
use Rattle.ring_cutting.proofs.Reading.{length-vertices}
use Rattle.ring_cutting.proofs.OneCut.{still_ringy, triples_more, IsCounted, counted_true, counted_false, counted_most}
use Rattle.ring_cutting.proofs.OneCut.{turned_true, turned_false, Chosen, moved}
use Rattle.ring_cutting.proofs.UnderWay.{IsUnderWay, begun, cut_last, one_unless}
use Rattle.ring_cutting.proofs.cutting.cut_down.Goals.{then-next, else-next, then-not-turns_left, else-not-turns_left}
use Rattle.ring_cutting.proofs.cutting.cut_down.Goals as goal

pub loop-places-init : goal.loop-places-init
loop-places-init c = record {
  ringy = c.requires.ringy;
  few = omega (arith, c.requires.few);
  goes = λ at placed.
      let none : c.in_ok-triples.triples.items ≡ [] = c.in_ok-triples.ensures.items in
      subst (λ (ts : List Triple). IsUnderWay at (vertices_of c.args.places.items) c.args.places.items ts 0) (sym (ap triples_of none))
      (begun at c.args.places.items placed);
}

pub loop-places-preserved : goal.loop-places-preserved
loop-places-preserved c =
    let ps = c.loop-places.places.items in
    let new = c.remove.new.self.items in
    let next = c.choose-next.result in
    let same : c.deref.result.now ≡ ps = c.deref.ensures.value in
    let again : c.deref-in-loop-places.result.now ≡ ps = c.deref-in-loop-places.ensures.value in
    let four : 4 ≤ length ps = omega (arith, c.loop-places-test.true) in
    let within : next.place < length ps = omega (arith, c.choose-next.ensures.within, ap length same) in
    let allowed : is_allowed (vertices_of ps) next.place ≡ true =
    ap (λ (qs : List Place). is_allowed (vertices_of qs) next.place) (sym same) ∙ c.choose-next.ensures.allowed in
    let is : new ≡ remove ps next.place = c.remove.ensures.items in
    let counted : IsCounted c.loop-places.forced c.if-next.forced next.forced =
    elim c.if-next.branch as (λ _. IsCounted c.loop-places.forced c.if-next.forced next.forced) [
      | then-next w ↦ counted_true c.loop-places.forced c.if-next.forced next.forced w.if-next.true w.forced-is
      | else-next w ↦ counted_false c.loop-places.forced c.if-next.forced next.forced w.if-next.false w.forced-is
    ] in
    record {
      ringy = still_ringy ps new next.place c.loop-places.invariant.ringy four within allowed is;
      few = omega (
        arith,
        c.loop-places.invariant.few,
        counted_most c.loop-places.forced c.if-next.forced next.forced counted,
        ap length is,
        length-remove ps next.place within,
      );
      goes = λ at placed.
          let h = c.loop-places.invariant.goes at placed in
          let here : IsPlaced at c.deref.result.now = subst (IsPlaced at) (sym same) h.placed in
          let t : Triple = triple_of c.triple_at.result in
          let triple : t ≡ triple_at (vertices_of ps) next.place =
          c.triple_at.ensures ∙ ap (λ (qs : List Place). triple_at (vertices_of qs) next.place) again in
          let place = c.choose-next.ensures.place at here in
          let forced = c.choose-next.ensures.forced at here in
          moved at (vertices_of c.args.places.items) ps new next.place next.forced c.loop-places.triples.items c.push.new.self.items
          c.triple_at.result c.loop-places.forced c.if-next.forced
          h four within (subst (λ (qs : List Place). Chosen at qs next.place next.forced) same (record { place = place; forced = forced }))
          triple is c.in_ok-push.ensures.items counted;
    }

-- whether the second of three places and its neighbours turn left
abbrev left_of_places : Plane → List Place → Bool
left_of_places at ps = int_lt (pos 0) (orient at (vertex_before (vertices_of ps) 1) (vertex_at (vertices_of ps) 1) (vertex_after (vertices_of ps) 1))

pub returns : goal.returns
returns c = λ at placed.
    let ps = c.loop-places.places.items in
    let h = c.loop-places.invariant.goes at placed in
    let same : c.deref-2.result.now ≡ ps = c.deref-2.ensures.value in
    let again : c.deref-3.result.now ≡ ps = c.deref-3.ensures.value in
    let long : 3 ≤ length (vertices_of ps) = c.loop-places.invariant.ringy.long in
    let three : length ps ≡ 3 = omega (arith, c.loop-places-test.false, long, length-vertices ps) in
    let t : Triple = triple_of c.triple_at-2.result in
    let triple : t ≡ triple_at (vertices_of ps) 1 = c.triple_at-2.ensures ∙ ap (λ (qs : List Place). triple_at (vertices_of qs) 1) same in
    let turns : c.turns_left.result ≡ left_of_places at ps =
    subst (λ (qs : List Place). IsPlaced at qs → c.turns_left.result ≡ left_of_places at qs) again (c.turns_left.ensures at) h.placed in
    let count : c.if-not-turns_left.forced ≡ c.loop-places.forced + one_unless c.turns_left.result =
    elim c.if-not-turns_left.branch as (λ _. c.if-not-turns_left.forced ≡ c.loop-places.forced + one_unless c.turns_left.result) [
      | then-not-turns_left w ↦ turned_true c.loop-places.forced c.if-not-turns_left.forced c.turns_left.result w.if-not-turns_left.true w.forced-is
      | else-not-turns_left w ↦ turned_false c.loop-places.forced c.if-not-turns_left.forced c.turns_left.result w.if-not-turns_left.false w.forced-is
    ] in
    cut_last at (vertices_of c.args.places.items) ps (triples_of c.loop-places.triples.items) (triples_of c.push-2.new.self.items)
    c.loop-places.forced c.if-not-turns_left.forced t c.turns_left.result
    h three triple turns (triples_more c.loop-places.triples.items c.push-2.new.self.items c.triple_at-2.result c.in_ok-push-2.ensures.items) count
