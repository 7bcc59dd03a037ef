use Rattle.std.proofs.Common.{ℕ, ◌≡◌, ◌≤◌, ◌+◌, List, Bool, true, [], length, sym, ap, subst, ◌∙◌, arith}
use Rattle.mesh_terms.specs.Meshes.{Triple, triple_of, triples_of}
use Rattle.ring_cutting.specs.Cuts.{triple_at}
use Rattle.ring_cutting.specs.Placed.{vertices_of}
use Rattle.ring_cutting.specs.Left.{lives, left_of, after_of, IsLinked}
use Rattle.ring_cutting.specs.Spans.{HasHulls}
use Rattle.ring_cutting.proofs.Reading.{length-vertices}
use Rattle.ring_cutting.proofs.Choosing.{after_apart}
use Rattle.ring_cutting.proofs.OneCut.{IsCounted, counted_true, counted_false, turned_true, turned_false, triples_more}
use Rattle.ring_cutting.proofs.UnderWay.{IsUnderWay, cut_last, one_unless}
use Rattle.ring_cutting.proofs.LongCuts.{long_begun, way_begun, first_without, long_on, way_on, IsSecond, second_is, left_second}
use Rattle.ring_cutting.proofs.long.cut_long.Goals.{then-next, else-next, then-not-goes_left, else-not-goes_left}
use Rattle.ring_cutting.proofs.long.cut_long.Goals as goal

pub loop-left-init : goal.loop-left-init
loop-left-init c =
    let ps = c.args.places.now in
    let links = c.in_ok-links.links in
    let doubts = c.in_ok-doubts.doubts in
    let long : 3 ≤ length (vertices_of ps) = c.requires.ringy.long in
    let none : c.in_ok-triples.triples.items ≡ [] = c.in_ok-triples.ensures.items in
    record {
      keeps = long_begun ps links.after.items links.before.items links.living.items doubts.doubtful doubts.waiting.items c.requires.ringy
          (omega (arith, long, length-vertices ps)) c.requires.few
          c.in_ok-links.ensures c.in_ok-doubts.ensures.many c.in_ok-doubts.ensures.all c.in_ok-doubts.ensures.only;
      hulls = c.in_ok-hulls.ensures links.living.items c.in_ok-links.ensures.living_long;
      goes = λ at placed.
          subst (λ (ts : List Triple). IsUnderWay at (vertices_of ps) (left_of links.living.items ps) ts 0) (sym (ap triples_of none))
          (way_begun at ps links.after.items links.before.items links.living.items c.in_ok-links.ensures placed);
    }

pub loop-left-preserved : goal.loop-left-preserved
loop-left-preserved c =
    let ps = c.args.places.now in
    let l = c.loop-left in
    let h = l.invariant.keeps in
    let bs = l.links.living.items in
    let new = c.cut_out.new.links in
    let next = c.in_ok-next.next in
    let i = next.place in
    let four : 4 ≤ l.left = omega (arith, c.loop-left-test.true) in
    let here = c.in_ok-next.ensures.next.living in
    let counted : IsCounted l.forced c.if-next.forced next.forced = elim c.if-next.branch as (λ _. IsCounted l.forced c.if-next.forced next.forced) [
      | then-next w ↦ counted_true l.forced c.if-next.forced next.forced w.if-next.true w.forced-is
      | else-next w ↦ counted_false l.forced c.if-next.forced next.forced w.if-next.false w.forced-is
    ] in
    let front =
    first_without ps l.links.after.items l.links.before.items bs l.first i c.first_without-first.result c.first_without-first.ensures
    h.linked (omega (arith, four, h.count)) h.stays h.least in
    record {
      keeps = long_on ps l.links.after.items l.links.before.items new.after.items new.before.items bs new.living.items l.doubts.doubtful
          c.cut_out.new.doubts.doubtful l.doubts.waiting.items c.cut_out.new.doubts.waiting.items
          l.first c.first_without-first.result l.left l.forced c.if-next.forced i next.forced h four here c.in_ok-next.ensures.next.allowed
          c.in_ok-cut_out.ensures.living
          (subst (λ (n : ℕ). IsLinked n new.after.items new.before.items new.living.items) c.in_ok-next.ensures.settled.many
          c.in_ok-cut_out.ensures.linked)
          (c.in_ok-cut_out.ensures.settled ps c.in_ok-next.ensures.settled) front counted;
      hulls = subst (λ (b : List Bool). HasHulls ps b c.forget.new.hulls) (sym c.in_ok-cut_out.ensures.living)
          (c.forget.ensures ps bs l.invariant.hulls);
      goes = λ at placed.
          let way = l.invariant.goes at placed in
          way_on at ps l.links.after.items l.links.before.items bs new.living.items l.doubts.doubtful l.doubts.waiting.items l.first l.left
          l.forced c.if-next.forced i next.forced l.triples.items c.push.new.self.items c.triple_at.result
          h four here c.in_ok-cut_out.ensures.living way
          (record { place = c.in_ok-next.ensures.next.place at way.placed; forced = c.in_ok-next.ensures.next.forced at way.placed })
          c.triple_at.ensures c.in_ok-push.ensures.items counted;
    }

pub returns : goal.returns
returns c = λ at placed.
    let ps = c.args.places.now in
    let l = c.loop-left in
    let links = l.links in
    let bs = links.living.items in
    let rest = left_of bs ps in
    let h = l.invariant.keeps in
    let way = l.invariant.goes at placed in
    let next : IsSecond ps bs (after_of links.after.items l.first) =
    second_is ps links.after.items links.before.items bs l.doubts.doubtful l.doubts.waiting.items l.first l.left l.forced h
    (omega (arith, c.loop-left-test.false))
    (omega (arith, h.ringy.long, length-vertices rest)) in
    let second : IsSecond ps bs c.after-middle.result = subst (IsSecond ps bs) (sym c.after-middle.ensures) next in
    let t : Triple = triple_of c.triple_at-2.result in
    let triple : t ≡ triple_at (vertices_of rest) 1 = c.triple_at-2.ensures ∙ ap (triple_at (vertices_of rest)) second.rank in
    let turns = c.goes_left.ensures ∙ left_second at ps links.after.items links.before.items bs c.after-middle.result way.placed h.linked second in
    let count : c.if-not-goes_left.forced ≡ l.forced + one_unless c.goes_left.result =
    elim c.if-not-goes_left.branch as (λ _. c.if-not-goes_left.forced ≡ l.forced + one_unless c.goes_left.result) [
      | then-not-goes_left w ↦ turned_true l.forced c.if-not-goes_left.forced c.goes_left.result w.if-not-goes_left.true w.forced-is
      | else-not-goes_left w ↦ turned_false l.forced c.if-not-goes_left.forced c.goes_left.result w.if-not-goes_left.false w.forced-is
    ] in
    cut_last at (vertices_of ps) rest (triples_of l.triples.items) (triples_of c.push-2.new.self.items) l.forced c.if-not-goes_left.forced t
    c.goes_left.result
    way second.three triple turns (triples_more l.triples.items c.push-2.new.self.items c.triple_at-2.result c.in_ok-push-2.ensures.items) count

pub cut_out-requires-clause-apart : goal.cut_out-requires-clause-apart
cut_out-requires-clause-apart c =
    let h = c.loop-left.invariant.keeps in
    let links = c.loop-left.links in
    let i = c.in_ok-next.next.place in
    let here = c.in_ok-next.ensures.next.living in
    after_apart c.args.places.now links.living.items i (after_of links.after.items i) h.linked.living_long here (h.linked.goes i here)
    (omega (arith, c.loop-left-test.true, h.count))

pub goes_left-requires-clause-living : goal.goes_left-requires-clause-living
goes_left-requires-clause-living c =
    let h = c.loop-left.invariant.keeps in
    subst (λ (k : ℕ). lives c.loop-left.links.living.items k ≡ true) (sym c.after-middle.ensures) (h.linked.goes c.loop-left.first h.stays).stays

pub choose-requires-clause-first : goal.choose-requires-clause-first
choose-requires-clause-first c =
    let h = c.loop-left.invariant.keeps in
    record { linked = h.linked; ringy = h.ringy; more = omega (arith, c.loop-left-test.true, h.count); stays = h.stays; least = h.least }
