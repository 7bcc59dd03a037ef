use Rattle.std.proofs.Common.{ap, arith, length, map, replicate, sym, true, vec_len, ◌==◌, ◌≡◌, ◌∙◌, ℕ}
use Rattle.std.specs.List.{list_any}
use Rattle.std.proofs.lemmas.Bool.{eqb-true}
use Rattle.std.proofs.lemmas.List.{length-map, length-replicate}
use Rattle.face_plane.specs.Planes.{face_plane}
use Rattle.sheet_terms.specs.Chains.{same_edge}
use Rattle.sheet_terms.specs.Faces.{Face}
use Rattle.plane_chains.specs.EdgeBoxes.{pair_of}
use Rattle.plane_chains.specs.Listed.{chosen}
use Rattle.plane_chains.specs.Pairs.{edge_at}
use Rattle.plane_chains.proofs.Freeing.{way_begun, way_ended, way_more, way_stopped}
use Rattle.plane_chains.proofs.ToldWebs.{web_crossed, web_none}
use Rattle.plane_chains.proofs.WebPairs.{nothing_of, unmarked_long, web_firsts}
use Rattle.plane_chains.proofs.telling.freed.Goals as goal

pub loop-round-init : goal.loop-round-init
loop-round-init c =
    let at = face_plane c.args.flat.plane.drop c.args.flat.turned c.args.flat.points.now in
    record {
      web = c.requires.web;
      way = λ fs same labels.
          way_begun at fs c.args.marks.now (c.requires.marks ∙ ap (λ n. replicate n true) (ap length same ∙ length-map fs (λ (f : Face). f.rim)));
    }

pub returns-then-is_empty-clause-free : goal.returns-then-is_empty-clause-free
returns-then-is_empty-clause-free c = λ fs same labels.
    let at = face_plane c.args.flat.plane.drop c.args.flat.turned c.args.flat.points.now in
    let none : (vec_len c.loop-round.web.pairs == 0) ≡ true = sym c.is_empty.ensures ∙ c.if-is_empty.true in
    way_stopped at fs c.loop-round.marks c.loop-round._round (c.loop-round.invariant.way fs same labels)
    (omega (arith, c.loop-round-test.true, ap length same, length-map fs (λ (f : Face). f.rim)))
    (web_none at fs c.args.faces.now.rims.0 c.args.faces.now.labels.of.items same labels c.loop-round.marks c.loop-round.web c.loop-round.invariant.web
    (nothing_of c.loop-round.web.pairs.items (omega (arith, eqb-true (vec_len c.loop-round.web.pairs) 0 none, c.loop-round.web.pairs.ok.0))))

pub crossed_edges-requires : goal.crossed_edges-requires
crossed_edges-requires c =
    let at = face_plane c.args.flat.plane.drop c.args.flat.turned c.args.flat.points.now in
    web_firsts at c.args.faces.now.rims.0 c.args.faces.now.labels.of.items c.loop-round.marks c.loop-round.web c.loop-round.invariant.web c.deref.result.now
    c.deref-in-loop-round.result.now c.deref.ensures.value c.deref-in-loop-round.ensures.value

pub unmark-requires : goal.unmark-requires
unmark-requires c = omega (arith, ap length c.requires.marks, length-replicate (length c.args.faces.now.rims.0) true, c.loop-round.auto.marks)

pub of-requires-clause-marks : goal.of-requires-clause-marks
of-requires-clause-marks c = ap length c.unmark.ensures ∙ unmarked_long c.args.faces.now.rims.0 c.in_ok-crossed.crossed.keys c.loop-round.marks

pub loop-round-preserved : goal.loop-round-preserved
loop-round-preserved c =
    let at = face_plane c.args.flat.plane.drop c.args.flat.turned c.args.flat.points.now in
    record {
      web = c.in_ok-web.ensures;
      way = λ fs same labels.
          way_more at fs c.loop-round.marks c.unmark.new.marks c.loop-round._round (c.loop-round.invariant.way fs same labels)
          (ap (λ ms. chosen ms fs) c.unmark.ensures
          ∙ web_crossed at fs c.args.faces.now.rims.0 c.args.faces.now.labels.of.items same labels c.loop-round.marks c.loop-round.web c.in_ok-crossed.crossed.keys
          c.loop-round.invariant.web
          (λ e. c.in_ok-crossed.ensures e
          ∙ (λ j. list_any (λ (p : ℕ × ℕ). same_edge e (edge_at (map pair_of (c.deref.ensures.value j)) p.0)) (map pair_of (c.deref-in-loop-round.ensures.value j)))));
    }

pub returns-clause-free : goal.returns-clause-free
returns-clause-free c = λ fs same labels.
    let at = face_plane c.args.flat.plane.drop c.args.flat.turned c.args.flat.points.now in
    way_ended at fs c.loop-round.marks c.loop-round._round (c.loop-round.invariant.way fs same labels)
    (omega (arith, c.loop-round-test.false, ap length same, length-map fs (λ (f : Face). f.rim)))
    (omega (arith, ap length same, length-map fs (λ (f : Face). f.rim)))

pub returns-then-is_empty-clause-web : goal.returns-then-is_empty-clause-web
returns-then-is_empty-clause-web c = c.loop-round.invariant.web

pub returns-clause-web : goal.returns-clause-web
returns-clause-web c = c.loop-round.invariant.web
