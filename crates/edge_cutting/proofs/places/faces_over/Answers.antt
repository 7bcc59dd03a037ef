use Rattle.std.proofs.Common.{◌≡◌, ◌∙◌, [], ap, get_or, length, map, sym}
use Rattle.std.proofs.lemmas.List.{get_or_default}
use Rattle.mesh_terms.specs.Meshes.{triple_of, triples_of}
use Rattle.edge_cutting.specs.Overs.{over_at}
use Rattle.edge_cutting.proofs.Closing.{over_closed, over_from, over_three}
use Rattle.edge_cutting.proofs.LongEdges.{below_at}
use Rattle.edge_cutting.proofs.Welded.{over_read, sources_more, triples_more}
use Rattle.edge_cutting.proofs.places.faces_over.Goals as goal

pub over-requires : goal.over-requires
over-requires c =
    let ts = c.args.triples.now in
    let i = c.loop-number.number in
    below_at (length c.args.of.now) ts i (get_or ts i []) c.requires.below c.loop-number-test.true (get_or_default ts i [] (get_or ts i []) c.loop-number-test.true)

pub loop-number-preserved : goal.loop-number-preserved
loop-number-preserved c =
    let ts = c.args.triples.now in
    let of = c.args.of.now in
    let i = c.loop-number.number in
    let low = c.loop-number-test.true in
    let new = triple_of c.over.result in
    let read : over_at of (triples_of ts) i ≡ new = over_read of ts i (get_or ts i []) low (get_or_default ts i [] (get_or ts i []) low) ∙ sym c.over.ensures in
    let inv = c.loop-number.invariant in
    record {
      sources = c.in_ok-add.ensures.sources ∙ sources_more of ts i new c.loop-number.faces.sources.items read inv.sources;
      triples =
          c.in_ok-add.ensures.triples ∙ triples_more of ts i new c.loop-number.faces.sources.items (triples_of c.loop-number.faces.triples.items) read inv.triples
          ∙ ap (map (over_at of (triples_of ts))) (sym c.in_ok-add.ensures.sources);
    }

pub returns-clause-three : goal.returns-clause-three
returns-clause-three c =
    let ts = c.args.triples.now in
    let of = c.args.of.now in
    let l = c.loop-number in
    over_three of (triples_of ts) (triples_of l.faces.triples.items) l.faces.sources.items
    (over_from of ts l.number (triples_of l.faces.triples.items) l.faces.sources.items c.loop-number-test.false l.auto.number-end l.invariant.sources l.invariant.triples)

pub returns-clause-closed : goal.returns-clause-closed
returns-clause-closed c =
    let ts = c.args.triples.now in
    let of = c.args.of.now in
    let l = c.loop-number in
    over_closed of (triples_of ts) (triples_of l.faces.triples.items) l.faces.sources.items
    (over_from of ts l.number (triples_of l.faces.triples.items) l.faces.sources.items c.loop-number-test.false l.auto.number-end l.invariant.sources l.invariant.triples)
