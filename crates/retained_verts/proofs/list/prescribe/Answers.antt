use Rattle.std.proofs.Common.{length, arith, ap, ◌∙◌}
use Rattle.std.specs.Prelude.{slice_index}
use Rattle.std.proofs.lemmas.List.{length-map}
use Rattle.retained_verts.specs.Handed.{copies, numbers}
use Rattle.retained_verts.proofs.AllStarts.{all_starts}
use Rattle.retained_verts.proofs.Balance.{balanced}
use Rattle.retained_verts.proofs.Lengths.{all_copies_counted, few_copies}
use Rattle.retained_verts.proofs.TwoLists.{stand_in_lists}
use Rattle.retained_verts.proofs.list.prescribe.Goals as goal

pub listed-requires-clause-counts : goal.listed-requires-clause-counts
listed-requires-clause-counts c =
    let e = c.count-counts.ensures in
    record {
      kept = e.kept;
      crossings = e.crossings;
      halfedges = e.halfedges;
      few = omega (arith, e.p_few, e.q_few, e.crossings_few);
    }

pub returns-clause-two_lists : goal.returns-clause-two_lists
returns-clause-two_lists c =
    stand_in_lists c.args.op c.args.p.now c.args.q.now (numbers c.args.windings.now c.args.hits.now) c.corners.ensures.side c.corners-2.ensures.side
    c.requires.fit.x12 c.requires.fit.x21

pub returns-clause-balance : goal.returns-clause-balance
returns-clause-balance c kept =
    balanced c.args.op c.args.p.now c.args.q.now (numbers c.args.windings.now c.args.hits.now) c.corners.ensures.side c.corners-2.ensures.side c.requires.fit.x12
    c.requires.fit.x21 kept

pub returns-clause-all : goal.returns-clause-all
returns-clause-all c =
    let all = copies c.args.op c.args.p.now c.args.q.now c.args.windings.now c.args.hits.now in
    let e = c.in_ok-listed.ensures in
    omega (
      arith,
      ap length e.origins,
      length-map all (λ k. k.origin),
      all_copies_counted c.args.op c.args.p.now c.args.q.now (numbers c.args.windings.now c.args.hits.now) c.requires.fit.w03 c.requires.fit.w30,
      ap (λ k. slice_index k 0) e.kept,
      ap (λ k. slice_index k 1) e.kept,
      e.crossings,
    )

pub returns-clause-few : goal.returns-clause-few
returns-clause-few c =
    let all = copies c.args.op c.args.p.now c.args.q.now c.args.windings.now c.args.hits.now in
    let n = numbers c.args.windings.now c.args.hits.now in
    let e = c.in_ok-listed.ensures in
    omega (
      arith,
      ap length e.origins,
      length-map all (λ k. k.origin),
      all_copies_counted c.args.op c.args.p.now c.args.q.now n c.requires.fit.w03 c.requires.fit.w30,
      few_copies c.args.op c.args.p.now c.args.q.now n c.corners.ensures.side c.corners-2.ensures.side c.requires.fit.w03 c.requires.fit.w30,
      e.halfedges,
    )

pub returns-clause-all_starts : goal.returns-clause-all_starts
returns-clause-all_starts c =
    c.in_ok-listed.ensures.halfedges
    ∙ all_starts c.args.op c.args.p.now c.args.q.now (numbers c.args.windings.now c.args.hits.now) c.corners.ensures.side c.corners-2.ensures.side
    c.requires.fit.w03 c.requires.fit.w30 c.requires.fit.x12 c.requires.fit.x21
