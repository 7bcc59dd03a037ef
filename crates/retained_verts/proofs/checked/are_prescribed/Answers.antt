use Rattle.std.proofs.Common.{◌≡◌, sym, ap, ◌∙◌, arith}
use Rattle.std.specs.Prelude.{slice_index}
use Rattle.std.proofs.lemmas.Bool.{false≢true}
use Rattle.retained_verts.specs.Counted.{AreCounts}
use Rattle.retained_verts.specs.Handed.{numbers}
use Rattle.retained_verts.proofs.Compared.{are_those, have_counts}
use Rattle.retained_verts.proofs.checked.are_prescribed.Goals as goal
use Rattle.retained_verts.proofs.checked.are_prescribed.Goals.{After-count-counts}

-- the counts are those of the numbers
counted : (c : After-count-counts) → AreCounts c.args.op c.args.p.now c.args.q.now (numbers c.args.windings.now c.args.hits.now) c.count-counts.result
counted c =
    let e = c.count-counts.ensures in
    record {
      kept = e.kept;
      crossings = e.crossings;
      halfedges = e.halfedges;
      few = omega (arith, e.p_few, e.q_few, e.crossings_few);
    }

pub has_counts-requires : goal.has_counts-requires
has_counts-requires c =
    let e = c.count-counts.ensures in
    omega (arith, ap (λ k. slice_index k 0) e.kept, ap (λ k. slice_index k 1) e.kept, e.p_few, e.q_few, e.crossings_few)

pub listed-requires-clause-counts : goal.listed-requires-clause-counts
listed-requires-clause-counts c = counted (goal.at.listed-requires-clause-counts c).After-count-counts

pub returns-then-not-has_counts : goal.returns-then-not-has_counts
returns-then-not-has_counts c =
    let n = numbers c.args.windings.now c.args.hits.now in
    let all = counted (goal.at.returns-then-not-has_counts c).After-count-counts in
    let has = have_counts c.args.op c.args.p.now c.args.q.now n c.args.prescribed.now c.count-counts.result c.requires.fit.w03 c.requires.fit.w30 all in (
      (λ e. absurd (false≢true e)),
      (λ is. absurd (false≢true (sym c.if-not-has_counts.true ∙ c.has_counts.ensures.1 (has is)))),
    )

pub returns-then-not-are_same_origins : goal.returns-then-not-are_same_origins
returns-then-not-are_same_origins c =
    let listed = c.deref-2.ensures.value ∙ c.in_ok-expected.ensures.origins in (
      (λ e. absurd (false≢true e)),
      (λ is. absurd (false≢true
          (sym c.if-not-are_same_origins.true ∙ c.are_same_origins.ensures.1 (c.deref.ensures.value ∙ is.origins ∙ sym listed)))),
    )

pub returns : goal.returns
returns c =
    let n = numbers c.args.windings.now c.args.hits.now in
    let op = c.args.op in
    let p = c.args.p.now in
    let q = c.args.q.now in
    let r = c.args.prescribed.now in
    let made = c.in_ok-expected.expected in
    let all = counted (goal.at.returns c).After-count-counts in
    let origins : r.origins.items ≡ made.origins.items =
    sym c.deref.ensures.value ∙ c.are_same_origins.ensures.0 c.if-not-are_same_origins.false ∙ c.deref-2.ensures.value in (
      (λ e. are_those op p q n r made c.count-counts.result all (c.has_counts.ensures.0 c.if-not-has_counts.false) c.in_ok-expected.ensures origins
          (sym c.deref-3.ensures.value ∙ c.are_same_points.ensures.0 e ∙ c.deref-4.ensures.value)),
      (λ is. c.are_same_points.ensures.1 (c.deref-3.ensures.value ∙ is.points ∙ sym (c.deref-4.ensures.value ∙ c.in_ok-expected.ensures.points))),
    )
