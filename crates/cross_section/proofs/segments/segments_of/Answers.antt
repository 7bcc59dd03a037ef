use Rattle.std.proofs.Common.{◌≡◌, ◌<◌, ◌+◌, ◌++◌, ℕ, ℤ, List, length, ap, sym, subst, ◌∙◌, arith}
use Rattle.std.specs.List.{All, flat_map}
use Rattle.chain_terms.specs.Sums.{upto}
use Rattle.face_loops.specs.Segments.{edges_of}
use Rattle.outline_terms.proofs.Edges.{edges_between, edges_long}
use Rattle.outline_terms.specs.Outlines.{IsBetween, outline_edges}
use Rattle.cross_section.proofs.Given.{buckets_long, ends_long, given_ends, given_segments, given_starts, p_balanced, places_below, q_balanced, starts_long}
use Rattle.cross_section.proofs.Segmented.{edges_segments}
use Rattle.cross_section.proofs.segments.segments_of.Goals as goal

-- edges between the points of an outline, as they were handed in
between : (points all : List (List ℤ)) (edges es : List (ℕ × ℕ)) → points ≡ all → edges ≡ es → All (IsBetween (length all)) es → All (IsBetween (length points)) edges
between points all edges es e f h = subst (λ (x : List (List ℤ) × List (ℕ × ℕ)). All (IsBetween (length x.0)) x.1) (λ i. (sym e i, sym f i)) h

-- numbers below as many as edges of both, as they were handed in
below : (keys : List ℕ) (p q es fs : List (ℕ × ℕ)) → p ≡ es → q ≡ fs → All (λ k. k < length es + length fs) keys → All (λ k. k < length p + length q) keys
below keys p q es fs e f h = subst (λ (x : List (ℕ × ℕ) × List (ℕ × ℕ)). All (λ k. k < length x.0 + length x.1) keys) (λ i. (sym e i, sym f i)) h

pub lists_of-requires-clause-starts_below : goal.lists_of-requires-clause-starts_below
lists_of-requires-clause-starts_below c =
    below c.args.copies.now.starts.items c.args.p_edges.now c.args.q_edges.now (outline_edges c.args.p.now) (outline_edges c.args.q.now) c.requires.p_edges c.requires.q_edges
    (given_starts c.args.op c.args.p.now c.args.q.now c.points-p_points.ensures.outline c.points-q_points.ensures.outline c.args.numbers.now c.requires.numbers
    c.args.copies.now.points.items c.args.copies.now.starts.items c.args.copies.now.ends.items c.requires.copies)

pub lists_of-requires-clause-few_starts : goal.lists_of-requires-clause-few_starts
lists_of-requires-clause-few_starts c =
    omega (
      arith,
      c.requires.few,
      starts_long c.args.op c.args.p.now c.args.q.now c.points-p_points.ensures.outline c.points-q_points.ensures.outline c.args.numbers.now c.requires.numbers
          c.args.copies.now.points.items c.args.copies.now.starts.items c.args.copies.now.ends.items c.requires.copies,
    )

pub lists_of-requires-clause-ends_below : goal.lists_of-requires-clause-ends_below
lists_of-requires-clause-ends_below c =
    below c.args.copies.now.ends.items c.args.p_edges.now c.args.q_edges.now (outline_edges c.args.p.now) (outline_edges c.args.q.now) c.requires.p_edges c.requires.q_edges
    (given_ends c.args.op c.args.p.now c.args.q.now c.points-p_points.ensures.outline c.points-q_points.ensures.outline c.args.numbers.now c.requires.numbers
    c.args.copies.now.points.items c.args.copies.now.starts.items c.args.copies.now.ends.items c.requires.copies)

pub lists_of-requires-clause-few_ends : goal.lists_of-requires-clause-few_ends
lists_of-requires-clause-few_ends c =
    omega (
      arith,
      c.requires.few,
      ends_long c.args.op c.args.p.now c.args.q.now c.points-p_points.ensures.outline c.points-q_points.ensures.outline c.args.numbers.now c.requires.numbers
          c.args.copies.now.points.items c.args.copies.now.starts.items c.args.copies.now.ends.items c.requires.copies,
    )

pub push_edges-requires-clause-between : goal.push_edges-requires-clause-between
push_edges-requires-clause-between c =
    between c.points-p_points.result.now c.args.p.now.points c.args.p_edges.now (outline_edges c.args.p.now)
    c.points-p_points.ensures.value c.requires.p_edges (edges_between c.args.p.now c.points-p_points.ensures.outline)

pub push_edges-requires-clause-starts : goal.push_edges-requires-clause-starts
push_edges-requires-clause-starts c
    = omega (arith, ap length c.in_ok-lists.ensures.starts, buckets_long c.args.copies.now.starts.items (length c.args.p_edges.now + length c.args.q_edges.now))

pub push_edges-requires-clause-starts_below : goal.push_edges-requires-clause-starts_below
push_edges-requires-clause-starts_below c =
    let points = c.deref.result.now in
    let long = starts_long c.args.op c.args.p.now c.args.q.now c.points-p_points.ensures.outline c.points-q_points.ensures.outline c.args.numbers.now c.requires.numbers
    c.args.copies.now.points.items c.args.copies.now.starts.items c.args.copies.now.ends.items c.requires.copies in
    subst (All (λ l. All (λ v. v < length points) l)) (sym c.in_ok-lists.ensures.starts)
    (places_below c.args.copies.now.starts.items (length c.args.p_edges.now + length c.args.q_edges.now) (length points) (omega (arith, long, ap length c.deref.ensures.value)))

pub push_edges-requires-clause-ends : goal.push_edges-requires-clause-ends
push_edges-requires-clause-ends c
    = omega (arith, ap length c.in_ok-lists.ensures.ends, buckets_long c.args.copies.now.ends.items (length c.args.p_edges.now + length c.args.q_edges.now))

pub push_edges-requires-clause-ends_below : goal.push_edges-requires-clause-ends_below
push_edges-requires-clause-ends_below c =
    let points = c.deref.result.now in
    let long = ends_long c.args.op c.args.p.now c.args.q.now c.points-p_points.ensures.outline c.points-q_points.ensures.outline c.args.numbers.now c.requires.numbers
    c.args.copies.now.points.items c.args.copies.now.starts.items c.args.copies.now.ends.items c.requires.copies in
    subst (All (λ l. All (λ v. v < length points) l)) (sym c.in_ok-lists.ensures.ends)
    (places_below c.args.copies.now.ends.items (length c.args.p_edges.now + length c.args.q_edges.now) (length points) (omega (arith, long, ap length c.deref.ensures.value)))

pub push_edges-requires-clause-few : goal.push_edges-requires-clause-few
push_edges-requires-clause-few c = omega (arith, ap length c.requires.p_edges, edges_long c.args.p.now c.points-p_points.ensures.outline, c.points-p_points.ensures.outline.few)

pub push_edges-requires-clause-even : goal.push_edges-requires-clause-even
push_edges-requires-clause-even c =
    p_balanced c.args.op c.args.p.now c.args.q.now c.points-p_points.ensures.outline c.points-q_points.ensures.outline c.args.numbers.now c.requires.numbers
    c.args.copies.now.points.items c.args.copies.now.starts.items c.args.copies.now.ends.items c.requires.copies
    c.args.p_edges.now c.args.q_edges.now c.requires.p_edges c.requires.q_edges c.in_ok-lists.lists.starts c.in_ok-lists.lists.ends
    c.in_ok-lists.ensures.starts c.in_ok-lists.ensures.ends

pub push_edges-requires-2-clause-between : goal.push_edges-requires-2-clause-between
push_edges-requires-2-clause-between c =
    between c.points-q_points.result.now c.args.q.now.points c.args.q_edges.now (outline_edges c.args.q.now)
    c.points-q_points.ensures.value c.requires.q_edges (edges_between c.args.q.now c.points-q_points.ensures.outline)

pub push_edges-requires-2-clause-starts : goal.push_edges-requires-2-clause-starts
push_edges-requires-2-clause-starts c
    = omega (arith, ap length c.in_ok-lists.ensures.starts, buckets_long c.args.copies.now.starts.items (length c.args.p_edges.now + length c.args.q_edges.now))

pub push_edges-requires-2-clause-starts_below : goal.push_edges-requires-2-clause-starts_below
push_edges-requires-2-clause-starts_below c =
    let points = c.deref-2.result.now in
    let long = starts_long c.args.op c.args.p.now c.args.q.now c.points-p_points.ensures.outline c.points-q_points.ensures.outline c.args.numbers.now c.requires.numbers
    c.args.copies.now.points.items c.args.copies.now.starts.items c.args.copies.now.ends.items c.requires.copies in
    subst (All (λ l. All (λ v. v < length points) l)) (sym c.in_ok-lists.ensures.starts)
    (places_below c.args.copies.now.starts.items (length c.args.p_edges.now + length c.args.q_edges.now) (length points) (omega (arith, long, ap length c.deref-2.ensures.value)))

pub push_edges-requires-2-clause-ends : goal.push_edges-requires-2-clause-ends
push_edges-requires-2-clause-ends c
    = omega (arith, ap length c.in_ok-lists.ensures.ends, buckets_long c.args.copies.now.ends.items (length c.args.p_edges.now + length c.args.q_edges.now))

pub push_edges-requires-2-clause-ends_below : goal.push_edges-requires-2-clause-ends_below
push_edges-requires-2-clause-ends_below c =
    let points = c.deref-2.result.now in
    let long = ends_long c.args.op c.args.p.now c.args.q.now c.points-p_points.ensures.outline c.points-q_points.ensures.outline c.args.numbers.now c.requires.numbers
    c.args.copies.now.points.items c.args.copies.now.starts.items c.args.copies.now.ends.items c.requires.copies in
    subst (All (λ l. All (λ v. v < length points) l)) (sym c.in_ok-lists.ensures.ends)
    (places_below c.args.copies.now.ends.items (length c.args.p_edges.now + length c.args.q_edges.now) (length points) (omega (arith, long, ap length c.deref-2.ensures.value)))

pub push_edges-requires-2-clause-few : goal.push_edges-requires-2-clause-few
push_edges-requires-2-clause-few c =
    omega (
      arith,
      ap length c.requires.p_edges,
      edges_long c.args.p.now c.points-p_points.ensures.outline,
      c.points-p_points.ensures.outline.few,
      ap length c.requires.q_edges,
      edges_long c.args.q.now c.points-q_points.ensures.outline,
      c.points-q_points.ensures.outline.few,
    )

pub push_edges-requires-2-clause-even : goal.push_edges-requires-2-clause-even
push_edges-requires-2-clause-even c =
    q_balanced c.args.op c.args.p.now c.args.q.now c.points-p_points.ensures.outline c.points-q_points.ensures.outline c.args.numbers.now c.requires.numbers
    c.args.copies.now.points.items c.args.copies.now.starts.items c.args.copies.now.ends.items c.requires.copies
    c.args.p_edges.now c.args.q_edges.now c.requires.p_edges c.requires.q_edges c.in_ok-lists.lists.starts c.in_ok-lists.lists.ends
    c.in_ok-lists.ensures.starts c.in_ok-lists.ensures.ends

pub returns : goal.returns
returns c =
    let p_edges = c.args.p_edges.now in
    let q_edges = c.args.q_edges.now in
    let heads = c.in_ok-lists.lists.starts in
    let tails = c.in_ok-lists.lists.ends in
    let first = c.in_ok-push_edges.ensures
    ∙ (λ i. edges_of
    (c.in_ok-segments.ensures.items i) ++ flat_map (edges_segments (c.points-p_points.ensures.value i) p_edges (c.deref.ensures.value i) heads tails 0)
    (upto (length p_edges))) in
    c.in_ok-push_edges-2.ensures
    ∙ (λ i. first i ++ flat_map (edges_segments (c.points-q_points.ensures.value i) q_edges (c.deref-2.ensures.value i) heads tails (length p_edges)) (upto (length q_edges)))
    ∙ given_segments c.args.op c.args.p.now c.args.q.now c.points-p_points.ensures.outline c.points-q_points.ensures.outline c.args.numbers.now c.requires.numbers
    c.args.copies.now.points.items c.args.copies.now.starts.items c.args.copies.now.ends.items c.requires.copies
    c.args.p_edges.now c.args.q_edges.now c.requires.p_edges c.requires.q_edges c.in_ok-lists.lists.starts c.in_ok-lists.lists.ends
    c.in_ok-lists.ensures.starts c.in_ok-lists.ensures.ends
