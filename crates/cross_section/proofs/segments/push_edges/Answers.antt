use Rattle.std.proofs.Common.{◌<◌, ◌+◌, ℕ, [], List, length, ap, sym, subst, ◌∙◌, arith}
use Rattle.std.specs.List.{All}
use Rattle.std.proofs.lemmas.List.{get_or_default}
use Rattle.chain_terms.specs.Ranks.{finish, start}
use Rattle.edge_pairing.specs.Entries.{ends_of, place_in, starts_of}
use Rattle.edge_pairing.specs.Pairing.{paired_along}
use Rattle.face_loops.specs.Segments.{edges_of}
use Rattle.cross_section.proofs.Joined.{grown}
use Rattle.cross_section.proofs.Segmented.{edges_segments}
use Rattle.cross_section.proofs.segments.push_edges.Goals as goal

pub bounds-ends-from : goal.bounds-ends-from
bounds-ends-from c = (c.requires.between c.loop-k.k (0, 0) c.loop-k-test.true).0

pub bounds-ends-to : goal.bounds-ends-to
bounds-ends-to c = (c.requires.between c.loop-k.k (0, 0) c.loop-k-test.true).1

pub push_edge-requires-clause-starts : goal.push_edge-requires-clause-starts
push_edge-requires-clause-starts c =
    let starts = ap starts_of c.deref.ensures.value ∙ c.in_ok-fill_entries.ensures.starts ∙ c.bucket.ensures in
    subst (λ (l : List ℕ). All (λ v. v < length c.args.points.now) l) (sym starts)
    (c.requires.starts_below (c.args.first + c.loop-k.k) [] (omega (arith, c.loop-k-test.true, c.requires.starts)))

pub push_edge-requires-clause-ends : goal.push_edge-requires-clause-ends
push_edge-requires-clause-ends c =
    let ends = ap ends_of c.deref.ensures.value ∙ c.in_ok-fill_entries.ensures.ends ∙ c.bucket-in-loop-k.ensures in
    subst (λ (l : List ℕ). All (λ v. v < length c.args.points.now) l) (sym ends)
    (c.requires.ends_below (c.args.first + c.loop-k.k) [] (omega (arith, c.loop-k-test.true, c.requires.ends)))

pub push_edge-requires-clause-even : goal.push_edge-requires-clause-even
push_edge-requires-clause-even c =
    let starts = ap starts_of c.deref.ensures.value ∙ c.in_ok-fill_entries.ensures.starts ∙ c.bucket.ensures in
    let ends = ap ends_of c.deref.ensures.value ∙ c.in_ok-fill_entries.ensures.ends ∙ c.bucket-in-loop-k.ensures in
    ap length starts ∙ c.requires.even c.loop-k.k c.loop-k-test.true ∙ sym (ap length ends)

pub loop-k-preserved : goal.loop-k-preserved
loop-k-preserved c =
    let corners = c.args.ends.now in
    let es = c.args.edges.now in
    let points = c.args.points.now in
    let lists = c.args.lists.now in
    let k = c.loop-k.k in
    let between = c.requires.between k (0, 0) c.loop-k-test.true in
    let from = c.index-ends-from.is ∙ get_or_default corners (start es k) c.index-ends-from.result [] between.0 in
    let to = c.index-ends-to.is ∙ get_or_default corners (finish es k) c.index-ends-to.result [] between.1 in
    let starts = ap starts_of c.deref.ensures.value ∙ c.in_ok-fill_entries.ensures.starts ∙ c.bucket.ensures in
    let ends = ap ends_of c.deref.ensures.value ∙ c.in_ok-fill_entries.ensures.ends ∙ c.bucket-in-loop-k.ensures in
    grown (edges_segments corners es points lists.starts lists.ends c.args.first) k (edges_of c.args.segments.now.items)
    (edges_of c.loop-k.segments.items) (edges_of c.push_edge.new.segments.items) _ c.in_ok-push_edge.ensures
    c.loop-k.invariant (λ i. paired_along (from i) (to i) (place_in points) (starts i) (ends i))
