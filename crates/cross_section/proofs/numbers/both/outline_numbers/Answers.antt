use Rattle.std.proofs.Common.{◌≡◌, ◌≤◌, [], ◌∷◌, ℤ, neg_ℤ, length, map, sym, subst, refl, ◌∙◌}
use Rattle.std.specs.Prelude.{nat_abs}
use Rattle.std.specs.List.{All}
use Rattle.mb_base.specs.declared.op.Op.{Op}
use Rattle.shadow_kernels.specs.Counts.{count_of, shadow_of}
use Rattle.side_terms.specs.Corners.{AllFine}
use Rattle.lean.proofs.Corners.{edge_fine}
use Rattle.outline_pair_terms.specs.Balance.{AreConserved}
use Rattle.outline_pair_terms.specs.Numbers.{FlatNumbers, FlatSide, FlatTests, LiftEdges, ends_of, flat_hits, flat_tests, flat_winding, flat_winding_back, p_flat, q_flat}
use Rattle.outline_pair_terms.specs.declared.FlatHit.{FlatHit}
use Rattle.outline_pair_terms.proofs.Whole.{conserved}
use Rattle.outline_terms.specs.Outlines.{Outline, outline_edges}
use Rattle.cross_section.specs.Walks.{ChangesAlong, IsWhole}
use Rattle.cross_section.proofs.SideNumbers.{hits_small, p_walk, p_whole, q_walk, q_whole, turned_parts}
use Rattle.cross_section.proofs.Walking.{lift_edges}
use Rattle.cross_section.proofs.numbers.both.outline_numbers.Given.{Over}
use Rattle.cross_section.proofs.numbers.both.outline_numbers.Goals as goal

-- the three tests
abbrev tests : (g : Over) → g.row.K.Denot → FlatTests
tests g k = flat_tests (g.K.Meets-2.meet_of k) (g.K.Meets-3.meet_of k) (g.K.Meets-4.meet_of k)

-- what they keep at the corners of both sides
lift_of : (g : Over) → (k : g.row.K.Denot) → (op : Op) (p q : Outline) (ps qs : FlatSide) → ps ≡ p_flat op p →
    qs ≡ q_flat q → AllFine ps.corners → AllFine qs.corners → LiftEdges (tests g k) (p_flat op p).corners (q_flat q).corners
lift_of g k op p q ps qs e f p_fine q_fine =
    lift_edges (g.K.Meets-2.meet_of k) (g.K.Meets-3.meet_of k) (g.K.Meets-4.meet_of k) (g.met.K.Flats.lift_11 k) (p_flat op p).corners (q_flat q).corners
    (subst (λ (s : FlatSide). AllFine s.corners) e p_fine) (subst (λ (s : FlatSide). AllFine s.corners) f q_fine)

pub winding_numbers-requires-clause-whole : goal.winding_numbers-requires-clause-whole
winding_numbers-requires-clause-whole g c = subst IsWhole (sym c.in_ok-p.ensures) (p_whole c.args.op c.args.p.now c.points.ensures.outline)

pub winding_numbers-requires-clause-changes : goal.winding_numbers-requires-clause-changes
winding_numbers-requires-clause-changes g c =
    let k = c.args.kernels.now in
    let lift = lift_of g k c.args.op c.args.p.now c.args.q.now c.in_ok-p.p c.in_ok-q.q
    c.in_ok-p.ensures c.in_ok-q.ensures c.corners.ensures.side.fine c.corners-2.ensures.side.fine in
    subst (λ (s : FlatSide × FlatSide). ChangesAlong (λ v e. shadow_of (g.K.Meets-2.meet_of k (v ∷ []) e)) (λ way e. count_of (g.K.Meets-4.meet_of k way e)) s.0 s.1)
    (λ i. (sym c.in_ok-p.ensures i, sym c.in_ok-q.ensures i)) (p_walk (tests g k) c.args.op c.args.p.now c.args.q.now lift)

pub winding_numbers-requires-2-clause-whole : goal.winding_numbers-requires-2-clause-whole
winding_numbers-requires-2-clause-whole g c = subst IsWhole (sym c.in_ok-q.ensures) (q_whole c.args.q.now c.points-2.ensures.outline)

pub winding_numbers-requires-2-clause-changes : goal.winding_numbers-requires-2-clause-changes
winding_numbers-requires-2-clause-changes g c =
    let k = c.args.kernels.now in
    let lift = lift_of g k c.args.op c.args.p.now c.args.q.now c.in_ok-p.p c.in_ok-q.q
    c.in_ok-p.ensures c.in_ok-q.ensures c.corners.ensures.side.fine c.corners-2.ensures.side.fine in
    subst (λ (s : FlatSide × FlatSide). ChangesAlong
    (λ v e. neg_ℤ (shadow_of (g.K.Meets-3.meet_of k e (v ∷ [])))) (λ way e. neg_ℤ (count_of (g.K.Meets-4.meet_of k e way))) s.0 s.1)
    (λ i. (sym c.in_ok-q.ensures i, sym c.in_ok-p.ensures i)) (q_walk (tests g k) c.args.op c.args.p.now c.args.q.now lift)

pub returns-clause-value : goal.returns-clause-value
returns-clause-value g c =
    let k = c.args.kernels.now in
    let t = tests g k in
    let settle : ℤ → ℤ = g.R.Rounding.settle_of c.args.rounding.now in
    let p = c.in_ok-p.ensures in
    let q = c.in_ok-q.ensures in
    let w02 = c.in_ok-w02.ensures.value ∙ (λ i. map (λ v. flat_winding t v (q i)) (p i).corners) in
    let w20 = c.in_ok-w20.ensures.value ∙ turned_parts t c.in_ok-p.p c.in_ok-q.q ∙ (λ i. map (λ v. flat_winding_back t (p i) v) (q i).corners) in
    let hits = c.in_ok-hits.ensures ∙ (λ i. flat_hits t.edge_edge settle (p i) (q i)) in
    λ i. record { w02 = w02 i; w20 = w20 i; hits = hits i }

pub returns-clause-conserved : goal.returns-clause-conserved
returns-clause-conserved g c =
    let k = c.args.kernels.now in
    let lift = lift_of g k c.args.op c.args.p.now c.args.q.now c.in_ok-p.p c.in_ok-q.q
    c.in_ok-p.ensures c.in_ok-q.ensures c.corners.ensures.side.fine c.corners-2.ensures.side.fine in
    subst (λ (n : FlatNumbers). AreConserved (outline_edges c.args.p.now) (outline_edges c.args.q.now) n) (sym (returns-clause-value g c))
    (conserved (tests g k) (g.R.Rounding.settle_of c.args.rounding.now) c.args.op c.args.p.now c.args.q.now c.points.ensures.outline c.points-2.ensures.outline lift)

pub returns-clause-p_size : goal.returns-clause-p_size
returns-clause-p_size g c = subst (λ (s : FlatSide). All (λ w. nat_abs w ≤ length s.edges) c.in_ok-w02.w02.items) c.in_ok-q.ensures c.in_ok-w02.ensures.size

pub returns-clause-q_size : goal.returns-clause-q_size
returns-clause-q_size g c = subst (λ (s : FlatSide). All (λ w. nat_abs w ≤ length s.edges) c.in_ok-w20.w20.items) c.in_ok-p.ensures c.in_ok-w20.ensures.size

pub returns-clause-small : goal.returns-clause-small
returns-clause-small g c =
    let k = c.args.kernels.now in
    let ps = c.in_ok-p.p in
    let qs = c.in_ok-q.q in
    let small = hits_small (tests g k) (g.R.Rounding.settle_of c.args.rounding.now) ps qs
    (λ e f. (g.met.K.Meets-4.laws k).size (ends_of ps e) (ends_of qs f) refl refl
    (edge_fine ps.corners c.corners.ensures.side.fine e.0 e.1) (edge_fine qs.corners c.corners-2.ensures.side.fine f.0 f.1)) in
    subst (All (λ (h : FlatHit). nat_abs h.number ≤ 1)) (sym c.in_ok-hits.ensures) small

pub returns-clause-lift : goal.returns-clause-lift
returns-clause-lift g c =
    lift_of g c.args.kernels.now c.args.op c.args.p.now c.args.q.now c.in_ok-p.p c.in_ok-q.q
    c.in_ok-p.ensures c.in_ok-q.ensures c.corners.ensures.side.fine c.corners-2.ensures.side.fine
