use Rattle.std.proofs.Common.{◌≡◌, ◌≤◌, ◌+◌, ℤ, length, min, nat_abs, refl, sym, ap, subst, ◌∙◌, arith}
use Rattle.std.specs.List.{All}
use Rattle.std.proofs.lemmas.Result.{err_from_is_err_and}
use Rattle.mb_base.specs.declared.fault.Counted.TheVariants.{Points}
use Rattle.mb_base.specs.declared.op.Op.{Op}
use Rattle.outline_pair_terms.specs.Lists.{flat_copies, outline_of}
use Rattle.outline_pair_terms.specs.Numbers.{FlatNumbers, FlatTests, LiftEdges, flat_numbers, flat_tests, p_flat, q_flat}
use Rattle.outline_pair_terms.specs.declared.FlatHit.{FlatHit}
use Rattle.outline_terms.specs.Outlines.{IsOutline, Outline, most_vertices, outline_edges}
use Rattle.cross_section.specs.Copies.{AreNumbers}
use Rattle.cross_section.specs.Outcome.{GivesOutline, Outcome, outcome_fault, outcome_of}
use Rattle.cross_section.specs.declared.fault.OutlineFault.TheVariants.{Over as Exceeds}
use Rattle.cross_section.proofs.Gives.{AreCounted, all_counted, all_done, counted, gives_outline, memory_wants, not_too_many, numbers_are, refused_by, too_many}
use Rattle.cross_section.proofs.combine.combine_outlines.Given.{Over}
use Rattle.cross_section.proofs.combine.combine_outlines.Goals.{After-hit_copies-crossings, In_ok-numbers}
use Rattle.cross_section.proofs.combine.combine_outlines.Goals as goal

-- the three tests
abbrev tests : (g : Over) → g.row.K.Denot → FlatTests
tests g k = flat_tests (g.K.Meets-2.meet_of k) (g.K.Meets-3.meet_of k) (g.K.Meets-4.meet_of k)

-- the numbers that were found are of these outlines
found : (t : FlatTests) (settle : ℤ → ℤ) (op : Op) (p q : Outline) → IsOutline p → IsOutline q →
    LiftEdges t (p_flat op p).corners (q_flat q).corners → (n : FlatNumbers) → n ≡ flat_numbers t settle (p_flat op p) (q_flat q) →
    All (λ w. nat_abs w ≤ length (outline_edges q)) n.w02 → All (λ w. nat_abs w ≤ length (outline_edges p)) n.w20 →
    All (λ (h : FlatHit). nat_abs h.number ≤ 1) n.hits → AreNumbers p q n
found t settle op p q p_is q_is lift n e p_size q_size small =
    subst (AreNumbers p q) (sym e) (numbers_are t settle op p q p_is q_is lift (subst (λ (m : FlatNumbers). All (λ w. nat_abs w ≤ length (outline_edges q)) m.w02) e p_size)
    (subst (λ (m : FlatNumbers). All (λ w. nat_abs w ≤ length (outline_edges p)) m.w20) e q_size)
    (subst (λ (m : FlatNumbers). All (λ (h : FlatHit). nat_abs h.number ≤ 1) m.hits) e small))

-- and few copies give an outline
given : (t : FlatTests) (settle : ℤ → ℤ) (op : Op) (p q : Outline) → IsOutline p → IsOutline q →
    LiftEdges t (p_flat op p).corners (q_flat q).corners → (n : FlatNumbers) → n ≡ flat_numbers t settle (p_flat op p) (q_flat q) →
    length (flat_copies op p q n) ≤ most_vertices → GivesOutline op p q n
given t settle op p q p_is q_is lift n e few =
    subst (GivesOutline op p q) (sym e) (gives_outline t settle op p q p_is q_is lift (subst (λ (m : FlatNumbers). length (flat_copies op p q m) ≤ most_vertices) e few))

known : (g : Over) → (c : In_ok-numbers g) → AreNumbers c.args.p.now c.args.q.now c.in_ok-numbers.numbers
known g c =
    found (tests g c.args.kernels.now) (g.R.Rounding.settle_of c.args.rounding.now) c.args.op c.args.p.now
    c.args.q.now c.points.ensures.outline c.points-2.ensures.outline c.in_ok-numbers.ensures.lift
    c.in_ok-numbers.numbers c.in_ok-numbers.ensures.value c.in_ok-numbers.ensures.p_size c.in_ok-numbers.ensures.q_size c.in_ok-numbers.ensures.small

-- the copies are counted
seen : (g : Over) → (c : After-hit_copies-crossings g) → AreNumbers c.args.p.now c.args.q.now c.in_ok-numbers.numbers → (m : FlatNumbers) → c.in_ok-numbers.numbers ≡ m →
    AreCounted (outcome_of c.args.op c.args.p.now c.args.q.now m) c.vertex_copies-p_kept.result c.vertex_copies-q_kept.result c.hit_copies-crossings.result
seen g c are m e =
    counted c.args.op c.args.p.now c.args.q.now c.in_ok-numbers.numbers m e are c.deref.result.now
    c.deref-2.result.now c.deref-3.result.now (c.deref.ensures.value ∙ ap (λ (x : FlatNumbers). x.w02) c.numbers.view_is)
    (c.deref-2.ensures.value ∙ ap (λ (x : FlatNumbers). x.w20) c.numbers.view_is)
    (c.deref-3.ensures.value ∙ ap (λ (x : FlatNumbers). x.hits) c.numbers.view_is) c.vertex_copies-p_kept.result c.vertex_copies-q_kept.result
    c.hit_copies-crossings.result c.vertex_copies-p_kept.ensures.value c.vertex_copies-q_kept.ensures.value c.hit_copies-crossings.ensures.value

-- where they are few the outline is given
gives : (g : Over) → (c : After-hit_copies-crossings g) → AreNumbers c.args.p.now c.args.q.now c.in_ok-numbers.numbers →
    (c.vertex_copies-p_kept.result + c.vertex_copies-q_kept.result + c.hit_copies-crossings.result) ≤ most_vertices →
    GivesOutline c.args.op c.args.p.now c.args.q.now c.in_ok-numbers.numbers
gives g c are few =
    given (tests g c.args.kernels.now) (g.R.Rounding.settle_of c.args.rounding.now) c.args.op c.args.p.now
    c.args.q.now c.points.ensures.outline c.points-2.ensures.outline c.in_ok-numbers.ensures.lift
    c.in_ok-numbers.numbers c.in_ok-numbers.ensures.value
    (omega (
      arith,
      few,
      all_counted c.args.op c.args.p.now c.args.q.now c.in_ok-numbers.numbers c.vertex_copies-p_kept.result
          c.vertex_copies-q_kept.result c.hit_copies-crossings.result (seen g c are c.in_ok-numbers.numbers refl),
    ))

pub vertex_copies-p_kept-requires-clause-small : goal.vertex_copies-p_kept-requires-clause-small
vertex_copies-p_kept-requires-clause-small g c =
    let are = known g (goal.at.vertex_copies-p_kept-requires-clause-small g c).In_ok-numbers in
    subst (All (λ w. nat_abs w ≤ most_vertices)) (sym (c.deref.ensures.value ∙ ap (λ (x : FlatNumbers). x.w02) c.numbers.view_is)) are.w02_small

pub vertex_copies-p_kept-requires-clause-few : goal.vertex_copies-p_kept-requires-clause-few
vertex_copies-p_kept-requires-clause-few g c =
    let are = known g (goal.at.vertex_copies-p_kept-requires-clause-few g c).In_ok-numbers in
    omega (arith, ap length (c.deref.ensures.value ∙ ap (λ (x : FlatNumbers). x.w02) c.numbers.view_is), are.w02_long, c.points.ensures.outline.few)

pub vertex_copies-q_kept-requires-clause-small : goal.vertex_copies-q_kept-requires-clause-small
vertex_copies-q_kept-requires-clause-small g c =
    let are = known g (goal.at.vertex_copies-q_kept-requires-clause-small g c).In_ok-numbers in
    subst (All (λ w. nat_abs w ≤ most_vertices)) (sym (c.deref-2.ensures.value ∙ ap (λ (x : FlatNumbers). x.w20) c.numbers.view_is)) are.w20_small

pub vertex_copies-q_kept-requires-clause-few : goal.vertex_copies-q_kept-requires-clause-few
vertex_copies-q_kept-requires-clause-few g c =
    let are = known g (goal.at.vertex_copies-q_kept-requires-clause-few g c).In_ok-numbers in
    omega (arith, ap length (c.deref-2.ensures.value ∙ ap (λ (x : FlatNumbers). x.w20) c.numbers.view_is), are.w20_long, c.points-2.ensures.outline.few)

pub hit_copies-crossings-requires-clause-small : goal.hit_copies-crossings-requires-clause-small
hit_copies-crossings-requires-clause-small g c =
    let are = known g (goal.at.hit_copies-crossings-requires-clause-small g c).In_ok-numbers in
    subst (All (λ (h : FlatHit). nat_abs h.number ≤ 1)) (sym (c.deref-3.ensures.value ∙ ap (λ (x : FlatNumbers). x.hits) c.numbers.view_is)) are.small

pub hit_copies-crossings-requires-clause-few : goal.hit_copies-crossings-requires-clause-few
hit_copies-crossings-requires-clause-few g c =
    let are = known g (goal.at.hit_copies-crossings-requires-clause-few g c).In_ok-numbers in
    omega (arith, ap length (c.deref-3.ensures.value ∙ ap (λ (x : FlatNumbers). x.hits) c.numbers.view_is), are.few)

pub outline_of-requires-clause-numbers : goal.outline_of-requires-clause-numbers
outline_of-requires-clause-numbers g c = known g (goal.at.outline_of-requires-clause-numbers g c).In_ok-numbers

pub outline_of-requires-clause-loops : goal.outline_of-requires-clause-loops
outline_of-requires-clause-loops g c =
    let at = goal.at.outline_of-requires-clause-loops g c in
    let most : c.from.result ≡ min c.args.limits.now.points most_vertices = c.from.ensures ∙ c.min.ensures ∙ ap (λ k. min k most_vertices) c.points-3.ensures.value in
    gives g at.After-hit_copies-crossings (known g at.In_ok-numbers) (omega (arith, c.if-seen-from.false, most))

pub returns-in_err-numbers-clause-refused : goal.returns-in_err-numbers-clause-refused
returns-in_err-numbers-clause-refused g c = let p = err_from_is_err_and c.from_residual.result c.from_residual.ensures.1 in rw (p.1, p.2) (memory_wants _ _)

pub returns-in_err-outline-clause-refused : goal.returns-in_err-outline-clause-refused
returns-in_err-outline-clause-refused g c =
    let p = err_from_is_err_and c.from_residual-in_err-outline.result c.from_residual-in_err-outline.ensures.1 in rw (p.1, p.2) (memory_wants _ _)

pub returns-then-seen-from-clause-refused : goal.returns-then-seen-from-clause-refused
returns-then-seen-from-clause-refused g c =
    let at = goal.at.returns-then-seen-from-clause-refused g c in
    let k = c.vertex_copies-p_kept.result + c.vertex_copies-q_kept.result + c.hit_copies-crossings.result in
    let n = flat_numbers (tests g c.args.kernels.now) (g.R.Rounding.settle_of c.args.rounding.now) (p_flat c.args.op c.args.p.now) (q_flat c.args.q.now) in
    let o = outcome_of c.args.op c.args.p.now c.args.q.now n in
    let s = seen g at.After-hit_copies-crossings (known g at.In_ok-numbers) n c.in_ok-numbers.ensures.value in
    let most : c.from.result ≡ min c.args.limits.now.points most_vertices = c.from.ensures ∙ c.min.ensures ∙ ap (λ m. min m most_vertices) c.points-3.ensures.value in
    let sum : o.p_kept + o.q_kept + o.crossings ≡ k = λ i. sym s.of_p i + sym s.of_q i + sym s.of_hits i in
    refused_by Outcome (outcome_fault c.args.limits.now o) (Exceeds Points k) (too_many c.args.limits.now o k sum (omega (arith, c.if-seen-from.true, most)))

pub returns-clause-refused : goal.returns-clause-refused
returns-clause-refused g c =
    let at = goal.at.returns-clause-refused g c in
    let k = c.vertex_copies-p_kept.result + c.vertex_copies-q_kept.result + c.hit_copies-crossings.result in
    let n = flat_numbers (tests g c.args.kernels.now) (g.R.Rounding.settle_of c.args.rounding.now) (p_flat c.args.op c.args.p.now) (q_flat c.args.q.now) in
    let o = outcome_of c.args.op c.args.p.now c.args.q.now n in
    let s = seen g at.After-hit_copies-crossings (known g at.In_ok-numbers) n c.in_ok-numbers.ensures.value in
    let most : c.from.result ≡ min c.args.limits.now.points most_vertices = c.from.ensures ∙ c.min.ensures ∙ ap (λ m. min m most_vertices) c.points-3.ensures.value in
    let sum : o.p_kept + o.q_kept + o.crossings ≡ k = λ i. sym s.of_p i + sym s.of_q i + sym s.of_hits i in
    let made : Outcome
    = record {
      outline = c.in_ok-outline.outline;
      p_kept = c.vertex_copies-p_kept.result;
      q_kept
          = c.vertex_copies-q_kept.result;
      crossings = c.hit_copies-crossings.result;
    } in
    all_done (outcome_fault c.args.limits.now o) made (not_too_many c.args.limits.now o k sum (omega (arith, c.if-seen-from.false, most)))

pub returns-clause-value : goal.returns-clause-value
returns-clause-value g c =
    let at = goal.at.returns-clause-value g c in
    let n = flat_numbers (tests g c.args.kernels.now) (g.R.Rounding.settle_of c.args.rounding.now) (p_flat c.args.op c.args.p.now) (q_flat c.args.q.now) in
    let s = seen g at.After-hit_copies-crossings (known g at.In_ok-numbers) n c.in_ok-numbers.ensures.value in
    let o = c.in_ok-outline.ensures
    ∙ ap (λ (m : FlatNumbers). outline_of c.args.p.now c.args.q.now (flat_copies c.args.op c.args.p.now c.args.q.now m)) c.in_ok-numbers.ensures.value in
    λ i. record { outline = o i; p_kept = s.of_p i; q_kept = s.of_q i; crossings = s.of_hits i }

pub returns-clause-outline : goal.returns-clause-outline
returns-clause-outline g c =
    let at = goal.at.returns-clause-outline g c in
    let most : c.from.result ≡ min c.args.limits.now.points most_vertices = c.from.ensures ∙ c.min.ensures ∙ ap (λ k. min k most_vertices) c.points-3.ensures.value in
    subst IsOutline (sym c.in_ok-outline.ensures) (gives g at.After-hit_copies-crossings (known g at.In_ok-numbers) (omega (arith, c.if-seen-from.false, most))).outline
