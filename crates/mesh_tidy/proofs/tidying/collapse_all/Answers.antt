use Rattle.std.proofs.Common.{◌≡◌, ℕ, ◌+◌, ◌*◌, ◌<◌, Bool, true, false, List, [], ◌∷◌, Vec, Global, length, get_or, refl, replicate, sym, ap, subst, ◌∙◌, arith}
use Rattle.std.specs.List.{All}
use Rattle.std.specs.Vec.{with_items}
use Rattle.std.proofs.lemmas.Bool.{both_ways, false≢true}
use Rattle.std.proofs.lemmas.List.{length-replicate, with_items_is}
use Rattle.std.proofs.lemmas.List.Elements.{All-head, All-replicate, All-tail}
use Rattle.tidy_terms.specs.Collapsible.{is_collapsible}
use Rattle.mesh_tidy.specs.Doubts.{AreDoubted, AreHalves}
use Rattle.mesh_tidy.specs.TidySurface.{TidySurface, Has, HasCollapsed, IsSurface, left_of, number_of}
use Rattle.mesh_tidy.proofs.Done.{HasCome, come_all, come_more, come_none, none_there, picked_most, two_fewer}
use Rattle.mesh_tidy.proofs.DoubtSet.{least_first}
use Rattle.mesh_tidy.proofs.Queue.{least_is, others_doubted, surface_good}
use Rattle.mesh_tidy.proofs.tidying.collapse_all.Goals as goal
use Rattle.mesh_tidy.proofs.tidying.collapse_all.Goals.{else-has-via-then-has+else-is_collapsible, else-has-via-else-has}

pub loop-half-init : goal.loop-half-init
loop-half-init c =
    let v = c.vertices.ensures in
    let made : c.in_ok-met.met.items ≡ replicate c.vertices.result false = c.in_ok-met.ensures.items_if_clones_equal (λ y same. same) in
    let count : length c.in_ok-met.met.items ≡ c.args.surface.vertices = omega (arith, ap length made, length-replicate c.vertices.result false, v.value) in
    record {
      vertices = refl;
      count = refl;
      surface = v.surface;
      doubts = c.requires.doubts;
      halves = c.requires.halves;
      marks = count;
      unmarked = subst (All (λ mark. mark ≡ false)) (sym made) (All-replicate (λ mark. mark ≡ false) c.vertices.result false refl);
      come = come_none c.args.points.now c.requires.each c.args.surface;
      few = omega arith;
    }

pub loop-half-preserved : goal.loop-half-preserved
loop-half-preserved c =
    let points = c.args.points.now in
    let s = c.loop-half.surface in
    let inv = c.loop-half.invariant in
    let half = c.in-Some.half in
    let rest = c.pop_first.new.self.keys in
    let good = surface_good s (length points) (inv.vertices ∙ sym c.requires.points) inv.surface in
    let doubted : AreDoubted points s (half ∷ rest) = subst (AreDoubted points s) c.in-Some.ensures.removal inv.doubts in
    let halves : AreHalves s.triples (half ∷ rest) = subst (AreHalves s.triples) c.in-Some.ensures.removal inv.halves in
    let Stays : Type 0 = (c.else-has.surface ≡ s) × (c.else-has.met.items ≡ c.loop-half.met.items) × (Has s half →
    is_collapsible points (left_of s) (number_of s half) ≡ true → ⊥) in
    let stays : Stays = elim c.else-has.branch as (λ _. Stays) [
      | else-has-via-then-has+else-is_collapsible w ↦ (
        w.surface-is ∙ w.is_collapsible.ensures.surface,
        ap (λ (v : Vec Bool Global). v.items) w.met-is ∙ with_items_is c.loop-half.met w.is_collapsible.new.met
            (omega (arith, ap length w.is_collapsible.ensures.marks, ap length w.deref_mut.ensures.value, c.loop-half.met.ok.0)) ∙ w.is_collapsible.ensures.marks
            ∙ w.deref_mut.ensures.value,
        λ has can. both_ways w.is_collapsible.result w.if-is_collapsible.false (w.is_collapsible.ensures.value ∙ can),
      )
      | else-has-via-else-has w ↦ (w.surface-is, ap (λ (v : Vec Bool Global). v.items) w.met-is, λ has can. both_ways c.has.result w.if-has.false (c.has.ensures ∙ has.1))
    ] in
    let same = stays.0 in
    let met = stays.1 in
    record {
      vertices = ap (λ (v : TidySurface). v.vertices) same ∙ inv.vertices;
      count = ap (λ (v : TidySurface). length v.triples) same ∙ inv.count;
      surface = subst IsSurface (sym same) inv.surface;
      doubts = subst (λ v. AreDoubted points v rest) (sym same) (others_doubted points c.requires.each s inv.surface.marks good half rest doubted stays.2);
      halves = subst (λ (v : TidySurface). AreHalves v.triples rest) (sym same) (All-tail (λ h. h < 3 * length s.triples) half rest halves);
      marks = ap length met ∙ inv.marks ∙ sym (ap (λ (v : TidySurface). v.vertices) same);
      unmarked = subst (All (λ mark. mark ≡ false)) (sym met) inv.unmarked;
      come = subst (λ v. HasCome points c.args.surface v c.loop-half.collapsed) (sym same) inv.come;
      few = ap (λ v. 2 * c.loop-half.collapsed + length (left_of v)) same ∙ inv.few;
    }

pub loop-half-smaller : goal.loop-half-smaller
loop-half-smaller c =
    let s = c.loop-half.surface in
    let Less : TidySurface → Type 0 = λ v. 2 * length (left_of v) + length c.pop_first.new.self.keys < 2 * length (left_of s) + length c.loop-half.doubts.keys in
    let less : Less s = omega (arith, ap length c.in-Some.ensures.removal) in
    elim c.else-has.branch as (λ _. Less c.else-has.surface) [
      | else-has-via-then-has+else-is_collapsible w ↦ subst Less (sym (w.surface-is ∙ w.is_collapsible.ensures.surface)) less
      | else-has-via-else-has w ↦ subst Less (sym w.surface-is) less
    ]

pub has-requires : goal.has-requires
has-requires c =
    let s = c.loop-half.surface in
    let halves : AreHalves s.triples (c.in-Some.half ∷ c.pop_first.new.self.keys) = subst (AreHalves s.triples) c.in-Some.ensures.removal c.loop-half.invariant.halves in
    All-head (λ h. h < 3 * length s.triples) c.in-Some.half c.pop_first.new.self.keys halves

pub is_collapsible-requires-clause-points : goal.is_collapsible-requires-clause-points
is_collapsible-requires-clause-points c = c.requires.points ∙ sym c.loop-half.invariant.vertices

pub is_collapsible-requires-clause-has : goal.is_collapsible-requires-clause-has
is_collapsible-requires-clause-has c =
    let s = c.loop-half.surface in
    let halves : AreHalves s.triples (c.in-Some.half ∷ c.pop_first.new.self.keys) = subst (AreHalves s.triples) c.in-Some.ensures.removal c.loop-half.invariant.halves in
    (All-head (λ h. h < 3 * length s.triples) c.in-Some.half c.pop_first.new.self.keys halves, sym c.has.ensures ∙ c.if-has.true)

pub is_collapsible-requires-clause-marks : goal.is_collapsible-requires-clause-marks
is_collapsible-requires-clause-marks c = ap length c.deref_mut.ensures.value ∙ c.loop-half.invariant.marks

pub is_collapsible-requires-clause-unmarked : goal.is_collapsible-requires-clause-unmarked
is_collapsible-requires-clause-unmarked c = subst (All (λ mark. mark ≡ false)) (sym c.deref_mut.ensures.value) c.loop-half.invariant.unmarked

pub collapse-requires-clause-points : goal.collapse-requires-clause-points
collapse-requires-clause-points c = c.requires.points ∙ sym c.loop-half.invariant.vertices ∙ sym (ap (λ (v : TidySurface). v.vertices) c.is_collapsible.ensures.surface)

pub collapse-requires-clause-each : goal.collapse-requires-clause-each
collapse-requires-clause-each c = c.requires.each

pub collapse-requires-clause-has : goal.collapse-requires-clause-has
collapse-requires-clause-has c =
    let s = c.loop-half.surface in
    let halves : AreHalves s.triples (c.in-Some.half ∷ c.pop_first.new.self.keys) = subst (AreHalves s.triples) c.in-Some.ensures.removal c.loop-half.invariant.halves in
    subst (λ v. Has v c.in-Some.half) (sym c.is_collapsible.ensures.surface)
    (All-head (λ h. h < 3 * length s.triples) c.in-Some.half c.pop_first.new.self.keys halves, sym c.has.ensures ∙ c.if-has.true)

pub collapse-requires-clause-can : goal.collapse-requires-clause-can
collapse-requires-clause-can c =
    subst (λ v. is_collapsible c.args.points.now (left_of v) (number_of v c.in-Some.half) ≡ true) (sym c.is_collapsible.ensures.surface)
    (sym c.is_collapsible.ensures.value ∙ c.if-is_collapsible.true)

pub collapse-requires-clause-doubts : goal.collapse-requires-clause-doubts
collapse-requires-clause-doubts c =
    let points = c.args.points.now in
    subst (λ v. AreDoubted points v (c.in-Some.half ∷ c.pop_first.new.self.keys)) (sym c.is_collapsible.ensures.surface)
    (subst (AreDoubted points c.loop-half.surface) c.in-Some.ensures.removal c.loop-half.invariant.doubts)

pub collapse-requires-clause-halves : goal.collapse-requires-clause-halves
collapse-requires-clause-halves c =
    let s = c.loop-half.surface in
    let rest = c.pop_first.new.self.keys in
    let halves : AreHalves s.triples (c.in-Some.half ∷ rest) = subst (AreHalves s.triples) c.in-Some.ensures.removal c.loop-half.invariant.halves in
    subst (λ (v : TidySurface). AreHalves v.triples rest) (sym c.is_collapsible.ensures.surface) (All-tail (λ h. h < 3 * length s.triples) c.in-Some.half rest halves)

pub collapse-requires-clause-surface : goal.collapse-requires-clause-surface
collapse-requires-clause-surface c = subst IsSurface (sym c.is_collapsible.ensures.surface) c.loop-half.invariant.surface

pub overflow_add-collapsed : goal.overflow_add-collapsed
overflow_add-collapsed c =
    let inv = c.loop-half.invariant in
    let first = c.args.surface in
    omega (arith, inv.few, inv.count, inv.surface.few, picked_most first.left first.triples)

pub loop-half-smaller-then-is_collapsible : goal.loop-half-smaller-then-is_collapsible
loop-half-smaller-then-is_collapsible c =
    let points = c.args.points.now in
    let s = c.loop-half.surface in
    let new = c.collapse.new.surface in
    let inv = c.loop-half.invariant in
    let half = c.in-Some.half in
    let rest = c.pop_first.new.self.keys in
    let good = surface_good s (length points) (inv.vertices ∙ sym c.requires.points) inv.surface in
    let halves : AreHalves s.triples (half ∷ rest) = subst (AreHalves s.triples) c.in-Some.ensures.removal inv.halves in
    let has : Has s half = (All-head (λ h. h < 3 * length s.triples) half rest halves, sym c.has.ensures ∙ c.if-has.true) in
    let can = sym c.is_collapsible.ensures.value ∙ c.if-is_collapsible.true in
    let doubted : AreDoubted points s (half ∷ rest) = subst (AreDoubted points s) c.in-Some.ensures.removal inv.doubts in
    let least = least_is points c.requires.each s inv.surface.marks good half rest doubted has can (least_first half rest c.in-Some.ensures.all_above) in
    let done = subst (λ v. HasCollapsed v new half) c.is_collapsible.ensures.surface c.in_ok-collapse.ensures.collapsed in
    let fewer = two_fewer points c.requires.each c.args.surface s new c.loop-half.collapsed half inv.count good has can least done in
    let less : 2 * length (left_of new) + length c.collapse.new.doubts.keys < 2 * length (left_of s) + length c.loop-half.doubts.keys =
    omega (arith, fewer, c.in_ok-collapse.ensures.count, ap length c.in-Some.ensures.removal) in
    less

pub loop-half-preserved-then-is_collapsible : goal.loop-half-preserved-then-is_collapsible
loop-half-preserved-then-is_collapsible c =
    let points = c.args.points.now in
    let s = c.loop-half.surface in
    let new = c.collapse.new.surface in
    let inv = c.loop-half.invariant in
    let half = c.in-Some.half in
    let rest = c.pop_first.new.self.keys in
    let good = surface_good s (length points) (inv.vertices ∙ sym c.requires.points) inv.surface in
    let halves : AreHalves s.triples (half ∷ rest) = subst (AreHalves s.triples) c.in-Some.ensures.removal inv.halves in
    let has : Has s half = (All-head (λ h. h < 3 * length s.triples) half rest halves, sym c.has.ensures ∙ c.if-has.true) in
    let can = sym c.is_collapsible.ensures.value ∙ c.if-is_collapsible.true in
    let doubted : AreDoubted points s (half ∷ rest) = subst (AreDoubted points s) c.in-Some.ensures.removal inv.doubts in
    let least = least_is points c.requires.each s inv.surface.marks good half rest doubted has can (least_first half rest c.in-Some.ensures.all_above) in
    let done = subst (λ v. HasCollapsed v new half) c.is_collapsible.ensures.surface c.in_ok-collapse.ensures.collapsed in
    let fewer = two_fewer points c.requires.each c.args.surface s new c.loop-half.collapsed half inv.count good has can least done in
    let met : (with_items c.loop-half.met c.is_collapsible.new.met).items ≡ c.loop-half.met.items =
    with_items_is c.loop-half.met c.is_collapsible.new.met
    (omega (arith, ap length c.is_collapsible.ensures.marks, ap length c.deref_mut.ensures.value, c.loop-half.met.ok.0)) ∙ c.is_collapsible.ensures.marks
    ∙ c.deref_mut.ensures.value in
    record {
      vertices = done.vertices ∙ inv.vertices;
      count = done.count ∙ inv.count;
      surface = c.in_ok-collapse.ensures.surface;
      doubts = c.in_ok-collapse.ensures.doubts;
      halves = c.in_ok-collapse.ensures.halves;
      marks = ap length met ∙ inv.marks ∙ sym done.vertices;
      unmarked = subst (All (λ mark. mark ≡ false)) (sym met) inv.unmarked;
      come = come_more points c.requires.each c.args.surface s new c.loop-half.collapsed half inv.count good has can least done inv.come;
      few = omega (arith, fewer, inv.few);
    }

pub returns-clause-tidied : goal.returns-clause-tidied
returns-clause-tidied c =
    let s = c.loop-half.surface in
    let points = c.args.points.now in
    let none = none_there c.loop-half.doubts.keys (λ some. absurd (false≢true (c.in_default.ensures.variant.1 some))) in
    come_all points c.requires.each c.args.surface s c.loop-half.collapsed c.loop-half.invariant.come (subst (AreDoubted points s) none c.loop-half.invariant.doubts)

pub returns-clause-count : goal.returns-clause-count
returns-clause-count c = c.loop-half.invariant.count

pub returns-clause-vertices : goal.returns-clause-vertices
returns-clause-vertices c = c.loop-half.invariant.vertices
