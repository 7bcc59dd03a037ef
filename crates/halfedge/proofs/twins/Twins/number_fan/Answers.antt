use Rattle.std.proofs.Common.{◌≡◌, ◌≢◌, ◌<◌, ℕ, List, length, get_or, slice_set, sym, subst, ap, ◌∙◌, arith}
use Rattle.chain_terms.specs.Chains.{all_edges, IsClosed}
use Rattle.chain_terms.specs.Ranks.{twin}
use Rattle.chain_laws.proofs.Twins.{twin_runs_back}
use Rattle.mesh_terms.specs.Halves.{next_half, prev_half, around}
use Rattle.mesh_terms.specs.Meshes.{Triple}
use Rattle.mesh_terms.specs.Twins.{IsTwinned}
use Rattle.halfedge.specs.Numbering.{no_fan}
use Rattle.halfedge.proofs.Around.{around_inverse}
use Rattle.halfedge.proofs.Edges.{length-all_edges}
use Rattle.halfedge.proofs.FanWalk.{IsWalked, walk_below, walk_more, walk_done}
use Rattle.halfedge.proofs.Listed.{length-twins, twin_listed}
use Rattle.halfedge.proofs.twins.Twins.number_fan.Goals as goal

-- where the walk stands is a half-edge
stands_below : (ts : List Triple) → IsClosed (all_edges ts) → (h number : ℕ) (old of : List ℕ) (g : ℕ) → h < length (all_edges ts) →
    IsWalked (around (all_edges ts)) (length (all_edges ts)) h number old of g → g < length (all_edges ts)
stands_below ts closed =
    let es = all_edges ts in
    walk_below (around es) (λ g. twin es (prev_half g)) (length es) (around_inverse ts closed)

-- the list has the twin of a half-edge
twin_read : (ts : List Triple) (twins read : List ℕ) → IsTwinned ts twins → read ≡ twins → (h : ℕ) → h < length (all_edges ts) → get_or read h 0 ≡ twin (all_edges ts) h
twin_read ts twins read known same h below = ap (λ l. get_or l h 0) same ∙ twin_listed ts twins known h 0 (omega (arith, below, length-all_edges ts))

pub bounds-of-half : goal.bounds-of-half
bounds-of-half c =
    let ts = c.args.self.now.triples in
    let below = stands_below ts c.requires.twinned.closed c.args.h c.args.number _ _ _ c.requires.half c.loop-of.invariant in
    omega (arith, below, c.loop-of.invariant.full)

pub bounds-twins-half : goal.bounds-twins-half
bounds-twins-half c =
    let ts = c.args.self.now.triples in
    let below = stands_below ts c.requires.twinned.closed c.args.h c.args.number _ _ _ c.requires.half c.loop-of.invariant in
    let full = length-twins ts c.args.self.now.twins c.twins-twins.ensures.twinned in
    omega (arith, below, full, ap length c.twins-twins.ensures.value, length-all_edges ts)

pub next-half-requires : goal.next-half-requires
next-half-requires c =
    let ts = c.args.self.now.triples in
    let below = stands_below ts c.requires.twinned.closed c.args.h c.args.number _ _ _ c.requires.half c.loop-of.invariant in
    let within = (twin_runs_back (all_edges ts) c.requires.twinned.closed c.loop-of.half below).within in
    omega (
      arith,
      within,
      twin_read ts c.args.self.now.twins c.twins-twins.result.now c.twins-twins.ensures.twinned c.twins-twins.ensures.value c.loop-of.half
          below,
      length-all_edges ts,
    )

pub loop-of-preserved : goal.loop-of-preserved
loop-of-preserved c =
    let ts = c.args.self.now.triples in
    let es = all_edges ts in
    let number = c.args.number in
    let some = c.requires.number in
    let other : number ≢ no_fan = λ same. omega (arith, same, some) in
    let below = stands_below ts c.requires.twinned.closed c.args.h c.args.number _ _ _ c.requires.half c.loop-of.invariant in
    let read = twin_read ts c.args.self.now.twins c.twins-twins.result.now c.twins-twins.ensures.twinned c.twins-twins.ensures.value c.loop-of.half below in
    let step : c.next-half.result ≡ around es c.loop-of.half = c.next-half.ensures.value ∙ ap next_half read in
    subst (λ g. IsWalked (around es) (length es) c.args.h number c.args.of.now (slice_set c.loop-of.of c.loop-of.half number) g) (sym step)
    (walk_more (around es) (length es) c.args.h number _ _ _ other below c.loop-of.invariant c.loop-of-test.true)

pub returns : goal.returns
returns c =
    let ts = c.args.self.now.triples in
    let es = all_edges ts in
    let done = walk_done (around es) (λ g. twin es (prev_half g)) (length es) (around_inverse ts c.requires.twinned.closed) c.args.h c.args.number _ _ _
    c.requires.half c.requires.kept_around c.requires.fresh c.loop-of.invariant c.loop-of-test.false in
    record { full = done.full; here = done.here; kept_around = done.kept_around; each = done.each }
