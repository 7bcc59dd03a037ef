use Rattle.std.proofs.Common.{arith, ◌≡◌, ◌<◌, ◌∷◌, ◌++◌, [], length, true, set, get_or, ap, sym, subst, ◌∙◌}
use Rattle.chain_terms.specs.Ranks.{start, finish}
use Rattle.face_loops.specs.Segments.{edges_of}
use Rattle.face_loops.specs.Trails.{IsLoopFrom}
use Rattle.face_loops.proofs.Reading.{no_segment, length-edges_of, start_at, finish_at}
use Rattle.face_loops.proofs.Trailing.{IsOnTrail, trail_begins, trail_goes_on, trail_ends, fewer_left}
use Rattle.face_loops.proofs.trail.loop_from.Goals as goal

pub loop-next-smaller : goal.loop-next-smaller
loop-next-smaller c = fewer_left (edges_of c.args.segments.now) c.loop-next.used c.loop-next.end c.in-Some.next c.in-Some.ensures

pub loop-next-init : goal.loop-next-init
loop-next-init c =
    let es = edges_of c.args.segments.now in
    let marked = set c.args.used.now c.args.first true in
    let one : c.push.new.self.items ≡ start es c.args.first ∷ [] =
    c.in_ok-push.ensures.items ∙ ap (λ l. l ++ (get_or c.args.segments.now c.args.first no_segment).from ∷ []) c.new-vertices.ensures.items
    ∙ ap (λ v. v ∷ []) (sym (start_at c.args.segments.now c.args.first c.requires.within)) in
    subst (λ v. IsOnTrail es c.args.first c.args.used.now marked v c.push.new.self.items) (finish_at c.args.segments.now c.args.first c.requires.within)
    (subst (λ l. IsOnTrail es c.args.first c.args.used.now marked (finish es c.args.first) l) (sym one)
    (trail_begins es c.args.first c.args.used.now (omega (arith, c.requires.within, c.requires.full))))

pub loop-next-preserved : goal.loop-next-preserved
loop-next-preserved c =
    let es = edges_of c.args.segments.now in
    let next = c.in-Some.next in
    let marked = set c.loop-next.used next true in
    let below : next < length c.args.segments.now = omega (arith, c.in-Some.ensures.within, length-edges_of c.args.segments.now) in
    subst (λ v. IsOnTrail es c.args.first c.args.used.now marked v c.push-in-Some.new.self.items) (finish_at c.args.segments.now next below)
    (subst (λ l. IsOnTrail es c.args.first c.args.used.now marked (finish es next) l) (sym c.in_ok-push-2.ensures.items)
    (trail_goes_on es c.args.first c.args.used.now c.loop-next.used c.loop-next.end c.loop-next.vertices.items next c.loop-next.invariant c.in-Some.ensures))

pub returns : goal.returns
returns c =
    let es = edges_of c.args.segments.now in
    subst (IsLoopFrom es c.args.first c.args.used.now c.loop-next.used) (sym c.of.ensures)
    (trail_ends es c.args.first c.args.used.now c.loop-next.used c.loop-next.end c.loop-next.vertices.items c.loop-next.invariant c.in_default.ensures)
