use Rattle.std.proofs.Common.{◌≡◌, ◌+◌, ◌-◌, ◌<◌, ◌≤◌, ℕ, List, [], ◌∷◌, ◌++◌, length, get_or, map, take, drop, arith, ap, sym, ◌∙◌}
use Rattle.std.proofs.lemmas.List.{get_or-drop, length-drop, map_push, take_more}
use Rattle.std.specs.Prelude.{Bool}
use Rattle.face_plane.specs.Planes.{Plane}
use Rattle.sheet_terms.specs.Filled.{begun}
use Rattle.plane_filling.specs.Begun.{begun_without, seen_in, without}
use Rattle.plane_filling.specs.Ways.{is_passed}
use Rattle.plane_filling.proofs.loops.started_all.Goals as goal

-- a walk more
walk_more : (p : ℕ → Bool) (at : Plane) (ws loops new : List (List ℕ)) (one : List ℕ) (start i : ℕ) → start ≤ i → i < length ws →
    new ≡ loops ++ one ∷ [] → one ≡ begun at (without p (get_or ws i [])) → loops ≡ begun_without p at (take (i - start) (drop start ws)) →
    new ≡ begun_without p at (take (i + 1 - start) (drop start ws))
walk_more p at ws loops new one start i up low more is before =
    let f : List ℕ → List ℕ = λ walk. begun at (without p walk) in
    let n = i - start in
    let next : i + 1 - start ≡ n + 1 = omega (arith, up) in
    let place : start + n ≡ i = omega (arith, up) in
    let read : get_or (drop start ws) n [] ≡ get_or ws i [] = get_or-drop start ws n [] ∙ ap (λ k. get_or ws k []) place in
    more ∙ (λ j. before j ++ is j ∷ []) ∙ ap (λ w. map f (take n (drop start ws)) ++ f w ∷ []) (sym read)
    ∙ sym (ap (λ m. map f (take m (drop start ws))) next ∙ ap (map f) (take_more (drop start ws) n [] (omega (arith, low, up, length-drop start ws)))
    ∙ map_push f (take n (drop start ws)) (get_or (drop start ws) n []))

pub loop-walk-preserved : goal.loop-walk-preserved
loop-walk-preserved c =
    let p = is_passed c.args.flat.now.points.now c.args.ways.now in
    let at = seen_in c.args.flat.now in
    let ws = c.args.walks.now.0 in
    let i = c.loop-walk.walk in
    walk_more p at ws c.loop-walk.loops.items c.push.new.self.items c.of.result c.args.start i (omega (arith, c.loop-walk.auto.walk))
    (omega (arith, c.loop-walk-test.true, c.requires.within, c.loop-walk.auto.walk-end)) c.in_ok-push.ensures.items
    (c.of.ensures ∙ c.in_ok-started.ensures ∙ ap (begun at) (c.deref.ensures.value ∙ c.in_ok-left.ensures ∙ ap (without p) c.rim.ensures)) c.loop-walk.invariant
