use Rattle.std.proofs.Common.{◌≡◌, ◌+◌, ◌<◌, ◌∷◌, ◌++◌, [], take, length, get_or, sym, ap, ◌∙◌, arith}
use Rattle.std.proofs.lemmas.List.{length-take-le}
use Rattle.face_loops.specs.Segments.{edge_of, edges_of}
use Rattle.face_loops.specs.Starts.{starts_of}
use Rattle.face_loops.proofs.Listing.{starts_from-push}
use Rattle.face_loops.proofs.Reading.{no_segment, length-edges_of, edges_of-more}
use Rattle.face_loops.proofs.starts.starts.Goals as goal

pub loop-place-preserved : goal.loop-place-preserved
loop-place-preserved c =
    let ss = c.args.segments.now in
    let i = c.loop-place.place in
    let below : i < length ss = omega (arith, c.loop-place-test.true) in
    let e = edge_of (get_or ss i no_segment) in
    let count : 0 + length (edges_of (take i ss)) ≡ i = omega (arith, length-edges_of (take i ss), length-take-le i ss) in
    c.in_ok-push.ensures.items ∙ ap (λ l. l ++ (e.0, i) ∷ []) c.loop-place.invariant
    ∙ sym (ap starts_of (edges_of-more ss i below) ∙ starts_from-push 0 (edges_of (take i ss)) e ∙ ap (λ n. starts_of (edges_of (take i ss)) ++ (e.0, n) ∷ []) count)
