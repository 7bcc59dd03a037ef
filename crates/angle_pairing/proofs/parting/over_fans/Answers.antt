use Rattle.std.proofs.Common.{◌++◌, ◌+◌, ◌*◌, ℕ, List, [], ◌∷◌, get_or, sym, ◌∙◌, ap}
use Rattle.std.proofs.lemmas.List.{map-append}
use Rattle.mesh_terms.specs.Meshes.{Triple, triple_of, triples_of}
use Rattle.pinch_split.specs.Split.{corner_values}
use Rattle.pinch_split.proofs.Corners.{corners_more}
use Rattle.angle_pairing.proofs.parting.over_fans.Goals as goal

pub loop-t-preserved : goal.loop-t-preserved
loop-t-preserved c =
    let of = c.args.of.now in
    let t = c.loop-t.t in
    let added : List ℕ = get_or of (3 * t) 0 ∷ get_or of (3 * t + 1) 0 ∷ get_or of (3 * t + 2) 0 ∷ [] in
    let corner : Triple = corner_values (λ h. get_or of h 0) t in
    ap triples_of c.in_ok-push.ensures.items ∙ map-append triple_of c.loop-t.triples.items (added ∷ []) ∙ ap (λ l. l ++ corner ∷ []) c.loop-t.invariant ∙ sym (corners_more of t)
