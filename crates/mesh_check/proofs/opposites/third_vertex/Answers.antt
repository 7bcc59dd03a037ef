use Rattle.std.proofs.Common.{◌≡◌, ◌<◌, ◌*◌, ◌/◌, ◌%◌, ℕ, List, [], length, get_or, sym, ◌∙◌, ap, arith}
use Rattle.std.proofs.lemmas.List.{length-map}
use Rattle.mesh_terms.specs.Halves.{next_half}
use Rattle.mesh_terms.specs.Meshes.{triple_of, triples_of}
use Rattle.halfedge.proofs.Starts.{start_read}
use Rattle.mesh_check.specs.Opposites.{third_vertex}
use Rattle.mesh_check.proofs.opposites.third_vertex.Goals as goal

-- the third vertex stands in the triple of the half-edge, where the one after the next starts
third_read : (xs : List (List ℕ)) (h r : ℕ) → h < 3 * length xs → next_half (next_half h) % 3 ≡ r → get_or (get_or xs (h / 3) []) r 0 ≡ third_vertex (triples_of xs) h
third_read xs h r low is =
    let g = next_half (next_half h) in
    let same : g / 3 ≡ h / 3 = omega arith in
    let inside : g < 3 * length xs = omega (arith, low, same) in
    sym (start_read xs g inside ∙ ap (λ i. get_or (get_or xs i []) (g % 3) 0) same ∙ ap (λ i. get_or (get_or xs (h / 3) []) i 0) is)

pub returns-in-0 : goal.returns-in-0
returns-in-0 c =
    let low : c.args.h < 3 * length c.triples.result.now = omega (arith, c.requires, ap length c.triples.ensures.value, length-map c.triples.result.now triple_of) in
    third_read c.triples.result.now c.args.h 2 low (omega (arith, c.in-0.is)) ∙ ap (λ ts. third_vertex ts c.args.h) c.triples.ensures.value

pub returns-in-1 : goal.returns-in-1
returns-in-1 c =
    let low : c.args.h < 3 * length c.triples.result.now = omega (arith, c.requires, ap length c.triples.ensures.value, length-map c.triples.result.now triple_of) in
    third_read c.triples.result.now c.args.h 0 low (omega (arith, c.in-1.is)) ∙ ap (λ ts. third_vertex ts c.args.h) c.triples.ensures.value

pub returns-in_default : goal.returns-in_default
returns-in_default c =
    let low : c.args.h < 3 * length c.triples.result.now = omega (arith, c.requires, ap length c.triples.ensures.value, length-map c.triples.result.now triple_of) in
    third_read c.triples.result.now c.args.h 1 low (omega (arith, c.in_default)) ∙ ap (λ ts. third_vertex ts c.args.h) c.triples.ensures.value
