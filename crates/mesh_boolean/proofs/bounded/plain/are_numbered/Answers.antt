use Rattle.std.proofs.Common.{◌≡◌, ◌==◌, [], ◌∷◌, ◌++◌, map, get_or, refl, sym, ap, ◌∙◌, rules}
use Rattle.std.specs.Cmp.Lexicographic.{pointwise}
use Rattle.std.proofs.lemmas.Bool.{not-false}
use Rattle.std.proofs.lemmas.Bool.Decides.{Decides-eqb}
use Rattle.std.proofs.lemmas.List.{map_push}
use Rattle.std.proofs.lemmas.Slice.Eq.{slice_eq-Decides}
use Rattle.chain_terms.specs.Sums.{upto}
use Rattle.chain_laws.proofs.Places.{upto_more}
use Rattle.lean.proofs.Triangles.{triples_more}
use Rattle.mesh_terms.specs.Meshes.{triple_of}
use Rattle.source_faces.specs.Adding.{copy_triple}
use Rattle.mesh_boolean.proofs.bounded.plain.are_numbered.Goals as goal

pub loop-i-preserved : goal.loop-i-preserved
loop-i-preserved c =
    let part = c.args.part.now in
    let i = c.loop-i.i in
    let at = copy_triple c.args.a c.args.b c.args.c in
    let here = get_or part i [] in
    let made = c.copy_triple.result in
    let same = pointwise (λ x y. x == y) here made in
    let equal : here ≡ made = (slice_eq-Decides Decides-eqb here made same refl).0 (not-false same (sym c.ne.ensures ∙ c.if-ne.false)) in
    triples_more part i (search rules) ∙ ap (λ l. l ++ triple_of here ∷ []) c.loop-i.invariant
    ∙ ap (λ t. map at (upto i) ++ t ∷ []) (ap triple_of equal ∙ c.copy_triple.ensures)
    ∙ sym (ap (map at) (upto_more i) ∙ map_push at (upto i) i)
