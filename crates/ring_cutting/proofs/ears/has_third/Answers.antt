use Rattle.std.proofs.Common.{◌≡◌, ℕ, List, [], ◌∷◌, Bool, refl, ap, ◌∙◌, rules, tests}
use Rattle.std.specs.Prelude.{◌||◌}
use Rattle.std.specs.List.{list_any}
use Rattle.std.proofs.lemmas.Iterator.{YieldsList-from_slice}
use Rattle.std.proofs.lemmas.Iterator.Search.{any_from_yields_List}
use Rattle.ring_cutting.specs.declared.place.Place.{Place}
use Rattle.ring_cutting.specs.Placed.{vertices_of, is_third}
use Rattle.ring_cutting.proofs.ears.has_third.Goals as goal

-- by the vertices
of_vertices : (p n : ℕ) (ps : List Place) → list_any (λ (q : Place). is_third p n q.vertex) ps ≡ list_any (is_third p n) (vertices_of ps)
of_vertices p n [] = refl
of_vertices p n (q ∷ ps) = ap (λ (b : Bool). is_third p n q.vertex || b) (of_vertices p n ps)

pub returns : goal.returns
returns c =
    let ps = c.args.places.now in
    let p = c.args.p in
    let n = c.args.n in
    any_from_yields_List (λ (q : Place). is_third p n q.vertex) _ _ c.any.result c.any.ensures.ran (YieldsList-from_slice ps (cc))
    (λ x b q k. search (rules, tests)) ∙ of_vertices p n ps
