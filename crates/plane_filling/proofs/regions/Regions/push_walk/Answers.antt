use Rattle.std.proofs.Common.{◌++◌, ◌∷◌, [], ap, ◌∙◌}
use Rattle.std.proofs.lemmas.List.{take_all}
use Rattle.std.specs.Prelude.{List, ℕ}
use Rattle.plane_filling.proofs.Stored.{walks_added}
use Rattle.plane_filling.proofs.regions.Regions.push_walk.Goals as goal

pub returns : goal.returns
returns c =
    let r = c.args.self.now in
    let l = c.loop-place in
    let whole = take_all l.place-index c.args.places.now c.loop-place-test.false in
    walks_added r (record { all = l.self.all; ends = l.self.ends; walks = c.end.new.self }) ((r.walks.1 ++ c.args.places.now) ∷ []) [] c.requires l.invariant.all
    l.invariant.ends
    (c.in_ok-end.ensures ∙ ap (λ (w : List (List ℕ) × List ℕ). (w.0 ++ w.1 ∷ [], [])) l.invariant.walks
    ∙ ap (λ (ps : List ℕ). (r.walks.0 ++ (r.walks.1 ++ ps) ∷ [], [])) whole)
