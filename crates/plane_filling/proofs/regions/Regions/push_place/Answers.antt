use Rattle.std.proofs.Common.{◌≡◌, ◌++◌, ◌∷◌, [], ap, refl, sym, subst, ◌∙◌}
use Rattle.std.proofs.lemmas.List.{append-nil}
use Rattle.std.specs.Prelude.{List, ℕ}
use Rattle.plane_filling.specs.declared.regions.Regions.{Regions}
use Rattle.plane_filling.specs.Regions.{AreSeen, all_walks, waiting}
use Rattle.plane_filling.proofs.Stored.{walks_added}
use Rattle.plane_filling.proofs.regions.Regions.push_place.Goals as goal

pub returns : goal.returns
returns c =
    let r = c.args.self.now in
    let making = r.walks.1 ++ c.args.place ∷ [] in
    let new : Regions = record { all = r.all; ends = r.ends; walks = c.push.new.self } in
    let same : c.push.new.self ≡ (r.walks.0 ++ [], making) = c.in_ok-push.ensures ∙ ap (λ (ws : List (List ℕ)). (ws, making)) (sym (append-nil r.walks.0)) in
    subst (λ (wait : List (List ℕ)). AreSeen new r.all.items (all_walks r) wait making) (append-nil (waiting r)) (walks_added r new [] making c.requires refl refl same)
