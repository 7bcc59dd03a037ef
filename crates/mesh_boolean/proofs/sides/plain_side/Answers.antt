use Rattle.std.proofs.Common.{◌≡◌, List, [], ◌∷◌, Bool, false, length, replicate, ◌∙◌, ap}
use Rattle.std.specs.Array.{AllZipBelow}
use Rattle.std.proofs.lemmas.List.Elements.{same_from_all_zip}
use Rattle.std.proofs.lemmas.Result.{IfOk-weaker}
use Rattle.side_terms.specs.Sides.{side_of}
use Rattle.mesh_boolean.specs.Operation.{q_side}
use Rattle.mesh_boolean.proofs.sides.plain_side.Goals as goal

pub returns : goal.returns
returns c =
    let m = c.args.q.now in
    let ups = c.in_ok-ups.ups.items in
    let clone : (y : List Bool) → AllZipBelow (λ (a b : Bool). b ≡ a) (false ∷ false ∷ false ∷ []) y 3 → y ≡ false ∷ false ∷ false ∷ [] =
    λ y same. same_from_all_zip (λ a b. b ≡ a) (false ∷ false ∷ false ∷ []) y same.whole (λ a b e. e) in
    let plain : ups ≡ replicate (length m.points) (false ∷ false ∷ false ∷ []) = c.in_ok-ups.ensures.items_if_clones_equal clone
    ∙ ap (λ l. replicate (length l) (false ∷ false ∷ false ∷ [])) c.points.ensures.value in
    IfOk-weaker c.of.result (λ side. side ≡ side_of m ups) (λ side. side ≡ q_side m) (λ side is. is ∙ ap (side_of m) plain) c.of.ensures
