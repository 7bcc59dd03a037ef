use Rattle.std.proofs.Common.{◌≡◌, ℕ, ◌-◌, List, [], ◌++◌, length, take, drop, ap, ◌∙◌}
use Rattle.std.proofs.lemmas.List.{take_rest}
use Rattle.hole_joining.specs.Holes.{turned_to}
use Rattle.plane_filling.proofs.starts.started.Goals as goal

-- the two parts, one after the other
two_parts : (walk none front all : List ℕ) (start : ℕ) → none ≡ [] → front ≡ none ++ take (length walk - start) (drop start walk) →
    all ≡ front ++ take start walk → all ≡ turned_to start walk
two_parts walk none front all start e f g =
    g ∙ ap (λ l. l ++ take start walk) (f ∙ ap (λ l. l ++ take (length walk - start) (drop start walk)) e ∙ take_rest walk start)

pub returns : goal.returns
returns c =
    let walk = c.args.walk.now in
    two_parts walk c.in_ok-turned.turned.items c.extend_from_slice.new.self.items c.extend_from_slice-2.new.self.items c.beginning-start.result
    c.in_ok-turned.ensures.items c.in_ok-extend_from_slice.ensures.items c.in_ok-extend_from_slice-2.ensures.items
    ∙ ap (λ i. turned_to i walk) c.beginning-start.ensures.value
