use Rattle.std.proofs.Common.{◌++◌, ◌∷◌, ◌∙◌, [], List, ap, append_assoc, ℕ, ◌≡◌}
use Rattle.self_cuts.proofs.edges.push_edges.Goals as goal

-- three put behind a list one after the other
three : (old one two new : List ℕ) (x y z : ℕ) → one ≡ old ++ x ∷ [] → two ≡ one ++ y ∷ [] → new ≡ two ++ z ∷ [] → new ≡ old ++ x ∷ y ∷ z ∷ []
three old one two new x y z e f g =
    g ∙ ap (λ l. l ++ z ∷ []) (f ∙ ap (λ l. l ++ y ∷ []) e ∙ append_assoc old (x ∷ []) (y ∷ [])) ∙ append_assoc old (x ∷ y ∷ []) (z ∷ [])

pub returns-clause-lows : goal.returns-clause-lows
returns-clause-lows c = three _ _ _ _ _ _ _ c.in_ok-push_edge.ensures.lows c.in_ok-push_edge-2.ensures.lows c.in_ok-push_edge-3.ensures.lows

pub returns-clause-highs : goal.returns-clause-highs
returns-clause-highs c = three _ _ _ _ _ _ _ c.in_ok-push_edge.ensures.highs c.in_ok-push_edge-2.ensures.highs c.in_ok-push_edge-3.ensures.highs
