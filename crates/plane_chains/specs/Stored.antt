-- An edge that is put behind a chain.
use Rattle.std.specs.Prelude.{◌≡◌, ℕ, List, [], ◌∷◌, ◌++◌}
use Rattle.plane_chains.specs.declared.chain.Chain.{Chain}
use Rattle.plane_chains.specs.declared.nets.LabelNumber.{LabelNumber}

-- the edge with its numbers, if there are some
abbrev pub edge_of : (ℕ × ℕ) → List LabelNumber → List (List ℕ)
edge_of e [] = []
edge_of e (n ∷ net) = (e.0 ∷ e.1 ∷ []) ∷ []

abbrev pub net_of : List LabelNumber → List (List LabelNumber)
net_of [] = []
net_of (n ∷ net) = (n ∷ net) ∷ []

-- it was put there; no list of numbers is being made
pub record HasPushed (old new : Chain) (e : ℕ × ℕ) (net : List LabelNumber) : Type 0 where
  pub edges : new.edges.items ≡ old.edges.items ++ edge_of e net
  pub nets : old.nets.1 ≡ [] → new.nets ≡ (old.nets.0 ++ net_of net, [])
