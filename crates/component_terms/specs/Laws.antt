-- The laws of the number of components, as statements.
use Rattle.std.specs.Prelude.{◌≡◌, ℕ, ◌<◌, ◌≤◌, List, length}
use Rattle.std.specs.List.{All}
use Rattle.chain_laws.specs.Ascending.{Ascends}
use Rattle.component_terms.specs.Components.{IsLeast, HasComponents}
use Rattle.component_terms.specs.Counts.{component_count}

-- the edges join vertices below n
abbrev pub AreBelow : ℕ → List (ℕ × ℕ) → Type 0
AreBelow n es = All (λ e. (e.0 < n) × (e.1 < n)) es

-- there are as many components as are computed
abbrev pub CountIsReached : Type 0
CountIsReached = (points : ℕ) (es : List (ℕ × ℕ)) → AreBelow points es → HasComponents points es (component_count points es)

-- and no other number of them
abbrev pub NumberIsCount : Type 0
NumberIsCount = (points : ℕ) (es : List (ℕ × ℕ)) (n : ℕ) → AreBelow points es → HasComponents points es n → n ≡ component_count points es

-- ascending vertices, each the least that it is joined to, are no more than there are components
abbrev pub LeastAreFew : Type 0
LeastAreFew = (points : ℕ) (es : List (ℕ × ℕ)) (vs : List ℕ) →
    AreBelow points es → Ascends vs → All (λ v. v < points) vs → All (IsLeast es) vs → length vs ≤ component_count points es
