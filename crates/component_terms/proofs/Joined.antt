-- Being joined is an equivalence, and more edges join more.
use Rattle.std.proofs.Common.{ℕ, List, ◌∷◌, arith}
use Rattle.chain_laws.specs.Chains.{is_self}
use Rattle.chain_laws.specs.Counts.{one_if-true}
use Rattle.chain_terms.specs.Chains.{is_edge}
use Rattle.component_terms.specs.Components.{IsJoined, Here, Along}

-- from u to v, and on to w
pub joined_on : (es : List (ℕ × ℕ)) (u v w : ℕ) → IsJoined es u v → IsJoined es v w → IsJoined es u w
joined_on es u v w first Here = first
joined_on es u v w first (Along a b joined some) = Along a b (joined_on es u v a first joined) some

-- and back
pub joined_back : (es : List (ℕ × ℕ)) (v w : ℕ) → IsJoined es v w → IsJoined es w v
joined_back es v w Here = Here
joined_back es v w (Along a b joined some) = joined_on es b a v (Along b a Here (omega (arith, some))) (joined_back es v a joined)

-- one more edge leaves joined what was
pub joined_still : (e : ℕ × ℕ) (es : List (ℕ × ℕ)) (v w : ℕ) → IsJoined es v w → IsJoined (e ∷ es) v w
joined_still e es v w Here = Here
joined_still e es v w (Along a b joined some) = Along a b (joined_still e es v a joined) (omega (arith, some))

-- and joins its ends
pub joined_ends : (e : ℕ × ℕ) (es : List (ℕ × ℕ)) → IsJoined (e ∷ es) e.0 e.1
joined_ends e es = Along e.0 e.1 Here (omega (arith, one_if-true (is_edge e e.0 e.1) (is_self e.0 e.1)))
