-- Points that stay when the unused ones go: each used one is found under its new number.
use Rattle.std.proofs.Common.{◌≡◌, ℕ, zero, suc, ◌+◌, ◌<◌, true, List, [], ◌∷◌, ◌++◌, inl, inr, length, get_or, filter, ap, ◌∙◌, arith}
use Rattle.std.specs.Prelude.{cond}
use Rattle.std.proofs.lemmas.Bool.{cases_Bool}
use Rattle.chain_terms.specs.Sums.{up_from}
use Rattle.mesh_terms.specs.Meshes.{Triple, is_used, used_from, new_number}

-- from point k on
at_kept : {X : Type 0} (ts : List Triple) (k : ℕ) (ps : List X) (j : ℕ) (d : X) → j < length ps → is_used ts (k + j) ≡ true →
    get_or (used_from ts k ps) (length (filter (is_used ts) (up_from k j))) d ≡ get_or ps j d
at_kept ts k [] j d low used = absurd (omega (arith, low))
at_kept ts k (p ∷ ps) zero d low used =
    let here : k ≡ k + 0 = omega arith in
    ap (λ b. get_or (cond b (p ∷ []) [] ++ used_from ts (suc k) ps) 0 d) (ap (is_used ts) here ∙ used)
at_kept ts k (p ∷ ps) (suc j) d low used =
    let further : suc k + j ≡ k + suc j = omega arith in
    let rest = at_kept ts (suc k) ps j d (omega (arith, low)) (ap (is_used ts) further ∙ used) in
    let later = filter (is_used ts) (up_from (suc k) j) in
    elim (cases_Bool (is_used ts k)) as (λ _. get_or (used_from ts k (p ∷ ps)) (length (filter (is_used ts) (up_from k (suc j)))) d ≡ get_or ps j d) [
      | inl y ↦ ap (λ b. get_or (cond b (p ∷ []) [] ++ used_from ts (suc k) ps) (length (cond b (k ∷ later) later)) d) y ∙ rest
      | inr n ↦ ap (λ b. get_or (cond b (p ∷ []) [] ++ used_from ts (suc k) ps) (length (cond b (k ∷ later) later)) d) n ∙ rest
    ]

pub kept_point : {X : Type 0} (ts : List Triple) (points : List X) (v : ℕ) (d : X) → v < length points → is_used ts v ≡ true →
    get_or (used_from ts 0 points) (new_number ts v) d ≡ get_or points v d
kept_point ts points v d low used = let here : 0 + v ≡ v = omega arith in at_kept ts 0 points v d low (ap (is_used ts) here ∙ used)
