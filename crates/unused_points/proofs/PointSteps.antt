-- Points kept one after the other, with their numbers.
use Rattle.std.proofs.Common.{◌≡◌, ◌<◌, ◌≤◌, ◌+◌, ℕ, Bool, true, false, cond, List, [], ◌∷◌, ◌++◌, length, get_or, take, sym, ◌∙◌, ap, arith, below_more}
use Rattle.std.proofs.lemmas.List.{append-nil, length-take, length-append, take_more, get_or_append_left, get_or_push}
use Rattle.mesh_terms.specs.Meshes.{Triple, is_used, used_from, new_number}
use Rattle.unused_points.specs.Used.{NumbersUsed}
use Rattle.unused_points.proofs.Numbers.{used_from-push}
use Rattle.unused_points.proofs.KeptMesh.{length-kept}

-- one point more
pub kept_more : {X : Type 0} (ts : List Triple) (points : List X) (i : ℕ) (d : X) → i < length points →
    used_from ts 0 (take (i + 1) points) ≡ used_from ts 0 (take i points) ++ cond (is_used ts i) (get_or points i d ∷ []) []
kept_more {X} ts points i d low =
    let at : 0 + length (take i points) ≡ i = omega (arith, low, length-take i points) in
    ap (used_from ts 0) (take_more points i d low) ∙ used_from-push ts 0 (take i points) (get_or points i d)
    ∙ ap (λ (m : ℕ). used_from ts 0 (take i points) ++ cond (is_used ts m) (get_or points i d ∷ []) []) at

-- as many are kept as the number of the next point says
pub kept_number : {X : Type 0} (ts : List Triple) (points : List X) (i : ℕ) → i ≤ length points → length (used_from ts 0 (take i points)) ≡ new_number ts i
kept_number ts points i low = let at : length (take i points) ≡ i = omega (arith, low, length-take i points) in length-kept ts (take i points) ∙ ap (new_number ts) at

-- one number more
pub numbers_more : (ts : List Triple) (i n : ℕ) (numbers : List ℕ) → NumbersUsed i ts numbers → n ≡ new_number ts i → NumbersUsed (i + 1) ts (numbers ++ n ∷ [])
numbers_more ts i n numbers known is = record {
  each = omega (arith, length-append numbers (n ∷ []), known.each);
  number = below_more _ i
      (λ v low. get_or_append_left numbers (n ∷ []) 0 v (omega (arith, low, known.each)) ∙ known.number v low)
      (get_or_push numbers n 0 i known.each ∙ is);
}

-- a used point is kept
pub kept_used : {X : Type 0} (ts : List Triple) (points : List X) (i : ℕ) (x : X) (kept new : List X) → i < length points → x ≡ get_or points i x →
    is_used ts i ≡ true → kept ≡ used_from ts 0 (take i points) → new ≡ kept ++ x ∷ []
    → new ≡ used_from ts 0 (take (i + 1) points)
kept_used {X} ts points i x kept new low is used before more =
    let rest : List X = used_from ts 0 (take i points) in
    more ∙ ap (λ l. l ++ x ∷ []) before ∙ ap (λ y. rest ++ y ∷ []) is ∙ ap (λ (b : Bool). rest ++ cond b (get_or points i x ∷ []) []) (sym used) ∙ sym (kept_more ts points i x low)

-- another is not
pub kept_unused : {X : Type 0} (ts : List Triple) (points : List X) (i : ℕ) (x : X) (kept new : List X) → i < length points → is_used ts i ≡ false →
    kept ≡ used_from ts 0 (take i points) → new ≡ kept
    → new ≡ used_from ts 0 (take (i + 1) points)
kept_unused {X} ts points i x kept new low unused before same =
    let rest : List X = used_from ts 0 (take i points) in
    same ∙ before ∙ sym (append-nil rest) ∙ ap (λ (b : Bool). rest ++ cond b (get_or points i x ∷ []) []) (sym unused) ∙ sym (kept_more ts points i x low)
