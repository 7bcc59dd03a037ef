-- Rounds of a ring: they may begin at any place, and a cut takes the triangle of its place away.
use Rattle.std.specs.Prelude.{◌≡◌, ◌≢◌, ℕ, ◌+◌, ◌<◌, ℤ, ◌+ℤ◌, List, [], ◌∷◌, ◌++◌, length}
use Rattle.std.specs.List.{All}
use Rattle.std.specs.List.Sorted.{IsPermutation}
use Rattle.std.proofs.Common.{arith, sym, subst}
use Rattle.std.proofs.lemmas.Int.{ints}
use Rattle.std.proofs.lemmas.List.{append_assoc, append-nil, length-append, get_or_append_left, get_or-append-add}
use Rattle.std.proofs.lemmas.List.Elements.{All-head, All-tail, All-append, All-cons, All-nil}
use Rattle.std.proofs.lemmas.List.Sorted.{IsPermutation-refl, IsPermutation-sym, IsPermutation-trans, All-permutation}
use Rattle.chain_terms.specs.Sums.{total}
use Rattle.chain_terms.specs.Chains.{edges}
use Rattle.chain_terms.specs.Odd.{IsOdd, along}
use Rattle.chain_terms.specs.Paths.{path, last_of, round_edges}
use Rattle.chain_laws.specs.Sums.{total-permutation}
use Rattle.chain_laws.proofs.Paths.{round_edges-turned, total-round_edges}
use Rattle.ring_cutting.proofs.Members.{head_or}

-- a round may begin at any place
pub round_edges-moved : (a b : List ℕ) → IsPermutation (round_edges (a ++ b)) (round_edges (b ++ a))
round_edges-moved [] b = subst (λ l. IsPermutation (round_edges b) (round_edges l)) (sym (append-nil b)) (IsPermutation-refl (round_edges b))
round_edges-moved (x ∷ a) b =
    let first : (a ++ b) ++ x ∷ [] ≡ a ++ (b ++ x ∷ []) = append_assoc a b (x ∷ []) in
    let last : (b ++ x ∷ []) ++ a ≡ b ++ x ∷ a = append_assoc b (x ∷ []) a in
    let rest = round_edges-moved a (b ++ x ∷ []) in
    IsPermutation-trans (round_edges (x ∷ (a ++ b))) (round_edges ((a ++ b) ++ x ∷ [])) (round_edges (b ++ x ∷ a))
    (IsPermutation-sym (round_edges ((a ++ b) ++ x ∷ [])) (round_edges (x ∷ (a ++ b))) (round_edges-turned x (a ++ b)))
    (subst (λ l. IsPermutation (round_edges l) (round_edges (b ++ x ∷ a))) (sym first)
    (subst (λ l. IsPermutation (round_edges (a ++ (b ++ x ∷ []))) (round_edges l)) last rest))

-- so its sum may
pub round_sum-moved : (g : (ℕ × ℕ) → ℤ) (a b : List ℕ) → total g (round_edges (b ++ a)) ≡ total g (round_edges (a ++ b))
round_sum-moved g a b = total-permutation g (round_edges (a ++ b)) (round_edges (b ++ a)) (round_edges-moved a b)

-- an odd sum round a ring is that round the triangle of its first place and that round the rest
pub cut_first : (f : ℕ → ℕ → ℤ) → IsOdd f → (x : ℕ) (rest : List ℕ) → 0 < length rest →
    total (along f) (round_edges (x ∷ rest)) ≡ total (along f) (edges (last_of x rest, x, head_or x rest)) +ℤ total (along f) (round_edges rest)
cut_first f odd x [] h = absurd (omega (arith, h))
cut_first f odd x (y ∷ s) h = omega (arith, ints, odd.turns (last_of y s) y, total-round_edges (along f) x (y ∷ s), total-round_edges (along f) y s)

-- the same at any place
pub cut_sum : (f : ℕ → ℕ → ℤ) → IsOdd f → (a : List ℕ) (x : ℕ) (b : List ℕ) → 0 < length (b ++ a) →
    total (along f) (round_edges (a ++ x ∷ b)) ≡
    total (along f) (edges (last_of x (b ++ a), x, head_or x (b ++ a))) +ℤ total (along f) (round_edges (a ++ b))
cut_sum f odd a x b h = omega (arith, ints, round_sum-moved (along f) a (x ∷ b), cut_first f odd x (b ++ a) h, round_sum-moved (along f) a b)

-- every edge joins two different vertices
abbrev pub Apart : List (ℕ × ℕ) → Type 0
Apart es = All (λ e. e.0 ≢ e.1) es

pub apart_front : (es fs : List (ℕ × ℕ)) → Apart (es ++ fs) → Apart es
apart_front es fs all k d h = subst (λ (e : ℕ × ℕ). e.0 ≢ e.1) (get_or_append_left es fs d k h) (all k d (omega (arith, h, length-append es fs)))

pub apart_back : (es fs : List (ℕ × ℕ)) → Apart (es ++ fs) → Apart fs
apart_back es fs all k d h =
    subst (λ (e : ℕ × ℕ). e.0 ≢ e.1) (get_or-append-add es fs k d) (all (length es + k) d (omega (arith, h, length-append es fs)))

-- what the first place of a ring and the rest keep
pub record Parts (x : ℕ) (rest : List ℕ) : Type 0 where
  pub before : last_of x rest ≢ x
  pub after : x ≢ head_or x rest
  pub rest_apart : last_of x rest ≢ head_or x rest → Apart (round_edges rest)

pub parts_first : (x : ℕ) (rest : List ℕ) → 0 < length rest → Apart (round_edges (x ∷ rest)) → Parts x rest
parts_first x [] h all = absurd (omega (arith, h))
parts_first x (y ∷ s) h all =
    let P : (ℕ × ℕ) → Type 0 = λ e. e.0 ≢ e.1 in
    let tail : Apart (path y s ++ (last_of y s, x) ∷ []) = All-tail P (x, y) (path y s ++ (last_of y s, x) ∷ []) all in
    record {
      before = All-head P (last_of y s, x) [] (apart_back (path y s) ((last_of y s, x) ∷ []) tail);
      after = All-head P (x, y) (path y s ++ (last_of y s, x) ∷ []) all;
      rest_apart = λ n. All-append P (path y s) ((last_of y s, y) ∷ []) (apart_front (path y s) ((last_of y s, x) ∷ []) tail)
          (All-cons P (last_of y s, y) [] n (All-nil P));
    }

-- the same at any place
pub parts_at : (a : List ℕ) (x : ℕ) (b : List ℕ) → 0 < length (b ++ a) → Apart (round_edges (a ++ x ∷ b)) → Parts x (b ++ a)
parts_at a x b h all =
    parts_first x (b ++ a) h
    (All-permutation (λ e. e.0 ≢ e.1) (round_edges (a ++ x ∷ b)) (round_edges (x ∷ (b ++ a))) (round_edges-moved a (x ∷ b)) all)

-- the ring without the place
pub apart_without : (a : List ℕ) (x : ℕ) (b : List ℕ) → 0 < length (b ++ a) → Apart (round_edges (a ++ x ∷ b)) →
    last_of x (b ++ a) ≢ head_or x (b ++ a) → Apart (round_edges (a ++ b))
apart_without a x b h all n =
    All-permutation (λ e. e.0 ≢ e.1) (round_edges (b ++ a)) (round_edges (a ++ b)) (round_edges-moved b a) ((parts_at a x b h all).rest_apart n)
