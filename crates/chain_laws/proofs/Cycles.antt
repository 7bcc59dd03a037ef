-- The cycles of a balanced list of edges have exactly its edges.
use Rattle.std.specs.Prelude.{◌≡◌, ℕ, zero, suc, ◌+◌, ◌≤◌, List, [], ◌∷◌, ◌++◌, false, Bool, cond, length, ◌==◌, count_by, Option, Some, None}
use Rattle.std.specs.List.{flat_map}
use Rattle.std.specs.List.Sorted.{IsPermutation}
use Rattle.std.proofs.Common.{arith, refl, sym, ap, subst, inl, inr}
use Rattle.std.proofs.lemmas.Bool.{eqb-true, eq-eqb, cases_Bool}
use Rattle.std.proofs.lemmas.List.{append_assoc}
use Rattle.std.proofs.lemmas.List.Sorted.{IsPermutation-refl, IsPermutation-cons, IsPermutation-trans, IsPermutation-middle, IsPermutation-append_right, length_permutation, sum_by-IsPermutation}
use Rattle.chain_terms.specs.Chains.{one_if}
use Rattle.chain_laws.specs.Counts.{one_if-true, one_if-false, count_by-cons}
use Rattle.chain_terms.specs.Cycles.{out, into, Balanced, end_from, without_from, on_end, put_first, follow, cycles_within}
use Rattle.chain_terms.specs.Paths.{path, last_of, round_edges}

-- either no edge starts at v, or the first that does is taken out
abbrev pub Found : ℕ → List (ℕ × ℕ) → Option ℕ → List (ℕ × ℕ) → Type 0
Found v es None fs = out es v ≡ 0
Found v es (Some w) fs = IsPermutation es ((v, w) ∷ fs)

-- an edge from elsewhere stays in front
pub found_later : (e : ℕ × ℕ) (v : ℕ) (es : List (ℕ × ℕ)) → (e.0 == v) ≡ false → (o : Option ℕ) (fs : List (ℕ × ℕ)) → Found v es o fs → Found v (e ∷ es) o (e ∷ fs)
found_later e v es n None fs h = omega (arith, count_by-cons (λ d. d.0 == v) e es, one_if-false (e.0 == v) n, h)
found_later e v es n (Some w) fs h =
    IsPermutation-trans (e ∷ es) (e ∷ (v, w) ∷ fs) ((v, w) ∷ e ∷ fs) (IsPermutation-cons e es ((v, w) ∷ fs) h) (IsPermutation-middle (e ∷ []) (v, w) fs)

-- what end_from and without_from find
pub found : (v : ℕ) (es : List (ℕ × ℕ)) → Found v es (end_from v es) (without_from v es)
found v [] = refl
found v (e ∷ es) = elim (cases_Bool (e.0 == v)) as (λ _. Found v (e ∷ es) (end_from v (e ∷ es)) (without_from v (e ∷ es))) [
  | inl y ↦ rw y (subst (λ u. IsPermutation (e ∷ es) ((u, e.1) ∷ es)) (eqb-true e.0 v y) (IsPermutation-refl (e ∷ es)))
  | inr n ↦ rw n (found_later e v es n (end_from v es) (without_from v es) (found v es))
]

-- a count with the taken edge in front
pub count_by-taken : (p : (ℕ × ℕ) → Bool) (d : ℕ × ℕ) (es fs : List (ℕ × ℕ)) → IsPermutation es (d ∷ fs) → count_by p es ≡ one_if (p d) + count_by p fs
count_by-taken p d es fs h = omega (arith, sum_by-IsPermutation (λ e. cond (p e) 1 0) es (d ∷ fs) h, count_by-cons p d fs)

-- a trail from v along the vertices us back to a takes its edges out of es and leaves fs
abbrev pub IsTrail : ℕ → ℕ → List (ℕ × ℕ) → List ℕ → List (ℕ × ℕ) → Type 0
IsTrail a v es [] fs = (v ≡ a) × IsPermutation es fs
IsTrail a v es (u ∷ us) fs = (u ≡ v) × IsPermutation es (path v us ++ (last_of v us, a) ∷ fs)

-- a trail from v that closes at a, with what it leaves
pub record Closes (a v : ℕ) (es : List (ℕ × ℕ)) (r : List ℕ × List (ℕ × ℕ)) : Type 0 where
  pub balanced : Balanced r.1
  pub shorter : length r.1 ≤ length es
  pub trail : IsTrail a v es r.0 r.1

-- the edges and a path from a to v are balanced
abbrev pub IsOpenAt : ℕ → ℕ → List (ℕ × ℕ) → Type 0
IsOpenAt a v es = (x : ℕ) → out es x + one_if (a == x) ≡ into es x + one_if (v == x)

-- an edge in front of a trail
pub longer_trail : (a v w : ℕ) (es fs gs : List (ℕ × ℕ)) (us : List ℕ) → IsPermutation es ((v, w) ∷ fs) → IsTrail a w fs us gs → IsTrail a v es (v ∷ us) gs
longer_trail a v w es fs gs [] t h =
    (refl, IsPermutation-trans es ((v, w) ∷ fs) ((v, a) ∷ gs) t (subst (λ b. IsPermutation ((v, w) ∷ fs) ((v, b) ∷ gs)) h.0 (IsPermutation-cons (v, w) fs gs h.1)))
longer_trail a v w es fs gs (u ∷ us) t h = (
  refl,
  rw h.0 (IsPermutation-trans es ((v, w) ∷ fs) ((v, w) ∷ (path w us ++ (last_of w us, a) ∷ gs)) t
      (IsPermutation-cons (v, w) fs (path w us ++ (last_of w us, a) ∷ gs) h.1)),
)

-- what follows an edge, with the edge
pub extended : (a v w : ℕ) (es fs : List (ℕ × ℕ)) (r : List ℕ × List (ℕ × ℕ)) → IsPermutation es ((v, w) ∷ fs) → Closes a w fs r → Closes a v es (put_first v r)
extended a v w es fs r t c =
    record { balanced = c.balanced; shorter = omega (arith, c.shorter, length_permutation es ((v, w) ∷ fs) t); trail = longer_trail a v w es fs r.1 r.0 t c.trail }

-- where no edge goes on, the path is back at its start
pub same_end : (a v : ℕ) (es : List (ℕ × ℕ)) → IsOpenAt a v es → out es v ≡ 0 → v ≡ a
same_end a v es balance none = elim (cases_Bool (a == v)) as (λ _. v ≡ a) [
  | inl y ↦ sym (eqb-true a v y)
  | inr n ↦ absurd (omega (arith, balance v, none, one_if-false (a == v) n, one_if-true (v == v) (eq-eqb v v refl)))
]

-- and the trail closes there
pub stuck : (a v : ℕ) (es : List (ℕ × ℕ)) → IsOpenAt a v es → out es v ≡ 0 → Closes a v es ([], es)
stuck a v es balance none =
    let e = same_end a v es balance none in
    record { balanced = λ x. omega (arith, balance x, ap (λ u. one_if (u == x)) e); shorter = omega arith; trail = (e, IsPermutation-refl es) }

-- one step of following
pub go_on : (a n v : ℕ) (es : List (ℕ × ℕ)) (o : Option ℕ) (fs : List (ℕ × ℕ)) → IsOpenAt a v es → length es ≤ suc n → Found v es o fs →
    ((w : ℕ) → length fs ≤ n → IsOpenAt a w fs → Closes a w fs (follow n w fs)) → Closes a v es (on_end o ([], es) (λ w. put_first v (follow n w fs)))
go_on a n v es None fs balance short h next = stuck a v es balance h
go_on a n v es (Some w) fs balance short h next =
    extended a v w es fs (follow n w fs) h
    (next w (omega (arith, short, length_permutation es ((v, w) ∷ fs) h))
    (λ x. omega (arith, balance x, count_by-taken (λ e. e.0 == x) (v, w) es fs h, count_by-taken (λ e. e.1 == x) (v, w) es fs h)))

-- following closes: it ends where it began, and what is left is balanced
pub follow_closes : (a n v : ℕ) (es : List (ℕ × ℕ)) → length es ≤ n → IsOpenAt a v es → Closes a v es (follow n v es)
follow_closes a zero v [] short balance = stuck a v [] balance refl
follow_closes a zero v (e ∷ es) short balance = absurd (omega (arith, short))
follow_closes a (suc n) v es short balance =
    go_on a n v es (end_from v es) (without_from v es) balance short (found v es) (λ w s o. follow_closes a n w (without_from v es) s o)

-- a trail with the edge to its start is a round
pub round_of_trail : (a v : ℕ) (es : List (ℕ × ℕ)) (us : List ℕ) (gs : List (ℕ × ℕ)) → IsTrail a v es us gs → IsPermutation ((a, v) ∷ es) (round_edges (a ∷ us) ++ gs)
round_of_trail a v es [] gs h = subst (λ b. IsPermutation ((a, v) ∷ es) ((a, b) ∷ gs)) h.0 (IsPermutation-cons (a, v) es gs h.1)
round_of_trail a v es (u ∷ us) gs h =
    subst (λ l. IsPermutation ((a, v) ∷ es) l) (ap (λ l. (a, u) ∷ l) (sym (append_assoc (path u us) ((last_of u us, a) ∷ []) gs)))
    (rw h.0 (IsPermutation-cons (a, v) es (path v us ++ (last_of v us, a) ∷ gs) h.1))

-- the edges of the cycles are the edges of the list
pub cycles_edges : (n : ℕ) (es : List (ℕ × ℕ)) → length es ≤ n → Balanced es → IsPermutation es (flat_map round_edges (cycles_within n es))
cycles_edges zero [] short b = IsPermutation-refl []
cycles_edges zero (e ∷ es) short b = absurd (omega (arith, short))
cycles_edges (suc n) [] short b = IsPermutation-refl []
cycles_edges (suc n) (e ∷ es) short b =
    let r = follow (length es) e.1 es in
    let c = follow_closes e.0 (length es) e.1 es (omega arith) (λ x. omega (arith, b x, count_by-cons (λ d. d.0 == x) e es, count_by-cons (λ d. d.1 == x) e es)) in
    let rest = cycles_edges n r.1 (omega (arith, short, c.shorter)) c.balanced in
    IsPermutation-trans (e ∷ es) (round_edges (e.0 ∷ r.0) ++ r.1) (round_edges (e.0 ∷ r.0) ++ flat_map round_edges (cycles_within n r.1))
    (round_of_trail e.0 e.1 es r.0 r.1 c.trail) (IsPermutation-append_right (round_edges (e.0 ∷ r.0)) r.1 (flat_map round_edges (cycles_within n r.1)) rest)
