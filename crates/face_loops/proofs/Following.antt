-- Following edges and cutting a list into cycles, step by step; more steps than edges change nothing.
use Rattle.std.proofs.Common.{◌≡◌, ◌≤◌, ℕ, zero, suc, List, [], ◌∷◌, length, refl, ap, subst, ◌∙◌, arith, Option, Some, None}
use Rattle.std.proofs.lemmas.List.Sorted.{length_permutation}
use Rattle.chain_terms.specs.Cycles.{end_from, without_from, on_end, put_first, follow, cycles_within, cycles}
use Rattle.chain_laws.proofs.Cycles.{Found, found}
use Rattle.face_loops.specs.Trails.{followed}

-- what is left where an edge was found is shorter by one
pub shorter : (v w : ℕ) (es : List (ℕ × ℕ)) → end_from v es ≡ Some w → length es ≡ suc (length (without_from v es))
shorter v w es h = let taken = subst (λ o. Found v es o (without_from v es)) h (found v es) in omega (arith, length_permutation es ((v, w) ∷ without_from v es) taken)

-- two ways to go on that agree wherever an end is found
on_end-same : {X : Type 0} (o : Option ℕ) (x : X) (f g : ℕ → X) → ((w : ℕ) → o ≡ Some w → f w ≡ g w) → on_end o x f ≡ on_end o x g
on_end-same None x f g same = refl
on_end-same (Some w) x f g same = same w refl

-- as many steps as edges are enough
pub follow-enough : (n m v : ℕ) (es : List (ℕ × ℕ)) → length es ≤ n → length es ≤ m → follow n v es ≡ follow m v es
follow-enough zero zero v es hn hm = refl
follow-enough zero (suc m) v [] hn hm = refl
follow-enough zero (suc m) v (e ∷ es) hn hm = absurd (omega (arith, hn))
follow-enough (suc n) zero v [] hn hm = refl
follow-enough (suc n) zero v (e ∷ es) hn hm = absurd (omega (arith, hm))
follow-enough (suc n) (suc m) v es hn hm =
    on_end-same (end_from v es) ([], es) (λ w. put_first v (follow n w (without_from v es))) (λ w. put_first v (follow m w (without_from v es)))
    (λ w h. ap (put_first v) (follow-enough n m w (without_from v es) (omega (arith, hn, shorter v w es h)) (omega (arith, hm, shorter v w es h))))

-- one more step
pub follow-suc : (n v w : ℕ) (es : List (ℕ × ℕ)) → end_from v es ≡ Some w → follow (suc n) v es ≡ put_first v (follow n w (without_from v es))
follow-suc n v w es h = ap (λ o. on_end o ([], es) (λ u. put_first v (follow n u (without_from v es)))) h

-- where an edge goes on
pub followed-on : (v w : ℕ) (es : List (ℕ × ℕ)) → end_from v es ≡ Some w → followed v es ≡ put_first v (followed w (without_from v es))
followed-on v w es h =
    ap (λ n. follow n v es) (shorter v w es h) ∙ follow-suc (length (without_from v es)) v w es h

-- where none does
pub followed-end : (v : ℕ) (es : List (ℕ × ℕ)) → end_from v es ≡ None → followed v es ≡ ([], es)
followed-end v [] h = refl
followed-end v (e ∷ es) h = ap (λ o. on_end o ([], e ∷ es) (λ u. put_first v (follow (length es) u (without_from v (e ∷ es))))) h

-- following leaves no more edges than there were
shrinks : (v : ℕ) (es : List (ℕ × ℕ)) (o : Option ℕ) (f : ℕ → List ℕ × List (ℕ × ℕ)) → ((w : ℕ) → o ≡ Some w → length (f w).1 ≤ length es) →
    length (on_end o ([], es) (λ w. put_first v (f w))).1 ≤ length es
shrinks v es None f h = omega arith
shrinks v es (Some w) f h = h w refl

pub follow-shrinks : (n v : ℕ) (es : List (ℕ × ℕ)) → length (follow n v es).1 ≤ length es
follow-shrinks zero v es = omega arith
follow-shrinks (suc n) v es =
    shrinks v es (end_from v es) (λ w. follow n w (without_from v es)) (λ w h. omega (arith, follow-shrinks n w (without_from v es), shorter v w es h))

-- as many cycles as edges are enough
pub cycles-enough : (n m : ℕ) (es : List (ℕ × ℕ)) → length es ≤ n → length es ≤ m → cycles_within n es ≡ cycles_within m es
cycles-enough zero zero es hn hm = refl
cycles-enough zero (suc m) [] hn hm = refl
cycles-enough zero (suc m) (e ∷ es) hn hm = absurd (omega (arith, hn))
cycles-enough (suc n) zero [] hn hm = refl
cycles-enough (suc n) zero (e ∷ es) hn hm = absurd (omega (arith, hm))
cycles-enough (suc n) (suc m) [] hn hm = refl
cycles-enough (suc n) (suc m) (e ∷ es) hn hm =
    let r = followed e.1 es in
    ap (λ l. (e.0 ∷ r.0) ∷ l) (cycles-enough n m r.1 (omega (arith, hn, follow-shrinks (length es) e.1 es)) (omega (arith, hm, follow-shrinks (length es) e.1 es)))

-- the first cycle and the rest
pub cycles-cons : (e : ℕ × ℕ) (es : List (ℕ × ℕ)) → cycles (e ∷ es) ≡ (e.0 ∷ (followed e.1 es).0) ∷ cycles (followed e.1 es).1
cycles-cons e es =
    let r = followed e.1 es in
    ap (λ l. (e.0 ∷ r.0) ∷ l) (cycles-enough (length es) (length r.1) r.1 (follow-shrinks (length es) e.1 es) (omega arith))
