-- Lists turned: what does not change when a list begins at another place.
use Rattle.std.specs.Prelude.{◌≡◌, ℕ, zero, suc, ◌+◌, ◌-◌, ◌<◌, ◌≤◌, ◌⊎◌, ℤ, List, [], ◌∷◌, ◌++◌, ◌==◌, cond, length}
use Rattle.std.specs.Prelude.{take, drop, count_by}
use Rattle.std.proofs.Common.{arith, sym, ap, ◌∙◌, inl, inr, append_assoc}
use Rattle.std.proofs.lemmas.Bool.{cases_eq, eq-eqb, ne_eqb}
use Rattle.std.proofs.lemmas.List.{append-nil, length-append, take-append-drop}
use Rattle.std.proofs.lemmas.List.Sums.{sum_by-append}
use Rattle.std.proofs.Math.Seq.{drop-length, take-length}
use Rattle.chain_terms.specs.Chains.{one_if}
use Rattle.chain_terms.specs.Sums.{total}
use Rattle.chain_terms.specs.Paths.{round_edges}
use Rattle.chain_laws.specs.Sums.{total-permutation}
use Rattle.chain_laws.specs.Counts.{count_by-cons, one_if-true, one_if-false}
use Rattle.chain_laws.proofs.Paths.{round_edges-turned}
use Rattle.loop_ring.proofs.Reading.{turned_more}
use Rattle.face_plane.specs.Rings.{In}
use Rattle.hole_joining.specs.Holes.{turned_to}

-- once round: the sum over the edges
abbrev pub once_round : ((ℕ × ℕ) → ℤ) → List ℕ → ℤ
once_round g r = total g (round_edges r)

-- a sum once round may begin at any vertex
pub round_later : (g : (ℕ × ℕ) → ℤ) → (xs ys : List ℕ) → once_round g (xs ++ ys) ≡ once_round g (ys ++ xs)
round_later g [] ys = ap (once_round g) (sym (append-nil ys))
round_later g (x ∷ s) ys =
    total-permutation g (round_edges ((s ++ ys) ++ x ∷ [])) (round_edges (x ∷ (s ++ ys))) (round_edges-turned x (s ++ ys))
    ∙ ap (once_round g) (append_assoc s ys (x ∷ [])) ∙ round_later g s (ys ++ x ∷ []) ∙ ap (once_round g) (append_assoc ys (x ∷ []) s)

-- so a turned list has the same sum once round
pub round_turned : (g : (ℕ × ℕ) → ℤ) → (i : ℕ) (r : List ℕ) → once_round g (turned_to i r) ≡ once_round g r
round_turned g i r = round_later g (drop i r) (take i r) ∙ ap (once_round g) (take-append-drop i r)

-- and the same length
pub length-turned : (i : ℕ) (r : List ℕ) → length (turned_to i r) ≡ length r
length-turned i r = omega (arith, length-append (drop i r) (take i r), length-append (take i r) (drop i r), ap length (take-append-drop i r))

-- turned once round it is the same
pub turned_all : (r : List ℕ) → turned_to (length r) r ≡ r
turned_all r = λ j. drop-length r j ++ take-length r j

-- how often a vertex stands in the list
abbrev pub often : ℕ → List ℕ → ℕ
often v r = count_by (λ x. x == v) r

pub often-append : (v : ℕ) (xs ys : List ℕ) → often v (xs ++ ys) ≡ often v xs + often v ys
often-append v xs ys = sum_by-append (λ x. cond (x == v) 1 0) xs ys

pub often-cons : (v x : ℕ) (xs : List ℕ) → often v (x ∷ xs) ≡ one_if (x == v) + often v xs
often-cons v x xs = count_by-cons (λ z. z == v) x xs

-- a turned list has each vertex as often
pub often-turned : (v i : ℕ) (r : List ℕ) → often v (turned_to i r) ≡ often v r
often-turned v i r = omega (arith, often-append v (drop i r) (take i r), often-append v (take i r) (drop i r), ap (often v) (take-append-drop i r))

-- what stands in the list stands there at least once
pub in_often : (v : ℕ) (r : List ℕ) → In v r → 0 < often v r
in_often v [] h = elim h [ ]
in_often v (x ∷ xs) (inl e) = omega (arith, often-cons v x xs, one_if-true (x == v) (eq-eqb x v (sym e)))
in_often v (x ∷ xs) (inr m) = omega (arith, often-cons v x xs, in_often v xs m)

-- and back
pub often_in : (v : ℕ) (r : List ℕ) → 0 < often v r → In v r
often_in v [] h = absurd (omega (arith, h))
often_in v (x ∷ xs) h = elim (cases_eq x v) as (λ _. In v (x ∷ xs)) [
  | inl e ↦ inl (sym e)
  | inr n ↦ inr (often_in v xs (omega (arith, h, often-cons v x xs, one_if-false (x == v) (ne_eqb x v n))))
]

-- a list that has each vertex at least as often has what the other has
pub in_more : (r s : List ℕ) → ((v : ℕ) → often v r ≤ often v s) → (v : ℕ) → In v r → In v s
in_more r s more v h = often_in v s (omega (arith, in_often v r h, more v))

-- turned twice: by no more than once round together
pub turned_within : (b a : ℕ) (xs : List ℕ) → a + b ≤ length xs → turned_to b (turned_to a xs) ≡ turned_to (a + b) xs
turned_within zero a xs h = let here : a ≡ a + 0 = omega arith in append-nil (turned_to a xs) ∙ ap (λ k. turned_to k xs) here
turned_within (suc b) a xs h =
    let ys = turned_to a xs in
    let more : suc b ≡ b + 1 = omega arith in
    let last : a + b + 1 ≡ a + suc b = omega arith in
    ap (λ k. turned_to k ys) more ∙ sym (turned_more b ys (omega (arith, h, length-turned a xs)))
    ∙ ap (turned_to 1) (turned_within b a xs (omega (arith, h))) ∙ turned_more (a + b) xs (omega (arith, h))
    ∙ ap (λ k. turned_to k xs) last

-- and by more
pub turned_past : (b a c : ℕ) (xs : List ℕ) → a ≤ length xs → b ≤ length xs → c + length xs ≡ a + b → turned_to b (turned_to a xs) ≡ turned_to c xs
turned_past b a c xs first second past =
    let n = length xs in
    let ys = turned_to a xs in
    let split : b ≡ (n - a) + c = omega (arith, first, past) in
    let whole : a + (n - a) ≡ n = omega (arith, first) in
    ap (λ k. turned_to k ys) split ∙ sym (turned_within c (n - a) ys (omega (arith, first, second, past, length-turned a xs)))
    ∙ ap (turned_to c) (turned_within (n - a) a xs (omega (arith, first)) ∙ ap (λ k. turned_to k xs) whole ∙ turned_all xs)

-- the two ways to count the steps of both turns
pub turned_together : (first second count : ℕ) (xs : List ℕ) → first ≤ length xs → second ≤ length xs → count ≤ length xs →
    (count ≡ first + second) ⊎ (count + length xs ≡ first + second) → turned_to count xs ≡ turned_to second (turned_to first xs)
turned_together first second count xs a b within (inl e) = ap (λ k. turned_to k xs) e ∙ sym (turned_within second first xs (omega (arith, e, within)))
turned_together first second count xs a b within (inr e) = sym (turned_past second first count xs a b e)
