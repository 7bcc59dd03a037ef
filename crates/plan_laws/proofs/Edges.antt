-- The three edges of a triangle: each from its lesser place, how often they run, and that none of them crosses another.
use Rattle.std.specs.Prelude.{◌≡◌, ◌≢◌, ◌⊎◌, ℕ, ◌+◌, ◌<◌, ◌==◌, ℤ, pos, negsuc, ◌+ℤ◌, ◌-ℤ◌, ◌*ℤ◌, List, [], ◌∷◌, ◌++◌, Bool, true, false, ◌&&◌, ◌||◌, cond, int_lt, min, max}
use Rattle.std.proofs.Common.{arith, refl, sym, ap, ◌∙◌, inl, inr}
use Rattle.std.proofs.Math.IntN.{*ℤ_comm}
use Rattle.std.proofs.lemmas.Bool.{cases_lt, eq-eqb, ne_eqb}
use Rattle.std.proofs.lemmas.Int.{ints}
use Rattle.chain_terms.specs.Chains.{boundary, dir, one_if}
use Rattle.face_plane.specs.Planes.{Plane, orient, turn}
use Rattle.sheet_terms.specs.Chains.{are_opposite, cross, same_edge, upward}
use Rattle.sheet_terms.specs.Places.{firsts}

-- tests of numbers
pub yes : (x : ℕ) → (x == x) ≡ true
yes x = eq-eqb x x refl

pub no : (x y : ℕ) → x ≢ y → (x == y) ≡ false
no x y h = ne_eqb x y h

-- three edges once round
abbrev pub three_edges : ℕ → ℕ → ℕ → List (ℕ × ℕ)
three_edges a b c = (a, b) ∷ (b, c) ∷ (c, a) ∷ []

-- the list from its second edge
turned_dir : (a b c u v : ℕ) → dir (three_edges a b c) u v ≡ dir (three_edges b c a) u v
turned_dir a b c u v = omega arith

-- an edge from its lesser place runs as it does, or the other way
pub up_is : (x y : ℕ) → (upward (x, y) ≡ (x, y)) ⊎ (upward (x, y) ≡ (y, x))
up_is x y = elim (cases_lt x y) as (λ _. (upward (x, y) ≡ (x, y)) ⊎ (upward (x, y) ≡ (y, x))) [
  | inl h ↦ (let low : min x y ≡ x = omega (arith, h) in let high : max x y ≡ y = omega (arith, h) in inl (λ i. (low i, high i)))
  | inr h ↦ (let low : min x y ≡ y = omega (arith, h) in let high : max x y ≡ x = omega (arith, h) in inr (λ i. (low i, high i)))
]

-- two edges that are apart either way
apart_tests : (p q s t : ℕ) → ((p == s) && (q == t)) ≡ false → ((p == t) && (q == s)) ≡ false → same_edge (upward (p, q)) (upward (s, t)) ≡ false
apart_tests p q s t h k = by (up_is p q) (up_is s t)
  where
    back : (a b : Bool) → (a && b) ≡ false → (b && a) ≡ false
    back true true e = e
    back true false e = refl
    back false true e = refl
    back false false e = refl

    by : (upward (p, q) ≡ (p, q)) ⊎ (upward (p, q) ≡ (q, p)) → (upward (s, t) ≡ (s, t)) ⊎ (upward (s, t) ≡ (t, s)) → same_edge (upward (p, q)) (upward (s, t)) ≡ false
    by (inl e) (inl f) = (λ i. same_edge (e i) (f i)) ∙ h
    by (inl e) (inr f) = (λ i. same_edge (e i) (f i)) ∙ k
    by (inr e) (inl f) = (λ i. same_edge (e i) (f i)) ∙ back (p == t) (q == s) k
    by (inr e) (inr f) = (λ i. same_edge (e i) (f i)) ∙ back (p == s) (q == t) h

-- the first ones of three members none of which is like another
pub firsts_three : {X : Type 0} (like : X → X → Bool) (x y z : X) → like y x ≡ false → like z x ≡ false → like z y ≡ false → firsts like (x ∷ y ∷ z ∷ []) ≡ x ∷ y ∷ z ∷ []
firsts_three like x y z e f g = λ i. x ∷ (cond (e i || false) [] (y ∷ []) ++ (cond (f i || (g i || false)) [] (z ∷ []) ++ []))

module _ (a b c : ℕ) (ab : a ≢ b) (bc : b ≢ c) (ca : c ≢ a) where
  -- the first edge runs once, and not back
  first_dir : dir (three_edges a b c) a b ≡ 1
  first_dir = λ i. one_if (yes a i && yes b i) + (one_if (no b a (λ e. ab (sym e)) i && (c == b)) + (one_if (no c a ca i && (a == b)) + 0))

  back_dir : dir (three_edges a b c) b a ≡ 0
  back_dir = λ i. one_if (no a b ab i && (b == a)) + (one_if (yes b i && no c a ca i) + (one_if (no c b (λ e. bc (sym e)) i && (a == a)) + 0))

  pub first_count : boundary (three_edges a b c) a b ≡ pos 1
  first_count = λ i. pos (first_dir i) -ℤ pos (back_dir i)

  pub back_count : boundary (three_edges a b c) b a ≡ negsuc 0
  back_count = λ i. pos (back_dir i) -ℤ pos (first_dir i)

  -- the edges from their lesser places are three
  pub firsts_are : firsts same_edge (upward (a, b) ∷ upward (b, c) ∷ upward (c, a) ∷ []) ≡ upward (a, b) ∷ upward (b, c) ∷ upward (c, a) ∷ []
  firsts_are = firsts_three same_edge (upward (a, b)) (upward (b, c)) (upward (c, a))
      (apart_tests b c a b (λ i. no b a (λ e. ab (sym e)) i && (c == b)) (λ i. yes b i && no c a ca i))
      (apart_tests c a a b (λ i. no c a ca i && (a == b)) (λ i. no c b (λ e. bc (sym e)) i && (a == a)))
      (apart_tests c a b c (λ i. no c b (λ e. bc (sym e)) i && (a == c)) (λ i. yes c i && no a b ab i))

-- the same from the second edge, and from the third
pub turned_count : (a b c u v : ℕ) → boundary (three_edges a b c) u v ≡ boundary (three_edges b c a) u v
turned_count a b c u v = λ i. pos (turned_dir a b c u v i) -ℤ pos (turned_dir a b c v u i)

-- a place is an end of an edge
abbrev pub HasEnd : (ℕ × ℕ) → ℕ → Type 0
HasEnd e v = (e.0 ≡ v) ⊎ (e.1 ≡ v)

pub up_from : (x y : ℕ) → HasEnd (upward (x, y)) x
up_from x y = elim (up_is x y) as (λ _. HasEnd (upward (x, y)) x) [ inl e ↦ inl (ap (λ (d : ℕ × ℕ). d.0) e) | inr e ↦ inr (ap (λ (d : ℕ × ℕ). d.1) e) ]

pub up_to : (x y : ℕ) → HasEnd (upward (x, y)) y
up_to x y = elim (up_is x y) as (λ _. HasEnd (upward (x, y)) y) [ inl e ↦ inr (ap (λ (d : ℕ × ℕ). d.1) e) | inr e ↦ inl (ap (λ (d : ℕ × ℕ). d.0) e) ]

-- two places and one of them again lie on a line
turn_start : (p q : ℤ × ℤ) → turn p q p ≡ pos 0
turn_start p q =
    let u : p.1 -ℤ p.1 ≡ pos 0 = omega (arith, ints) in
    let v : p.0 -ℤ p.0 ≡ pos 0 = omega (arith, ints) in
    (λ i. (q.0 -ℤ p.0) *ℤ u i -ℤ (q.1 -ℤ p.1) *ℤ v i) ∙ omega (arith, ints)

turn_end : (p q : ℤ × ℤ) → turn p q q ≡ pos 0
turn_end p q = omega (arith, ints, *ℤ_comm (q.0 -ℤ p.0) (q.1 -ℤ p.1))

-- so edges with an end in common don't cross
one_opposite : (x y z w : ℤ) → (x ≡ pos 0) ⊎ (y ≡ pos 0) → (are_opposite x y && are_opposite z w) ≡ false
one_opposite x y z w (inl e) = λ i. are_opposite (e i) y && are_opposite z w
one_opposite x y z w (inr e) = (λ i. are_opposite x (e i) && are_opposite z w) ∙ by (int_lt x (pos 0)) (int_lt (pos 0) x) (are_opposite z w)
  where
    by : (s t u : Bool) → (((s && false) || (t && false)) && u) ≡ false
    by true true u = refl
    by true false u = refl
    by false true u = refl
    by false false u = refl

pub no_cross : (at : Plane) (d e : ℕ × ℕ) (v : ℕ) → HasEnd d v → HasEnd e v → cross at d e ≡ false
no_cross at d e v h k = one_opposite (orient at d.0 d.1 e.0) (orient at d.0 d.1 e.1) (orient at e.0 e.1 d.0) (orient at e.0 e.1 d.1) (by h k)
  where
    by : HasEnd d v → HasEnd e v → (orient at d.0 d.1 e.0 ≡ pos 0) ⊎ (orient at d.0 d.1 e.1 ≡ pos 0)
    by (inl p) (inl q) = inl (ap (λ w. orient at d.0 d.1 w) (q ∙ sym p) ∙ turn_start (at d.0) (at d.1))
    by (inl p) (inr q) = inr (ap (λ w. orient at d.0 d.1 w) (q ∙ sym p) ∙ turn_start (at d.0) (at d.1))
    by (inr p) (inl q) = inl (ap (λ w. orient at d.0 d.1 w) (q ∙ sym p) ∙ turn_end (at d.0) (at d.1))
    by (inr p) (inr q) = inr (ap (λ w. orient at d.0 d.1 w) (q ∙ sym p) ∙ turn_end (at d.0) (at d.1))
