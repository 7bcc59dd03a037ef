-- Edges between numbers: which of the three edges of a triangle lies between two.
use Rattle.std.specs.Prelude.{◌≡◌, ℕ, ◌+◌, ◌<◌, List, [], ◌∷◌, Bool, true, false, cond, ◌&&◌, ◌||◌, ◌==◌, nat_lt, count_by}
use Rattle.std.proofs.Common.{arith, refl, ap, ◌∙◌, inl, inr}
use Rattle.std.proofs.lemmas.Bool.{cases_order, lt-ltb, le-ltb}
use Rattle.std.proofs.lemmas.Bool.Decides.{nat_tests}
use Rattle.inspection_laws.specs.Sharing.{edge_between, edges_between}
use Rattle.inspection_laws.proofs.Counting.{count-cons}

-- the edge lies between s and t, the lesser first
abbrev pub is_edge : ℕ → ℕ → ℕ × ℕ → Bool
is_edge s t e = (e.1 == t) && (e.0 == s)

up : (a b s t : ℕ) → a < b → ((b == t) && (a == s)) ≡ (nat_lt s t && (((a == s) && (b == t)) || ((b == s) && (a == t))))
up a b s t h = grind (arith, nat_tests)

down : (a b s t : ℕ) → b < a → ((a == t) && (b == s)) ≡ (nat_lt s t && (((a == s) && (b == t)) || ((b == s) && (a == t))))
down a b s t h = grind (arith, nat_tests)

-- an edge between two that differ
between_is : (a b s t : ℕ) → (a ≡ b → ⊥) → is_edge s t (edge_between a b) ≡ (nat_lt s t && (((a == s) && (b == t)) || ((b == s) && (a == t))))
between_is a b s t apart = elim (cases_order a b) as (λ _. is_edge s t (edge_between a b) ≡ (nat_lt s t && (((a == s) && (b == t)) || ((b == s) && (a == t))))) [
  | inl e ↦ absurd (apart e)
  | inr (inl l) ↦ ap (λ x. is_edge s t (cond x (a, b) (b, a))) (lt-ltb a b l) ∙ up a b s t l
  | inr (inr l) ↦ ap (λ x. is_edge s t (cond x (a, b) (b, a))) (le-ltb a b (omega (arith, l))) ∙ down a b s t l
]

-- of three that differ, each may be one of two that do: so many of the three edges lie between these
three : (l xa xb xc ya yb yc : Bool) → (xa && xb) ≡ false → (xb && xc) ≡ false → (xc && xa) ≡ false → (ya && yb) ≡ false → (yb && yc) ≡ false → (yc && ya) ≡ false →
    (l && (xa && ya)) ≡ false → (l && (xb && yb)) ≡ false → (l && (xc && yc)) ≡ false →
    cond (l && ((xa && yb) || (xb && ya))) 1 0 + (cond (l && ((xb && yc) || (xc && yb))) 1 0 + (cond (l && ((xc && ya) || (xa && yc))) 1 0 + 0))
    ≡ cond (l && (((xa || xb) || xc) && ((ya || yb) || yc))) 1 0
three false xa xb xc ya yb yc ab bc ca dab dbc dca e f g = refl
three true true true xc ya yb yc ab bc ca dab dbc dca e f g = absurd (cc)
three true true false true ya yb yc ab bc ca dab dbc dca e f g = absurd (cc)
three true false true true ya yb yc ab bc ca dab dbc dca e f g = absurd (cc)
three true true false false true yb yc ab bc ca dab dbc dca e f g = absurd (cc)
three true true false false false true true ab bc ca dab dbc dca e f g = absurd (cc)
three true true false false false true false ab bc ca dab dbc dca e f g = refl
three true true false false false false true ab bc ca dab dbc dca e f g = refl
three true true false false false false false ab bc ca dab dbc dca e f g = refl
three true false true false ya true yc ab bc ca dab dbc dca e f g = absurd (cc)
three true false true false true false true ab bc ca dab dbc dca e f g = absurd (cc)
three true false true false true false false ab bc ca dab dbc dca e f g = refl
three true false true false false false true ab bc ca dab dbc dca e f g = refl
three true false true false false false false ab bc ca dab dbc dca e f g = refl
three true false false true ya yb true ab bc ca dab dbc dca e f g = absurd (cc)
three true false false true true true false ab bc ca dab dbc dca e f g = absurd (cc)
three true false false true true false false ab bc ca dab dbc dca e f g = refl
three true false false true false true false ab bc ca dab dbc dca e f g = refl
three true false false true false false false ab bc ca dab dbc dca e f g = refl
three true false false false ya yb yc ab bc ca dab dbc dca e f g = refl

-- two that differ are not one
not_both : (a b s : ℕ) → (a ≡ b → ⊥) → ((a == s) && (b == s)) ≡ false
not_both a b s apart = grind (arith, nat_tests, apart)

-- and one is not two of which one is less
not_two : (a s t : ℕ) → (nat_lt s t && ((a == s) && (a == t))) ≡ false
not_two a s t = grind (arith, nat_tests)

count_three : (p : ℕ × ℕ → Bool) (x y z : ℕ × ℕ) → count_by p (x ∷ y ∷ z ∷ []) ≡ cond (p x) 1 0 + (cond (p y) 1 0 + (cond (p z) 1 0 + 0))
count_three p x y z =
    count-cons p x (y ∷ z ∷ []) ∙ ap (λ n. cond (p x) 1 0 + n) (count-cons p y (z ∷ []) ∙ ap (λ n. cond (p y) 1 0 + n) (count-cons p z []))

-- so many of the edges between three that differ lie between s and t: one, where both are among the three
pub edges_count : (a b c s t : ℕ) → (a ≡ b → ⊥) → (b ≡ c → ⊥) → (c ≡ a → ⊥) →
    count_by (is_edge s t) (edges_between a b c)
    ≡ cond (nat_lt s t && ((((a == s) || (b == s)) || (c == s)) && (((a == t) || (b == t)) || (c == t)))) 1 0
edges_count a b c s t ab bc ca =
    count_three (is_edge s t) (edge_between a b) (edge_between b c) (edge_between c a)
    ∙ (λ i. cond (between_is a b s t ab i) 1 0 + (cond (between_is b c s t bc i) 1 0 + (cond (between_is c a s t ca i) 1 0 + 0)))
    ∙ three (nat_lt s t) (a == s) (b == s) (c == s) (a == t) (b == t) (c == t) (not_both a b s ab) (not_both b c s bc) (not_both c a s ca)
    (not_both a b t ab) (not_both b c t bc) (not_both c a t ca) (not_two a s t) (not_two b s t) (not_two c s t)
