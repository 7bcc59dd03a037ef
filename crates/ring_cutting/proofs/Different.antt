-- How many different vertices stand in a list.
use Rattle.std.specs.Prelude.{◌≡◌, ◌≢◌, ℕ, ◌<◌, List, [], ◌∷◌, true, false, cond}
use Rattle.std.proofs.Common.{arith, refl, sym, ap, ◌∙◌, inl, inr}
use Rattle.std.proofs.lemmas.Bool.{cases_eq}
use Rattle.face_plane.specs.Rings.{In, in_list, different, Three}
use Rattle.ring_cutting.proofs.Members.{in_as, in_or_not, in_list-true, in_list-false}

-- 0 where a vertex stands there, else 1
abbrev pub new_in : ℕ → List ℕ → ℕ
new_in v r = cond (in_list v r) 0 1

pub new_in-true : (v : ℕ) (r : List ℕ) → in_list v r ≡ true → new_in v r ≡ 0
new_in-true v r h = ap (λ b. cond b 0 1) h

pub new_in-false : (v : ℕ) (r : List ℕ) → in_list v r ≡ false → new_in v r ≡ 1
new_in-false v r h = ap (λ b. cond b 0 1) h

pub new_in-old : (v : ℕ) (r : List ℕ) → In v r → new_in v r ≡ 0
new_in-old v r h = new_in-true v r (in_list-true v r h)

pub new_in-new : (v : ℕ) (r : List ℕ) → (In v r → ⊥) → new_in v r ≡ 1
new_in-new v r h = new_in-false v r (in_list-false v r h)

-- a vertex that stands in the list behind another
pub in_rest : (v x : ℕ) (r : List ℕ) → In v (x ∷ r) → v ≢ x → In v r
in_rest v x r (inl e) n = absurd (n e)
in_rest v x r (inr h) n = h

-- one vertex
pub one_in : (a : ℕ) (r : List ℕ) → In a r → 0 < different r
one_in a [] h = elim h [ ]
one_in a (x ∷ r) h = elim (in_or_not x r) as (λ _. 0 < different (x ∷ r)) [
  | inl i ↦ omega (arith, one_in x r i)
  | inr n ↦ omega (arith, new_in-new x r n)
]

-- two different ones
pub two_in : (a b : ℕ) (r : List ℕ) → In a r → In b r → a ≢ b → 1 < different r
two_in a b [] h k d = elim h [ ]
two_in a b (x ∷ r) h k d = elim (in_or_not x r) as (λ _. 1 < different (x ∷ r)) [
  | inl i ↦ omega (arith, two_in a b r (stays a h i) (stays b k i) d)
  | inr n ↦ elim (cases_eq a x) as (λ _. 1 < different (x ∷ r)) [
    | inl e ↦ omega (arith, new_in-new x r n, one_in b r (in_rest b x r k (λ f. d (e ∙ sym f))))
    | inr m ↦ omega (arith, new_in-new x r n, one_in a r (in_rest a x r h m))
  ]
]
  where
    stays : (v : ℕ) → In v (x ∷ r) → In x r → In v r
    stays v (inl e) i = in_as v x r e i
    stays v (inr q) i = q

-- three different ones
pub three_in : (a b c : ℕ) (r : List ℕ) → In a r → In b r → In c r → a ≢ b → b ≢ c → c ≢ a → 2 < different r
three_in a b c [] h k l d e f = elim h [ ]
three_in a b c (x ∷ r) h k l d e f = elim (in_or_not x r) as (λ _. 2 < different (x ∷ r)) [
  | inl i ↦ omega (arith, three_in a b c r (stays a h i) (stays b k i) (stays c l i) d e f)
  | inr n ↦ elim (cases_eq a x) as (λ _. 2 < different (x ∷ r)) [
    | inl p ↦ omega (arith, new_in-new x r n, two_in b c r (in_rest b x r k (λ q. d (p ∙ sym q))) (in_rest c x r l (λ q. f (q ∙ sym p))) e)
    | inr m ↦ elim (cases_eq b x) as (λ _. 2 < different (x ∷ r)) [
      | inl p ↦ omega (arith, new_in-new x r n, two_in a c r (in_rest a x r h m) (in_rest c x r l (λ q. e (p ∙ sym q))) (λ q. f (sym q)))
      | inr o ↦ omega (arith, new_in-new x r n, two_in a b r (in_rest a x r h m) (in_rest b x r k o) d)
    ]
  ]
]
  where
    stays : (v : ℕ) → In v (x ∷ r) → In x r → In v r
    stays v (inl q) i = in_as v x r q i
    stays v (inr q) i = q

pub three_are : (r : List ℕ) → Three r → 2 < different r
three_are r t = three_in t.a t.b t.c r t.a_in t.b_in t.c_in t.ab t.bc t.ca

-- two different vertices stand in the list
pub record Two (r : List ℕ) : Type 0 where
  pub a : ℕ
  pub b : ℕ
  pub a_in : In a r
  pub b_in : In b r
  pub ab : a ≢ b

-- where one counts, one stands there
pub are_one : (r : List ℕ) → 0 < different r → (a : ℕ) × In a r
are_one [] h = absurd (omega (arith, h))
are_one (x ∷ r) h = (x, inl refl)

pub are_two : (r : List ℕ) → 1 < different r → Two r
are_two [] h = absurd (omega (arith, h))
are_two (x ∷ r) h = elim (in_or_not x r) as (λ _. Two (x ∷ r)) [
  | inl i ↦ let t = are_two r (omega (arith, h, new_in-old x r i)) in record { a = t.a; b = t.b; a_in = inr t.a_in; b_in = inr t.b_in; ab = t.ab }
  | inr n ↦
      let t = are_one r (omega (arith, h, new_in-new x r n)) in
      record { a = x; b = t.0; a_in = inl refl; b_in = inr t.1; ab = λ e. n (in_as x t.0 r e t.1) }
]

pub are_three : (r : List ℕ) → 2 < different r → Three r
are_three [] h = absurd (omega (arith, h))
are_three (x ∷ r) h = elim (in_or_not x r) as (λ _. Three (x ∷ r)) [
  | inl i ↦
      let t = are_three r (omega (arith, h, new_in-old x r i)) in
      record { a = t.a; b = t.b; c = t.c; a_in = inr t.a_in; b_in = inr t.b_in; c_in = inr t.c_in; ab = t.ab; bc = t.bc; ca = t.ca }
  | inr n ↦
      let t = are_two r (omega (arith, h, new_in-new x r n)) in
      record {
        a = x;
        b = t.a;
        c = t.b;
        a_in = inl refl;
        b_in = inr t.a_in;
        c_in = inr t.b_in;
        ab = λ e. n (in_as x t.a r e t.a_in);
        bc =
            t.ab;
        ca = λ e. n (in_as x t.b r (sym e) t.b_in);
      }
]
