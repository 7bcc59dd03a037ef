-- Never stuck: every ring of four or more places has an allowed place.
use Rattle.std.specs.Prelude.{◌≡◌, ◌≢◌, ℕ, ◌<◌, ◌≤◌, List, [], ◌∷◌, ◌++◌, length, ◌⊎◌}
use Rattle.std.proofs.Common.{arith, refl, sym, subst, ap, ◌∙◌, inl, inr}
use Rattle.std.proofs.lemmas.Bool.{cases_eq}
use Rattle.std.proofs.lemmas.List.{append_assoc}
use Rattle.chain_terms.specs.Paths.{round_edges}
use Rattle.face_plane.specs.Rings.{In, Three, IsRing}
use Rattle.ring_cutting.proofs.Members.{head_or, in_front, in_back, in_either, three_within}
use Rattle.ring_cutting.proofs.Rounds.{Apart, parts_at}
use Rattle.ring_cutting.proofs.Allowed.{Cuts, three_steps, Allowed, middle_cut, next_cut, behind_cut, front_cut}

-- a place whose neighbours differ, not at the ends of the list
pub record Bent (r : List ℕ) : Type 0 where
  pub front : List ℕ
  pub before : ℕ
  pub vertex : ℕ
  pub after : ℕ
  pub back : List ℕ
  pub joined : r ≡ front ++ before ∷ vertex ∷ after ∷ back
  pub bent : before ≢ after

-- where there is none, the places alternate between two vertices
abbrev pub Straight : List ℕ → Type 0
Straight [] = Unit {0}
Straight (p ∷ []) = Unit {0}
Straight (p ∷ x ∷ []) = Unit {0}
Straight (p ∷ x ∷ n ∷ r) = (p ≡ n) × Straight (x ∷ n ∷ r)

pub two_alone : (p x : ℕ) (r : List ℕ) → Straight (p ∷ x ∷ r) → (v : ℕ) → In v (p ∷ x ∷ r) → (v ≡ p) ⊎ (v ≡ x)
two_alone p x [] st v (inl e) = inl e
two_alone p x [] st v (inr (inl e)) = inr e
two_alone p x [] st v (inr (inr h)) = elim h [ ]
two_alone p x (n ∷ r) st v (inl e) = inl e
two_alone p x (n ∷ r) st v (inr h) = elim (two_alone x n r st.1 v h) as (λ _. (v ≡ p) ⊎ (v ≡ x)) [
  | inl e ↦ inr e
  | inr e ↦ inl (e ∙ sym st.0)
]

later_bent : (p : ℕ) (r : List ℕ) → Bent r → Bent (p ∷ r)
later_bent p r b =
    record {
      front = p ∷ b.front;
      before = b.before;
      vertex = b.vertex;
      after = b.after;
      back = b.back;
      joined =
          ap (λ l. p ∷ l) b.joined;
      bent = b.bent;
    }

pub bent_or_straight : (p x : ℕ) (r : List ℕ) → Bent (p ∷ x ∷ r) ⊎ Straight (p ∷ x ∷ r)
bent_or_straight p x [] = inr tt
bent_or_straight p x (n ∷ r) = elim (cases_eq p n) as (λ _. Bent (p ∷ x ∷ n ∷ r) ⊎ Straight (p ∷ x ∷ n ∷ r)) [
  | inr m ↦ inl (record { front = []; before = p; vertex = x; after = n; back = r; joined = refl; bent = m })
  | inl e ↦ elim (bent_or_straight x n r) as (λ _. Bent (p ∷ x ∷ n ∷ r) ⊎ Straight (p ∷ x ∷ n ∷ r)) [
    | inl b ↦ inl (later_bent p (x ∷ n ∷ r) b)
    | inr s ↦ inr (e, s)
  ]
]

-- of three vertices that are one of two, two are the same
pub no_three : (p x a b c : ℕ) → (a ≡ p) ⊎ (a ≡ x) → (b ≡ p) ⊎ (b ≡ x) → (c ≡ p) ⊎ (c ≡ x) → a ≢ b → b ≢ c → c ≢ a → ⊥
no_three p x a b c (inl e) (inl f) k ab bc ca = ab (e ∙ sym f)
no_three p x a b c (inl e) (inr f) (inl g) ab bc ca = ca (g ∙ sym e)
no_three p x a b c (inl e) (inr f) (inr g) ab bc ca = bc (f ∙ sym g)
no_three p x a b c (inr e) (inr f) k ab bc ca = ab (e ∙ sym f)
no_three p x a b c (inr e) (inl f) (inr g) ab bc ca = ca (g ∙ sym e)
no_three p x a b c (inr e) (inl f) (inl g) ab bc ca = bc (f ∙ sym g)

-- a ring with three different vertices has a bent place
pub some_bent : (r : List ℕ) → 2 ≤ length r → Three r → Bent r
some_bent [] h t = absurd (omega (arith, h))
some_bent (p ∷ []) h t = absurd (omega (arith, h))
some_bent (p ∷ x ∷ r) h t = elim (bent_or_straight p x r) as (λ _. Bent (p ∷ x ∷ r)) [
  | inl b ↦ b
  | inr s ↦
      absurd (no_three p x t.a t.b t.c (two_alone p x r s t.a t.a_in) (two_alone p x r s t.b t.b_in) (two_alone p x r s t.c t.c_in) t.ab t.bc t.ca)
]

-- the place after a bent one stands beside another vertex
next_apart : (a : List ℕ) (p x n : ℕ) (b : List ℕ) (q : ℕ) (s : List ℕ) → b ++ a ≡ q ∷ s → Apart (round_edges (a ++ p ∷ x ∷ n ∷ b)) → n ≢ q
next_apart a p x n b q s round all =
    let e : a ++ p ∷ x ∷ n ∷ b ≡ (a ++ p ∷ x ∷ []) ++ n ∷ b = sym (append_assoc a (p ∷ x ∷ []) (n ∷ b)) in
    let back : b ++ (a ++ p ∷ x ∷ []) ≡ q ∷ (s ++ p ∷ x ∷ []) = sym (append_assoc b a (p ∷ x ∷ [])) ∙ ap (λ l. l ++ p ∷ x ∷ []) round in
    let some : 0 < length (b ++ (a ++ p ∷ x ∷ [])) = omega (arith, ap length back) in
    let parts = parts_at (a ++ p ∷ x ∷ []) n b some (subst (λ l. Apart (round_edges l)) e all) in
    λ f. parts.after (f ∙ sym (ap (λ l. head_or n l) back))

stands_round : (a : List ℕ) (p x n : ℕ) (b : List ℕ) (q : ℕ) (s : List ℕ) → b ++ a ≡ q ∷ s → (v : ℕ) → In v (a ++ p ∷ x ∷ n ∷ b) →
    In v (p ∷ x ∷ n ∷ q ∷ s)
stands_round a p x n b q s round v h = elim (in_either v a (p ∷ x ∷ n ∷ b) h) as (λ _. In v (p ∷ x ∷ n ∷ q ∷ s)) [
  | inl i ↦ in_back v (p ∷ x ∷ n ∷ []) (q ∷ s) (subst (In v) round (in_back v b a i))
  | inr k ↦ elim (in_either v (p ∷ x ∷ n ∷ []) b k) as (λ _. In v (p ∷ x ∷ n ∷ q ∷ s)) [
    | inl i ↦ in_front v (p ∷ x ∷ n ∷ []) (q ∷ s) i
    | inr i ↦ in_back v (p ∷ x ∷ n ∷ []) (q ∷ s) (subst (In v) round (in_front v b a i))
  ]
]

steps_at : (a : List ℕ) (p x n : ℕ) (b : List ℕ) (q : ℕ) (s : List ℕ) → b ++ a ≡ q ∷ s → p ≢ n → IsRing (a ++ p ∷ x ∷ n ∷ b) → Cuts p x n q s
steps_at a p x n b q s round pn ringy =
    three_steps p x n q s pn (next_apart a p x n b q s round ringy.apart)
    (three_within (a ++ p ∷ x ∷ n ∷ b) (p ∷ x ∷ n ∷ q ∷ s) (stands_round a p x n b q s round) ringy.three)

-- the three places, where the ring goes on behind them, and where it goes on in front
allowed_behind : (a : List ℕ) (p x n q : ℕ) (b : List ℕ) → p ≢ n → IsRing (a ++ p ∷ x ∷ n ∷ q ∷ b) → Allowed (a ++ p ∷ x ∷ n ∷ q ∷ b)
allowed_behind a p x n q b pn ringy = elim (steps_at a p x n (q ∷ b) q (b ++ a) refl pn ringy) as (λ _. Allowed (a ++ p ∷ x ∷ n ∷ q ∷ b)) [
  | inl may ↦ middle_cut a p x n (q ∷ b) may
  | inr (inl may) ↦ next_cut a p x n q (b ++ a) (q ∷ b) refl may
  | inr (inr may) ↦ behind_cut a p x n q b may
]

allowed_front : (p x n q : ℕ) (a : List ℕ) → p ≢ n → IsRing ((q ∷ a) ++ p ∷ x ∷ n ∷ []) → Allowed ((q ∷ a) ++ p ∷ x ∷ n ∷ [])
allowed_front p x n q a pn ringy = elim (steps_at (q ∷ a) p x n [] q a refl pn ringy) as (λ _. Allowed ((q ∷ a) ++ p ∷ x ∷ n ∷ [])) [
  | inl may ↦ middle_cut (q ∷ a) p x n [] may
  | inr (inl may) ↦ next_cut (q ∷ a) p x n q a [] refl may
  | inr (inr may) ↦ front_cut p x n q a may
]

allowed_of : (a : List ℕ) (p x n : ℕ) (b : List ℕ) → p ≢ n → IsRing (a ++ p ∷ x ∷ n ∷ b) → 4 ≤ length (a ++ p ∷ x ∷ n ∷ b) →
    Allowed (a ++ p ∷ x ∷ n ∷ b)
allowed_of a p x n (q ∷ b) pn ringy four = allowed_behind a p x n q b pn ringy
allowed_of (q ∷ a) p x n [] pn ringy four = allowed_front p x n q a pn ringy
allowed_of [] p x n [] pn ringy four = absurd (omega (arith, four))

-- every ring of four or more places has an allowed place
pub some_allowed : (r : List ℕ) → IsRing r → 4 ≤ length r → Allowed r
some_allowed r ringy four =
    let b = some_bent r (omega (arith, four)) ringy.three in
    let P : List ℕ → Type 0 = λ l. IsRing l → 4 ≤ length l → Allowed l in
    let f : P r = subst P (sym b.joined) (allowed_of b.front b.before b.vertex b.after b.back b.bent) in
    f ringy four
