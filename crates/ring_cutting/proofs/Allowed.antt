-- A ring of four or more places has a place that may be cut.
use Rattle.std.specs.Prelude.{◌≡◌, ◌≢◌, ℕ, ◌<◌, List, [], ◌∷◌, ◌++◌, true, not, ◌==◌, nat_lt, length, ◌⊎◌}
use Rattle.std.proofs.Common.{arith, refl, sym, subst, ap, ◌∙◌, inl, inr}
use Rattle.std.proofs.lemmas.Bool.{eqb-false, ne_eqb, and_parts, and_from, not-true, lt-ltb, ltb-true}
use Rattle.std.proofs.lemmas.List.{append_assoc, append-nil, length-append}
use Rattle.chain_terms.specs.Paths.{last_of}
use Rattle.chain_laws.proofs.Paths.{last_of-append}
use Rattle.face_plane.specs.Rings.{In, Three, different}
use Rattle.ring_cutting.specs.Cuts.{is_allowed}
use Rattle.ring_cutting.proofs.Members.{head_or, in_as, in_or_not, in_front, in_back, in_either, in_moved, three_within}
use Rattle.ring_cutting.proofs.Different.{three_are, are_three}
use Rattle.ring_cutting.proofs.Turned.{before_is, after_is, without_is}

-- a place between p and n, the other places r, may be cut
pub record MayCut (p n : ℕ) (others : List ℕ) : Type 0 where
  pub bent : p ≢ n
  pub three : Three others

-- what the test says of a place in the middle
pub allowed_from : (a : List ℕ) (x : ℕ) (b : List ℕ) → MayCut (last_of x (b ++ a)) (head_or x (b ++ a)) (a ++ b) →
    is_allowed (a ++ x ∷ b) (length a) ≡ true
allowed_from a x b may =
    rw (before_is a x b, after_is a x b, without_is a x b)
    (and_from _ _ (ap not (ne_eqb _ _ may.bent)) (lt-ltb 2 (different (a ++ b)) (three_are (a ++ b) may.three)))

pub from_allowed : (a : List ℕ) (x : ℕ) (b : List ℕ) → is_allowed (a ++ x ∷ b) (length a) ≡ true →
    MayCut (last_of x (b ++ a)) (head_or x (b ++ a)) (a ++ b)
from_allowed a x b h =
    let g = rw (before_is a x b, after_is a x b, without_is a x b) at h in
    let both = and_parts (not (last_of x (b ++ a) == head_or x (b ++ a))) (nat_lt 2 (different (a ++ b))) g in
    record { bent = eqb-false _ _ (not-true _ both.0); three = are_three (a ++ b) (ltb-true 2 (different (a ++ b)) both.1) }

-- in a ring p x n q s with p and n different, the place x, n or q may be cut
abbrev pub Cuts : ℕ → ℕ → ℕ → ℕ → List ℕ → Type 0
Cuts p x n q s = MayCut p n (p ∷ n ∷ q ∷ s) ⊎ (MayCut x q (p ∷ x ∷ q ∷ s) ⊎ MayCut n (head_or p s) (p ∷ x ∷ n ∷ s))

-- a vertex that stands twice may lose a place
drop_x : (p x n q : ℕ) (s : List ℕ) → In x (q ∷ s) → (v : ℕ) → In v (p ∷ x ∷ n ∷ q ∷ s) → In v (p ∷ n ∷ q ∷ s)
drop_x p x n q s i v (inl e) = inl e
drop_x p x n q s i v (inr (inl e)) = inr (inr (in_as v x (q ∷ s) e i))
drop_x p x n q s i v (inr (inr h)) = inr h

drop_n : (p x n q : ℕ) (s : List ℕ) → In n s → (v : ℕ) → In v (p ∷ x ∷ n ∷ q ∷ s) → In v (p ∷ x ∷ q ∷ s)
drop_n p x n q s i v (inl e) = inl e
drop_n p x n q s i v (inr (inl e)) = inr (inl e)
drop_n p x n q s i v (inr (inr (inl e))) = inr (inr (inr (in_as v n s e i)))
drop_n p x n q s i v (inr (inr (inr h))) = inr (inr h)

drop_q : (p x n q : ℕ) (s : List ℕ) → In q (p ∷ s) → (v : ℕ) → In v (p ∷ x ∷ n ∷ q ∷ s) → In v (p ∷ x ∷ n ∷ s)
drop_q p x n q s i v (inl e) = inl e
drop_q p x n q s i v (inr (inl e)) = inr (inl e)
drop_q p x n q s i v (inr (inr (inl e))) = inr (inr (inl e))
drop_q p x n q s (inl d) v (inr (inr (inr (inl e)))) = inl (e ∙ d)
drop_q p x n q s (inr i) v (inr (inr (inr (inl e)))) = inr (inr (inr (in_as v q s e i)))
drop_q p x n q s i v (inr (inr (inr (inr h)))) = inr (inr (inr h))

head_apart : (n p : ℕ) (s : List ℕ) → n ≢ p → (In n s → ⊥) → n ≢ head_or p s
head_apart n p [] d m = d
head_apart n p (t ∷ s) d m = λ e. m (inl e)

-- one of the three may be cut
pub three_steps : (p x n q : ℕ) (s : List ℕ) → p ≢ n → n ≢ q → Three (p ∷ x ∷ n ∷ q ∷ s) → Cuts p x n q s
three_steps p x n q s pn nq t = elim (in_or_not x (q ∷ s)) as (λ _. Cuts p x n q s) [
  | inl i ↦ inl (record { bent = pn; three = three_within (p ∷ x ∷ n ∷ q ∷ s) (p ∷ n ∷ q ∷ s) (drop_x p x n q s i) t })
  | inr no_x ↦ elim (in_or_not n s) as (λ _. Cuts p x n q s) [
    | inl i ↦ inr (inl (record { bent = λ e. no_x (inl e); three = three_within (p ∷ x ∷ n ∷ q ∷ s) (p ∷ x ∷ q ∷ s) (drop_n p x n q s i) t }))
    | inr no_n ↦ elim (in_or_not q (p ∷ s)) as (λ _. Cuts p x n q s) [
      | inl i ↦
          inr (inr (record
          { bent = head_apart n p s (λ e. pn (sym e)) no_n; three = three_within (p ∷ x ∷ n ∷ q ∷ s) (p ∷ x ∷ n ∷ s) (drop_q p x n q s i) t }))
      | inr no_q ↦
          inl (record {
            bent = pn;
            three =
                record {
                  a = p;
                  b = n;
                  c = q;
                  a_in = inl refl;
                  b_in = inr (inl refl);
                  c_in = inr (inr (inl refl));
                  ab = pn;
                  bc = nq;
                  ca =
                      λ e. no_q (inl e);
                };
          })
    ]
  ]
]

-- some place is allowed
pub record Allowed (r : List ℕ) : Type 0 where
  pub place : ℕ
  pub within : place < length r
  pub allowed : is_allowed r place ≡ true

allowed_at : (a : List ℕ) (x : ℕ) (b r : List ℕ) → r ≡ a ++ x ∷ b → MayCut (last_of x (b ++ a)) (head_or x (b ++ a)) (a ++ b) → Allowed r
allowed_at a x b r e may = record {
  place = length a;
  within = omega (arith, ap length e, length-append a (x ∷ b));
  allowed = ap (λ s. is_allowed s (length a)) e ∙ allowed_from a x b may;
}

-- the cuts of a ring in which p x n stand behind a, and q s are what follows, with a at the end
pub middle_cut : (a : List ℕ) (p x n : ℕ) (b : List ℕ) → MayCut p n (p ∷ n ∷ (b ++ a)) → Allowed (a ++ p ∷ x ∷ n ∷ b)
middle_cut a p x n b may =
    let e : a ++ p ∷ x ∷ n ∷ b ≡ (a ++ p ∷ []) ++ x ∷ n ∷ b = sym (append_assoc a (p ∷ []) (x ∷ n ∷ b)) in
    let back : n ∷ (b ++ (a ++ p ∷ [])) ≡ n ∷ (b ++ a) ++ p ∷ [] = ap (λ l. n ∷ l) (sym (append_assoc b a (p ∷ []))) in
    let last : last_of x (n ∷ (b ++ (a ++ p ∷ []))) ≡ p = ap (last_of x) back ∙ last_of-append x (n ∷ (b ++ a)) p [] in
    allowed_at (a ++ p ∷ []) x (n ∷ b) (a ++ p ∷ x ∷ n ∷ b) e (record {
      bent = λ f. may.bent (sym last ∙ f);
      three = three_within (p ∷ n ∷ (b ++ a)) ((a ++ p ∷ []) ++ n ∷ b) stands may.three;
    })
  where
    stands : (v : ℕ) → In v (p ∷ n ∷ (b ++ a)) → In v ((a ++ p ∷ []) ++ n ∷ b)
    stands v (inl e) = in_front v (a ++ p ∷ []) (n ∷ b) (in_back v a (p ∷ []) (inl e))
    stands v (inr (inl e)) = in_back v (a ++ p ∷ []) (n ∷ b) (inl e)
    stands v (inr (inr h)) = elim (in_either v b a h) as (λ _. In v ((a ++ p ∷ []) ++ n ∷ b)) [
      | inl i ↦ in_back v (a ++ p ∷ []) (n ∷ b) (inr i)
      | inr i ↦ in_front v (a ++ p ∷ []) (n ∷ b) (in_front v a (p ∷ []) i)
    ]

-- the cut of n, where q s follow it
pub next_cut : (a : List ℕ) (p x n q : ℕ) (s b : List ℕ) → b ++ a ≡ q ∷ s → MayCut x q (p ∷ x ∷ q ∷ s) → Allowed (a ++ p ∷ x ∷ n ∷ b)
next_cut a p x n q s b round may =
    let e : a ++ p ∷ x ∷ n ∷ b ≡ (a ++ p ∷ x ∷ []) ++ n ∷ b = sym (append_assoc a (p ∷ x ∷ []) (n ∷ b)) in
    let back : b ++ (a ++ p ∷ x ∷ []) ≡ q ∷ (s ++ p ∷ x ∷ []) = sym (append_assoc b a (p ∷ x ∷ [])) ∙ ap (λ l. l ++ p ∷ x ∷ []) round in
    let last : last_of n (b ++ (a ++ p ∷ x ∷ [])) ≡ x = ap (last_of n) back ∙ last_of-append q s p (x ∷ []) in
    let head : head_or n (b ++ (a ++ p ∷ x ∷ [])) ≡ q = ap (head_or n) back in
    allowed_at (a ++ p ∷ x ∷ []) n b (a ++ p ∷ x ∷ n ∷ b) e (record {
      bent = λ f. may.bent (sym last ∙ f ∙ head);
      three = three_within (p ∷ x ∷ q ∷ s) ((a ++ p ∷ x ∷ []) ++ b) stands may.three;
    })
  where
    stands : (v : ℕ) → In v (p ∷ x ∷ q ∷ s) → In v ((a ++ p ∷ x ∷ []) ++ b)
    stands v (inl e) = in_front v (a ++ p ∷ x ∷ []) b (in_back v a (p ∷ x ∷ []) (inl e))
    stands v (inr (inl e)) = in_front v (a ++ p ∷ x ∷ []) b (in_back v a (p ∷ x ∷ []) (inr (inl e)))
    stands v (inr (inr h)) = elim (in_either v b a (subst (In v) (sym round) h)) as (λ _. In v ((a ++ p ∷ x ∷ []) ++ b)) [
      | inl i ↦ in_back v (a ++ p ∷ x ∷ []) b i
      | inr i ↦ in_front v (a ++ p ∷ x ∷ []) b (in_front v a (p ∷ x ∷ []) i)
    ]

-- the cut of q behind n
pub behind_cut : (a : List ℕ) (p x n q : ℕ) (b : List ℕ) → MayCut n (head_or p (b ++ a)) (p ∷ x ∷ n ∷ (b ++ a)) → Allowed (a ++ p ∷ x ∷ n ∷ q ∷ b)
behind_cut a p x n q b may =
    let e : a ++ p ∷ x ∷ n ∷ q ∷ b ≡ (a ++ p ∷ x ∷ n ∷ []) ++ q ∷ b = sym (append_assoc a (p ∷ x ∷ n ∷ []) (q ∷ b)) in
    let back : b ++ (a ++ p ∷ x ∷ n ∷ []) ≡ (b ++ a) ++ p ∷ x ∷ n ∷ [] = sym (append_assoc b a (p ∷ x ∷ n ∷ [])) in
    let last : last_of q (b ++ (a ++ p ∷ x ∷ n ∷ [])) ≡ n = ap (last_of q) back ∙ last_of-append q (b ++ a) p (x ∷ n ∷ []) in
    let head : head_or q (b ++ (a ++ p ∷ x ∷ n ∷ [])) ≡ head_or p (b ++ a) = ap (head_or q) back ∙ first q p (x ∷ n ∷ []) (b ++ a) in
    allowed_at (a ++ p ∷ x ∷ n ∷ []) q b (a ++ p ∷ x ∷ n ∷ q ∷ b) e (record {
      bent = λ f. may.bent (sym last ∙ f ∙ head);
      three = three_within (p ∷ x ∷ n ∷ (b ++ a)) ((a ++ p ∷ x ∷ n ∷ []) ++ b) stands may.three;
    })
  where
    first : (y z : ℕ) (t l : List ℕ) → head_or y (l ++ z ∷ t) ≡ head_or z l
    first y z t [] = refl
    first y z t (w ∷ l) = refl

    stands : (v : ℕ) → In v (p ∷ x ∷ n ∷ (b ++ a)) → In v ((a ++ p ∷ x ∷ n ∷ []) ++ b)
    stands v h = elim (in_either v (p ∷ x ∷ n ∷ []) (b ++ a) h) as (λ _. In v ((a ++ p ∷ x ∷ n ∷ []) ++ b)) [
      | inl i ↦ in_front v (a ++ p ∷ x ∷ n ∷ []) b (in_back v a (p ∷ x ∷ n ∷ []) i)
      | inr k ↦ elim (in_either v b a k) as (λ _. In v ((a ++ p ∷ x ∷ n ∷ []) ++ b)) [
        | inl i ↦ in_back v (a ++ p ∷ x ∷ n ∷ []) b i
        | inr i ↦ in_front v (a ++ p ∷ x ∷ n ∷ []) b (in_front v a (p ∷ x ∷ n ∷ []) i)
      ]
    ]

-- the cut of q in front
pub front_cut : (p x n q : ℕ) (a : List ℕ) → MayCut n (head_or p a) (p ∷ x ∷ n ∷ a) → Allowed (q ∷ (a ++ p ∷ x ∷ n ∷ []))
front_cut p x n q a may =
    let last : last_of q ((a ++ p ∷ x ∷ n ∷ []) ++ []) ≡ n = ap (last_of q) (append-nil (a ++ p ∷ x ∷ n ∷ [])) ∙ last_of-append q a p (x ∷ n ∷ []) in
    let head : head_or q ((a ++ p ∷ x ∷ n ∷ []) ++ []) ≡ head_or p a = ap (head_or q) (append-nil (a ++ p ∷ x ∷ n ∷ [])) ∙ first q p (x ∷ n ∷ []) a in
    allowed_at [] q (a ++ p ∷ x ∷ n ∷ []) (q ∷ (a ++ p ∷ x ∷ n ∷ [])) refl (record {
      bent = λ f. may.bent (sym last ∙ f ∙ head);
      three = three_within (p ∷ x ∷ n ∷ a) (a ++ p ∷ x ∷ n ∷ []) (λ v h. in_moved v (p ∷ x ∷ n ∷ []) a h) may.three;
    })
  where
    first : (y z : ℕ) (t l : List ℕ) → head_or y (l ++ z ∷ t) ≡ head_or z l
    first y z t [] = refl
    first y z t (w ∷ l) = refl
