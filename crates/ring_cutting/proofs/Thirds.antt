-- A third vertex than two different ones that stand in a list.
use Rattle.std.specs.Prelude.{◌≡◌, ◌≢◌, ℕ, ◌+◌, ◌<◌, List, [], ◌∷◌, ◌++◌, true, false, Bool, not, ◌==◌, ◌||◌, ◌&&◌}
use Rattle.std.specs.Prelude.{nat_lt, length, take, drop, ◌⊎◌}
use Rattle.std.specs.List.{list_any}
use Rattle.std.proofs.Common.{refl, sym, subst, ap, ◌∙◌, inl, inr}
use Rattle.std.proofs.lemmas.Bool.{cases_eq, cases_lt, cases_Bool, eqb-false, ne_eqb, and_parts, and_from, not-true}
use Rattle.std.proofs.lemmas.Bool.{lt-ltb, le-ltb, or_cases, or_left, or_right, both_ways}
use Rattle.std.proofs.lemmas.List.{take-map, drop-map}
use Rattle.std.proofs.lemmas.List.Folds.{list_any-append}
use Rattle.chain_terms.specs.Paths.{last_of}
use Rattle.face_plane.specs.Rings.{In, different, vertex_before, vertex_after, without_place}
use Rattle.ring_cutting.specs.declared.place.Place.{Place}
use Rattle.ring_cutting.specs.Cuts.{is_allowed}
use Rattle.ring_cutting.specs.Placed.{vertices_of, is_third}
use Rattle.ring_cutting.proofs.Members.{head_or, in_moved, last_in}
use Rattle.ring_cutting.proofs.Different.{three_in, are_three}
use Rattle.ring_cutting.proofs.Bent.{no_three}
use Rattle.ring_cutting.proofs.Turned.{before_is, after_is, without_is, splits_at}

-- a vertex of the list that is neither p nor n
record Third (p n : ℕ) (r : List ℕ) : Type 0 where
  vertex : ℕ
  stands : In vertex r
  not_first : vertex ≢ p
  not_second : vertex ≢ n

-- where the test says so there is one
third_in : (p n : ℕ) (r : List ℕ) → list_any (is_third p n) r ≡ true → Third p n r
third_in p n [] h = cc
third_in p n (x ∷ r) h = elim (or_cases (is_third p n x) (list_any (is_third p n) r) h) as (λ _. Third p n (x ∷ r)) [
  | inl y ↦
      let both = and_parts (not (x == p)) (not (x == n)) y in
      record {
        vertex = x;
        stands = inl refl;
        not_first = eqb-false x p (not-true (x == p) both.0);
        not_second =
            eqb-false x n (not-true (x == n) both.1);
      }
  | inr y ↦ let t = third_in p n r y in record { vertex = t.vertex; stands = inr t.stands; not_first = t.not_first; not_second = t.not_second }
]

-- and where there is one the test says so
third_there : (p n v : ℕ) (r : List ℕ) → In v r → v ≢ p → v ≢ n → list_any (is_third p n) r ≡ true
third_there p n v [] h d e = elim h [ ]
third_there p n v (x ∷ r) (inl same) d e =
    or_left (is_third p n x) (list_any (is_third p n) r)
    (ap (is_third p n) (sym same) ∙ and_from (not (v == p)) (not (v == n)) (ap not (ne_eqb v p d)) (ap not (ne_eqb v n e)))
third_there p n v (x ∷ r) (inr h) d e = or_right (is_third p n x) (list_any (is_third p n) r) (third_there p n v r h d e)

-- else each vertex is one of the two
no_third : (p n : ℕ) (r : List ℕ) → list_any (is_third p n) r ≡ false → (v : ℕ) → In v r → (v ≡ p) ⊎ (v ≡ n)
no_third p n r none v h = elim (cases_eq v p) as (λ _. (v ≡ p) ⊎ (v ≡ n)) [
  | inl e ↦ inl e
  | inr d ↦ elim (cases_eq v n) as (λ _. (v ≡ p) ⊎ (v ≡ n)) [
    | inl e ↦ inr e
    | inr e ↦ absurd (both_ways (list_any (is_third p n) r) none (third_there p n v r h d e))
  ]
]

-- so three different vertices stand in the list where one is neither of two different ones
three_by_third : (p n : ℕ) (r : List ℕ) → In p r → In n r → p ≢ n → nat_lt 2 (different r) ≡ list_any (is_third p n) r
three_by_third p n r first second apart = elim (cases_Bool (list_any (is_third p n) r)) as (λ _. nat_lt 2 (different r) ≡ list_any (is_third p n) r) [
  | inl y ↦
      let t = third_in p n r y in
      lt-ltb 2 (different r) (three_in p n t.vertex r first second t.stands apart (λ e. t.not_second (sym e)) t.not_first) ∙ sym y
  | inr m ↦ elim (cases_lt 2 (different r)) as (λ _. nat_lt 2 (different r) ≡ list_any (is_third p n) r) [
    | inl l ↦
        let t = are_three r l in
        absurd (no_three p n t.a t.b t.c (no_third p n r m t.a t.a_in) (no_third p n r m t.b t.b_in) (no_third p n r m t.c t.c_in) t.ab t.bc t.ca)
    | inr l ↦ le-ltb 2 (different r) l ∙ sym m
  ]
]

-- the neighbours of a place stand in other places where they differ
beside : (x : ℕ) (c : List ℕ) → last_of x c ≢ head_or x c → In (last_of x c) c × In (head_or x c) c
beside x [] apart = absurd (apart refl)
beside x (y ∷ c) apart = (last_in y c, inl refl)

-- a place whose neighbours differ is allowed where a third vertex stands in another place
pub allowed_by_third : (r : List ℕ) (i : ℕ) → i < length r → vertex_before r i ≢ vertex_after r i →
    list_any (is_third (vertex_before r i) (vertex_after r i)) (without_place i r) ≡ is_allowed r i
allowed_by_third r i h =
    let s = splits_at r i h in
    subst (λ l. Holds l i) (sym s.joined) (subst (Holds (s.front ++ s.vertex ∷ s.back)) (sym s.place) (middle s.front s.vertex s.back))
  where
    Holds : List ℕ → ℕ → Type 0
    Holds l k = vertex_before l k ≢ vertex_after l k → list_any (is_third (vertex_before l k) (vertex_after l k)) (without_place k l) ≡ is_allowed l k

    middle : (a : List ℕ) (x : ℕ) (b : List ℕ) → Holds (a ++ x ∷ b) (length a)
    middle a x b = rw (before_is a x b, after_is a x b, without_is a x b) (λ apart.
        let two = beside x (b ++ a) apart in let p = last_of x (b ++ a) in let n = head_or x (b ++ a) in
        sym (ap (λ (t : Bool). not t && nat_lt 2 (different (a ++ b))) (ne_eqb p n apart)
        ∙ three_by_third p n (a ++ b) (in_moved p b a two.0) (in_moved n b a two.1) apart))

-- the places before and behind one are the others
pub third_beside : (p n : ℕ) (ps : List Place) (i : ℕ) →
    list_any (is_third p n) (without_place i (vertices_of ps)) ≡
    (list_any (is_third p n) (vertices_of (take i ps)) || list_any (is_third p n) (vertices_of (drop (i + 1) ps)))
third_beside p n ps i =
    let f : Place → ℕ = λ q. q.vertex in
    list_any-append (is_third p n) (take i (vertices_of ps)) (drop (i + 1) (vertices_of ps))
    ∙ ap (λ l. list_any (is_third p n) l || list_any (is_third p n) (drop (i + 1) (vertices_of ps))) (take-map f i ps)
    ∙ ap (λ l. list_any (is_third p n) (vertices_of (take i ps)) || list_any (is_third p n) l) (drop-map f (i + 1) ps)
