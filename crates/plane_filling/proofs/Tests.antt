-- A list of places is a ring where two tests pass.
use Rattle.std.specs.Prelude.{◌≡◌, ◌≢◌, ℕ, zero, suc, ◌<◌, ◌⊎◌, List, [], ◌∷◌, ◌++◌, Bool, true, false, not, ◌&&◌, ◌||◌, ◌==◌, length, get_or}
use Rattle.std.specs.List.{All, list_all, list_any}
use Rattle.std.proofs.Common.{arith, refl, sym, ap, ◌∙◌, inl, inr}
use Rattle.std.proofs.lemmas.Bool.{and_from, and_parts, both_ways, cases_Bool, cases_eq, eqb-false, ne_eqb, not-true}
use Rattle.std.proofs.lemmas.List.Elements.{All-head}
use Rattle.std.proofs.lemmas.List.Sums.{AllPass-from_list_all, list_all-from_AllPass}
use Rattle.chain_terms.specs.Paths.{last_of, path, round_edges}
use Rattle.face_plane.specs.Rings.{In, IsRing, Three}
use Rattle.loop_ring.specs.Turning.{turned_to}
use Rattle.plane_filling.specs.Cuttings.{differ, is_other}

-- the place at an index stands in the list
in_at : (r : List ℕ) (i : ℕ) → i < length r → In (get_or r i 0) r
in_at [] i h = absurd (omega (arith, h))
in_at (x ∷ r) zero h = inl refl
in_at (x ∷ r) (suc i) h = inr (in_at r i (omega (arith, h)))

-- what stands in a list passes a test that some member passes
any_in : (p : ℕ → Bool) (v : ℕ) (r : List ℕ) → In v r → p v ≡ true → list_any p r ≡ true
any_in p v [] h y = elim h [ ]
any_in p v (x ∷ r) (inl e) y = rw (sym (ap p e) ∙ y) refl
any_in p v (x ∷ r) (inr h) y = by (p x) (any_in p v r h y)
  where
    by : (b : Bool) → list_any p r ≡ true → (b || list_any p r) ≡ true
    by true some = refl
    by false some = some

-- and one that passes stands there
record Found (p : ℕ → Bool) (r : List ℕ) : Type 0 where
  member : ℕ
  inside : In member r
  passes : p member ≡ true

found : (p : ℕ → Bool) (r : List ℕ) → list_any p r ≡ true → Found p r
found p [] h = cc
found p (x ∷ r) h = elim (cases_Bool (p x)) as (λ _. Found p (x ∷ r)) [
  | inl y ↦ record { member = x; inside = inl refl; passes = y }
  | inr n ↦ let f = found p r (sym (ap (λ b. b || list_any p r) n) ∙ h) in record { member = f.member; inside = inr f.inside; passes = f.passes }
]

-- edges of which each joins two places, by the test
differ_all : (es : List (ℕ × ℕ)) → All (λ e. e.0 ≢ e.1) es → list_all differ es ≡ true
differ_all es all = list_all-from_AllPass differ es (λ k d low. ap not (ne_eqb (get_or es k d).0 (get_or es k d).1 (all k d low)))

all_differ : (es : List (ℕ × ℕ)) → list_all differ es ≡ true → All (λ e. e.0 ≢ e.1) es
all_differ es h k d low = eqb-false (get_or es k d).0 (get_or es k d).1 (not-true ((get_or es k d).0 == (get_or es k d).1) (AllPass-from_list_all differ es h k d low))

-- one of two is one or the other
is_one : (a b v : ℕ) → ((v ≡ a) ⊎ (v ≡ b)) ⊎ (is_other a b v ≡ true)
is_one a b v = elim (cases_eq v a) as (λ _. ((v ≡ a) ⊎ (v ≡ b)) ⊎ (is_other a b v ≡ true)) [
  | inl e ↦ inl (inl e)
  | inr n ↦ elim (cases_eq v b) as (λ _. ((v ≡ a) ⊎ (v ≡ b)) ⊎ (is_other a b v ≡ true)) [
    | inl e ↦ inl (inr e)
    | inr m ↦ inr (and_from (not (v == a)) (not (v == b)) (ap not (ne_eqb v a n)) (ap not (ne_eqb v b m)))
  ]
]

-- of three different ones one is neither of two
third : (a b : ℕ) (r : List ℕ) → Three r → list_any (is_other a b) r ≡ true
third a b r t = by (is_one a b t.a) (is_one a b t.b) (is_one a b t.c)
  where
    p : ℕ → Bool
    p = is_other a b

    two : (x y z : ℕ) → x ≢ y → y ≢ z → z ≢ x → (x ≡ a) ⊎ (x ≡ b) → (y ≡ a) ⊎ (y ≡ b) → (z ≡ a) ⊎ (z ≡ b) → ⊥
    two x y z xy yz zx (inl e) (inl f) k = xy (e ∙ sym f)
    two x y z xy yz zx (inr e) (inr f) k = xy (e ∙ sym f)
    two x y z xy yz zx (inl e) (inr f) (inl g) = zx (g ∙ sym e)
    two x y z xy yz zx (inl e) (inr f) (inr g) = yz (f ∙ sym g)
    two x y z xy yz zx (inr e) (inl f) (inl g) = yz (f ∙ sym g)
    two x y z xy yz zx (inr e) (inl f) (inr g) = zx (g ∙ sym e)

    by : ((t.a ≡ a) ⊎ (t.a ≡ b)) ⊎ (p t.a ≡ true) → ((t.b ≡ a) ⊎ (t.b ≡ b)) ⊎ (p t.b ≡ true) → ((t.c ≡ a) ⊎ (t.c ≡ b)) ⊎ (p t.c ≡ true) →
        list_any p r ≡ true
    by (inr y) k l = any_in p t.a r t.a_in y
    by (inl h) (inr y) l = any_in p t.b r t.b_in y
    by (inl h) (inl k) (inr y) = any_in p t.c r t.c_in y
    by (inl h) (inl k) (inl l) = absurd (two t.a t.b t.c t.ab t.bc t.ca h k l)

-- the first place, and the one after it
abbrev first : List ℕ → ℕ
first r = get_or r 0 0

abbrev second : List ℕ → ℕ
second r = get_or (turned_to 1 r) 0 0

-- both tests
abbrev pub passes : List ℕ → Bool
passes r = list_all differ (round_edges r) && list_any (is_other (first r) (second r)) r

pub ring_passes : (r : List ℕ) → IsRing r → passes r ≡ true
ring_passes r ringy =
    and_from (list_all differ (round_edges r)) (list_any (is_other (first r) (second r)) r) (differ_all (round_edges r) ringy.apart)
    (third (first r) (second r) r ringy.three)

pub passes_ring : (r : List ℕ) → passes r ≡ true → IsRing r
passes_ring [] h = absurd (both_ways false refl (and_parts (list_all differ []) (list_any (is_other 0 0) []) h).1)
passes_ring (x ∷ []) h =
    let both = and_parts (list_all differ ((x, x) ∷ [])) (list_any (is_other x x) (x ∷ [])) h in
    absurd (all_differ ((x, x) ∷ []) both.0 0 (0, 0) (omega arith) refl)
passes_ring (x ∷ y ∷ []) h =
    let es = round_edges (x ∷ y ∷ []) in
    let both = and_parts (list_all differ es) (list_any (is_other x y) (x ∷ y ∷ [])) h in
    let f = found (is_other x y) (x ∷ y ∷ []) both.1 in
    let apart = and_parts (not (f.member == x)) (not (f.member == y)) f.passes in
    absurd (none f.member f.inside (eqb-false f.member x (not-true (f.member == x) apart.0)) (eqb-false f.member y (not-true (f.member == y) apart.1)))
  where
    none : (v : ℕ) → In v (x ∷ y ∷ []) → v ≢ x → v ≢ y → ⊥
    none v (inl e) n m = n e
    none v (inr (inl e)) n m = m e
    none v (inr (inr h)) n m = elim h [ ]
passes_ring (x ∷ y ∷ z ∷ r) h =
    let l = x ∷ y ∷ z ∷ r in
    let es = round_edges l in
    let both = and_parts (list_all differ es) (list_any (is_other x y) l) h in
    let apart = all_differ es both.0 in
    let f = found (is_other x y) l both.1 in
    let other = and_parts (not (f.member == x)) (not (f.member == y)) f.passes in
    let not_x = eqb-false f.member x (not-true (f.member == x) other.0) in
    let not_y = eqb-false f.member y (not-true (f.member == y) other.1) in
    record {
      long = omega arith;
      apart = apart;
      three = record {
        a = x;
        b = y;
        c = f.member;
        a_in = inl refl;
        b_in = inr (inl refl);
        c_in = f.inside;
        ab = All-head (λ (e : ℕ × ℕ). e.0 ≢ e.1) (x, y) (path y (z ∷ r) ++ (last_of z r, x) ∷ []) apart;
        bc = λ e. not_y (sym e);
        ca = not_x;
      };
    }
