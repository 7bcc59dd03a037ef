-- Stars, half-edge by half-edge, and what they keep where half-edges without marks are dropped.
use Rattle.std.proofs.Common.{◌≡◌, ◌≢◌, ℕ, zero, suc, ◌+◌, ◌*◌, ◌<◌, ◌≤◌, ◌⊎◌, inl, inr, Bool, true, false, List, [], ◌∷◌, ◌++◌, map, length, get_or, set, refl, sym, ap, ◌∙◌, arith, get_or-set_same, get_or-set_other}
use Rattle.std.specs.Prelude.{cond, count_by, filter, ◌==◌}
use Rattle.std.specs.List.{All}
use Rattle.std.proofs.lemmas.Bool.{both_ways, cases_Bool, eqb-true, eq-eqb, ne_eqb}
use Rattle.std.proofs.lemmas.List.{append-nil, ext_get_or, get_or-map, length-map, length-set}
use Rattle.std.proofs.lemmas.List.Elements.{All-filter, All-from_get_or, All-get_or, All-map, All-set, filter-append}
use Rattle.chain_terms.specs.Chains.{all_edges, one_if}
use Rattle.chain_terms.specs.Ranks.{start}
use Rattle.chain_terms.specs.Sums.{up_from, upto}
use Rattle.chain_laws.proofs.Places.{get_or-up_from, length-up_from, upto_more}
use Rattle.chain_laws.specs.Counts.{count_by-cons}
use Rattle.mesh_tidy.specs.Stars.{is_left, star_of, stars_of}
use Rattle.mesh_tidy.specs.TidySurface.{TidySurface, Has, IsKept}

-- the half-edges below n that start at the vertex
abbrev pub star_to : List (ℕ × ℕ) → ℕ → ℕ → List ℕ
star_to es n v = filter (λ h. start es h == v) (upto n)

abbrev pub stars_to : ℕ → List (ℕ × ℕ) → ℕ → List (List ℕ)
stars_to vertices es n = map (star_to es n) (upto vertices)

pub length-stars_to : (vertices : ℕ) (es : List (ℕ × ℕ)) (n : ℕ) → length (stars_to vertices es n) ≡ vertices
length-stars_to vertices es n = length-map (upto vertices) (star_to es n) ∙ length-up_from 0 vertices

-- the star at a place
pub star_at : (vertices : ℕ) (es : List (ℕ × ℕ)) (n v : ℕ) → v < vertices → get_or (stars_to vertices es n) v [] ≡ star_to es n v
star_at vertices es n v low =
    get_or-map (star_to es n) (upto vertices) v 0 [] (omega (arith, low, length-up_from 0 vertices)) ∙ ap (star_to es n) (get_or-up_from 0 vertices v 0 low ∙ omega arith)

-- one half-edge more
star_more : (es : List (ℕ × ℕ)) (n v : ℕ) → star_to es (n + 1) v ≡ star_to es n v ++ cond (start es n == v) (n ∷ []) []
star_more es n v = ap (filter (λ h. start es h == v)) (upto_more n) ∙ filter-append (λ h. start es h == v) (upto n) (n ∷ [])

-- it stands behind those of its start
pub stars_more : (vertices : ℕ) (es : List (ℕ × ℕ)) (n v : ℕ) → v < vertices → start es n ≡ v →
    set (stars_to vertices es n) v (get_or (stars_to vertices es n) v [] ++ n ∷ []) ≡ stars_to vertices es (n + 1)
stars_more vertices es n v low from =
    ext_get_or [] (set stars v (get_or stars v [] ++ n ∷ [])) (stars_to vertices es (n + 1))
    (omega (arith, length-set stars v (get_or stars v [] ++ n ∷ []), length-stars_to vertices es n, length-stars_to vertices es (n + 1))) each where
      stars : List (List ℕ)
      stars = stars_to vertices es n

      each : (i : ℕ) → i < length (set stars v (get_or stars v [] ++ n ∷ [])) → get_or (set stars v (get_or stars v [] ++ n ∷ [])) i [] ≡ get_or (stars_to vertices es (n + 1)) i []
      each i within = by (cases_Bool (i == v)) ∙ sym (star_at vertices es (n + 1) i i_low ∙ star_more es n i) where
        i_low : i < vertices
        i_low = omega (arith, within, length-set stars v (get_or stars v [] ++ n ∷ []), length-stars_to vertices es n)

        by : ((i == v) ≡ true) ⊎ ((i == v) ≡ false) → get_or (set stars v (get_or stars v [] ++ n ∷ [])) i [] ≡ star_to es n i ++ cond (start es n == i) (n ∷ []) []
        by (inl e) =
            let is = eqb-true i v e in
            ap (λ w. get_or (set stars v (get_or stars v [] ++ n ∷ [])) w []) is ∙ get_or-set_same stars v (get_or stars v [] ++ n ∷ []) []
            (omega (arith, low, length-stars_to vertices es n))
            ∙ ap (λ l. l ++ n ∷ []) (star_at vertices es n v low ∙ ap (star_to es n) (sym is))
            ∙ ap (λ b. star_to es n i ++ cond b (n ∷ []) []) (sym (eq-eqb (start es n) i (from ∙ sym is)))
        by (inr m) =
            let apart : i ≢ v = λ q. both_ways (i == v) m (eq-eqb i v q) in
            get_or-set_other stars v i (get_or stars v [] ++ n ∷ []) [] apart ∙ star_at vertices es n i i_low ∙ sym (append-nil (star_to es n i))
            ∙ ap (λ b. star_to es n i ++ cond b (n ∷ []) []) (sym (other (cases_Bool (start es n == i)) apart))
          where
            other : ((start es n == i) ≡ true) ⊎ ((start es n == i) ≡ false) → i ≢ v → (start es n == i) ≡ false
            other (inl y) apart = absurd (apart (sym (eqb-true (start es n) i y) ∙ from))
            other (inr k) apart = k

-- how often a member that passes occurs among those that pass
pub count-filter : (q : ℕ → Bool) (h : ℕ) (xs : List ℕ) → q h ≡ true → count_by (λ x. x == h) (filter q xs) ≡ count_by (λ x. x == h) xs
count-filter q h [] at = refl
count-filter q h (x ∷ xs) at = by (q x) refl (cases_Bool (x == h)) (count-filter q h xs at) where
  by : (b : Bool) → q x ≡ b → ((x == h) ≡ true) ⊎ ((x == h) ≡ false) → count_by (λ y. y == h) (filter q xs) ≡ count_by (λ y. y == h) xs →
      count_by (λ y. y == h) (cond b (x ∷ filter q xs) (filter q xs)) ≡ count_by (λ y. y == h) (x ∷ xs)
  by true e s rest = omega (arith, count_by-cons (λ y. y == h) x (filter q xs), count_by-cons (λ y. y == h) x xs, rest)
  by false e (inl y) rest = absurd (both_ways (q x) e (ap q (eqb-true x h y) ∙ at))
  by false e (inr n) rest = omega (arith, count_by-cons (λ y. y == h) x xs, ap one_if n, rest)

-- and one that does not
count-filter_none : (q : ℕ → Bool) (h : ℕ) (xs : List ℕ) → q h ≡ false → count_by (λ x. x == h) (filter q xs) ≡ 0
count-filter_none q h [] off = refl
count-filter_none q h (x ∷ xs) off = by (q x) refl (cases_Bool (x == h)) (count-filter_none q h xs off) where
  by : (b : Bool) → q x ≡ b → ((x == h) ≡ true) ⊎ ((x == h) ≡ false) → count_by (λ y. y == h) (filter q xs) ≡ 0 →
      count_by (λ y. y == h) (cond b (x ∷ filter q xs) (filter q xs)) ≡ 0
  by true e (inl y) rest = absurd (both_ways (q x) (ap q (eqb-true x h y) ∙ off) e)
  by true e (inr n) rest = omega (arith, count_by-cons (λ y. y == h) x (filter q xs), ap one_if n, rest)
  by false e s rest = rest

-- a number occurs once among those from a lower one on, and not among greater ones
none_from : (k n h : ℕ) → h < k → count_by (λ x. x == h) (up_from k n) ≡ 0
none_from k zero h low = refl
none_from k (suc n) h low =
    let other : (k == h) ≡ false = ne_eqb k h (λ e. omega (arith, low, e)) in
    omega (arith, count_by-cons (λ x. x == h) k (up_from (suc k) n), ap one_if other, none_from (suc k) n h (omega (arith, low)))

one_from : (k n h : ℕ) → k ≤ h → h < k + n → count_by (λ x. x == h) (up_from k n) ≡ 1
one_from k zero h low high = absurd (omega (arith, low, high))
one_from k (suc n) h low high = by (cases_Bool (k == h)) (λ l. one_from (suc k) n h l (omega (arith, high))) where
  by : ((k == h) ≡ true) ⊎ ((k == h) ≡ false) → (suc k ≤ h → count_by (λ x. x == h) (up_from (suc k) n) ≡ 1) → count_by (λ x. x == h) (up_from k (suc n)) ≡ 1
  by (inl e) later =
      omega (arith, count_by-cons (λ x. x == h) k (up_from (suc k) n), ap one_if e, none_from (suc k) n h (omega (arith, eqb-true k h e)))
  by (inr m) later =
      let apart : k ≢ h = λ q. both_ways (k == h) m (eq-eqb k h q) in
      omega (arith, count_by-cons (λ x. x == h) k (up_from (suc k) n), ap one_if m, later (omega (arith, low, apart)))

-- each edge stands once in the star of its start, and in no other
pub stars_stand : (vertices : ℕ) (es : List (ℕ × ℕ)) (h : ℕ) → h < length es → (v : ℕ) → v < vertices →
    count_by (λ x. x == h) (get_or (stars_of vertices es) v []) ≡ one_if (start es h == v)
stars_stand vertices es h h_low v low = ap (count_by (λ x. x == h)) (star_at vertices es (length es) v low) ∙ by (cases_Bool (start es h == v)) where
  by : ((start es h == v) ≡ true) ⊎ ((start es h == v) ≡ false) → count_by (λ x. x == h) (star_to es (length es) v) ≡ one_if (start es h == v)
  by (inl e) = count-filter (λ x. start es x == v) h (upto (length es)) e ∙ one_from 0 (length es) h (omega arith) (omega (arith, h_low)) ∙ sym (ap one_if e)
  by (inr n) = count-filter_none (λ x. start es x == v) h (upto (length es)) n ∙ sym (ap one_if n)

-- and each is one of the edges
pub stars_within : (vertices : ℕ) (es : List (ℕ × ℕ)) (n : ℕ) → length es ≡ n → All (All (λ h. h < n)) (stars_of vertices es)
stars_within vertices es n count =
    All-map (All (λ h. h < n)) (star_of es) (upto vertices)
    (All-from_get_or (λ v. All (λ h. h < n) (star_of es v)) (upto vertices) 0 (λ i low. each (get_or (upto vertices) i 0))) where
      below : All (λ h. h < n) (upto (length es))
      below =
          All-from_get_or (λ h. h < n) (upto (length es)) 0
          (λ i low. omega (arith, low, count, length-up_from 0 (length es), get_or-up_from 0 (length es) i 0 (omega (arith, low, length-up_from 0 (length es)))))

      each : (v : ℕ) → All (λ h. h < n) (star_of es v)
      each v = All-filter (λ h. start es h == v) (λ h. h < n) (upto (length es)) below

-- the star without what has no mark
abbrev pub pruned : List Bool → List (List ℕ) → ℕ → List (List ℕ)
pruned left stars v = set stars v (filter (is_left left) (get_or stars v []))

-- what is kept stays so
pub pruned_kept : (s : TidySurface) (tw : List ℕ) (stars : List (List ℕ)) (v : ℕ) → IsKept s tw stars → length stars ≡ s.vertices → v < length stars →
    IsKept s tw (pruned s.left stars v)
pruned_kept s tw stars v kept size low = record {
  marks = kept.marks;
  few = kept.few;
  below = kept.below;
  three = kept.three;
  closed = kept.closed;
  full = kept.full;
  twins = kept.twins;
  within = All-set (All (λ h. h < 3 * length s.triples)) stars v (filter (is_left s.left) star)
      (All-filter (is_left s.left) (λ h. h < 3 * length s.triples) star (All-get_or (All (λ h. h < 3 * length s.triples)) stars v [] low kept.within)) kept.within;
  stand = stand;
}
  where
    star : List ℕ
    star = get_or stars v []

    stand : (h : ℕ) → Has s h → (w : ℕ) → w < s.vertices → count_by (λ x. x == h) (get_or (pruned s.left stars v) w []) ≡ one_if (start (all_edges s.triples) h == w)
    stand h has w w_low = by (cases_Bool (w == v)) where
      by : ((w == v) ≡ true) ⊎ ((w == v) ≡ false) → count_by (λ x. x == h) (get_or (pruned s.left stars v) w []) ≡ one_if (start (all_edges s.triples) h == w)
      by (inl e) =
          let is = eqb-true w v e in
          ap (λ u. count_by (λ x. x == h) (get_or (pruned s.left stars v) u [])) is ∙ ap (count_by (λ x. x == h)) (get_or-set_same stars v (filter (is_left s.left) star) [] low)
          ∙ count-filter (is_left s.left) h star has.1 ∙ ap (λ u. count_by (λ x. x == h) (get_or stars u [])) (sym is) ∙ kept.stand h has w w_low
      by (inr n) = ap (count_by (λ x. x == h)) (get_or-set_other stars v w (filter (is_left s.left) star) [] (λ q. both_ways (w == v) n (eq-eqb w v q))) ∙ kept.stand h has w w_low
