-- The list of all fans and the number of each half-edge in it, as they are found.
use Rattle.std.proofs.Common.{◌≡◌, ◌<◌, ◌≤◌, ◌+◌, ℕ, Bool, cond, List, [], ◌∷◌, ◌++◌, length, get_or, filter, map, replicate, slice_set, take, refl, sym, ◌∙◌, ap, subst, arith, inl, inr}
use Rattle.std.specs.Prelude.{◌==◌, ◌&&◌}
use Rattle.std.specs.List.{All, flat_map, position_or_len}
use Rattle.std.proofs.lemmas.Bool.{cases_Bool, cases_eq}
use Rattle.std.proofs.lemmas.List.{append-nil, append_assoc, get_or-map, get_or-set_same, get_or-set_other, get_or_default, length-map, length-replicate, length-set, same_lists}
use Rattle.std.proofs.lemmas.List.Concat.{flat_map-append}
use Rattle.std.proofs.lemmas.List.Elements.{filter_more}
use Rattle.chain_terms.specs.Chains.{all_edges}
use Rattle.chain_terms.specs.Ranks.{start}
use Rattle.chain_terms.specs.Sums.{upto}
use Rattle.chain_laws.proofs.Ascending.{filter-upto_same, kept_at}
use Rattle.chain_laws.proofs.Places.{upto_more}
use Rattle.chain_laws.proofs.Walks.{different_below}
use Rattle.mesh_terms.specs.Meshes.{IsBelow, Triple}
use Rattle.pinch_split.proofs.Whole.{start_below}
use Rattle.places_by_key.specs.Buckets.{places_of}
use Rattle.places_by_key.proofs.Upto.{get_or-map-upto, length-map-upto}
use Rattle.sheet_terms.specs.Vertices.{fan_list, fans_by, leaders}
use Rattle.fan_laws.specs.Pairs.{ArePaired}
use Rattle.fan_laws.proofs.FanLists.{fans_rise, is_leader}
use Rattle.fan_laws.proofs.Leaders.{leader, leader_read, length-leaders}
use Rattle.fan_laws.proofs.Members.{member}
use Rattle.fan_laws.proofs.Numbers.{number, number_is}
use Rattle.angle_pairing.specs.Numbers.{AreDifferent, AreNumbered}

-- a filter of a filter
filter_both : (p q : ℕ → Bool) (xs : List ℕ) → filter p (filter q xs) ≡ filter (λ x. q x && p x) xs
filter_both p q [] = refl
filter_both p q (x ∷ xs) = elim (cases_Bool (q x)) as (λ _. filter p (filter q (x ∷ xs)) ≡ filter (λ y. q y && p y) (x ∷ xs)) [
  | inl some ↦
      ap (λ b. filter p (cond b (x ∷ filter q xs) (filter q xs))) some ∙ ap (λ l. cond (p x) (x ∷ l) l) (filter_both p q xs)
      ∙ ap (λ b. cond (b && p x) (x ∷ filter (λ y. q y && p y) xs) (filter (λ y. q y && p y) xs)) (sym some)
  | inr none ↦
      ap (λ b. filter p (cond b (x ∷ filter q xs) (filter q xs))) none ∙ filter_both p q xs
      ∙ ap (λ b. cond (b && p x) (x ∷ filter (λ y. q y && p y) xs) (filter (λ y. q y && p y) xs)) (sym none)
]

module _ (es : List (ℕ × ℕ)) (ls starts : List ℕ) (is : starts ≡ map (start es) (upto (length es))) where
  -- the own leaders of one place
  pub own_at : (v : ℕ) → filter (λ h. get_or ls h 0 == h) (places_of starts v) ≡ filter (λ h. (start es h == v) && (get_or ls h 0 == h)) (upto (length es))
  own_at v =
      let many : length starts ≡ length es = ap length is ∙ length-map-upto (start es) (length es) in
      ap (λ m. filter (λ h. get_or ls h 0 == h) (filter (λ i. get_or starts i 0 == v) (upto m))) many
      ∙ ap (filter (λ h. get_or ls h 0 == h))
      (filter-upto_same (λ i. get_or starts i 0 == v) (λ i. start es i == v) (length es)
      (λ i low. ap (λ s. s == v) (ap (λ l. get_or l i 0) is ∙ get_or-map-upto (start es) (length es) i 0 low)))
      ∙ filter_both (λ h. get_or ls h 0 == h) (λ h. start es h == v) (upto (length es))

  -- one place more
  pub own_more : (v : ℕ) (bucket old new : List ℕ) → bucket ≡ places_of starts v → old ≡ fan_list v es ls →
      new ≡ old ++ filter (λ h. get_or ls h 0 == h) bucket → new ≡ fan_list (v + 1) es ls
  own_more v bucket old new bucket_is before after =
      let f : ℕ → List ℕ = λ w. filter (λ h. (start es h == w) && (get_or ls h 0 == h)) (upto (length es)) in
      after ∙ ap (λ l. l ++ filter (λ h. get_or ls h 0 == h) bucket) before ∙ ap (λ b. fan_list v es ls ++ filter (λ h. get_or ls h 0 == h) b) bucket_is
      ∙ ap (λ l. fan_list v es ls ++ l) (own_at v ∙ sym (append-nil (f v))) ∙ sym (flat_map-append f (upto v) (v ∷ [])) ∙ ap (flat_map f) (sym (upto_more v))

  pub own_below : (v : ℕ) → All (λ h. h < length es) (places_of starts v)
  own_below v k d low =
      let many : length starts ≡ length es = ap length is ∙ length-map-upto (start es) (length es) in
      subst (λ h. h < length es) (get_or_default (places_of starts v) k 0 d low)
      (let r = kept_at (λ i. get_or starts i 0 == v) 0 (length starts) k low in omega (arith, r.high, many))

-- a list of own leaders with one half-edge more looked at
pub own_step : (p : ℕ → Bool) (halves old before now : List ℕ) (i x : ℕ) (d : ℕ) → i < length halves → get_or halves i d ≡ x → before ≡ old ++ filter p (take i halves) →
    now ≡ before ++ cond (p x) (x ∷ []) [] → now ≡ old ++ filter p (take (i + 1) halves)
own_step p halves old before now i x d low is was after =
    after ∙ (λ j. was j ++ cond (p (sym is j)) (sym is j ∷ []) []) ∙ simp append_assoc
    (ap (λ l. old ++ l) (sym (filter_more p halves i d low)))

-- places in a list of different numbers, written one after the other
pub record AreSoFar (count n : ℕ) (numbers firsts : List ℕ) : Type 0 where
  pub full : length numbers ≡ count
  pub each : (k : ℕ) → k < n → get_or numbers (get_or firsts k 0) 0 ≡ k

pub so_far_none : (count : ℕ) (numbers firsts : List ℕ) → numbers ≡ replicate count 0 → AreSoFar count 0 numbers firsts
so_far_none count numbers firsts is = record { full = ap length is ∙ length-replicate count 0; each = λ k low. absurd (omega (arith, low)) }

pub so_far_more : (count n : ℕ) (numbers firsts : List ℕ) → All (λ h. h < count) firsts → AreDifferent firsts → n < length firsts → AreSoFar count n numbers firsts →
    AreSoFar count (n + 1) (slice_set numbers (get_or firsts n 0) n) firsts
so_far_more count n numbers firsts below differ low is = record {
  full = length-set numbers (get_or firsts n 0) n ∙ is.full;
  each = λ k less. elim (cases_eq k n) as (λ _. get_or (slice_set numbers (get_or firsts n 0) n) (get_or firsts k 0) 0 ≡ k) [
    | inl e ↦
        ap (λ j. get_or (slice_set numbers (get_or firsts n 0) n) (get_or firsts j 0) 0) e
        ∙ get_or-set_same numbers (get_or firsts n 0) n 0 (omega (arith, below n 0 low, is.full)) ∙ sym e
    | inr apart ↦
        let before : k < n = omega (arith, less, apart) in
        get_or-set_other numbers (get_or firsts n 0) (get_or firsts k 0) n 0 (differ k n before low) ∙ is.each k before
  ];
}

module _ (n : ℕ) (ts : List Triple) (below : All (IsBelow n) ts) (twins : List ℕ) (paired : ArePaired (all_edges ts) twins) where
  abbrev es : List (ℕ × ℕ)
  es = all_edges ts

  abbrev first : List ℕ
  first = fan_list n es (leaders twins)

  low_starts : (h : ℕ) → h < length es → start es h < n
  low_starts h low = start_below n ts below h low

  pub firsts_below : All (λ h. h < length twins) first
  firsts_below k d low =
      subst (λ h. h < length twins) (get_or_default first k 0 d low)
      (let is = is_leader es (leaders twins) 0 n (get_or first k 0) (member first k low) in omega (arith, is.below, paired.full))

  pub firsts_differ : AreDifferent first
  firsts_differ j k less low same =
      let before = fans_rise es (leaders twins) 0 n j k less low in omega (arith, before.halves (ap (start es) same), same)

  -- the number of each half-edge is that of its leader
  pub numbers_are : (numbers : List ℕ) → AreNumbered (length twins) numbers first → map (λ l. get_or numbers l 0) (leaders twins) ≡ (fans_by n ts twins).of
  numbers_are numbers are =
      same_lists (map (λ l. get_or numbers l 0) (leaders twins)) (map (λ l. position_or_len (λ g. g == l) first) (leaders twins))
      (length-map (leaders twins) (λ l. get_or numbers l 0) ∙ sym (length-map (leaders twins) (λ l. position_or_len (λ g. g == l) first)))
      (λ k d k_low.
      let within : k < length (leaders twins) = omega (arith, k_low, length-map (leaders twins) (λ l. get_or numbers l 0)) in
      let low : k < length twins = omega (arith, within, length-leaders twins) in
      let found = number_is n es twins paired.are paired.full low_starts k low in
      let j = number n es twins paired.are paired.full low_starts k in
      let here : get_or numbers (leader twins k) 0 ≡ position_or_len (λ g. g == leader twins k) first = ap (λ l. get_or numbers l 0) (sym found.1) ∙ are.each j found.0 in
      get_or-map (λ l. get_or numbers l 0) (leaders twins) k 0 d within ∙ ap (λ l. get_or numbers l 0) (leader_read twins k low) ∙ here
      ∙ ap (λ l. position_or_len (λ g. g == l) first) (sym (leader_read twins k low))
      ∙ sym (get_or-map (λ l. position_or_len (λ g. g == l) first) (leaders twins) k 0 d within))

  -- there are no more fans than half-edges
  pub firsts_few : length first ≤ length twins
  firsts_few =
      different_below (λ k. get_or first k 0) (length first) (length twins) (λ k low. firsts_below k 0 low) (λ i j less low. firsts_differ i j less low)
