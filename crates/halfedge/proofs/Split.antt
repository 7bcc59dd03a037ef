-- Half-edges with one key, split into those that run up and those that run down.
use Rattle.std.proofs.Common.{◌≡◌, ◌<◌, ◌+◌, ℕ, suc, Bool, true, false, List, [], ◌∷◌, length, get_or, map, refl, sym, ◌∙◌, ap, inl, inr, arith}
use Rattle.std.specs.Prelude.{cond, filter, ◌==◌, ◌&&◌, nat_lt}
use Rattle.std.specs.List.{All}
use Rattle.std.proofs.lemmas.Bool.{cases_Bool}
use Rattle.std.proofs.lemmas.Bool.Decides.{nat_tests}
use Rattle.std.proofs.lemmas.List.Elements.{All-from_get_or}
use Rattle.std.proofs.lemmas.Simd.{map-map}
use Rattle.chain_terms.specs.Sums.{up_from, upto}
use Rattle.chain_terms.specs.Odd.{backward}
use Rattle.chain_terms.specs.Ranks.{start, finish}
use Rattle.chain_laws.proofs.Ascending.{filter-upto_same, kept_at}
use Rattle.places_by_key.specs.Buckets.{places_of}
use Rattle.halfedge.specs.Pairing.{Half, numbered, turned}
use Rattle.halfedge.specs.Ways.{half_of, lesser_end_at, runs_up, lies_in}
use Rattle.halfedge.proofs.NumberedHalves.{turned-numbered}

-- a filter of a map is the map of a filter
filter-map : {X Y : Type 0} (p : Y → Bool) (f : X → Y) (xs : List X) → filter p (map f xs) ≡ map f (filter (λ x. p (f x)) xs)
filter-map p f [] = refl
filter-map p f (x ∷ xs) = elim (cases_Bool (p (f x))) as (λ _. filter p (map f (x ∷ xs)) ≡ map f (filter (λ y. p (f y)) (x ∷ xs))) [
  | inl y ↦ rw y (ap (λ l. f x ∷ l) (filter-map p f xs))
  | inr n ↦ rw n (filter-map p f xs)
]

-- a filter after a filter is the filter by both tests
filter-filter : {X : Type 0} (p q : X → Bool) (xs : List X) → filter p (filter q xs) ≡ filter (λ x. q x && p x) xs
filter-filter p q [] = refl
filter-filter p q (x ∷ xs) = elim (cases_Bool (q x)) as (λ _. filter p (filter q (x ∷ xs)) ≡ filter (λ y. q y && p y) (x ∷ xs)) [
  | inl y ↦ rw y (ap (λ l. cond (p x) (x ∷ l) l) (filter-filter p q xs))
  | inr n ↦ rw n (filter-filter p q xs)
]

-- where f gives the half-edge at each place from k on, the numbered edges are what f gives at these places
numbered_places : (f : ℕ → Half) (k : ℕ) (es : List (ℕ × ℕ)) → ((j : ℕ) → j < length es → f (k + j) ≡ (start es j, finish es j, k + j)) →
    numbered k es ≡ map f (up_from k (length es))
numbered_places f k [] at = refl
numbered_places f k (e ∷ es) at =
    let here : k + 0 ≡ k = omega arith in
    let first : f k ≡ (e.0, e.1, k) = ap f (sym here) ∙ at 0 (omega arith) ∙ ap (λ n. (e.0, e.1, n)) here in
    let rest = numbered_places f (suc k) es
    (λ j below. let further : suc k + j ≡ k + suc j = omega arith in ap f further ∙ at (suc j) (omega (arith, below)) ∙ ap (λ n. (start es j, finish es j, n)) (sym further)) in
    ap (λ l. (e.0, e.1, k) ∷ l) rest ∙ ap (λ (h : Half). h ∷ map f (up_from (suc k) (length es))) (sym first)

-- the numbered edges are the half-edges at all places
pub numbered_halves : (es : List (ℕ × ℕ)) → numbered 0 es ≡ map (half_of es) (upto (length es))
numbered_halves es = numbered_places (half_of es) 0 es (λ j below. let same : 0 + j ≡ j = omega arith in ap (half_of es) same ∙ ap (λ n. (start es j, finish es j, n)) (sym same))

-- of the half-edges at the places that pass one test, those that pass a second one are those at the places that pass a third one
kept_halves : (f : ℕ → Half) (passes : ℕ → Bool) (up lies : Half → Bool) (n : ℕ) → ((i : ℕ) → i < n → (passes i && up (f i)) ≡ lies (f i)) →
    filter up (map f (filter passes (upto n))) ≡ filter lies (map f (upto n))
kept_halves f passes up lies n same =
    filter-map up f (filter passes (upto n)) ∙ ap (map f) (filter-filter (λ i. up (f i)) passes (upto n) ∙ filter-upto_same (λ i. passes i && up (f i)) (λ i. lies (f i)) n same)
    ∙ sym (filter-map lies f (upto n))

-- a test and true, in either order
and_true : (t : Bool) → (t && true) ≡ (true && t)
and_true true = refl
and_true false = refl

-- a test and false
and_false : (t : Bool) → (t && false) ≡ false
and_false true = refl
and_false false = refl

-- an edge that runs up from a has the key of a
up_lies : (key : ℕ → ℕ) (k a b : ℕ) → ((key (cond (nat_lt a b) a b) == k) && nat_lt a b) ≡ (nat_lt a b && (key a == k))
up_lies key k a b = elim (cases_Bool (nat_lt a b)) as (λ _. ((key (cond (nat_lt a b) a b) == k) && nat_lt a b) ≡ (nat_lt a b && (key a == k))) [
  | inl y ↦ rw y (and_true (key a == k))
  | inr m ↦ rw m (and_false (key b == k))
]

-- an edge that runs down to b has the key of b
down_lies : (key : ℕ → ℕ) (k a b : ℕ) → ((key (cond (nat_lt a b) a b) == k) && nat_lt b a) ≡ (nat_lt b a && (key b == k))
down_lies key k a b = elim (cases_Bool (nat_lt b a)) as (λ _. ((key (cond (nat_lt a b) a b) == k) && nat_lt b a) ≡ (nat_lt b a && (key b == k))) [
  | inl y ↦ let m : nat_lt a b ≡ false = grind (arith, nat_tests, y) in rw m (rw y (and_true (key b == k)))
  | inr m ↦ rw m (and_false (key (cond (nat_lt a b) a b) == k))
]

-- each edge has the key of its lesser end
pub record AreKeys (es : List (ℕ × ℕ)) (key : ℕ → ℕ) (keys : List ℕ) : Type 0 where
  pub full : length keys ≡ length es
  pub each : (h : ℕ) → h < length es → get_or keys h 0 ≡ key (lesser_end_at es h)

-- of the half-edges with key k, those that run up are those that lie in k
pub key_ups : (es : List (ℕ × ℕ)) (key : ℕ → ℕ) (keys : List ℕ) (k : ℕ) → AreKeys es key keys →
    filter runs_up (map (half_of es) (places_of keys k)) ≡ filter (lies_in key k) (numbered 0 es)
key_ups es key keys k are =
    let inside : ℕ → Bool = λ i. get_or keys i 0 == k in
    ap (λ m. filter runs_up (map (half_of es) (filter inside (upto m)))) are.full
    ∙ kept_halves (half_of es) inside runs_up (lies_in key k) (length es)
    (λ i below. ap (λ m. (m == k) && nat_lt (start es i) (finish es i)) (are.each i below) ∙ up_lies key k (start es i) (finish es i))
    ∙ ap (filter (lies_in key k)) (sym (numbered_halves es))

-- and those that run down, turned, are those of the turned edges that lie in k
pub key_downs : (es : List (ℕ × ℕ)) (key : ℕ → ℕ) (keys : List ℕ) (k : ℕ) → AreKeys es key keys →
    filter runs_up (map turned (map (half_of es) (places_of keys k))) ≡ filter (lies_in key k) (numbered 0 (backward es))
key_downs es key keys k are =
    let inside : ℕ → Bool = λ i. get_or keys i 0 == k in
    let back : ℕ → Half = λ h. turned (half_of es h) in
    ap (λ m. filter runs_up (map turned (map (half_of es) (filter inside (upto m))))) are.full
    ∙ ap (filter runs_up) (map-map turned (half_of es) (filter inside (upto (length es))))
    ∙ kept_halves back inside runs_up (lies_in key k) (length es)
    (λ i below. ap (λ m. (m == k) && nat_lt (finish es i) (start es i)) (are.each i below) ∙ down_lies key k (start es i) (finish es i))
    ∙ ap (filter (lies_in key k)) (sym (map-map turned (half_of es) (upto (length es))) ∙ ap (map turned) (sym (numbered_halves es)) ∙ turned-numbered 0 es)

-- the places with a key are places of the list
pub places_below : (keys : List ℕ) (k : ℕ) → All (λ place. place < length keys) (places_of keys k)
places_below keys k =
    let inside : ℕ → Bool = λ i. get_or keys i 0 == k in
    All-from_get_or (λ h. h < length keys) (places_of keys k) 0 (λ i below. let kept = kept_at inside 0 (length keys) i below in omega (arith, kept.high))
