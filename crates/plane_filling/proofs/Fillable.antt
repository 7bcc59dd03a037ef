-- The loops of regions have places of the walks, and the regions that stand by a triangle are regions.
use Rattle.std.specs.Prelude.{◌≡◌, ℕ, zero, suc, ◌+◌, ◌*◌, ◌<◌, List, [], ◌∷◌, ◌++◌, Bool, ◌==◌, not, length, get_or, map, take, drop}
use Rattle.std.specs.List.{All, concat, flat_map}
use Rattle.std.proofs.Common.{arith, sym, ap, subst, zero-add, ◌∙◌}
use Rattle.std.proofs.lemmas.Bool.{cond_both}
use Rattle.std.proofs.lemmas.List.{append-nil, length-map, map_push, take_more}
use Rattle.std.proofs.lemmas.List.Concat.{flat_map-append}
use Rattle.std.proofs.lemmas.List.Elements.{All-append, All-cons, All-drop, All-head, All-nil, All-tail, All-take}
use Rattle.std.proofs.lemmas.List.Sorted.{All-permutation}
use Rattle.std.proofs.lemmas.List.Sums.{sum_by-append}
use Rattle.chain_laws.proofs.Places.{get_or-up_from, length-up_from, upto_more}
use Rattle.chain_terms.specs.Sums.{upto}
use Rattle.face_plane.specs.Planes.{Plane}
use Rattle.hole_joining.proofs.Loops.{All-kept}
use Rattle.places_by_key.specs.Buckets.{places_of}
use Rattle.places_by_key.proofs.Upto.{get_or-map-upto, length-map-upto}
use Rattle.sheet_terms.specs.Filled.{begun, beginning, comes_before}
use Rattle.plane_filling.specs.declared.regions.Region.{Region}
use Rattle.plane_filling.specs.Begun.{begun_without, loops_without, without}
use Rattle.plane_filling.specs.Pieces.{Piece, first_key, first_keys, forced_of}
use Rattle.plane_filling.proofs.Sorted.{before_order, ordered-permutation}

-- members of all lists are members of the one made of them
pub All-concat : (P : ℕ → Type 0) (ls : List (List ℕ)) → All (λ l. All P l) ls → All P (concat ls)
All-concat P [] all = All-nil P
All-concat P (l ∷ ls) all =
    let Q : List ℕ → Type 0 = λ l. All P l in All-append P l (concat ls) (All-head Q l ls all) (All-concat P ls (All-tail Q l ls all))

-- the places of loops
All-begun : (P : ℕ → Type 0) (p : ℕ → Bool) (at : Plane) (walk : List ℕ) → All P walk → All P (begun at (without p walk))
All-begun P p at walk all =
    let left = without p walk in
    let i = beginning at left in
    let stay = All-kept P (λ v. not (p v)) walk all in All-append P (drop i left) (take i left) (All-drop P i left stay) (All-take P i left stay)

All-begun_without : (P : ℕ → Type 0) (p : ℕ → Bool) (at : Plane) (walks : List (List ℕ)) → All (λ w. All P w) walks → All (λ w. All P w) (begun_without p at walks)
All-begun_without P p at [] all = All-nil (λ (w : List ℕ). All P w)
All-begun_without P p at (w ∷ ws) all =
    let Q : List ℕ → Type 0 = λ w. All P w in
    All-cons Q (begun at (without p w)) (begun_without p at ws) (All-begun P p at w (All-head Q w ws all)) (All-begun_without P p at ws (All-tail Q w ws all))

pub loops_places : (P : ℕ → Type 0) (p : ℕ → Bool) (at : Plane) (walks : List (List ℕ)) → All (λ w. All P w) walks → All (λ w. All P w) (loops_without p at walks)
loops_places P p at walks all =
    let made = begun_without p at walks in
    All-permutation (λ (w : List ℕ). All P w) made (loops_without p at walks) (ordered-permutation comes_before before_order made) (All-begun_without P p at walks all)

-- the keys of regions
pub keys_low : (count : ℕ) (rs : List Region) → All (λ r. r.first < count) rs → All (λ k. k < 2 * count) (first_keys rs)
keys_low count [] all = All-nil (λ (k : ℕ). k < 2 * count)
keys_low count (r ∷ rs) all =
    let P : Region → Type 0 = λ r. r.first < count in
    let low : r.first < count = All-head P r rs all in
    let here : first_key r < 2 * count = cond_both r.kept 1 0 (λ n. 2 * r.first + n < 2 * count) (λ y. omega (arith, low)) (λ n. omega (arith, low)) in
    All-cons (λ (k : ℕ). k < 2 * count) (first_key r) (first_keys rs) here (keys_low count rs (All-tail P r rs all))

-- the regions of a bucket are regions
places_low : (keys : List ℕ) (k : ℕ) → All (λ i. i < length keys) (places_of keys k)
places_low keys k =
    All-kept (λ i. i < length keys) (λ i. get_or keys i 0 == k) (upto (length keys))
    (λ i d low. omega (arith, get_or-up_from 0 (length keys) i d (omega (arith, low, length-up_from 0 (length keys))), low, length-up_from 0 (length keys)))

pub bucket_is : (keys : List ℕ) (n k : ℕ) (turns : List (List ℕ)) → turns ≡ map (places_of keys) (upto n) → k < n → get_or turns k [] ≡ places_of keys k
bucket_is keys n k turns e low = ap (λ t. get_or t k []) e ∙ get_or-map-upto (places_of keys) n k [] low

pub bucket_inside : (rs : List Region) (n k : ℕ) (turns : List (List ℕ)) → turns ≡ map (places_of (first_keys rs)) (upto n) → k < n →
    All (λ i. i < length rs) (get_or turns k [])
bucket_inside rs n k turns e low =
    let keys = first_keys rs in
    subst (λ m. All (λ i. i < m) (get_or turns k [])) (length-map rs first_key)
    (subst (All (λ i. i < length keys)) (sym (bucket_is keys n k turns e low)) (places_low keys k))

pub bucket_low : (keys : List ℕ) (n k : ℕ) (turns : List (List ℕ)) → turns ≡ map (places_of keys) (upto n) → k < n → k < length turns
bucket_low keys n k turns e low = omega (arith, low, ap length e, length-map-upto (places_of keys) n)

-- one member more
pub more_taken : {X Y : Type 0} (f : X → Y) (xs : List X) (i : ℕ) (d : X) → i < length xs → map f (take (i + 1) xs) ≡ map f (take i xs) ++ f (get_or xs i d) ∷ []
more_taken f xs i d low = ap (map f) (take_more xs i d low) ∙ map_push f (take i xs) (get_or xs i d)

pub more_upto : {Y : Type 0} (f : ℕ → List Y) (n : ℕ) → flat_map f (upto (n + 1)) ≡ flat_map f (upto n) ++ f n
more_upto f n = ap (flat_map f) (upto_more n) ∙ flat_map-append f (upto n) (n ∷ []) ∙ ap (λ l. flat_map f (upto n) ++ l) (append-nil (f n))

-- a forced triangle of one piece is one of all
forced_cons : (p : Piece) (ps : List Piece) → forced_of (p ∷ ps) ≡ p.forced + forced_of ps
forced_cons p ps = sum_by-append (λ (q : Piece). q.forced) (p ∷ []) ps ∙ ap (λ k. k + forced_of ps) (zero-add p.forced)

pub forced_at : (f : ℕ → Piece) (xs : List ℕ) (i d : ℕ) → i < length xs → 0 < (f (get_or xs i d)).forced → 0 < forced_of (map f xs)
forced_at f [] i d low some = absurd (omega (arith, low))
forced_at f (x ∷ xs) zero d low some = omega (arith, some, forced_cons (f x) (map f xs))
forced_at f (x ∷ xs) (suc i) d low some = omega (arith, forced_at f xs i d (omega (arith, low)) some, forced_cons (f x) (map f xs))

pub forced_in : (f : ℕ → List Piece) (xs : List ℕ) (i d : ℕ) → i < length xs → 0 < forced_of (f (get_or xs i d)) → 0 < forced_of (flat_map f xs)
forced_in f [] i d low some = absurd (omega (arith, low))
forced_in f (x ∷ xs) zero d low some = omega (arith, some, sum_by-append (λ (p : Piece). p.forced) (f x) (flat_map f xs))
forced_in f (x ∷ xs) (suc i) d low some =
    omega (arith, forced_in f xs i d (omega (arith, low)) some, sum_by-append (λ (p : Piece). p.forced) (f x) (flat_map f xs))
