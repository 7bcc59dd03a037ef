-- The triangles at the places of a source face are those of the face.
use Rattle.std.proofs.Common.{◌≡◌, ◌<◌, ℕ, zero, suc, Bool, true, false, cond, ◌==◌, List, [], ◌∷◌, map, filter, length, get_or, inl, inr, refl, sym, ap, ◌∙◌, subst, arith}
use Rattle.std.specs.List.{All, zip}
use Rattle.std.proofs.lemmas.Bool.{cases_Bool}
use Rattle.std.proofs.lemmas.List.Elements.{All-filter, All-from_get_or, All-map}
use Rattle.chain_terms.specs.Sums.{up_from, upto}
use Rattle.chain_laws.proofs.Places.{get_or-up_from, length-up_from}
use Rattle.places_by_key.specs.Buckets.{places_of}
use Rattle.mesh_terms.specs.Meshes.{Triple}
use Rattle.mesh_boolean.specs.Picked.{triples_of_face}
use Rattle.mesh_boolean.specs.BoundedFaces.{chosen}

-- numbers from k + 1 on are one more than those from k on
one_more : (k n : ℕ) → up_from (suc k) n ≡ map suc (up_from k n)
one_more k zero = refl
one_more k (suc n) = ap (λ l. suc k ∷ l) (one_more (suc k) n)

-- what passes among numbers, each one more
passing_more : (p : ℕ → Bool) (xs : List ℕ) → filter p (map suc xs) ≡ map suc (filter (λ i. p (suc i)) xs)
passing_more p [] = refl
passing_more p (x ∷ xs) = elim (cases_Bool (p (suc x))) as (λ _. filter p (map suc (x ∷ xs)) ≡ map suc (filter (λ i. p (suc i)) (x ∷ xs))) [
  | inl y ↦ rw y (ap (λ l. suc x ∷ l) (passing_more p xs))
  | inr n ↦ rw n (passing_more p xs)
]

-- the places of a key behind the first one
places_rest : (s : ℕ) (ss : List ℕ) (x : ℕ) → filter (λ i. get_or (s ∷ ss) i 0 == x) (up_from 1 (length ss)) ≡ map suc (places_of ss x)
places_rest s ss x = ap (filter (λ i. get_or (s ∷ ss) i 0 == x)) (one_more 0 (length ss)) ∙ passing_more (λ i. get_or (s ∷ ss) i 0 == x) (upto (length ss))

-- the triangles there
chosen_rest : (u : Triple) (us : List Triple) (places : List ℕ) → chosen (u ∷ us) (map suc places) ≡ chosen us places
chosen_rest u us [] = refl
chosen_rest u us (p ∷ ps) = ap (λ l. get_or us p (0, 0, 0) ∷ l) (chosen_rest u us ps)

pub chosen_of_face : (x : ℕ) (source : List ℕ) (us : List Triple) → length source ≡ length us → chosen us (places_of source x) ≡ triples_of_face x source us
chosen_of_face x [] us long = refl
chosen_of_face x (s ∷ ss) [] long = absurd (omega (arith, long))
chosen_of_face x (s ∷ ss) (u ∷ us) long =
    let all : List ℕ = filter (λ i. get_or (s ∷ ss) i 0 == x) (up_from 1 (length ss)) in
    let rest : chosen (u ∷ us) all ≡ triples_of_face x ss us =
    ap (chosen (u ∷ us)) (places_rest s ss x) ∙ chosen_rest u us (places_of ss x) ∙ chosen_of_face x ss us (omega (arith, long)) in
    by (s == x) all rest
  where
    by : (b : Bool) (all : List ℕ) → chosen (u ∷ us) all ≡ triples_of_face x ss us →
        chosen (u ∷ us) (cond b (0 ∷ all) all) ≡ map (λ m. m.1) (cond b ((s, u) ∷ filter (λ m. m.0 == x) (zip ss us)) (filter (λ m. m.0 == x) (zip ss us)))
    by true all rest = ap (λ l. u ∷ l) rest
    by false all rest = rest

-- the places with a key are places of the list
places_within : (keys : List ℕ) (k : ℕ) → All (λ t. t < length keys) (places_of keys k)
places_within keys k =
    let n = length keys in
    All-filter (λ i. get_or keys i 0 == k) (λ t. t < n) (upto n)
    (All-from_get_or (λ t. t < n) (upto n) 0
    (λ i low. omega (arith, low, length-up_from 0 n, get_or-up_from 0 n i 0 (omega (arith, low, length-up_from 0 n)))))

-- so are those of all faces
pub gathered_within : (source : List ℕ) (n m : ℕ) (places : List (List ℕ)) → places ≡ map (places_of source) (upto n) → length source ≡ m → All (All (λ t. t < m)) places
gathered_within source n m places gathered long =
    subst (λ (l : List (List ℕ)). All (All (λ t. t < m)) l) (sym gathered)
    (All-map (All (λ t. t < m)) (places_of source) (upto n)
    (λ i d low. subst (λ (z : ℕ). All (λ t. t < z) (places_of source (get_or (upto n) i d))) long (places_within source (get_or (upto n) i d))))
