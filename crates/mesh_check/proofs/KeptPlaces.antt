-- The places of the triples that stay.
use Rattle.std.proofs.Common.{◌≡◌, ◌<◌, ◌+◌, ℕ, zero, suc, ℤ, Bool, true, List, [], ◌∷◌, length, get_or, replicate, refl, sym, ◌∙◌, ap, arith}
use Rattle.std.proofs.lemmas.List.{get_or-map, get_or_default, length-map, same_lists}
use Rattle.chain_terms.specs.Sums.{upto}
use Rattle.chain_laws.proofs.Places.{get_or-up_from, length-up_from}
use Rattle.chain_laws.specs.Triples.{renamed_triple}
use Rattle.mesh_terms.specs.Meshes.{Triple, new_number, renumbered}
use Rattle.mesh_check.specs.Reduced.{kept_marks, kept_places, kept_triples, members_at, picked, reduced}
use Rattle.mesh_check.proofs.KeptMarks.{kept_by_marks, map-picked, picked_others}

-- the members at all places are the list
at_all : {X : Type 0} (d : X) (xs : List X) → members_at d xs (upto (length xs)) ≡ xs
at_all {X} d xs = same_lists (members_at d xs (upto (length xs))) xs long (λ k e low. by k e low)
  where
    long : length (members_at d xs (upto (length xs))) ≡ length xs
    long = length-map (upto (length xs)) (λ p. get_or xs p d) ∙ length-up_from 0 (length xs)

    by : (k : ℕ) (e : X) → k < length (members_at d xs (upto (length xs))) → get_or (members_at d xs (upto (length xs))) k e ≡ get_or xs k e
    by k e low =
        let below : k < length xs = omega (arith, low, long) in
        let first : 0 + k ≡ k = omega arith in
        get_or-map (λ p. get_or xs p d) (upto (length xs)) k k e (omega (arith, below, length-up_from 0 (length xs)))
        ∙ ap (λ p. get_or xs p d) (get_or-up_from 0 (length xs) k k below ∙ first) ∙ get_or_default xs k d e below

-- those at the places with a mark are those with a mark
at_marks : {X : Type 0} (ms : List Bool) (d : X) (xs : List X) (n : ℕ) → length xs ≡ n → members_at d xs (picked ms (upto n)) ≡ picked ms xs
at_marks ms d xs n same =
    map-picked (λ p. get_or xs p d) ms (upto n) ∙ ap (λ k. picked ms (members_at d xs (upto k))) (sym same) ∙ ap (picked ms) (at_all d xs)

-- the triples of the reduced mesh are those at the places of the kept ones
pub triples_there : (points : List (List ℤ)) (ts : List Triple) (labels : List (List ℕ))
    → (reduced points ts labels).triples ≡ renumbered (members_at (0, 0, 0) ts (kept_places ts))
triples_there points ts labels = ap renumbered (kept_by_marks ts ∙ sym (at_marks (kept_marks ts) (0, 0, 0) ts (length ts) refl))

-- and its labels those that they have there
pub labels_there : (points : List (List ℤ)) (ts : List Triple) (labels : List (List ℕ)) → length labels ≡ length ts
    → (reduced points ts labels).labels ≡ members_at [] labels (kept_places ts)
labels_there points ts labels same = sym (at_marks (kept_marks ts) [] labels (length ts) same)

-- where nothing is removed they are all
pub all_there : (points : List (List ℤ)) (ts : List Triple) (labels : List (List ℕ)) → ts ≡ (reduced points ts labels).triples → kept_places ts ≡ upto (length ts)
all_there points ts labels same =
    let count : length (picked (kept_marks ts) ts) ≡ length ts =
    sym (ap length (kept_by_marks ts)) ∙ sym (length-map (kept_triples ts) (renamed_triple (new_number (kept_triples ts)))) ∙ sym (ap length same) in
    picked_others (kept_marks ts) ts (upto (length ts)) (length-up_from 0 (length ts)) count

-- with a mark for each member all are picked
pub picked_whole : {X : Type 0} (n : ℕ) (xs : List X) → length xs ≡ n → picked (replicate n true) xs ≡ xs
picked_whole zero [] same = refl
picked_whole zero (x ∷ xs) same = absurd (omega (arith, same))
picked_whole (suc n) [] same = absurd (omega (arith, same))
picked_whole (suc n) (x ∷ xs) same = ap (λ l. x ∷ l) (picked_whole n xs (omega (arith, same)))
