-- The labels of the triples with a mark, and of a mesh of them.
use Rattle.std.proofs.Common.{◌≡◌, ◌≤◌, ◌-◌, ℕ, suc, Bool, true, false, List, [], ◌∷◌, ◌++◌, length, replicate, refl, sym, ap, ◌∙◌, arith}
use Rattle.std.proofs.lemmas.List.{length-map}
use Rattle.chain_laws.specs.Triples.{renamed_triple}
use Rattle.mesh_terms.specs.Labels.{labels_for, no_labels}
use Rattle.mesh_terms.specs.Meshes.{Triple, new_number, renumbered}
use Rattle.mesh_check.specs.Reduced.{picked}

-- of the same all through as many are picked as of others
pub picked-replicate : {X Y : Type 0} (ms : List Bool) (xs : List X) (y : Y) → length ms ≡ length xs
    → picked ms (replicate (length xs) y) ≡ replicate (length (picked ms xs)) y
picked-replicate [] [] y same = refl
picked-replicate [] (x ∷ xs) y same = absurd (omega (arith, same))
picked-replicate (m ∷ ms) [] y same = absurd (omega (arith, same))
picked-replicate (true ∷ ms) (x ∷ xs) y same = ap (λ l. y ∷ l) (picked-replicate ms xs y (omega (arith, same)))
picked-replicate (false ∷ ms) (x ∷ xs) y same = picked-replicate ms xs y (omega (arith, same))

-- of a shorter list no more are picked
pub picked-few : {X Y : Type 0} (ms : List Bool) (xs : List X) (ys : List Y) → length ms ≡ length xs → length ys ≤ length xs
    → length (picked ms ys) ≤ length (picked ms xs)
picked-few [] xs ys same few = omega arith
picked-few (m ∷ ms) [] ys same few = absurd (omega (arith, same))
picked-few (m ∷ ms) (x ∷ xs) [] same few = omega arith
picked-few (true ∷ ms) (x ∷ xs) (y ∷ ys) same few = omega (arith, picked-few ms xs ys (omega (arith, same)) (omega (arith, few)))
picked-few (false ∷ ms) (x ∷ xs) (y ∷ ys) same few = picked-few ms xs ys (omega (arith, same)) (omega (arith, few))

-- no list stands for empty ones
for_none : (ts : List Triple) → labels_for ts [] ≡ no_labels ts
for_none ts = let all : length ts - 0 ≡ length ts = omega arith in ap (λ (n : ℕ). replicate {A = List ℕ} n []) all

one_less : (a b : ℕ) → suc a - suc b ≡ a - b
one_less a b = omega arith

-- the same where a list goes on with empty ones
picked-for : (ms : List Bool) (ts : List Triple) (labels : List (List ℕ)) → length ms ≡ length ts → length labels ≤ length ts
    → picked ms (labels_for ts labels) ≡ labels_for (picked ms ts) (picked ms labels)
picked-for [] [] [] same few = refl
picked-for [] [] (l ∷ ls) same few = absurd (omega (arith, few))
picked-for [] (t ∷ ts) labels same few = absurd (omega (arith, same))
picked-for (m ∷ ms) [] labels same few = absurd (omega (arith, same))
picked-for (m ∷ ms) (t ∷ ts) [] same few =
    ap (picked (m ∷ ms)) (for_none (t ∷ ts)) ∙ picked-replicate (m ∷ ms) (t ∷ ts) [] same ∙ sym (for_none (picked (m ∷ ms) (t ∷ ts)))
picked-for (true ∷ ms) (t ∷ ts) (l ∷ ls) same few =
    ap (λ (n : ℕ). l ∷ picked ms (ls ++ replicate n [])) (one_less (length ts) (length ls))
    ∙ ap (λ (r : List (List ℕ)). l ∷ r) (picked-for ms ts ls (omega (arith, same)) (omega (arith, few)))
    ∙ ap (λ (n : ℕ). l ∷ (picked ms ls ++ replicate n [])) (sym (one_less (length (picked ms ts)) (length (picked ms ls))))
picked-for (false ∷ ms) (t ∷ ts) (l ∷ ls) same few =
    ap (λ (n : ℕ). picked ms (ls ++ replicate n [])) (one_less (length ts) (length ls)) ∙ picked-for ms ts ls (omega (arith, same)) (omega (arith, few))

-- as many triples have as many empty labels
same_for : (ts us : List Triple) (labels : List (List ℕ)) → length ts ≡ length us → labels_for ts labels ≡ labels_for us labels
same_for ts us labels same = ap (λ (n : ℕ). labels ++ replicate (n - length labels) []) same

-- of lists of one length as many are picked
pub picked_count : {X Y : Type 0} (ms : List Bool) (xs : List X) (ys : List Y) → length ms ≡ length xs → length ys ≡ length xs
    → length (picked ms ys) ≡ length (picked ms xs)
picked_count ms xs ys marks same =
    omega (arith, picked-few ms xs ys marks (omega (arith, same)), picked-few ms ys xs (omega (arith, marks, same)) (omega (arith, same)))

-- where there are none
pub marked_none : (ms : List Bool) (ts : List Triple) → length ms ≡ length ts → no_labels (picked ms ts) ≡ picked ms (no_labels ts)
marked_none ms ts marks = sym (picked-replicate ms ts [] marks)

-- and where there is a list
pub marked_some : (ms : List Bool) (ts us : List Triple) (labels : List (List ℕ)) → length ms ≡ length ts → length us ≡ length (picked ms ts) → length labels ≤ length ts
    → labels_for us (picked ms labels) ≡ picked ms (labels_for ts labels)
marked_some ms ts us labels marks count few = same_for us (picked ms ts) (picked ms labels) count ∙ sym (picked-for ms ts labels marks few)

-- no more of them
pub marked_few : (ms : List Bool) (ts us : List Triple) (labels : List (List ℕ)) → length ms ≡ length ts → length us ≡ length (picked ms ts) → length labels ≤ length ts
    → length (picked ms labels) ≤ length us
marked_few ms ts us labels marks count few = omega (arith, picked-few ms ts labels marks few, count)

-- a mesh made of the triangles with a mark in one list has as many as another list of that length has, and as many empty labels
pub made_count : (ms : List Bool) (ts us made : List Triple) → length ms ≡ length ts → length us ≡ length ts → made ≡ renumbered (picked ms us)
    → length made ≡ length (picked ms ts)
made_count ms ts us made marks same is = ap length is ∙ length-map (picked ms us) (renamed_triple (new_number (picked ms us))) ∙ picked_count ms ts us marks same

pub made_empty : (ms : List Bool) (ts us : List Triple) (labels : List (List ℕ)) → length ms ≡ length ts → length us ≡ length ts → labels ≡ no_labels (picked ms us)
    → labels ≡ no_labels (picked ms ts)
made_empty ms ts us labels marks same is = is ∙ ap (λ (n : ℕ). replicate {A = List ℕ} n []) (picked_count ms ts us marks same)
