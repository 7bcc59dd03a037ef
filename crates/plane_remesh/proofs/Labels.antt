-- Labels that triangles have from others.
use Rattle.std.proofs.Common.{◌≡◌, ◌<◌, ◌-◌, ◌∷◌, ◌++◌, ◌∙◌, ℕ, zero, suc, List, [], ap, arith, get_or, length, map, refl, replicate, sym}
use Rattle.std.specs.Prelude.{cond}
use Rattle.std.specs.List.{All}
use Rattle.std.proofs.lemmas.Bool.{lt-ltb}
use Rattle.std.proofs.lemmas.List.{append-nil, length-map}
use Rattle.std.proofs.lemmas.List.Elements.{All-head, All-tail}
use Rattle.mb_base.specs.Labels.{label_of_two}
use Rattle.mesh_terms.specs.Labels.{label_at, labels_for, no_labels}
use Rattle.mesh_terms.specs.Meshes.{Mesh, Triple, new_number, renumbered}

-- an empty label stands at each place, and past the end
empty_at : (k t : ℕ) → get_or (replicate {A = List ℕ} k []) t [] ≡ []
empty_at zero t = refl
empty_at (suc k) zero = refl
empty_at (suc k) (suc t) = empty_at k t

padded_at : (labels : List (List ℕ)) (k t : ℕ) → get_or (labels ++ replicate k []) t [] ≡ get_or labels t []
padded_at [] k t = empty_at k t
padded_at (l ∷ labels) k zero = refl
padded_at (l ∷ labels) k (suc t) = padded_at labels k t

-- of a first and an empty list those of the first
pub gathered : (labels : List (List ℕ)) (count : ℕ) (sources : List ℕ) → All (λ t. t < count) sources → map (label_of_two labels [] count) sources ≡ map (label_at labels) sources
gathered labels count [] low = refl
gathered labels count (t ∷ sources) low =
    let here : label_of_two labels [] count t ≡ label_at labels t
    = ap (λ b. cond b (label_at labels t) (label_at [] (t - count))) (lt-ltb t count (All-head (λ u. u < count) t sources low)) in
    let rest = gathered labels count sources (All-tail (λ u. u < count) t sources low) in
    λ i. here i ∷ rest i

-- a list with as many labels as triangles needs no more
whole_list : (us : List Triple) (labels : List (List ℕ)) → length labels ≡ length us → labels_for us labels ≡ labels
whole_list us labels same =
    let none : length us - length labels ≡ 0 = omega (arith, same) in ap (λ (k : ℕ). labels ++ replicate k []) none ∙ append-nil labels

-- the labels of triangles by their sources
pub sourced : (ts us : List Triple) (labels : List (List ℕ)) (sources : List ℕ) → length sources ≡ length us →
    labels_for us (map (label_at labels) sources) ≡ map (label_at (labels_for ts labels)) sources
sourced ts us labels sources same =
    whole_list us (map (label_at labels) sources) (length-map sources (label_at labels) ∙ same)
    ∙ (λ i. map (λ t. sym (padded_at labels (length ts - length labels) t) i) sources)

-- and where there are none
pub sourced_none : (ts us : List Triple) (sources : List ℕ) → length sources ≡ length us → no_labels us ≡ map (label_at (no_labels ts)) sources
sourced_none ts us sources same =
    ap (λ (k : ℕ). replicate {A = List ℕ} k []) (sym same) ∙ all_empty sources ∙ (λ i. map (λ t. sym (empty_at (length ts) t) i) sources)
  where
    all_empty : (xs : List ℕ) → replicate {A = List ℕ} (length xs) [] ≡ map (λ t. []) xs
    all_empty [] = refl
    all_empty (x ∷ xs) = ap (λ (l : List (List ℕ)). [] ∷ l) (all_empty xs)

-- new numbers leave as many triangles
pub renumbered_count : (ts us : List Triple) → us ≡ renumbered ts → length us ≡ length ts
renumbered_count ts us is = ap length is ∙ length-map ts (λ t. (new_number ts t.0, new_number ts t.1, new_number ts t.2))

-- a mesh by its parts
pub mesh_same : (a b : Mesh) → a.points ≡ b.points → a.triples ≡ b.triples → a.labels ≡ b.labels → a ≡ b
mesh_same a b p t l = λ i. record { points = p i; triples = t i; labels = l i }
