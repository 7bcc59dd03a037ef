-- Labels of triangles that are kept, and of triangles that have those of others: labels, one for each.
use Rattle.std.proofs.Common.{◌≡◌, inl, inr, ℕ, true, false, Bool, List, [], ◌∷◌, length, map, sym, ◌∙◌, ap, subst, arith}
use Rattle.std.specs.List.{All}
use Rattle.std.proofs.Math.ListN.{get_or-eq_default}
use Rattle.std.proofs.lemmas.Bool.{cases_lt}
use Rattle.std.proofs.lemmas.List.{length-map}
use Rattle.std.proofs.lemmas.List.Elements.{All-cons, All-head, All-map, All-nil, All-tail}
use Rattle.mesh_check.specs.Reduced.{kept_marks, kept_triples, picked}
use Rattle.mesh_check.proofs.KeptMarks.{kept_by_marks}
use Rattle.mesh_terms.specs.Labels.{AreLabels, IsLabel, label_at}
use Rattle.mesh_terms.specs.Meshes.{Triple}
use Rattle.mesh_terms.proofs.Labels.{IsLabel-empty}

-- what holds of all holds of the picked ones
All-picked : {X : Type 0} (P : X → Type 0) (ms : List Bool) (xs : List X) → All P xs → All P (picked ms xs)
All-picked P [] xs all = All-nil P
All-picked P (m ∷ ms) [] all = All-nil P
All-picked P (true ∷ ms) (x ∷ xs) all = All-cons P x (picked ms xs) (All-head P x xs all) (All-picked P ms xs (All-tail P x xs all))
All-picked P (false ∷ ms) (x ∷ xs) all = All-picked P ms xs (All-tail P x xs all)

-- of two lists with as many members as many are picked
picked-as_many : {X Y : Type 0} (ms : List Bool) (xs : List X) (ys : List Y) → length xs ≡ length ys → length (picked ms xs) ≡ length (picked ms ys)
picked-as_many [] xs ys same = omega arith
picked-as_many (m ∷ ms) [] [] same = omega arith
picked-as_many (m ∷ ms) [] (y ∷ ys) same = absurd (omega (arith, same))
picked-as_many (m ∷ ms) (x ∷ xs) [] same = absurd (omega (arith, same))
picked-as_many (true ∷ ms) (x ∷ xs) (y ∷ ys) same = omega (arith, picked-as_many ms xs ys (omega (arith, same)))
picked-as_many (false ∷ ms) (x ∷ xs) (y ∷ ys) same = picked-as_many ms xs ys (omega (arith, same))

-- the labels of the kept triples
pub kept_labels : (ts : List Triple) (labels : List (List ℕ)) → AreLabels (length ts) labels → AreLabels (length (kept_triples ts)) (picked (kept_marks ts) labels)
kept_labels ts labels are = record {
  one_each = picked-as_many (kept_marks ts) labels ts are.one_each ∙ sym (ap length (kept_by_marks ts));
  each = All-picked IsLabel (kept_marks ts) labels are.each;
}

-- any of a list of labels is one
label_of : (labels : List (List ℕ)) → All IsLabel labels → (x : ℕ) → IsLabel (label_at labels x)
label_of labels all x = elim (cases_lt x (length labels)) as (λ _. IsLabel (label_at labels x)) [
  | inl low ↦ all x [] low
  | inr high ↦ subst IsLabel (sym (get_or-eq_default labels [] high)) IsLabel-empty
]

-- so the labels of sources are
pub of_sources : (labels : List (List ℕ)) → All IsLabel labels → (source : List ℕ) (count : ℕ) → length source ≡ count →
    AreLabels count (map (label_at labels) source)
of_sources labels all source count same = record {
  one_each = length-map source (label_at labels) ∙ same;
  each = All-map IsLabel (label_at labels) source (λ k d low. label_of labels all _);
}
