-- The tidied mesh has no more points and triangles than the given one, and a label for each triangle where that has.
use Rattle.std.proofs.Common.{◌≡◌, ◌≤◌, ℕ, zero, suc, ◌*◌, Bool, true, false, ℤ, List, [], ◌∷◌, ◌++◌, length, map, filter, refl, sym, ap, subst, ◌∙◌, arith}
use Rattle.std.specs.Prelude.{cond, nat_lt}
use Rattle.std.specs.List.{All}
use Rattle.std.proofs.lemmas.Bool.{cond_both}
use Rattle.std.proofs.lemmas.List.{length-map}
use Rattle.std.proofs.lemmas.List.Elements.{All-cons, All-head, All-nil, All-tail}
use Rattle.chain_terms.specs.Chains.{all_edges}
use Rattle.chain_terms.specs.Ranks.{start, finish}
use Rattle.chain_laws.specs.Triples.{renamed_triple}
use Rattle.mesh_check.specs.Reduced.{picked}
use Rattle.mesh_terms.specs.Labels.{AreLabels, IsLabel}
use Rattle.mesh_terms.specs.Meshes.{IsAccepted, Mesh, Triple, new_number}
use Rattle.tidy_terms.specs.Collapse.{collapsed, collapsed_at, labels_left, labels_left_at, merged, stays}
use Rattle.tidy_terms.specs.Collapsible.{least_collapsible}
use Rattle.tidy_terms.specs.Tidy.{Tidied, one_more, tidied, tidied_within, tidy_mesh}
use Rattle.tidy_laws.proofs.TidyMeshes.{told, us}
use Rattle.unused_points.proofs.KeptMesh.{few_kept}

-- what holds of all holds of the picked ones
all_picked : {X : Type 0} (P : X → Type 0) (ms : List Bool) (xs : List X) → All P xs → All P (picked ms xs)
all_picked P [] xs all = All-nil P
all_picked P (m ∷ ms) [] all = All-nil P
all_picked P (true ∷ ms) (x ∷ xs) all = All-cons P x (picked ms xs) (All-head P x xs all) (all_picked P ms xs (All-tail P x xs all))
all_picked P (false ∷ ms) (x ∷ xs) all = all_picked P ms xs (All-tail P x xs all)

-- as many are picked beside those that pass a test as pass it
as_many : {X Y : Type 0} (p : X → Bool) (xs : List X) (ys : List Y) → length ys ≡ length xs → length (picked (map p xs) ys) ≡ length (filter p xs)
as_many p [] ys same = refl
as_many p (x ∷ xs) [] same = absurd (omega (arith, same))
as_many p (x ∷ xs) (y ∷ ys) same = by (p x) (as_many p xs ys (omega (arith, same)))
  where
    by : (b : Bool) → length (picked (map p xs) ys) ≡ length (filter p xs) → length (cond b (y ∷ []) [] ++ picked (map p xs) ys) ≡ length (cond b (x ∷ filter p xs) (filter p xs))
    by true rest = ap suc rest
    by false rest = rest

-- each triangle that stays keeps its label
labels_stay : (a b : ℕ) (ts : List Triple) (labels : List (List ℕ)) → AreLabels (length ts) labels → AreLabels (length (collapsed a b ts)) (labels_left a b ts labels)
labels_stay a b ts labels are = record {
  one_each = as_many (stays a b) ts labels are.one_each ∙ sym (length-map (filter (stays a b) ts) (renamed_triple (merged a b)));
  each = all_picked IsLabel (map (stays a b) ts) labels are.each;
}

-- whatever is collapsed
labels_within : (points : List (List ℤ)) (n : ℕ) (ts : List Triple) (labels : List (List ℕ)) → AreLabels (length ts) labels →
    AreLabels (length (tidied_within n points ts labels).triples) (tidied_within n points ts labels).labels
labels_within points zero ts labels are = are
labels_within points (suc n) ts labels are =
    let h = least_collapsible points ts in
    let left = labels_left_at ts h labels in
    cond_both (nat_lt h (3 * length ts)) (one_more (tidied_within n points (collapsed_at ts h) left)) (record { triples = ts; labels = labels; collapses = 0 })
    (λ (t : Tidied). AreLabels (length t.triples) t.labels)
    (λ there. labels_within points n (collapsed_at ts h) left (labels_stay (start (all_edges ts) h) (finish (all_edges ts) h) ts labels are))
    (λ past. are)

-- so each triangle of the tidied mesh has a label
pub tidied_labels : (m : Mesh) → AreLabels (length m.triples) m.labels → AreLabels (length (tidy_mesh m).triples) (tidy_mesh m).labels
tidied_labels m are =
    let t = tidied m.points m.triples m.labels in
    subst (λ n. AreLabels n t.labels) (sym (length-map t.triples (renamed_triple (new_number t.triples)))) (labels_within m.points (length m.triples) m.triples m.labels are)

-- of an accepted mesh
module _ (m : Mesh) (each : All (λ p. length p ≡ 3) m.points) (accepted : IsAccepted (length m.points) m.triples) where
  pub no_more_points : length (tidy_mesh m).points ≤ length m.points
  no_more_points = few_kept (us m each accepted) 0 m.points

  pub no_more_triples : length (tidy_mesh m).triples ≤ length m.triples
  no_more_triples =
      let ts = us m each accepted in
      omega (arith, (told m each accepted).few, length-map ts (renamed_triple (new_number ts)))
