-- What makes a mesh, by the arrays of numbers.
use Rattle.std.proofs.Common.{◌≡◌, ◌<◌, ◌≤◌, ℕ, List, [], ◌∷◌, true, ◌||◌, length, map, refl, ap, ◌∙◌, sym, subst, arith}
use Rattle.std.specs.List.{All, list_any}
use Rattle.std.proofs.lemmas.List.{get_or-map, length-map}
use Rattle.std.proofs.lemmas.List.Elements.{All-map}
use Rattle.mesh_terms.specs.Limits.{most_points, most_triangles}
use Rattle.mesh_terms.specs.Meshes.{HasThree, IsBelow, IsMesh, has, triple_of, triples_of}

-- three different point numbers below n
abbrev pub IsSound : ℕ → List ℕ → Type 0
IsSound n t = HasThree (triple_of t) × IsBelow n (triple_of t)

-- what `fits` finds out
pub record Fits (n : ℕ) (ts : List (List ℕ)) : Type 0 where
  pub sound : All (IsSound n) ts
  pub used : (v : ℕ) → v < n → list_any (λ t. has (triple_of t) v) ts ≡ true
  pub few_points : n ≤ most_points
  pub few_triples : length ts ≤ most_triangles

-- a point is used by the triples where it is in some array
list_any-map : (v : ℕ) (ts : List (List ℕ)) → list_any (λ t. has t v) (triples_of ts) ≡ list_any (λ t. has (triple_of t) v) ts
list_any-map v [] = refl
list_any-map v (t ∷ ts) = ap (λ b. has (triple_of t) v || b) (list_any-map v ts)

-- what holds of each image holds of each element by its image
All-unmap : {A B : Type 0} (P : B → Type 0) (f : A → B) (xs : List A) → All P (map f xs) → All (λ x. P (f x)) xs
All-unmap P f xs all k d in_list = subst P (get_or-map f xs k d (f d) in_list) (all k (f d) (omega (arith, length-map xs f)))

-- lists that fit make a mesh
pub mesh_of : (n : ℕ) (ts : List (List ℕ)) → Fits n ts → IsMesh n (triples_of ts)
mesh_of n ts fits = record {
  three = All-map HasThree triple_of ts (λ k d in_list. (fits.sound k d in_list).0);
  below = All-map (IsBelow n) triple_of ts (λ k d in_list. (fits.sound k d in_list).1);
  used = λ v below. list_any-map v ts ∙ fits.used v below;
  few_points = fits.few_points;
  few_triples = omega (arith, length-map ts triple_of);
}

-- the lists of a mesh fit
pub fits_of : (n : ℕ) (ts : List (List ℕ)) → IsMesh n (triples_of ts) → Fits n ts
fits_of n ts mesh = record {
  sound = λ k d in_list. (All-unmap HasThree triple_of ts mesh.three k d in_list, All-unmap (IsBelow n) triple_of ts mesh.below k d in_list);
  used = λ v below. sym (list_any-map v ts) ∙ mesh.used v below;
  few_points = mesh.few_points;
  few_triples = omega (arith, length-map ts triple_of, mesh.few_triples);
}
