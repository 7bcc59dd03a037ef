-- Points and triangles without the unused points are a mesh.
use Rattle.std.proofs.Common.{◌≡◌, ◌<◌, ◌≤◌, ℕ, suc, Bool, true, false, List, [], ◌∷◌, ◌++◌, length, get_or, map, refl, sym, subst, ◌∙◌, ap, arith}
use Rattle.std.specs.Prelude.{◌||◌}
use Rattle.std.proofs.lemmas.Bool.{cond_both}
use Rattle.std.proofs.lemmas.Bool.Decides.{nat_tests}
use Rattle.std.proofs.lemmas.List.{length-map}
use Rattle.std.proofs.lemmas.List.Elements.{All-map}
use Rattle.mesh_terms.specs.Meshes.{Triple, HasThree, IsBelow, IsMesh, has, is_used, used_from, new_number, renumbered}
use Rattle.unused_points.specs.Used.{IsSound}
use Rattle.unused_points.proofs.Numbers.{length-used_from, number_below, number_known, number_of, AreUsed, all_used}

-- with the new numbers of its points
abbrev pub numbered : List Triple → Triple → Triple
numbered ts t = (new_number ts t.0, new_number ts t.1, new_number ts t.2)

-- as many points stay as stand before the end
pub length-kept : {X : Type 0} (ts : List Triple) (points : List X) → length (used_from ts 0 points) ≡ new_number ts (length points)
length-kept ts points = length-used_from ts 0 points

-- not more than there are
pub few_kept : {X : Type 0} (ts : List Triple) (v : ℕ) (points : List X) → length (used_from ts v points) ≤ length points
few_kept ts v [] = omega arith
few_kept ts v (p ∷ ps) =
    cond_both (is_used ts v) (p ∷ []) [] (λ l. length (l ++ used_from ts (suc v) ps) ≤ suc (length ps)) (λ _. omega (arith, few_kept ts (suc v) ps))
    (λ _. omega (arith, few_kept ts (suc v) ps))

-- three different points have three different numbers
numbered_three : (ts : List Triple) (t : Triple) → AreUsed ts t → HasThree t → HasThree (numbered ts t)
numbered_three ts t used three = record {
  ab = λ e. three.ab (number_known ts t.0 t.1 used.a used.b e);
  bc = λ e. three.bc (number_known ts t.1 t.2 used.b used.c e);
  ca = λ e. three.ca (number_known ts t.2 t.0 used.c used.a e);
}

-- the numbers are those of points that stay
numbered_below : (ts : List Triple) (n : ℕ) (t : Triple) → AreUsed ts t → IsBelow n t → IsBelow (new_number ts n) (numbered ts t)
numbered_below ts n t used below = record {
  a = number_below ts t.0 n below.a used.a;
  b = number_below ts t.1 n below.b used.b;
  c = number_below ts t.2 n below.c used.c;
}

-- a triple that has the point has its number
has_number : (f : ℕ → ℕ) (t : Triple) (v : ℕ) → has t v ≡ true → has (f t.0, f t.1, f t.2) (f v) ≡ true
has_number f t v it_has = grind (arith, nat_tests, it_has)

-- so a used point's number is used
number_used : (ts us : List Triple) (v : ℕ) → is_used us v ≡ true → is_used (map (numbered ts) us) (new_number ts v) ≡ true
number_used ts [] v used = used
number_used ts (t ∷ us) v used = by (has t v) refl used (number_used ts us v)
  where
    or_first : (x y : Bool) → x ≡ true → (x || y) ≡ true
    or_first x y h = grind (arith, h)

    or_second : (x y : Bool) → y ≡ true → (x || y) ≡ true
    or_second x y h = grind (arith, h)

    by : (b : Bool) → has t v ≡ b → (b || is_used us v) ≡ true → (is_used us v ≡ true → is_used (map (numbered ts) us) (new_number ts v) ≡ true) →
        (has (numbered ts t) (new_number ts v) || is_used (map (numbered ts) us) (new_number ts v)) ≡ true
    by true here used later = or_first (has (numbered ts t) (new_number ts v)) (is_used (map (numbered ts) us) (new_number ts v)) (has_number (new_number ts) t v here)
    by false other used later = or_second (has (numbered ts t) (new_number ts v)) (is_used (map (numbered ts) us) (new_number ts v)) (later used)

-- and the others are used too
all_numbers_used : {X : Type 0} (ts : List Triple) (points : List X) (v : ℕ) → v < length (used_from ts 0 points) → is_used (renumbered ts) v ≡ true
all_numbers_used ts points v low =
    let r = number_of ts (length points) v (omega (arith, low, length-kept ts points)) in
    ap (is_used (renumbered ts)) (sym r.numbered) ∙ number_used ts ts r.point r.used

-- what stays is a mesh
pub kept_mesh : {X : Type 0} (ts : List Triple) (points : List X) → IsSound (length points) ts → IsMesh (length (used_from ts 0 points)) (renumbered ts)
kept_mesh ts points sound = record {
  three = All-map HasThree (numbered ts) ts (λ k d low. numbered_three ts _ (all_used ts k d low) (sound.three k d low));
  below = All-map (IsBelow (length (used_from ts 0 points))) (numbered ts) ts
      (λ k d low. subst (λ n. IsBelow n (numbered ts (get_or ts k d))) (sym (length-kept ts points))
      (numbered_below ts (length points) (get_or ts k d) (all_used ts k d low) (sound.below k d low)));
  used = all_numbers_used ts points;
  few_points = omega (arith, few_kept ts 0 points, sound.few_points);
  few_triples = omega (arith, length-map ts (numbered ts), sound.few_triples);
}
