-- A soup whose every point is used drops nothing.
use Rattle.std.proofs.Common.{◌≡◌, ℕ, zero, suc, ◌+◌, ◌-◌, ◌<◌, ◌≤◌, ℤ, Bool, true, List, [], ◌∷◌, length, map, filter, refl, ap, arith, add-zero, zero-add}
use Rattle.std.specs.List.{All}
use Rattle.chain_terms.specs.Sums.{up_from}
use Rattle.mesh_terms.specs.Meshes.{Triple, IsBelow, is_used, used_from, new_number, renumbered, soup_of}

-- one place on
next : (v k : ℕ) → suc v + k ≡ v + suc k
next v k = omega arith

-- where each point is used none is dropped
pub used_from-all : {X : Type 0} (ts : List Triple) (v : ℕ) (ps : List X) → ((k : ℕ) → k < length ps → is_used ts (v + k) ≡ true) → used_from ts v ps ≡ ps
used_from-all ts v [] used = refl
used_from-all ts v (p ∷ ps) used =
    rw (rw add-zero at (used 0 (omega arith))) (ap (λ (qs : List _). p ∷ qs) (used_from-all ts (suc v) ps (λ k h. rw (next v k) (used (suc k) (omega arith)))))

-- and the numbers stay
count-all : (p : ℕ → Bool) (k n : ℕ) → ((v : ℕ) → k ≤ v → v < k + n → p v ≡ true) → length (filter p (up_from k n)) ≡ n
count-all p k zero all = refl
count-all p k (suc n) all =
    rw (all k (omega arith) (omega arith)) (ap (λ (m : ℕ). suc m) (count-all p (suc k) n (λ v low high. all v (omega arith) (omega arith))))

-- a map that keeps each element keeps the list
map-same : {X : Type 0} (f : X → X) (P : X → Type 0) (xs : List X) → ((x : X) → P x → f x ≡ x) → All P xs → map f xs ≡ xs
map-same f P [] same all = refl
map-same {X} f P (x ∷ xs) same all =
    rw (same x (all 0 x (omega arith))) (ap (λ (ys : List X). x ∷ ys) (map-same f P xs same (λ k d h. all (suc k) d (omega arith))))

-- points and triples stay as they are, and no point is dropped
pub soup_of-all : (points : List (List ℤ)) (ts : List Triple) (labels : List (List ℕ)) → All (IsBelow (length points)) ts → ((v : ℕ) → v < length points → is_used ts v ≡ true) →
    soup_of points ts labels ≡ record { points = points; triples = ts; labels = labels; unused = 0 }
soup_of-all points ts labels below used =
    let kept : used_from ts 0 points ≡ points = used_from-all ts 0 points (λ k h. rw zero-add (used k h)) in
    let same : renumbered ts ≡ ts = map-same (λ t. (new_number ts t.0, new_number ts t.1, new_number ts t.2)) (IsBelow (length points)) ts stays below in
    let none : length points - length (used_from ts 0 points) ≡ 0 = rw kept (omega arith) in
    λ i. record { points = kept i; triples = same i; labels = labels; unused = none i } where
      number : (v : ℕ) → v < length points → new_number ts v ≡ v
      number v h = count-all (is_used ts) 0 v (λ w low high. used w (omega arith))

      stays : (t : Triple) → IsBelow (length points) t → (new_number ts t.0, new_number ts t.1, new_number ts t.2) ≡ t
      stays t b = let x = number t.0 b.a in let y = number t.1 b.b in let z = number t.2 b.c in λ i. (x i, y i, z i)
