-- Marks of the triples that are kept, and the members with a mark.
use Rattle.std.proofs.Common.{◌≡◌, ◌<◌, ◌≤◌, ◌+◌, ℕ, zero, suc, Bool, true, false, cond, List, [], ◌∷◌, ◌++◌, length, get_or, take, map, refl, sym, ◌∙◌, ap, subst, arith}
use Rattle.std.specs.Prelude.{nat_le, count_by}
use Rattle.std.specs.List.{All}
use Rattle.std.proofs.Math.Seq.{get_or-append_seam}
use Rattle.std.proofs.lemmas.List.{append_assoc, append-nil, get_or-map, length-append, length-map, same_lists, take-map}
use Rattle.std.proofs.lemmas.List.Elements.{All-take}
use Rattle.chain_terms.specs.Chains.{is_edge, dir}
use Rattle.chain_terms.specs.Sums.{upto, up_from}
use Rattle.chain_terms.specs.Ranks.{rank, start, finish, runs_as}
use Rattle.chain_laws.proofs.Places.{get_or-up_from, length-up_from}
use Rattle.mesh_terms.specs.Meshes.{Triple}
use Rattle.mesh_check.specs.Cancelling.{is_left, left_marks}
use Rattle.mesh_check.specs.Orientations.{orientation_edge, orientation_edges, IsTriangle}
use Rattle.mesh_check.specs.Reduced.{same_way, opposite, is_kept, kept_from, kept_marks, kept_triples, picked}
use Rattle.mesh_check.proofs.Orientations.{same_count, opposite_count}

-- a rank of edges is a count of the first ones
rank-dir : (es : List (ℕ × ℕ)) (a b i : ℕ) → rank (λ e. is_edge e a b) es i ≡ dir (take i es) a b
rank-dir [] a b zero = refl
rank-dir [] a b (suc i) = refl
rank-dir (e ∷ es) a b zero = refl
rank-dir (e ∷ es) a b (suc i) = omega (arith, rank-dir es a b i)

-- a triangle is kept where its edge is left
kept_left : (ts : List Triple) → All IsTriangle ts → (i : ℕ) (d : Triple) → i < length ts → is_kept ts i (get_or ts i d) ≡ is_left (orientation_edges ts) i
kept_left ts all i d low =
    let t = get_or ts i d in
    let es = orientation_edges ts in
    let here : IsTriangle t = all i d low in
    let edge : orientation_edge t ≡ get_or es i (0, 0) = sym (get_or-map orientation_edge ts i d (0, 0) low) in
    let a : (orientation_edge t).0 ≡ start es i = ap (λ (e : ℕ × ℕ). e.0) edge in
    let b : (orientation_edge t).1 ≡ finish es i = ap (λ (e : ℕ × ℕ). e.1) edge in
    let others : count_by (opposite t) ts ≡ dir es (finish es i) (start es i) = opposite_count ts t all here ∙ (λ k. dir es (b k) (a k)) in
    let before : count_by (same_way t) (take i ts) ≡ rank (runs_as es i) es i =
    same_count (take i ts) t (All-take IsTriangle i ts all) here ∙ (λ k. dir (orientation_edges (take i ts)) (a k) (b k))
    ∙ ap (λ l. dir l (start es i) (finish es i)) (sym (take-map orientation_edge i ts)) ∙ sym (rank-dir es (start es i) (finish es i) i) in
    λ k. nat_le (others k) (before k)

-- the members with a mark, one more
picked_suc : {X : Type 0} (ms : List Bool) (xs : List X) (i : ℕ) (b : Bool) (d : X) → i < length ms → i < length xs →
    picked (take (suc i) ms) (take (suc i) xs) ≡ picked (take i ms) (take i xs) ++ cond (get_or ms i b) (get_or xs i d ∷ []) []
picked_suc [] xs i b d low high = absurd (omega (arith, low))
picked_suc (m ∷ ms) [] i b d low high = absurd (omega (arith, high))
picked_suc (m ∷ ms) (x ∷ xs) zero b d low high = append-nil (cond m (x ∷ []) [])
picked_suc (m ∷ ms) (x ∷ xs) (suc i) b d low high =
    ap (λ l. cond m (x ∷ []) [] ++ l) (picked_suc ms xs i b d (omega (arith, low)) (omega (arith, high)))
    ∙ sym (append_assoc (cond m (x ∷ []) []) (picked (take i ms) (take i xs)) (cond (get_or ms i b) (get_or xs i d ∷ []) []))

pub picked_more : {X : Type 0} (ms : List Bool) (xs : List X) (i : ℕ) (b : Bool) (d : X) → i < length ms → i < length xs →
    picked (take (i + 1) ms) (take (i + 1) xs) ≡ picked (take i ms) (take i xs) ++ cond (get_or ms i b) (get_or xs i d ∷ []) []
picked_more ms xs i b d low high = let next : i + 1 ≡ suc i = omega arith in ap (λ n. picked (take n ms) (take n xs)) next ∙ picked_suc ms xs i b d low high

-- marks past the end of a list tell nothing
pub picked-take : {X : Type 0} (ms : List Bool) (xs : List X) (i : ℕ) → length xs ≤ i → picked (take i ms) xs ≡ picked ms xs
picked-take [] xs zero few = refl
picked-take [] xs (suc i) few = refl
picked-take (m ∷ ms) [] zero few = refl
picked-take (m ∷ ms) [] (suc i) few = refl
picked-take (m ∷ ms) (x ∷ xs) zero few = absurd (omega (arith, few))
picked-take (m ∷ ms) (x ∷ xs) (suc i) few = ap (λ l. cond m (x ∷ []) [] ++ l) (picked-take ms xs i (omega (arith, few)))

-- of each member a function
pub map-picked : {X Y : Type 0} (f : X → Y) (ms : List Bool) (xs : List X) → map f (picked ms xs) ≡ picked ms (map f xs)
map-picked f [] xs = refl
map-picked f (m ∷ ms) [] = refl
map-picked f (true ∷ ms) (x ∷ xs) = ap (λ l. f x ∷ l) (map-picked f ms xs)
map-picked f (false ∷ ms) (x ∷ xs) = map-picked f ms xs

-- there are no more of them
length-picked : {X : Type 0} (ms : List Bool) (xs : List X) → length (picked ms xs) ≤ length xs
length-picked [] xs = omega arith
length-picked (m ∷ ms) [] = omega arith
length-picked (true ∷ ms) (x ∷ xs) = omega (arith, length-picked ms xs)
length-picked (false ∷ ms) (x ∷ xs) = omega (arith, length-picked ms xs)

-- where there are as many, they are all
pub picked_all : {X : Type 0} (ms : List Bool) (xs : List X) → length (picked ms xs) ≡ length xs → picked ms xs ≡ xs
picked_all [] [] same = refl
picked_all [] (x ∷ xs) same = absurd (omega (arith, same))
picked_all (m ∷ ms) [] same = refl
picked_all (true ∷ ms) (x ∷ xs) same = ap (λ l. x ∷ l) (picked_all ms xs (omega (arith, same)))
picked_all (false ∷ ms) (x ∷ xs) same = absurd (omega (arith, same, length-picked ms xs))

-- and so are as many others
pub picked_others : {X Y : Type 0} (ms : List Bool) (xs : List X) (ys : List Y) → length ys ≡ length xs → length (picked ms xs) ≡ length xs → picked ms ys ≡ ys
picked_others [] [] [] count same = refl
picked_others [] [] (y ∷ ys) count same = absurd (omega (arith, count))
picked_others [] (x ∷ xs) ys count same = absurd (omega (arith, same))
picked_others (m ∷ ms) xs [] count same = refl
picked_others (m ∷ ms) [] (y ∷ ys) count same = absurd (omega (arith, count))
picked_others (true ∷ ms) (x ∷ xs) (y ∷ ys) count same = ap (λ l. y ∷ l) (picked_others ms xs ys (omega (arith, count)) (omega (arith, same)))
picked_others (false ∷ ms) (x ∷ xs) (y ∷ ys) count same = absurd (omega (arith, same, length-picked ms xs))

-- the kept ones of the rest have their marks
kept_picked : (all front rest : List Triple) → all ≡ front ++ rest →
    kept_from all (length front) rest ≡ picked (map (λ i. is_kept all i (get_or all i (0, 0, 0))) (up_from (length front) (length rest))) rest
kept_picked all front [] is = refl
kept_picked all front (t ∷ ts) is =
    let at : t ≡ get_or all (length front) (0, 0, 0) = sym (ap (λ l. get_or l (length front) (0, 0, 0)) is ∙ get_or-append_seam front t ts (0, 0, 0)) in
    let longer : length (front ++ t ∷ []) ≡ suc (length front) = omega (arith, length-append front (t ∷ [])) in
    let mark : ℕ → Bool = λ i. is_kept all i (get_or all i (0, 0, 0)) in
    let rest : kept_from all (suc (length front)) ts ≡ picked (map mark (up_from (suc (length front)) (length ts))) ts =
    subst (λ n. kept_from all n ts ≡ picked (map mark (up_from n (length ts))) ts) longer (kept_picked all (front ++ t ∷ []) ts (is ∙ sym (append_assoc front (t ∷ []) ts))) in
    ap (λ l. cond (is_kept all (length front) t) (t ∷ []) [] ++ l) rest
    ∙ ap (λ u. cond (is_kept all (length front) u) (t ∷ []) [] ++ picked (map mark (up_from (suc (length front)) (length ts))) ts) at

-- the kept triples are those with a mark
pub kept_by_marks : (ts : List Triple) → kept_triples ts ≡ picked (kept_marks ts) ts
kept_by_marks ts = kept_picked ts [] ts refl

-- each mark says whether the edge is left
pub kept_marks_left : (ts : List Triple) → All IsTriangle ts → left_marks (orientation_edges ts) ≡ kept_marks ts
kept_marks_left ts all =
    let es = orientation_edges ts in
    let n : length es ≡ length ts = length-map ts orientation_edge in
    same_lists (left_marks es) (kept_marks ts)
    (omega (
      arith,
      n,
      length-map (upto (length es)) (is_left es),
      length-up_from 0 (length es),
      length-map (upto (length ts))
          (λ i. is_kept ts i (get_or ts i (0, 0, 0))),
      length-up_from 0 (length ts),
    ))
    (λ i d low. marked (is_left es) (length es) i d (below i low) ∙ sym (kept_left ts all i (0, 0, 0) (omega (arith, n, below i low)))
    ∙ sym (marked (λ j. is_kept ts j (get_or ts j (0, 0, 0))) (length ts) i d (omega (arith, n, below i low))))
  where
    below : (i : ℕ) → i < length (left_marks (orientation_edges ts)) → i < length (orientation_edges ts)
    below i low = omega (arith, low, length-map (upto (length (orientation_edges ts))) (is_left (orientation_edges ts)), length-up_from 0 (length (orientation_edges ts)))

    marked : (f : ℕ → Bool) (n i : ℕ) (d : Bool) → i < n → get_or (map f (upto n)) i d ≡ f i
    marked f n i d low =
        let first : 0 + i ≡ i = omega arith in
        get_or-map f (upto n) i i d (omega (arith, low, length-up_from 0 n)) ∙ ap f (get_or-up_from 0 n i i low ∙ first)
