-- How often an edge runs among triangles with marks, counted over the star of its start.
use Rattle.std.proofs.Common.{◌≡◌, ◌⊎◌, ℕ, zero, suc, ◌*◌, ◌/◌, ◌<◌, Bool, true, false, ℤ, pos, List, [], ◌∷◌, ◌++◌, inl, inr, length, get_or, refl, sym, ap, ◌∙◌, arith}
use Rattle.std.specs.Prelude.{cond, count_by, ◌&&◌, ◌==◌, ◌+ℤ◌}
use Rattle.std.specs.List.{All}
use Rattle.std.proofs.lemmas.Int.{ints}
use Rattle.std.proofs.lemmas.Bool.{cases_Bool, eqb-true, eqb-false, eq-eqb, ne_eqb}
use Rattle.std.proofs.lemmas.List.Elements.{All-head, All-tail}
use Rattle.chain_terms.specs.Chains.{all_edges, dir, is_edge, one_if}
use Rattle.chain_terms.specs.Ranks.{start, finish}
use Rattle.chain_terms.specs.Sums.{total, upto}
use Rattle.chain_laws.specs.Counts.{count_by-cons}
use Rattle.chain_laws.specs.Sums.{total-add, total-same, total-zero}
use Rattle.chain_laws.proofs.Places.{one_hit_of, total-places, total-upto_same, where_same, where_same-apart, where_same-at}
use Rattle.mesh_check.specs.Reduced.{picked}
use Rattle.mesh_terms.specs.Meshes.{Triple}
use Rattle.mesh_tidy.specs.Stars.{is_left}

-- how often h occurs, where it passes
abbrev pub hits : (ℕ → Bool) → List ℕ → ℕ → ℕ
hits q xs h = cond (q h) (count_by (λ x. x == h) xs) 0

-- with one more in front
hits_first : (q : ℕ → Bool) (x : ℕ) (xs : List ℕ) (h : ℕ) → pos (hits q (x ∷ xs) h) ≡ where_same h x (pos (one_if (q h))) +ℤ pos (hits q xs h)
hits_first q x xs h = by (q h) (cases_Bool (h == x)) where
  by : (b : Bool) → ((h == x) ≡ true) ⊎ ((h == x) ≡ false) →
      pos (cond b (count_by (λ y. y == h) (x ∷ xs)) 0) ≡ where_same h x (pos (one_if b)) +ℤ pos (cond b (count_by (λ y. y == h) xs) 0)
  by true (inl e) =
      let same : (x == h) ≡ true = eq-eqb x h (sym (eqb-true h x e)) in
      omega (arith, ints, count_by-cons (λ y. y == h) x xs, ap one_if same, where_same-at h x (pos 1) (eqb-true h x e))
  by true (inr n) =
      let other : (x == h) ≡ false = ne_eqb x h (λ e. eqb-false h x n (sym e)) in
      omega (arith, ints, count_by-cons (λ y. y == h) x xs, ap one_if other, where_same-apart h x (pos 1) (eqb-false h x n))
  by false (inl e) = omega (arith, ints, where_same-at h x (pos 0) (eqb-true h x e))
  by false (inr n) = omega (arith, ints, where_same-apart h x (pos 0) (eqb-false h x n))

-- members below n that pass are as many as their occurrences
count_each : (q : ℕ → Bool) (n : ℕ) (xs : List ℕ) → All (λ x. x < n) xs → pos (count_by q xs) ≡ total (λ h. pos (hits q xs h)) (upto n)
count_each q n [] low = sym (total-same (λ h. pos (hits q [] h)) (λ h. pos 0) none (upto n) ∙ total-zero (upto n)) where
  none : (h : ℕ) → pos (cond (q h) 0 0) ≡ pos 0
  none h = by (q h) where
    by : (b : Bool) → pos (cond b 0 0) ≡ pos 0
    by true = refl
    by false = refl
count_each q n (x ∷ xs) low =
    omega (
      arith,
      ints,
      count_by-cons q x xs,
      total-same (λ h. pos (hits q (x ∷ xs) h)) (λ h. where_same h x (pos (one_if (q h))) +ℤ pos (hits q xs h)) (hits_first q x xs) (upto n),
      total-add (λ h. where_same h x (pos (one_if (q h)))) (λ h. pos (hits q xs h)) (upto n),
      one_hit_of (λ h. pos (one_if (q h))) x n (All-head (λ y. y < n) x xs low),
      count_each q n xs (All-tail (λ y. y < n) x xs low),
    )

-- each edge with the mark of its triangle
abbrev pub marked_edges : List Bool → List Triple → List (Bool × (ℕ × ℕ))
marked_edges [] ts = []
marked_edges (m ∷ ms) [] = []
marked_edges (m ∷ ms) (t ∷ ts) = (m, (t.0, t.1)) ∷ (m, (t.1, t.2)) ∷ (m, (t.2, t.0)) ∷ marked_edges ms ts

length-marked : (ms : List Bool) (ts : List Triple) → length ms ≡ length ts → length (marked_edges ms ts) ≡ 3 * length ts
length-marked [] [] e = refl
length-marked [] (t ∷ ts) e = absurd (omega (arith, e))
length-marked (m ∷ ms) [] e = absurd (omega (arith, e))
length-marked (m ∷ ms) (t ∷ ts) e = omega (arith, length-marked ms ts (omega (arith, e)))

marked_at : (ms : List Bool) (ts : List Triple) → length ms ≡ length ts → (h : ℕ) →
    get_or (marked_edges ms ts) h (false, (0, 0)) ≡ (get_or ms (h / 3) false, get_or (all_edges ts) h (0, 0))
marked_at [] [] e h = refl
marked_at [] (t ∷ ts) e h = absurd (omega (arith, e))
marked_at (m ∷ ms) [] e h = absurd (omega (arith, e))
marked_at (m ∷ ms) (t ∷ ts) e zero = refl
marked_at (m ∷ ms) (t ∷ ts) e (suc zero) = refl
marked_at (m ∷ ms) (t ∷ ts) e (suc (suc zero)) = refl
marked_at (m ∷ ms) (t ∷ ts) e (suc (suc (suc h))) =
    let later : suc (h / 3) ≡ suc (suc (suc h)) / 3 = omega arith in
    marked_at ms ts (omega (arith, e)) h ∙ (λ i. (get_or (m ∷ ms) (later i) false, get_or (all_edges ts) h (0, 0)))

-- the edges that pass among those of the triangles with a mark
abbrev pub passing : ((ℕ × ℕ) → Bool) → (Bool × (ℕ × ℕ)) → ℤ
passing f z = pos (one_if (z.0 && f z.1))

total-picked : (f : (ℕ × ℕ) → Bool) (ms : List Bool) (ts : List Triple) → total (passing f) (marked_edges ms ts) ≡ total (λ e. pos (one_if (f e))) (all_edges (picked ms ts))
total-picked f [] ts = refl
total-picked f (m ∷ ms) [] = refl
total-picked f (m ∷ ms) (t ∷ ts) = by m (total-picked f ms ts) where
  by : (b : Bool) → total (passing f) (marked_edges ms ts) ≡ total (λ e. pos (one_if (f e))) (all_edges (picked ms ts)) →
      total (passing f) ((b, (t.0, t.1)) ∷ (b, (t.1, t.2)) ∷ (b, (t.2, t.0)) ∷ marked_edges ms ts) ≡ total (λ e. pos (one_if (f e)))
      (all_edges (cond b (t ∷ []) [] ++ picked ms ts))
  by true rest = omega (arith, ints, rest)
  by false rest = omega (arith, ints, rest)

count_picked : (f : (ℕ × ℕ) → Bool) (ms : List Bool) (ts : List Triple) → length ms ≡ length ts →
    total (λ e. pos (one_if (f e))) (all_edges (picked ms ts)) ≡ total (λ h. pos (one_if (is_left ms h && f (get_or (all_edges ts) h (0, 0))))) (upto (3 * length ts))
count_picked f ms ts full =
    sym (total-picked f ms ts) ∙ total-places (passing f) (false, (0, 0)) (marked_edges ms ts)
    ∙ total-same (λ i. passing f (get_or (marked_edges ms ts) i (false, (0, 0)))) (λ h. passing f (get_or ms (h / 3) false, get_or (all_edges ts) h (0, 0)))
    (λ h. ap (passing f) (marked_at ms ts full h)) (upto (length (marked_edges ms ts)))
    ∙ ap (λ n. total (λ h. pos (one_if (is_left ms h && f (get_or (all_edges ts) h (0, 0))))) (upto n)) (length-marked ms ts full)

-- how often an edge runs, as a total
total-dir : (es : List (ℕ × ℕ)) (a b : ℕ) → total (λ e. pos (one_if (is_edge e a b))) es ≡ pos (dir es a b)
total-dir [] a b = refl
total-dir (e ∷ es) a b = omega (arith, ints, total-dir es a b)

-- so an edge runs among them as often as its start's star has a marked half-edge with its end
pub dir_star : (ms : List Bool) (ts : List Triple) (star : List ℕ) (v w : ℕ) → length ms ≡ length ts → All (λ h. h < 3 * length ts) star →
    ((h : ℕ) → h < 3 * length ts → is_left ms h ≡ true → count_by (λ x. x == h) star ≡ one_if (start (all_edges ts) h == v)) →
    dir (all_edges (picked ms ts)) v w ≡ count_by (λ h. is_left ms h && (finish (all_edges ts) h == w)) star
dir_star ms ts star v w full low once =
    omega (
      arith,
      ints,
      total-dir (all_edges (picked ms ts)) v w,
      count_picked (λ e. is_edge e v w) ms ts full,
      total-upto_same (λ h. pos (one_if (is_left ms h && is_edge (get_or (all_edges ts) h (0, 0)) v w))) (λ h. pos (hits q star h)) (3 * length ts) each,
      count_each q (3 * length ts) star low,
    )
  where
    q : ℕ → Bool
    q h = is_left ms h && (finish (all_edges ts) h == w)

    each : (h : ℕ) → h < 3 * length ts → pos (one_if (is_left ms h && is_edge (get_or (all_edges ts) h (0, 0)) v w)) ≡ pos (hits q star h)
    each h h_low = by (is_left ms h) (start (all_edges ts) h == v) (finish (all_edges ts) h == w) refl refl where
      by : (l s f : Bool) → is_left ms h ≡ l → (start (all_edges ts) h == v) ≡ s → pos (one_if (l && (s && f))) ≡ pos (cond (l && f) (count_by (λ x. x == h) star) 0)
      by false s f el es = refl
      by true s false el es = zero_end s where
        zero_end : (b : Bool) → pos (one_if (b && false)) ≡ pos 0
        zero_end true = refl
        zero_end false = refl
      by true s true el es = one_end s (once h h_low el ∙ ap one_if es) where
        one_end : (b : Bool) → count_by (λ x. x == h) star ≡ one_if b → pos (one_if (b && true)) ≡ pos (count_by (λ x. x == h) star)
        one_end true e = ap pos (sym e)
        one_end false e = ap pos (sym e)
