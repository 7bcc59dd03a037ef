-- Triangles with marks: the half-edges of those that have one, and their numbers among these.
use Rattle.std.proofs.Common.{◌≡◌, ℕ, zero, suc, ◌+◌, ◌*◌, ◌/◌, ◌%◌, ◌<◌, ◌⊎◌, Bool, true, false, List, [], ◌∷◌, ◌++◌, inl, inr, map, length, get_or, drop, refl, sym, ap, ◌∙◌, arith}
use Rattle.std.specs.Prelude.{cond, ◌&&◌, filter}
use Rattle.std.proofs.lemmas.Bool.{both_ways, cases_Bool, cases_order}
use Rattle.std.proofs.lemmas.List.{get_or_default}
use Rattle.chain_terms.specs.Chains.{all_edges, one_if}
use Rattle.chain_terms.specs.Ranks.{rank, start, finish, IsPlace}
use Rattle.chain_laws.specs.Counts.{one_if-true, one_if-false}
use Rattle.chain_laws.specs.Triples.{renamed_triple}
use Rattle.chain_laws.proofs.Ranks.{rank_lower, same_place}
use Rattle.halfedge.proofs.Edges.{length-all_edges, next_starts}
use Rattle.mesh_check.specs.Reduced.{picked}
use Rattle.mesh_terms.specs.Halves.{next_half, prev_half}
use Rattle.mesh_terms.specs.Meshes.{Triple}

-- the number of a half-edge among those of the triangles with a mark
abbrev pub number : List Bool → ℕ → ℕ
number ms h = 3 * rank (λ m. m) ms (h / 3) + h % 3

-- its triangle has a mark
abbrev pub Marked : List Bool → List Triple → ℕ → Type 0
Marked ms ts h = (h < 3 * length ts) × (get_or ms (h / 3) false ≡ true)

third_later : (h : ℕ) → suc (suc (suc h)) / 3 ≡ suc (h / 3)
third_later h = omega arith

pub number_later : (m : Bool) (ms : List Bool) (h : ℕ) → number (m ∷ ms) (suc (suc (suc h))) ≡ 3 * one_if m + number ms h
number_later m ms h = omega (arith, ap (rank (λ n. n) (m ∷ ms)) (third_later h))

pub marked_later : (m : Bool) (ms : List Bool) (t : Triple) (ts : List Triple) (h : ℕ) → Marked (m ∷ ms) (t ∷ ts) (suc (suc (suc h))) → Marked ms ts h
marked_later m ms t ts h s = (omega (arith, s.0), ap (λ i. get_or (m ∷ ms) i false) (sym (third_later h)) ∙ s.1)

marked_further : (m : Bool) (ms : List Bool) (t : Triple) (ts : List Triple) (h : ℕ) → Marked ms ts h → Marked (m ∷ ms) (t ∷ ts) (suc (suc (suc h)))
marked_further m ms t ts h s = (omega (arith, s.0), ap (λ i. get_or (m ∷ ms) i false) (third_later h) ∙ s.1)

-- a first triangle with a mark, and one without
with_mark : (m : Bool) (ms : List Bool) (t : Triple) (ts : List Triple) → m ≡ true → picked (m ∷ ms) (t ∷ ts) ≡ t ∷ picked ms ts
with_mark m ms t ts y = ap (λ b. cond b (t ∷ []) [] ++ picked ms ts) y

without_mark : (m : Bool) (ms : List Bool) (t : Triple) (ts : List Triple) → m ≡ false → picked (m ∷ ms) (t ∷ ts) ≡ picked ms ts
without_mark m ms t ts n = ap (λ b. cond b (t ∷ []) [] ++ picked ms ts) n

-- where it starts
pub start_number : (ms : List Bool) (ts : List Triple) (h : ℕ) → Marked ms ts h → start (all_edges (picked ms ts)) (number ms h) ≡ start (all_edges ts) h
start_number [] ts h s = absurd (both_ways false refl s.1)
start_number (m ∷ ms) [] h s = absurd (omega (arith, s.0))
start_number (m ∷ ms) (t ∷ ts) zero s = ap (λ us. start (all_edges us) 0) (with_mark m ms t ts s.1)
start_number (m ∷ ms) (t ∷ ts) (suc zero) s = ap (λ us. start (all_edges us) 1) (with_mark m ms t ts s.1)
start_number (m ∷ ms) (t ∷ ts) (suc (suc zero)) s = ap (λ us. start (all_edges us) 2) (with_mark m ms t ts s.1)
start_number (m ∷ ms) (t ∷ ts) (suc (suc (suc h))) s =
    let rest = start_number ms ts h (marked_later m ms t ts h s) in
    elim (cases_Bool m) as (λ _. start (all_edges (picked (m ∷ ms) (t ∷ ts))) (number (m ∷ ms) (suc (suc (suc h)))) ≡ start (all_edges ts) h) [
      | inl y ↦
          let at : number (m ∷ ms) (suc (suc (suc h))) ≡ suc (suc (suc (number ms h))) = omega (arith, number_later m ms h, one_if-true m y) in
          ap (start (all_edges (picked (m ∷ ms) (t ∷ ts)))) at ∙ ap (λ us. start (all_edges us) (suc (suc (suc (number ms h))))) (with_mark m ms t ts y) ∙ rest
      | inr n ↦
          let at : number (m ∷ ms) (suc (suc (suc h))) ≡ number ms h = omega (arith, number_later m ms h, one_if-false m n) in
          ap (start (all_edges (picked (m ∷ ms) (t ∷ ts)))) at ∙ ap (λ us. start (all_edges us) (number ms h)) (without_mark m ms t ts n) ∙ rest
    ]

-- it is one of them
pub number_below : (ms : List Bool) (ts : List Triple) (h : ℕ) → Marked ms ts h → number ms h < length (all_edges (picked ms ts))
number_below [] ts h s = absurd (both_ways false refl s.1)
number_below (m ∷ ms) [] h s = absurd (omega (arith, s.0))
number_below (m ∷ ms) (t ∷ ts) zero s = rw (with_mark m ms t ts s.1) (omega arith)
number_below (m ∷ ms) (t ∷ ts) (suc zero) s = rw (with_mark m ms t ts s.1) (omega arith)
number_below (m ∷ ms) (t ∷ ts) (suc (suc zero)) s = rw (with_mark m ms t ts s.1) (omega arith)
number_below (m ∷ ms) (t ∷ ts) (suc (suc (suc h))) s =
    let rest = number_below ms ts h (marked_later m ms t ts h s) in
    elim (cases_Bool m) as (λ _. number (m ∷ ms) (suc (suc (suc h))) < length (all_edges (picked (m ∷ ms) (t ∷ ts)))) [
      | inl y ↦ rw (with_mark m ms t ts y) (omega (arith, number_later m ms h, one_if-true m y, rest))
      | inr n ↦ rw (without_mark m ms t ts n) (omega (arith, number_later m ms h, one_if-false m n, rest))
    ]

-- the next one follows there too
pub next_marked : (ms : List Bool) (ts : List Triple) (h : ℕ) → Marked ms ts h → Marked ms ts (next_half h)
next_marked ms ts h s =
    let same : next_half h / 3 ≡ h / 3 = omega arith in
    (omega (arith, s.0), ap (λ i. get_or ms i false) same ∙ s.1)

pub next_number : (ms : List Bool) (h : ℕ) → number ms (next_half h) ≡ next_half (number ms h)
next_number ms h =
    let same : next_half h / 3 ≡ h / 3 = omega arith in omega (arith, ap (rank (λ m. m) ms) same)

pub prev_marked : (ms : List Bool) (ts : List Triple) (h : ℕ) → Marked ms ts h → Marked ms ts (prev_half h)
prev_marked ms ts h s =
    let same : prev_half h / 3 ≡ h / 3 = omega arith in
    (omega (arith, s.0), ap (λ i. get_or ms i false) same ∙ s.1)

-- each of them has a number in the whole list
pub record Before (ms : List Bool) (ts : List Triple) (k : ℕ) : Type 0 where
  pub half : ℕ
  pub marked : Marked ms ts half
  pub is : number ms half ≡ k

before_first : (m : Bool) (ms : List Bool) (t : Triple) (ts : List Triple) → m ≡ true → ((k : ℕ) → k < length (all_edges (picked ms ts)) → Before ms ts k) →
    (k : ℕ) → k < length (all_edges (t ∷ picked ms ts)) → Before (m ∷ ms) (t ∷ ts) k
before_first m ms t ts y rest zero low = record { half = 0; marked = (omega arith, y); is = refl }
before_first m ms t ts y rest (suc zero) low = record { half = 1; marked = (omega arith, y); is = refl }
before_first m ms t ts y rest (suc (suc zero)) low = record { half = 2; marked = (omega arith, y); is = refl }
before_first m ms t ts y rest (suc (suc (suc k))) low =
    let b = rest k (omega (arith, low)) in
    record { half = suc (suc (suc b.half)); marked = marked_further m ms t ts b.half b.marked; is = omega (arith, number_later m ms b.half, one_if-true m y, b.is) }

pub before : (ms : List Bool) (ts : List Triple) (k : ℕ) → k < length (all_edges (picked ms ts)) → Before ms ts k
before [] ts k low = absurd (omega (arith, low))
before (m ∷ ms) [] k low = absurd (omega (arith, low))
before (m ∷ ms) (t ∷ ts) k low = elim (cases_Bool m) as (λ _. Before (m ∷ ms) (t ∷ ts) k) [
  | inl y ↦ before_first m ms t ts y (before ms ts) k (omega (arith, low, ap (λ us. length (all_edges us)) (with_mark m ms t ts y)))
  | inr n ↦
      let b = before ms ts k (omega (arith, low, ap (λ us. length (all_edges us)) (without_mark m ms t ts n))) in
      record { half = suc (suc (suc b.half)); marked = marked_further m ms t ts b.half b.marked; is = omega (arith, number_later m ms b.half, one_if-false m n, b.is) }
]

-- a place with a mark
passes : (ms : List Bool) (i : ℕ) → i < length ms → get_or ms i false ≡ true → (d : Bool) → get_or ms i d ≡ true
passes ms i low y d = get_or_default ms i d false low ∙ y

-- two have two numbers
pub number_one : (ms : List Bool) (ts : List Triple) → length ms ≡ length ts → (x y : ℕ) → Marked ms ts x → Marked ms ts y → number ms x ≡ number ms y → x ≡ y
number_one ms ts full x y s t e =
    let x_low : x / 3 < length ms = omega (arith, s.0, full) in
    let y_low : y / 3 < length ms = omega (arith, t.0, full) in
    let ranks : rank (λ m. m) ms (x / 3) ≡ rank (λ m. m) ms (y / 3) = omega (arith, e) in
    let px : IsPlace (λ m. m) ms (rank (λ m. m) ms (y / 3)) (x / 3) = record { within = x_low; holds = passes ms (x / 3) x_low s.1; earlier = ranks } in
    let py : IsPlace (λ m. m) ms (rank (λ m. m) ms (y / 3)) (y / 3) = record { within = y_low; holds = passes ms (y / 3) y_low t.1; earlier = refl } in
    omega (arith, e, ranks, same_place (λ m. m) ms (rank (λ m. m) ms (y / 3)) (x / 3) (y / 3) px py)

-- and stand in their order
pub number_order : (ms : List Bool) (ts : List Triple) → length ms ≡ length ts → (x y : ℕ) → Marked ms ts x → Marked ms ts y → number ms x < number ms y → x < y
number_order ms ts full x y s t less = by (cases_order (x / 3) (y / 3)) where
  -- a triangle further on has a greater rank
  further : y / 3 < x / 3 → rank (λ m. m) ms (y / 3) < rank (λ m. m) ms (x / 3)
  further h = rank_lower (λ m. m) ms (y / 3) (x / 3) h (omega (arith, s.0, full)) (passes ms (y / 3) (omega (arith, t.0, full)) t.1)

  by : (x / 3 ≡ y / 3) ⊎ ((x / 3 < y / 3) ⊎ (y / 3 < x / 3)) → x < y
  by (inl e) = omega (arith, less, e, ap (rank (λ m. m) ms) e)
  by (inr (inl h)) = omega (arith, h)
  by (inr (inr h)) = absurd (omega (arith, less, further h))

-- marks that stay where a property holds pick, of what was picked, what has it
pub picked_again : {X : Type 0} (p : Triple → Bool) (ms ns : List Bool) (ts : List Triple) (xs : List X) → length ms ≡ length ts → length ns ≡ length ts → length xs ≡ length ts →
    ((i : ℕ) → i < length ts → get_or ns i false ≡ (get_or ms i false && p (get_or ts i (0, 0, 0)))) → picked ns xs ≡ picked (map p (picked ms ts)) (picked ms xs)
picked_again p [] [] [] xs a b c all = refl
picked_again p [] (n ∷ ns) [] xs a b c all = absurd (omega (arith, b))
picked_again p (m ∷ ms) ns [] xs a b c all = absurd (omega (arith, a))
picked_again p [] ns (t ∷ ts) xs a b c all = absurd (omega (arith, a))
picked_again p (m ∷ ms) [] (t ∷ ts) xs a b c all = absurd (omega (arith, b))
picked_again p (m ∷ ms) (n ∷ ns) (t ∷ ts) [] a b c all = absurd (omega (arith, c))
picked_again {X} p (m ∷ ms) (n ∷ ns) (t ∷ ts) (x ∷ xs) a b c all =
    by m (p t) refl n (all 0 (omega arith)) (picked_again p ms ns ts xs (omega (arith, a)) (omega (arith, b)) (omega (arith, c)) (λ i low. all (suc i) (omega (arith, low))))
  where
    by : (y z : Bool) → p t ≡ z → (k : Bool) → k ≡ (y && z) → picked ns xs ≡ picked (map p (picked ms ts)) (picked ms xs) →
        cond k (x ∷ []) [] ++ picked ns xs ≡ picked (map p (cond y (t ∷ []) [] ++ picked ms ts)) (cond y (x ∷ []) [] ++ picked ms xs)
    by true true e k s rest =
        ap (λ w. cond w (x ∷ []) [] ++ picked ns xs) s ∙ ap (λ l. x ∷ l) rest ∙ sym (ap (λ w. cond w (x ∷ []) [] ++ picked (map p (picked ms ts)) (picked ms xs)) e)
    by true false e k s rest = ap (λ w. cond w (x ∷ []) [] ++ picked ns xs) s ∙ rest ∙ sym (ap (λ w. cond w (x ∷ []) [] ++ picked (map p (picked ms ts)) (picked ms xs)) e)
    by false z e k s rest = ap (λ w. cond w (x ∷ []) [] ++ picked ns xs) s ∙ rest

-- of two lists with marks, the second is the first after those without a property lose their marks and the others are renamed
module _ (p : Triple → Bool) (r : ℕ → ℕ) where
  pub record Follows (m n : Bool) (t u : Triple) : Type 0 where
    pub mark : n ≡ (m && p t)
    pub triple : n ≡ true → u ≡ renamed_triple r t

  -- place by place
  abbrev pub AllFollow : List Bool → List Bool → List Triple → List Triple → Type 0
  AllFollow ms ns ts us = (i : ℕ) → i < length ts → Follows (get_or ms i false) (get_or ns i false) (get_or ts i (0, 0, 0)) (get_or us i (0, 0, 0))

  tail_follows : (m n : Bool) (t u : Triple) (ms ns : List Bool) (ts us : List Triple) → AllFollow (m ∷ ms) (n ∷ ns) (t ∷ ts) (u ∷ us) → AllFollow ms ns ts us
  tail_follows m n t u ms ns ts us all i low = all (suc i) (omega (arith, low))

  pub picked_follows : (ms ns : List Bool) (ts us : List Triple) → length ms ≡ length ts → length ns ≡ length ts → length us ≡ length ts → AllFollow ms ns ts us →
      picked ns us ≡ map (renamed_triple r) (filter p (picked ms ts))
  picked_follows [] [] [] us a b c all = refl
  picked_follows [] (n ∷ ns) [] us a b c all = absurd (omega (arith, b))
  picked_follows (m ∷ ms) ns [] us a b c all = absurd (omega (arith, a))
  picked_follows [] ns (t ∷ ts) us a b c all = absurd (omega (arith, a))
  picked_follows (m ∷ ms) [] (t ∷ ts) us a b c all = absurd (omega (arith, b))
  picked_follows (m ∷ ms) (n ∷ ns) (t ∷ ts) [] a b c all = absurd (omega (arith, c))
  picked_follows (m ∷ ms) (n ∷ ns) (t ∷ ts) (u ∷ us) a b c all =
      let rest = picked_follows ms ns ts us (omega (arith, a)) (omega (arith, b)) (omega (arith, c)) (tail_follows m n t u ms ns ts us all) in
      let here = all 0 (omega arith) in
      by m (p t) refl refl here.mark here.triple rest
    where
      by : (x y : Bool) → m ≡ x → p t ≡ y → n ≡ (m && p t) → (n ≡ true → u ≡ renamed_triple r t) → picked ns us ≡ map (renamed_triple r) (filter p (picked ms ts)) →
          cond n (u ∷ []) [] ++ picked ns us ≡ map (renamed_triple r) (filter p (cond m (t ∷ []) [] ++ picked ms ts))
      by true true em et mark triple rest =
          let on : n ≡ true = mark ∙ ap (λ k. k && p t) em ∙ et in
          ap (λ k. cond k (u ∷ []) [] ++ picked ns us) on ∙ ap (λ v. v ∷ picked ns us) (triple on) ∙ ap (λ l. renamed_triple r t ∷ l) rest
          ∙ sym (ap (λ k. map (renamed_triple r) (filter p (cond k (t ∷ []) [] ++ picked ms ts))) em
          ∙ ap (λ k. map (renamed_triple r) (cond k (t ∷ filter p (picked ms ts)) (filter p (picked ms ts)))) et)
      by true false em et mark triple rest =
          let off : n ≡ false = mark ∙ ap (λ k. k && p t) em ∙ et in
          ap (λ k. cond k (u ∷ []) [] ++ picked ns us) off ∙ rest
          ∙ sym (ap (λ k. map (renamed_triple r) (filter p (cond k (t ∷ []) [] ++ picked ms ts))) em
          ∙ ap (λ k. map (renamed_triple r) (cond k (t ∷ filter p (picked ms ts)) (filter p (picked ms ts)))) et)
      by false y em et mark triple rest =
          let off : n ≡ false = mark ∙ ap (λ k. k && p t) em in
          ap (λ k. cond k (u ∷ []) [] ++ picked ns us) off ∙ rest ∙ sym (ap (λ k. map (renamed_triple r) (filter p (cond k (t ∷ []) [] ++ picked ms ts))) em)

  -- so ranks are those of the definition
  pub rank_follows : (ms ns : List Bool) (ts us : List Triple) → length ms ≡ length ts → length ns ≡ length ts → AllFollow ms ns ts us → (i : ℕ) →
      rank (λ n. n) ns i ≡ rank p (picked ms ts) (rank (λ m. m) ms i)
  rank_follows [] [] [] us a b all i = refl
  rank_follows [] (n ∷ ns) [] us a b all i = absurd (omega (arith, b))
  rank_follows (m ∷ ms) ns [] us a b all i = absurd (omega (arith, a))
  rank_follows [] ns (t ∷ ts) us a b all i = absurd (omega (arith, a))
  rank_follows (m ∷ ms) [] (t ∷ ts) us a b all i = absurd (omega (arith, b))
  rank_follows (m ∷ ms) (n ∷ ns) (t ∷ ts) us a b all zero = sym (nothing p (picked (m ∷ ms) (t ∷ ts))) where
    nothing : (q : Triple → Bool) (vs : List Triple) → rank q vs 0 ≡ 0
    nothing q [] = refl
    nothing q (v ∷ vs) = refl
  rank_follows (m ∷ ms) (n ∷ ns) (t ∷ ts) us a b all (suc i) =
      let rest = rank_follows ms ns ts (drop 1 us) (omega (arith, a)) (omega (arith, b)) (λ j low. tail j low) i in
      by m refl (all 0 (omega arith)).mark rest
    where
      tail : (j : ℕ) → j < length ts → Follows (get_or ms j false) (get_or ns j false) (get_or ts j (0, 0, 0)) (get_or (drop 1 us) j (0, 0, 0))
      tail j low = moved us (all (suc j) (omega (arith, low))) where
        moved : (vs : List Triple) → Follows (get_or ms j false) (get_or ns j false) (get_or ts j (0, 0, 0)) (get_or vs (suc j) (0, 0, 0)) →
            Follows (get_or ms j false) (get_or ns j false) (get_or ts j (0, 0, 0)) (get_or (drop 1 vs) j (0, 0, 0))
        moved [] f = f
        moved (v ∷ vs) f = f

      by : (x : Bool) → m ≡ x → n ≡ (m && p t) → rank (λ k. k) ns i ≡ rank p (picked ms ts) (rank (λ k. k) ms i) →
          one_if n + rank (λ k. k) ns i ≡ rank p (cond m (t ∷ []) [] ++ picked ms ts) (one_if m + rank (λ k. k) ms i)
      by true em mark rest =
          let on : n ≡ p t = mark ∙ ap (λ k. k && p t) em in
          let here : one_if n + rank (λ k. k) ns i ≡ rank p (t ∷ picked ms ts) (suc (rank (λ k. k) ms i)) = omega (arith, ap one_if on, rest) in
          let one : suc (rank (λ k. k) ms i) ≡ one_if true + rank (λ k. k) ms i = omega arith in
          here ∙ ap (rank p (t ∷ picked ms ts)) one ∙ sym (ap (λ k. rank p (cond k (t ∷ []) [] ++ picked ms ts) (one_if k + rank (λ w. w) ms i)) em)
      by false em mark rest =
          let off : n ≡ false = mark ∙ ap (λ k. k && p t) em in
          let here : one_if n + rank (λ k. k) ns i ≡ rank p (picked ms ts) (rank (λ k. k) ms i) = omega (arith, ap one_if off, rest) in
          let none : rank (λ k. k) ms i ≡ one_if false + rank (λ k. k) ms i = omega arith in
          here ∙ ap (rank p (picked ms ts)) none ∙ sym (ap (λ k. rank p (cond k (t ∷ []) [] ++ picked ms ts) (one_if k + rank (λ w. w) ms i)) em)

-- where it ends
pub finish_number : (ms : List Bool) (ts : List Triple) (h : ℕ) → Marked ms ts h → finish (all_edges (picked ms ts)) (number ms h) ≡ finish (all_edges ts) h
finish_number ms ts h s =
    let n = next_marked ms ts h s in
    sym (next_starts (picked ms ts) (number ms h) (number_below ms ts h s)) ∙ ap (start (all_edges (picked ms ts))) (sym (next_number ms h)) ∙ start_number ms ts (next_half h) n
    ∙ next_starts ts h (omega (arith, s.0, length-all_edges ts))
