-- No edge of an outline has one that runs back.
use Rattle.std.proofs.Common.{◌≡◌, ℕ, zero, suc, ◌+◌, ◌<◌, ◌≤◌, List, [], ◌∷◌, ◌++◌, ◌⊎◌, inl, inr, length, get_or, refl, sym, ap, ◌∙◌, arith}
use Rattle.std.specs.List.{All, Contains, concat, flat_map}
use Rattle.std.proofs.lemmas.Bool.{cases_order}
use Rattle.std.proofs.lemmas.List.{get_or_append_left, get_or-append-add, length-append}
use Rattle.std.proofs.lemmas.List.Elements.{All-head, All-tail, Contains-append_cases}
use Rattle.chain_terms.specs.Paths.{last_of, path, round_edges}
use Rattle.face_loops.specs.Segments.{AreDifferent}

-- no edge has one that runs back
abbrev pub NoReturn : List (ℕ × ℕ) → Type 0
NoReturn es = (v w : ℕ) → Contains es (v, w) → Contains es (w, v) → ⊥

-- the vertex at a place
pub record At (l : List ℕ) (i v : ℕ) : Type 0 where
  pub low : i < length l
  pub is : get_or l i 0 ≡ v

-- an edge along a path: from a place to the next
record OnPath (l : List ℕ) (u v : ℕ) : Type 0 where
  place : ℕ
  from : At l place u
  to : At l (suc place) v

path_place : (x : ℕ) (r : List ℕ) (u v : ℕ) → Contains (path x r) (u, v) → OnPath (x ∷ r) u v
path_place x [] u v (k, l, e) = absurd (omega (arith, l))
path_place x (y ∷ r) u v (zero, l, e) = record {
  place = 0;
  from = record { low = omega arith; is = ap (λ (p : ℕ × ℕ). p.0) e };
  to = record { low = omega arith; is = ap (λ (p : ℕ × ℕ). p.1) e };
}
path_place x (y ∷ r) u v (suc k, l, e) =
    let p = path_place y r u v (k, omega (arith, l), e) in
    record { place = suc p.place; from = record { low = omega (arith, p.from.low); is = p.from.is }; to = record { low = omega (arith, p.to.low); is = p.to.is } }

last_place : (x : ℕ) (r : List ℕ) → get_or (x ∷ r) (length r) 0 ≡ last_of x r
last_place x [] = refl
last_place x (y ∷ r) = last_place y r

-- an edge round a loop: from a place to the next, or from the last place to the first
record OnRound (l : List ℕ) (u v : ℕ) : Type 0 where
  place : ℕ
  from : At l place u
  to : At l (suc place) v ⊎ (suc place ≡ length l) × (get_or l 0 0 ≡ v)

round_place : (l : List ℕ) (u v : ℕ) → Contains (round_edges l) (u, v) → OnRound l u v
round_place [] u v (k, low, e) = absurd (omega (arith, low))
round_place (x ∷ r) u v c = elim (Contains-append_cases (path x r) ((last_of x r, x) ∷ []) (u, v) c) as (λ _. OnRound (x ∷ r) u v) [
  | inl a ↦ let p = path_place x r u v a in record { place = p.place; from = p.from; to = inl p.to }
  | inr b ↦ closing b
]
  where
    closing : Contains {X = ℕ × ℕ} ((last_of x r, x) ∷ []) (u, v) → OnRound (x ∷ r) u v
    closing (zero, low, e) = record {
      place = length r;
      from = record { low = omega arith; is = last_place x r ∙ ap (λ (p : ℕ × ℕ). p.0) e };
      to = inr (omega arith, ap (λ (p : ℕ × ℕ). p.1) e);
    }
    closing (suc k, low, e) = absurd (omega (arith, low))

-- where the edge ends stands a vertex of the loop
round_end : (l : List ℕ) (u v : ℕ) → OnRound l u v → (i : ℕ) × At l i v
round_end l u v p = elim p.to as (λ _. (i : ℕ) × At l i v) [
  | inl a ↦ (suc p.place, a)
  | inr b ↦ (0, record { low = omega (arith, p.from.low); is = b.1 })
]

-- a vertex of different ones stands at one place
one_place : (l : List ℕ) → AreDifferent l → (i j v : ℕ) → At l i v → At l j v → i ≡ j
one_place l differ i j v a b = elim (cases_order i j) as (λ _. i ≡ j) [
  | inl e ↦ e
  | inr (inl less) ↦ absurd (differ i j less b.low (a.is ∙ sym b.is))
  | inr (inr less) ↦ absurd (differ j i less a.low (b.is ∙ sym a.is))
]

-- of three vertices or more no edge of a loop runs back along another
no_return_round : (l : List ℕ) → AreDifferent l → 3 ≤ length l → (u v : ℕ) → OnRound l u v → OnRound l v u → ⊥
no_return_round l differ long u v p q = by p.to q.to where
  first : (w : ℕ) → get_or l 0 0 ≡ w → At l 0 w
  first w e = record { low = omega (arith, long); is = e }

  by : At l (suc p.place) v ⊎ (suc p.place ≡ length l) × (get_or l 0 0 ≡ v) → At l (suc q.place) u ⊎ (suc q.place ≡ length l) × (get_or l 0 0 ≡ u) → ⊥
  by (inl a) (inl b) = omega (arith, one_place l differ (suc p.place) q.place v a q.from, one_place l differ (suc q.place) p.place u b p.from)
  by (inl a) (inr b) = omega (arith, long, one_place l differ (suc p.place) q.place v a q.from, one_place l differ 0 p.place u (first u b.1) p.from, b.0)
  by (inr a) (inl b) = omega (arith, long, one_place l differ 0 q.place v (first v a.1) q.from, one_place l differ (suc q.place) p.place u b p.from, a.0)
  by (inr a) (inr b) = omega (arith, long, one_place l differ 0 q.place v (first v a.1) q.from, one_place l differ 0 p.place u (first u b.1) p.from, a.0)

-- different vertices stay different in parts
left_different : (xs ys : List ℕ) → AreDifferent (xs ++ ys) → AreDifferent xs
left_different xs ys differ i j less low e =
    differ i j less (omega (arith, low, length-append xs ys)) (get_or_append_left xs ys 0 i (omega (arith, less, low)) ∙ e ∙ sym (get_or_append_left xs ys 0 j low))

right_different : (xs ys : List ℕ) → AreDifferent (xs ++ ys) → AreDifferent ys
right_different xs ys differ i j less low e =
    differ (length xs + i) (length xs + j) (omega (arith, less)) (omega (arith, low, length-append xs ys)) (get_or-append-add xs ys i 0 ∙ e ∙ sym (get_or-append-add xs ys j 0))

-- and none is in both
apart_in : (xs ys : List ℕ) → AreDifferent (xs ++ ys) → (i j v : ℕ) → At xs i v → At ys j v → ⊥
apart_in xs ys differ i j v a b =
    differ i (length xs + j) (omega (arith, a.low)) (omega (arith, b.low, length-append xs ys))
    (get_or_append_left xs ys 0 i a.low ∙ a.is ∙ sym (get_or-append-add xs ys j 0 ∙ b.is))

-- an edge of some loop starts and ends at vertices of the loops
pub ends_in : (loops : List (List ℕ)) (u v : ℕ) → Contains (flat_map round_edges loops) (u, v) → ((i : ℕ) × At (concat loops) i u) × ((j : ℕ) × At (concat loops) j v)
ends_in [] u v (k, low, e) = absurd (omega (arith, low))
ends_in (l ∷ ls) u v c = elim (Contains-append_cases (round_edges l) (flat_map round_edges ls) (u, v) c)
    as (λ _. ((i : ℕ) × At (l ++ concat ls) i u) × ((j : ℕ) × At (l ++ concat ls) j v)) [
      | inl a ↦
          let p = round_place l u v a in
          let e = round_end l u v p in
          ((p.place, here p.place u p.from), (e.0, here e.0 v e.1))
      | inr b ↦ let r = ends_in ls u v b in ((length l + r.0.0, later r.0.0 u r.0.1), (length l + r.1.0, later r.1.0 v r.1.1))
    ]
  where
    here : (i w : ℕ) → At l i w → At (l ++ concat ls) i w
    here i w a = record { low = omega (arith, a.low, length-append l (concat ls)); is = get_or_append_left l (concat ls) 0 i a.low ∙ a.is }

    later : (i w : ℕ) → At (concat ls) i w → At (l ++ concat ls) (length l + i) w
    later i w a = record { low = omega (arith, a.low, length-append l (concat ls)); is = get_or-append-add l (concat ls) i 0 ∙ a.is }

pub no_edge_returns : (loops : List (List ℕ)) → AreDifferent (concat loops) → All (λ loop. 3 ≤ length loop) loops →
    (v w : ℕ) → Contains (flat_map round_edges loops) (v, w) → Contains (flat_map round_edges loops) (w, v) → ⊥
no_edge_returns [] differ long v w (k, low, e) back = omega (arith, low)
no_edge_returns (l ∷ ls) differ long v w there back =
    by (Contains-append_cases (round_edges l) (flat_map round_edges ls) (v, w) there) (Contains-append_cases (round_edges l) (flat_map round_edges ls) (w, v) back)
    (no_edge_returns ls (right_different l (concat ls) differ) (All-tail (λ loop. 3 ≤ length loop) l ls long) v w)
  where
    by : Contains (round_edges l) (v, w) ⊎ Contains (flat_map round_edges ls) (v, w) → Contains (round_edges l) (w, v) ⊎ Contains (flat_map round_edges ls) (w, v) →
        (Contains (flat_map round_edges ls) (v, w) → Contains (flat_map round_edges ls) (w, v) → ⊥) → ⊥
    by (inl a) (inl b) rest = no_return_round l (left_different l (concat ls) differ) (All-head (λ loop. 3 ≤ length loop) l ls long) v w (round_place l v w a) (round_place l w v b)
    by (inr a) (inr b) rest = rest a b
    by (inl a) (inr b) rest = let p = round_place l v w a in let r = ends_in ls w v b in apart_in l (concat ls) differ p.place r.1.0 v p.from r.1.1
    by (inr a) (inl b) rest = let p = round_place l w v b in let r = ends_in ls v w a in apart_in l (concat ls) differ p.place r.1.0 w p.from r.1.1
