-- Collapses one after the other: what was made so far, and what is left to do, is tidying by the definition.
use Rattle.std.proofs.Common.{◌≡◌, ℕ, zero, suc, ◌+◌, ◌*◌, ◌<◌, ◌≤◌, ◌⊎◌, inl, inr, Bool, true, false, ℤ, List, [], ◌∷◌, ◌++◌, length, refl, sym, ap, ◌∙◌, arith}
use Rattle.std.specs.Prelude.{cond, nat_lt}
use Rattle.std.specs.List.{All}
use Rattle.std.proofs.lemmas.Bool.{both_ways, cases_Bool}
use Rattle.std.proofs.lemmas.Bool.Decides.{Decides-ltb}
use Rattle.chain_terms.specs.Chains.{all_edges}
use Rattle.chain_terms.specs.Ranks.{start, finish, twin}
use Rattle.halfedge.proofs.Edges.{length-all_edges}
use Rattle.mesh_check.specs.Opposites.{third_vertex}
use Rattle.mesh_check.specs.Reduced.{picked}
use Rattle.mesh_terms.specs.Meshes.{Triple}
use Rattle.tidy_terms.specs.Collapse.{collapsed_at, labels_left_at}
use Rattle.tidy_terms.specs.Collapsible.{is_collapsible, least_collapsible}
use Rattle.tidy_terms.specs.Tidy.{Tidied, one_more, tidied}
use Rattle.tidy_laws.proofs.Steps.{Rests, tidied_rests, tidied_steps}
use Rattle.tidy_laws.proofs.Tidying.{AreGood, are_met, can_of, least_can}
use Rattle.tidy_laws.proofs.TwoGo.{two_go}
use Rattle.mesh_tidy.specs.Doubts.{AreDoubted, HasLesserAtOne}
use Rattle.mesh_tidy.specs.TidySurface.{TidySurface, Has, HasCollapsed, HasTidied, labels_of, left_of, number_of}
use Rattle.mesh_tidy.proofs.Left.{before, number_below}

-- so many collapses before
abbrev pub after : ℕ → Tidied → Tidied
after n t = record { triples = t.triples; labels = t.labels; collapses = n + t.collapses }

-- no more are picked than there are
pub picked_most : {X : Type 0} (ms : List Bool) (xs : List X) → length (picked ms xs) ≤ length xs
picked_most [] xs = omega arith
picked_most (m ∷ ms) [] = omega arith
picked_most (true ∷ ms) (x ∷ xs) = omega (arith, picked_most ms xs)
picked_most (false ∷ ms) (x ∷ xs) = omega (arith, picked_most ms xs)

-- a list without a member
pub none_there : {X : Type 0} (xs : List X) → (0 < length xs → ⊥) → xs ≡ []
none_there [] none = refl
none_there (x ∷ xs) none = absurd (none (omega arith))

-- the first surface is tidied as the second is, with so many collapses before
abbrev pub HasCome : List (List ℤ) → TidySurface → TidySurface → ℕ → Type 0
HasCome points first now n =
    (labels : List (List ℕ)) → length labels ≡ length first.triples → tidied points (left_of first) (labels_of first labels)
    ≡ after n (tidied points (left_of now) (labels_of now labels))

module _ (points : List (List ℤ)) (each : All (λ p. length p ≡ 3) points) where
  -- where a half-edge that can be collapsed would be in doubt, and none is
  none_rests : (ts : List Triple) → ((h : ℕ) → h < 3 * length ts → is_collapsible points ts h ≡ true → ⊥) → Rests points each ts
  none_rests ts none = by (cases_Bool (nat_lt (least_collapsible points ts) (3 * length ts))) where
    by : (nat_lt (least_collapsible points ts) (3 * length ts) ≡ true) ⊎ (nat_lt (least_collapsible points ts) (3 * length ts) ≡ false) → Rests points each ts
    by (inl y) = let l = least_can points each ts y in absurd (none (least_collapsible points ts) l.0 l.1)
    by (inr n) = n

  -- triangles without an edge whose ends lie at one point are tidied
  pub listed_rests : (ts : List Triple) → HasLesserAtOne points ts [] → Rests points each ts
  listed_rests ts listed = none_rests ts none where
    none : (h : ℕ) → h < 3 * length ts → is_collapsible points ts h ≡ true → ⊥
    none h low can =
        let met = are_met points (all_edges ts) (start (all_edges ts) h) (finish (all_edges ts) h) (third_vertex ts h) (third_vertex ts (twin (all_edges ts) h)) can in
        let inside = listed h low met.at_one in omega (arith, inside.1)

  -- so are those of a surface with nothing in doubt
  pub doubted_rests : (s : TidySurface) → AreDoubted points s [] → Rests points each (left_of s)
  doubted_rests s all = none_rests (left_of s) none where
    none : (h : ℕ) → h < 3 * length (left_of s) → is_collapsible points (left_of s) h ≡ true → ⊥
    none h low can =
        let b = before s.left s.triples h (omega (arith, low, length-all_edges (left_of s))) in
        let l = all b.half b.marked (ap (is_collapsible points (left_of s)) b.is ∙ can) in
        let inside = l.among in omega (arith, inside.1)

  pub come_none : (s : TidySurface) → HasCome points s s 0
  come_none s labels same =
      let t = tidied points (left_of s) (labels_of s labels) in
      let none : t.collapses ≡ 0 + t.collapses = omega arith in (λ i. record { triples = t.triples; labels = t.labels; collapses = none i })

  -- a collapse of the least that can be
  module _ (first now new : TidySurface) (n h : ℕ) (count : length now.triples ≡ length first.triples) (good : AreGood (length points) (left_of now))
      (has : Has now h) (can : is_collapsible points (left_of now) (number_of now h) ≡ true)
      (least : least_collapsible points (left_of now) ≡ number_of now h) (c : HasCollapsed now new h) where
    abbrev pub ts : List Triple
    ts = left_of now

    low : number_of now h < 3 * length ts
    low = omega (arith, number_below now.left now.triples h has, length-all_edges ts)

    there : nat_lt (least_collapsible points ts) (3 * length ts) ≡ true
    there = (Decides-ltb (least_collapsible points ts) (3 * length ts)).1 (omega (arith, least, low))

    pub come_more : HasCome points first now n → HasCome points first new (n + 1)
    come_more so_far labels same =
        let ls = labels_of now labels in
        let m = least_collapsible points ts in
        let k = number_of now h in
        let rest = tidied points (left_of new) (labels_of new labels) in
        let step = tidied_steps points each ts ls good there in
        let at : one_more (tidied points (collapsed_at ts m) (labels_left_at ts m ls)) ≡ one_more (tidied points (collapsed_at ts k) (labels_left_at ts k ls)) =
        ap (λ n. one_more (tidied points (collapsed_at ts n) (labels_left_at ts n ls))) least in
        let labels_is = c.labels labels (same ∙ sym count) in
        let left : one_more rest ≡ one_more (tidied points (collapsed_at ts k) (labels_left_at ts k ls)) = (λ i. one_more (tidied points (c.left i) (labels_is i))) in
        let more : n + suc rest.collapses ≡ n + 1 + rest.collapses = omega arith in
        so_far labels same ∙ ap (after n) (step ∙ at ∙ sym left) ∙ (λ i. record { triples = rest.triples; labels = rest.labels; collapses = more i })

    pub two_fewer : length (left_of new) + 2 ≡ length (left_of now)
    two_fewer =
        let es = all_edges ts in
        let k = number_of now h in
        omega (arith, ap length c.left, two_go ts k (start es k) (finish es k) (third_vertex ts k) (third_vertex ts (twin es k)) (can_of points ts good k low can))

  -- and where none is left in doubt
  pub come_all : (first now : TidySurface) (n : ℕ) → HasCome points first now n → AreDoubted points now [] → HasTidied points first now n
  come_all first now n so_far none labels same =
      let last : n + 0 ≡ n = omega arith in
      so_far labels same ∙ ap (after n) (tidied_rests points each (left_of now) (labels_of now labels) (doubted_rests now none))
      ∙ (λ i. record { triples = left_of now; labels = labels_of now labels; collapses = last i })
