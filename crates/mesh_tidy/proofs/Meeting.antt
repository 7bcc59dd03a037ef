-- Whether the ends of a star meet marks: of its half-edges one by one, and of the vertices joined to its own.
use Rattle.std.proofs.Common.{◌≡◌, ◌/◌, ◌<◌, ◌⊎◌, inl, inr, ℕ, zero, suc, Bool, true, false, List, [], ◌∷◌, length, get_or, refl, sym, ap, ◌∙◌, arith}
use Rattle.std.specs.Prelude.{◌↔◌, IsTrue, count_by, not, ◌&&◌, ◌==◌}
use Rattle.std.specs.List.{All}
use Rattle.std.proofs.lemmas.Bool.{and_from, and_parts, both_ways, cases_Bool, eqb-true, eq-eqb}
use Rattle.chain_terms.specs.Chains.{all_edges, dir, one_if}
use Rattle.chain_terms.specs.Ranks.{finish}
use Rattle.chain_laws.specs.Counts.{count_by-cons, one_if-true}
use Rattle.mesh_terms.specs.Meshes.{IsBelow, Triple}
use Rattle.tidy_laws.proofs.Near.{found}
use Rattle.tidy_laws.proofs.Tidying.{finish_below}
use Rattle.mesh_tidy.specs.Neighbours.{AreNeighboursMarked, MeetOnly, ends_at, meets_another}
use Rattle.mesh_tidy.specs.TidySurface.{TidySurface, IsSurface, left_of}
use Rattle.mesh_tidy.proofs.Asking.{met_only, only_met}
use Rattle.mesh_tidy.proofs.Queue.{surface_good}

-- a member that passes, where there is one
pub record Passes (p : ℕ → Bool) (xs : List ℕ) : Type 0 where
  pub at : ℕ
  pub low : at < length xs
  pub passes : p (get_or xs at 0) ≡ true

pub some_passes : (p : ℕ → Bool) (xs : List ℕ) → 0 < count_by p xs → Passes p xs
some_passes p [] some = absurd (omega (arith, some))
some_passes p (x ∷ xs) some = elim (cases_Bool (p x)) as (λ _. Passes p (x ∷ xs)) [
  | inl y ↦ record { at = 0; low = omega arith; passes = y }
  | inr n ↦ let r = some_passes p xs (omega (arith, some, count_by-cons p x xs, ap one_if n)) in record { at = suc r.at; low = omega (arith, r.low); passes = r.passes }
]

-- and then some do
pub passes_some : (p : ℕ → Bool) (xs : List ℕ) (i : ℕ) → i < length xs → p (get_or xs i 0) ≡ true → 0 < count_by p xs
passes_some p [] i low y = absurd (omega (arith, low))
passes_some p (x ∷ xs) zero low y = omega (arith, count_by-cons p x xs, one_if-true (p x) y)
passes_some p (x ∷ xs) (suc i) low y = omega (arith, count_by-cons p x xs, passes_some p xs i (omega (arith, low)) y)

-- no vertex to which an edge runs has a mark, but c and d
abbrev pub MeetsOnly : TidySurface → List Bool → ℕ → ℕ → ℕ → Type 0
MeetsOnly s met vertex c d = (v : ℕ) → 0 < dir (all_edges (left_of s)) vertex v → get_or met v false ≡ true → (v ≡ c) ⊎ (v ≡ d)

module _ (s : TidySurface) (met : List Bool) (c d : ℕ) where
  abbrev to : ℕ → ℕ
  to h = finish (all_edges s.triples) h

  -- one that meets no other, but is left and ends at a mark, ends at c or d
  one_of : (v : ℕ) → get_or met v false ≡ true → (x y z : Bool) → (v == c) ≡ y → (v == d) ≡ z → get_or met v false ≡ x → (x && (not y && not z)) ≡ false → (v ≡ c) ⊎ (v ≡ d)
  one_of v on x true z e f m off = inl (eqb-true v c e)
  one_of v on x false true e f m off = inr (eqb-true v d f)
  one_of v on true false false e f m off = absurd (both_ways true off refl)
  one_of v on false false false e f m off = absurd (both_ways (get_or met v false) m on)

  ends_among : (h v : ℕ) → meets_another s met c d h ≡ false → ends_at s v h ≡ true → get_or met v false ≡ true → (v ≡ c) ⊎ (v ≡ d)
  ends_among h v off ends on =
      let parts = and_parts (get_or s.left (h / 3) false) (to h == v) ends in
      let is = eqb-true (to h) v parts.1 in
      let left : (get_or s.left (h / 3) false && (get_or met v false && (not (v == c) && not (v == d)))) ≡ false =
      sym (ap (λ w. get_or s.left (h / 3) false && (get_or met w false && (not (w == c) && not (w == d)))) is) ∙ off in
      let rest : (get_or met v false && (not (v == c) && not (v == d))) ≡ false = sym (ap (λ b. b && (get_or met v false && (not (v == c) && not (v == d)))) parts.0) ∙ left in
      one_of v on (get_or met v false) (v == c) (v == d) refl refl refl rest

  module _ (star : List ℕ) (vertex : ℕ) (counts : (w : ℕ) → dir (all_edges (left_of s)) vertex w ≡ count_by (ends_at s w) star) where
    -- where none of the star meets another
    pub meets_only : All (λ h. meets_another s met c d h ≡ false) star → MeetsOnly s met vertex c d
    meets_only none v some on =
        let p = some_passes (ends_at s v) star (omega (arith, some, counts v)) in
        ends_among (get_or star p.at 0) v (none p.at 0 p.low) p.passes on

    -- and where one does
    pub meets_more : (i : ℕ) → i < length star → meets_another s met c d (get_or star i 0) ≡ true → MeetsOnly s met vertex c d → ⊥
    meets_more i low met_one only = neither (only (to h) (omega (arith, counts (to h), some)) two.0) where
      h : ℕ
      h = get_or star i 0

      one : (get_or s.left (h / 3) false ≡ true) × ((get_or met (to h) false && (not (to h == c) && not (to h == d))) ≡ true)
      one = and_parts (get_or s.left (h / 3) false) (get_or met (to h) false && (not (to h == c) && not (to h == d))) met_one

      two : (get_or met (to h) false ≡ true) × ((not (to h == c) && not (to h == d)) ≡ true)
      two = and_parts (get_or met (to h) false) (not (to h == c) && not (to h == d)) one.1

      three : (not (to h == c) ≡ true) × (not (to h == d) ≡ true)
      three = and_parts (not (to h == c)) (not (to h == d)) two.1

      some : 0 < count_by (ends_at s (to h)) star
      some = passes_some (ends_at s (to h)) star i low (and_from (get_or s.left (h / 3) false) (to h == to h) one.0 (eq-eqb (to h) (to h) refl))

      neither : (to h ≡ c) ⊎ (to h ≡ d) → ⊥
      neither (inl e) = both_ways true (sym three.0 ∙ ap not (eq-eqb (to h) c e)) refl
      neither (inr e) = both_ways true (sym three.1 ∙ ap not (eq-eqb (to h) d e)) refl

-- edges end at vertices
joined_below : (n : ℕ) (ts : List Triple) → All (IsBelow n) ts → (v w : ℕ) → 0 < dir (all_edges ts) v w → w < n
joined_below n ts below v w some = let f = found (all_edges ts) v w some in omega (arith, finish_below n ts below f.place f.runs.low, f.runs.to)

-- where the neighbours of a have marks, those of b with one are just the common ones
pub meet_just : (s : TidySurface) → IsSurface s → (a b c d : ℕ) (old met : List Bool) → length old ≡ s.vertices → All (λ mark. mark ≡ false) old →
    AreNeighboursMarked (all_edges (left_of s)) a true old met →
    (result : Bool) → IsTrue result ↔ MeetsOnly s met b c d → IsTrue result ↔ MeetOnly (all_edges (left_of s)) a b c d
meet_just s whole a b c d old met full none marked result told = (
  λ none_else. met_only (all_edges (left_of s)) a b c d old met none marked (inside a) (told.0 none_else),
  λ only. told.1 (only_met (all_edges (left_of s)) a b c d old met none marked (inside b) only),
)
  where
    inside : (u v : ℕ) → 0 < dir (all_edges (left_of s)) u v → v < length old
    inside u v some = omega (arith, full, joined_below s.vertices (left_of s) (surface_good s s.vertices refl whole).below u v some)
