-- Lists of the boxes of edges, and of the numbers of those that are near.
use Rattle.std.proofs.Common.{◌≡◌, ◌<◌, ◌≤◌, ◌∙◌, ℕ, ℤ, Bool, List, [], ◌∷◌, true, false, ap, arith, filter, get_or, length, refl, subst, suc, sym, zero, cond, inl, inr, ◌≤ℤ◌}
use Rattle.std.specs.Prelude.{◌+◌, ◌⊎◌, Err, Ok, OnOk, Result}
use Rattle.std.specs.Int.{int_max, int_min}
use Rattle.std.specs.List.{All}
use Rattle.std.proofs.lemmas.Bool.{both_ways, cases_Bool}
use Rattle.std.proofs.lemmas.Int.{ints}
use Rattle.std.proofs.lemmas.List.{length-map}
use Rattle.std.proofs.lemmas.List.Elements.{All-filter}
use Rattle.box_tree.specs.Touching.{IsBox, box_at, touches, touching_numbers}
use Rattle.chain_laws.proofs.Places.{get_or-up_from, length-up_from}
use Rattle.chain_terms.specs.Sums.{up_from, upto}
use Rattle.face_plane.specs.Planes.{Plane}
use Rattle.mb_base.specs.declared.point.Box3.{Box3}
use Rattle.plane_chains.specs.EdgeBoxes.{HasTouching, edge_box, edge_boxes, pair_of}
use Rattle.plane_chains.proofs.Crossing.{ends_of}

-- each has its low end before its high one
box_is : (at : Plane) (e : ℕ × ℕ) → IsBox (edge_box at e)
box_is at e = record { x = between (at e.0).0 (at e.1).0; y = between (at e.0).1 (at e.1).1; z = omega (arith, ints) } where
  between : (a b : ℤ) → int_min a b ≤ℤ int_max a b
  between a b = let u = ends_of a b in omega (arith, ints, u.low_a, u.high_a)

pub all_boxes : (at : Plane) (es : List (List ℕ)) → All IsBox (edge_boxes at es)
all_boxes at [] k d h = absurd (omega (arith, h))
all_boxes at (e ∷ es) zero d h = box_is at (pair_of e)
all_boxes at (e ∷ es) (suc k) d h = all_boxes at es k d (omega (arith, h))

-- the numbers of all boxes, and those of the boxes that touch
pub all_touching : (boxes : List Box3) (area : Box3) (near : List ℕ) → near ≡ upto (length boxes) → HasTouching boxes area near
all_touching boxes area near e = record { same = λ p h. ap (filter p) e }

-- a filter of what passes a weaker test
filter_both : (p q : ℕ → Bool) (k n : ℕ) → ((i : ℕ) → k ≤ i → i < k + n → p i ≡ true → q i ≡ true) → filter p (filter q (up_from k n)) ≡ filter p (up_from k n)
filter_both p q k zero h = refl
filter_both p q k (suc n) h =
    by (cases_Bool (q k)) (cases_Bool (p k)) (filter_both p q (suc k) n (λ i l m. h i (omega (arith, l)) (omega (arith, m)))) (h k (omega arith) (omega arith)) where
      by : (q k ≡ true) ⊎ (q k ≡ false) → (p k ≡ true) ⊎ (p k ≡ false) → filter p (filter q (up_from (suc k) n)) ≡ filter p (up_from (suc k) n) → (p k ≡ true → q k ≡ true) →
          filter p (filter q (up_from k (suc n))) ≡ filter p (up_from k (suc n))
      by (inl holds) _ rest needs =
          ap (λ b. filter p (cond b (k ∷ filter q (up_from (suc k) n)) (filter q (up_from (suc k) n)))) holds ∙ ap (λ xs. cond (p k) (k ∷ xs) xs) rest
      by (inr fails) (inl here) rest needs = absurd (both_ways (q k) fails (needs here))
      by (inr fails) (inr out) rest needs =
          ap (λ b. filter p (cond b (k ∷ filter q (up_from (suc k) n)) (filter q (up_from (suc k) n)))) fails
          ∙ rest ∙ ap (λ b. cond b (k ∷ filter p (up_from (suc k) n)) (filter p (up_from (suc k) n))) (sym out)

pub found_touching : (boxes : List Box3) (area : Box3) (near : List ℕ) → near ≡ touching_numbers boxes area → HasTouching boxes area near
found_touching boxes area near e = record {
  same = λ p h. ap (filter p) e ∙ filter_both p (λ k. touches (box_at boxes k) area) 0 (length boxes) (λ i l m. h i (omega (arith, m)));
}

-- what is among the first numbers is below
pub below_upto : (n : ℕ) (near : List ℕ) → near ≡ upto n → All (λ k. k < n) near
below_upto n near e k d h =
    let low : k < n = omega (arith, h, ap length e, length-up_from 0 n) in omega (arith, ap (λ xs. get_or xs k d) e, get_or-up_from 0 n k d low, low)

pub below_touching : (boxes : List Box3) (area : Box3) (near : List ℕ) → near ≡ touching_numbers boxes area → All (λ k. k < length boxes) near
below_touching boxes area near e =
    subst (λ xs. All (λ k. k < length boxes) xs) (sym e)
    (All-filter (λ k. touches (box_at boxes k) area) (λ k. k < length boxes) (upto (length boxes)) (below_upto (length boxes) (upto (length boxes)) refl))

-- over the boxes of edges
pub found_below : (at : Plane) (es : List (List ℕ)) (tree : List Box3) (area : Box3) (near : List ℕ) → tree ≡ edge_boxes at es → near ≡ touching_numbers tree area →
    All (λ k. k < length es) near
found_below at es tree area near same e k d h =
    let low = below_touching tree area near e k d h in omega (arith, low, ap length same, length-map es (λ x. edge_box at (pair_of x)))

pub found_near : (at : Plane) (es : List (List ℕ)) (tree : List Box3) (area : Box3) (near : List ℕ) → tree ≡ edge_boxes at es → near ≡ touching_numbers tree area →
    HasTouching (edge_boxes at es) area near
found_near at es tree area near same e = found_touching (edge_boxes at es) area near (e ∙ ap (λ bs. touching_numbers bs area) same)

-- a fact that follows where a result is Ok
pub on_ok : {T E : Type 0} {P Q : Type 0} (r : Result T E) → (P → Q) → OnOk r P → OnOk r Q
on_ok (Ok x) f p = f p
on_ok (Err e) f p = p
