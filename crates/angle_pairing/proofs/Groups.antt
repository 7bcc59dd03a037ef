-- What lies in the groups of pairs that are the same.
use Rattle.std.proofs.Common.{◌≡◌, ◌<◌, ℕ, true, List, [], length, get_or, filter, sym, ◌∙◌, ap, subst, arith, inl, inr}
use Rattle.std.specs.Prelude.{◌==◌}
use Rattle.std.specs.List.{All, Contains}
use Rattle.std.proofs.lemmas.Bool.{both_ways, cases_Bool, eq-eqb, ne_eqb}
use Rattle.std.proofs.lemmas.List.{get_or_default, get_or_read}
use Rattle.chain_terms.specs.Sums.{upto}
use Rattle.chain_laws.specs.Ascending.{Ascends}
use Rattle.chain_laws.proofs.Ascending.{filter-ascends, filter-upto_same, kept, kept_at}
use Rattle.places_by_key.specs.Buckets.{places_of}
use Rattle.places_by_key.proofs.Upto.{get_or-map-upto, length-map-upto}
use Rattle.sheet_terms.specs.Chains.{same_edge}
use Rattle.sheet_terms.specs.Vertices.{first_as}
use Rattle.fan_laws.proofs.Members.{at_place, edge_at, first_not_behind, first_same, firsts_one, same_from, same_means}
use Rattle.angle_pairing.specs.Gathered.{AreGathered}

-- those that are the same as pair h
abbrev pub alike_with : List (ℕ × ℕ) → ℕ → List ℕ
alike_with pairs h = filter (λ i. same_edge (edge_at pairs i) (edge_at pairs h)) (upto (length pairs))

module _ (pairs : List (ℕ × ℕ)) (firsts : List ℕ) (groups : List (List ℕ)) (are : AreGathered pairs firsts groups) where
  n : ℕ
  n = length pairs

  pub many_firsts : length firsts ≡ length pairs
  many_firsts = ap length are.firsts_are ∙ length-map-upto (first_as pairs) (length pairs)

  pub many_groups : length groups ≡ length pairs
  many_groups = ap length are.groups_are ∙ length-map-upto (places_of firsts) (length pairs)

  pub first_read : (h : ℕ) → h < length pairs → get_or firsts h 0 ≡ first_as pairs h
  first_read h low = ap (λ l. get_or l h 0) are.firsts_are ∙ get_or-map-upto (first_as pairs) (length pairs) h 0 low

  pub first_low : (h : ℕ) → h < length pairs → get_or firsts h 0 < length pairs
  first_low h low = omega (arith, first_read h low, first_not_behind pairs h low, low)

  -- one first for two pairs exactly where they are the same
  same_tests : (h i : ℕ) → h < length pairs → i < length pairs → (get_or firsts i 0 == get_or firsts h 0) ≡ same_edge (edge_at pairs i) (edge_at pairs h)
  same_tests h i h_low i_low =
      elim (cases_Bool (same_edge (edge_at pairs i) (edge_at pairs h))) as (λ _. (get_or firsts i 0 == get_or firsts h 0) ≡ same_edge (edge_at pairs i) (edge_at pairs h)) [
        | inl same ↦
            eq-eqb (get_or firsts i 0) (get_or firsts h 0) (first_read i i_low ∙ firsts_one pairs i h i_low h_low same ∙ sym (first_read h h_low)) ∙ sym same
        | inr other ↦
            ne_eqb (get_or firsts i 0) (get_or firsts h 0)
            (λ e.
            let one : first_as pairs i ≡ first_as pairs h = sym (first_read i i_low) ∙ e ∙ first_read h h_low in
            let p = same_means (edge_at pairs i) (edge_at pairs (first_as pairs i)) (first_same pairs i i_low) in
            let q = same_means (edge_at pairs h) (edge_at pairs (first_as pairs h)) (first_same pairs h h_low) in
            both_ways (same_edge (edge_at pairs i) (edge_at pairs h)) other
            (same_from (edge_at pairs i) (edge_at pairs h) (p.0 ∙ ap (λ k. (edge_at pairs k).0) one ∙ sym q.0) (p.1 ∙ ap (λ k. (edge_at pairs k).1) one ∙ sym q.1)))
            ∙ sym other
      ]

  -- so the group of a pair is all that are the same
  pub group_is : (h : ℕ) → h < length pairs → get_or groups (get_or firsts h 0) [] ≡ alike_with pairs h
  group_is h low =
      ap (λ (l : List (List ℕ)). get_or l (get_or firsts h 0) []) are.groups_are ∙ get_or-map-upto (places_of firsts) (length pairs) (get_or firsts h 0) [] (first_low h low)
      ∙ ap (λ m. filter (λ i. get_or firsts i 0 == get_or firsts h 0) (upto m)) many_firsts
      ∙ filter-upto_same (λ i. get_or firsts i 0 == get_or firsts h 0) (λ i. same_edge (edge_at pairs i) (edge_at pairs h)) (length pairs) (λ i i_low. same_tests h i low i_low)

-- the first of a pair as it was read, and its group
pub read_first : (pairs : List (ℕ × ℕ)) (firsts : List ℕ) (groups : List (List ℕ)) → AreGathered pairs firsts groups → (h : ℕ) → h < length pairs → (x : ℕ) →
    x ≡ get_or firsts h x → x ≡ get_or firsts h 0
read_first pairs firsts groups are h low x is = get_or_read firsts h x (omega (arith, low, many_firsts pairs firsts groups are)) is 0

pub read_group : (pairs : List (ℕ × ℕ)) (firsts : List ℕ) (groups : List (List ℕ)) → AreGathered pairs firsts groups → (es : List (ℕ × ℕ)) → pairs ≡ es → (h : ℕ) →
    h < length es → (x : ℕ) (bucket : List ℕ) → x ≡ get_or firsts h x → bucket ≡ get_or groups x [] → bucket ≡ alike_with es h
read_group pairs firsts groups are es same h low x bucket is bucket_is =
    let many = ap length same in
    let pair_low : h < length pairs = omega (arith, low, many) in
    bucket_is ∙ ap (λ k. get_or groups k []) (read_first pairs firsts groups are h pair_low x is) ∙ group_is pairs firsts groups are h pair_low ∙ ap (λ p. alike_with p h) same

-- members of a group
pub alike_below : (pairs : List (ℕ × ℕ)) (h : ℕ) → All (λ i. i < length pairs) (alike_with pairs h)
alike_below pairs h k d low =
    subst (λ i. i < length pairs) (get_or_default (alike_with pairs h) k 0 d low)
    (let is = kept_at (λ i. same_edge (edge_at pairs i) (edge_at pairs h)) 0 (length pairs) k low in omega (arith, is.high))

pub alike_ascends : (pairs : List (ℕ × ℕ)) (h : ℕ) → Ascends (alike_with pairs h)
alike_ascends pairs h = filter-ascends (λ i. same_edge (edge_at pairs i) (edge_at pairs h)) 0 (length pairs)

pub alike_member : (pairs : List (ℕ × ℕ)) (h i : ℕ) → i < length pairs → same_edge (edge_at pairs i) (edge_at pairs h) ≡ true → Contains (alike_with pairs h) i
alike_member pairs h i low same =
    kept (λ j. same_edge (edge_at pairs j) (edge_at pairs h)) 0 (length pairs) i (record { low = omega arith; high = omega (arith, low); passes = same })

pub member_alike : (pairs : List (ℕ × ℕ)) (h i : ℕ) → Contains (alike_with pairs h) i → (i < length pairs) × (same_edge (edge_at pairs i) (edge_at pairs h) ≡ true)
member_alike pairs h i there =
    let place = at_place (alike_with pairs h) i there in
    let is = kept_at (λ j. same_edge (edge_at pairs j) (edge_at pairs h)) 0 (length pairs) place.0 place.1 in
    (omega (arith, is.high, place.2), ap (λ j. same_edge (edge_at pairs j) (edge_at pairs h)) (sym place.2) ∙ is.passes)
