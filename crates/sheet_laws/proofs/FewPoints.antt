-- An accepted mesh has at most three points for two triangles: each point is the place of some fan.
use Rattle.std.specs.Prelude.{◌≡◌, ◌⊎◌, ℕ, ◌*◌, ◌<◌, ◌≤◌, ℤ, List, [], ◌∷◌, true, ◌||◌, ◌==◌, get_or, length, map}
use Rattle.std.specs.List.{All, list_any, position_or_len}
use Rattle.std.proofs.Common.{arith, ap, ◌∙◌, inl, inr}
use Rattle.std.proofs.lemmas.Bool.{eqb-true, or_cases}
use Rattle.std.proofs.lemmas.List.Elements.{All-head, All-tail}
use Rattle.chain_laws.proofs.Walks.{different_below}
use Rattle.mesh_terms.specs.Meshes.{IsAccepted, IsBelow, Triple, has, is_used}
use Rattle.pinch_split.specs.Back.{named_by}
use Rattle.fan_laws.specs.Laws.{IsParted, parted}
use Rattle.fan_laws.proofs.Parted.{can_part, fans_part}
use Rattle.sheet_laws.proofs.Firsts.{some_member}
use Rattle.sheet_laws.proofs.Standing.{Stands, stands}

module _ (from : List ℕ) where
  at_corner : (k v : ℕ) → k < length from → (get_or from k 0 == v) ≡ true → list_any (λ x. x == v) from ≡ true
  at_corner k v low h = some_member (λ x. x == v) from k 0 low h

  -- a vertex that is used is the place of one of the vertices of the triangles
  used_from : (ts : List Triple) (v : ℕ) → All (IsBelow (length from)) ts → is_used (map (named_by from) ts) v ≡ true → list_any (λ x. x == v) from ≡ true
  used_from [] v below h = absurd cc
  used_from (t ∷ ts) v below h = by (or_cases (has (named_by from t) v) (is_used (map (named_by from) ts) v) h) (used_from ts v (All-tail (IsBelow (length from)) t ts below))
    where
      here : IsBelow (length from) t
      here = All-head (IsBelow (length from)) t ts below

      by : (has (named_by from t) v ≡ true) ⊎ (is_used (map (named_by from) ts) v ≡ true) →
          (is_used (map (named_by from) ts) v ≡ true → list_any (λ x. x == v) from ≡ true) → list_any (λ x. x == v) from ≡ true
      by (inr later) rest = rest later
      by (inl h) rest = one (or_cases ((get_or from t.0 0 == v) || (get_or from t.1 0 == v)) (get_or from t.2 0 == v) h)
        where
          two : ((get_or from t.0 0 == v) ≡ true) ⊎ ((get_or from t.1 0 == v) ≡ true) → list_any (λ x. x == v) from ≡ true
          two (inl a) = at_corner t.0 v here.a a
          two (inr b) = at_corner t.1 v here.b b

          one : (((get_or from t.0 0 == v) || (get_or from t.1 0 == v)) ≡ true) ⊎ ((get_or from t.2 0 == v) ≡ true) → list_any (λ x. x == v) from ≡ true
          one (inl ab) = two (or_cases (get_or from t.0 0 == v) (get_or from t.1 0 == v) ab)
          one (inr c) = at_corner t.2 v here.c c

pub few_of : (points : List (List ℤ)) (ts : List Triple) → IsAccepted (length points) ts → 2 * length points ≤ 3 * length ts
few_of points ts accepted = omega (arith, is.few, many)
  where
    is : IsParted (length points) ts (parted points ts)
    is = fans_part points ts (can_part (length points) ts accepted)

    from : List ℕ
    from = (parted points ts).from

    at : ℕ → ℕ
    at v = position_or_len (λ x. x == v) from

    there : (v : ℕ) → v < length points → Stands (λ x. x == v) from 0 (at v)
    there v low =
        stands (λ x. x == v) from 0
        (used_from from (parted points ts).triples v is.accepted.mesh.below (ap (λ us. is_used us v) is.back ∙ accepted.mesh.used v low))

    apart : (i j : ℕ) → i < j → j < length points → at i ≡ at j → ⊥
    apart i j less low same =
        let a = eqb-true (get_or from (at i) 0) i (there i (omega (arith, less, low))).passes in
        let b = eqb-true (get_or from (at j) 0) j (there j low).passes in
        omega (arith, less, a, b, ap (λ k. get_or from k 0) same)

    many : length points ≤ length from
    many = different_below at (length points) (length from) (λ v low. (there v low).low) apart
