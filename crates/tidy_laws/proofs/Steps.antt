-- Tidying step by step: one collapse and the rest, or nothing to do.
use Rattle.std.proofs.Common.{◌≡◌, ℕ, zero, suc, ◌*◌, ◌<◌, ◌≤◌, ◌⊎◌, inl, inr, true, false, ℤ, List, length, refl, ap, ◌∙◌, sym, arith}
use Rattle.std.specs.Prelude.{nat_lt, if◌then◌else◌}
use Rattle.std.specs.List.{All}
use Rattle.std.proofs.lemmas.Bool.{cases_Bool}
use Rattle.std.proofs.lemmas.Bool.Decides.{Decides-ltb}
use Rattle.chain_terms.specs.Chains.{all_edges}
use Rattle.chain_terms.specs.Ranks.{start, finish, twin}
use Rattle.halfedge.proofs.Edges.{length-all_edges}
use Rattle.mesh_check.specs.Opposites.{third_vertex}
use Rattle.mesh_terms.specs.Meshes.{Triple}
use Rattle.tidy_terms.specs.Collapse.{collapsed_at, labels_left_at}
use Rattle.tidy_terms.specs.Collapsible.{least_collapsible}
use Rattle.tidy_terms.specs.Tidy.{one_more, tidied, tidied_within}
use Rattle.tidy_laws.proofs.Tidying.{AreGood, can_of, fewer, good_stay, least_can, start_below}

module _ (points : List (List ℤ)) (each : All (λ p. length p ≡ 3) points) where
  -- nothing to do
  abbrev pub Rests : List Triple → Type 0
  Rests ts = nat_lt (least_collapsible points ts) (3 * length ts) ≡ false

  rest_within : (n : ℕ) (ts : List Triple) (labels : List (List ℕ)) → Rests ts → tidied_within n points ts labels ≡ record { triples = ts; labels = labels; collapses = 0 }
  rest_within zero ts labels none = refl
  rest_within (suc n) ts labels none =
      let h = least_collapsible points ts in
      ap (λ b. if b then one_more (tidied_within n points (collapsed_at ts h) (labels_left_at ts h labels)) else record { triples = ts; labels = labels; collapses = 0 }) none

  pub tidied_rests : (ts : List Triple) (labels : List (List ℕ)) → Rests ts → tidied points ts labels ≡ record { triples = ts; labels = labels; collapses = 0 }
  tidied_rests ts labels none = rest_within (length ts) ts labels none

  -- a collapse leaves good triangles, and fewer
  pub record Leaves (ts : List Triple) : Type 0 where
    pub good : AreGood (length points) (collapsed_at ts (least_collapsible points ts))
    pub fewer : length (collapsed_at ts (least_collapsible points ts)) < length ts

  leaves : (ts : List Triple) → AreGood (length points) ts → nat_lt (least_collapsible points ts) (3 * length ts) ≡ true → Leaves ts
  leaves ts good there =
      let h = least_collapsible points ts in
      let l = least_can points each ts there in
      let a = start (all_edges ts) h in
      let b = finish (all_edges ts) h in
      let c = third_vertex ts h in
      let d = third_vertex ts (twin (all_edges ts) h) in
      let can = can_of points ts good h l.0 l.1 in
      record {
        good = good_stay (length points) ts h a b c d can (start_below (length points) ts good.below h (omega (arith, l.0, length-all_edges ts))) good;
        fewer = fewer ts h a b c d can;
      }

  -- as many steps as there are triangles are enough: more give the same
  enough : (n m : ℕ) (ts : List Triple) (labels : List (List ℕ)) → AreGood (length points) ts → length ts ≤ n → length ts ≤ m →
      tidied_within n points ts labels ≡ tidied_within m points ts labels
  enough zero m ts labels good n_low m_low = sym (rest_within m ts labels (none_below (cases_Bool (nat_lt (least_collapsible points ts) (3 * length ts))))) where
    none_below : (nat_lt (least_collapsible points ts) (3 * length ts) ≡ true) ⊎ (nat_lt (least_collapsible points ts) (3 * length ts) ≡ false) → Rests ts
    none_below (inl y) = absurd (omega (arith, n_low, (Decides-ltb (least_collapsible points ts) (3 * length ts)).0 y))
    none_below (inr k) = k
  enough (suc n) zero ts labels good n_low m_low = rest_within (suc n) ts labels (none_below (cases_Bool (nat_lt (least_collapsible points ts) (3 * length ts)))) where
    none_below : (nat_lt (least_collapsible points ts) (3 * length ts) ≡ true) ⊎ (nat_lt (least_collapsible points ts) (3 * length ts) ≡ false) → Rests ts
    none_below (inl y) = absurd (omega (arith, m_low, (Decides-ltb (least_collapsible points ts) (3 * length ts)).0 y))
    none_below (inr k) = k
  enough (suc n) (suc m) ts labels good n_low m_low =
      by (cases_Bool (nat_lt (least_collapsible points ts) (3 * length ts))) (λ us ls us_good n_us m_us. enough n m us ls us_good n_us m_us) where
        rest : List Triple
        rest = collapsed_at ts (least_collapsible points ts)

        left : List (List ℕ)
        left = labels_left_at ts (least_collapsible points ts) labels

        by : (nat_lt (least_collapsible points ts) (3 * length ts) ≡ true) ⊎ (nat_lt (least_collapsible points ts) (3 * length ts) ≡ false) →
            ((us : List Triple) (ls : List (List ℕ)) → AreGood (length points) us → length us ≤ n → length us ≤ m → tidied_within n points us ls ≡ tidied_within m points us ls) →
            tidied_within (suc n) points ts labels ≡ tidied_within (suc m) points ts labels
        by (inl y) same =
            let l = leaves ts good y in
            ap (λ t. if nat_lt (least_collapsible points ts) (3 * length ts) then one_more t else record { triples = ts; labels = labels; collapses = 0 })
            (same rest left l.good (omega (arith, n_low, l.fewer)) (omega (arith, m_low, l.fewer)))
        by (inr k) same = rest_within (suc n) ts labels k ∙ sym (rest_within (suc m) ts labels k)

  -- so tidying is one collapse, and then tidying what is left
  pub tidied_steps : (ts : List Triple) (labels : List (List ℕ)) → AreGood (length points) ts → nat_lt (least_collapsible points ts) (3 * length ts) ≡ true →
      tidied points ts labels ≡ one_more (tidied points (collapsed_at ts (least_collapsible points ts)) (labels_left_at ts (least_collapsible points ts) labels))
  tidied_steps ts labels good there = by (length ts) refl
    where
      rest : List Triple
      rest = collapsed_at ts (least_collapsible points ts)

      left : List (List ℕ)
      left = labels_left_at ts (least_collapsible points ts) labels

      by : (n : ℕ) → length ts ≡ n → tidied points ts labels ≡ one_more (tidied points rest left)
      by zero e = absurd (omega (arith, e, (Decides-ltb (least_collapsible points ts) (3 * length ts)).0 there))
      by (suc n) e =
          let l = leaves ts good there in
          ap (λ k. tidied_within k points ts labels) e
          ∙ ap (λ b. if b then one_more (tidied_within n points rest left) else record { triples = ts; labels = labels; collapses = 0 }) there
          ∙ ap one_more (enough n (length rest) rest left l.good (omega (arith, e, l.fewer)) (omega arith))
