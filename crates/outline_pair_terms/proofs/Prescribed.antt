-- The prescribed vertices of two outlines: what they are copies of, their signs, and that their numbers are conserved.
use Rattle.std.proofs.Common.{◌≡◌, ℕ, zero, suc, ◌<◌, Bool, true, false, cond, ◌==◌, ℤ, pos, List, [], ◌∷◌, length, int_lt, refl, sym, ap, ◌∙◌}
use Rattle.std.specs.Prelude.{nat_abs, replicate, Option, None, Some, IfSome, if◌then◌else◌}
use Rattle.std.specs.Ordering.{int_eq}
use Rattle.std.proofs.lemmas.Bool.Decides.{Decides-int_eq}
use Rattle.std.specs.List.{All, cons_option, filter_map, flat_map}
use Rattle.std.proofs.lemmas.List.Elements.{All-append, All-cons, All-head, All-nil, All-tail}
use Rattle.chain_terms.specs.Sums.{total, upto}
use Rattle.chain_laws.specs.Sums.{total-filter_map, total-flat_map, total-same, total-zero, value_or_zero}
use Rattle.chain_laws.proofs.Places.{one_hit_of, total-places, where_same}
use Rattle.mesh_terms.specs.Points.{coordinate_of}
use Rattle.shadow_kernels.specs.Counts.{count_of}
use Rattle.shadow_kernels.specs.declared.Meet.{Meet}
use Rattle.outline_pair_terms.specs.Lists.{FlatCopy, FlatPrescription, flat_copies_of}
use Rattle.outline_pair_terms.specs.declared.FlatHit.{FlatHit}
use Rattle.outline_pair_terms.specs.Numbers.{FlatSide, FlatTests, edge_at, ends_of, flat_hit, flat_hits, flat_hits_along, flat_number, flat_point}
use Rattle.outline_pair_terms.proofs.Exchange.{all_upto}

-- what holds of what may be left out holds where it is not
if_listed : {X : Type 0} (P : X → Type 0) (x : X) (b : Bool) → P x → IfSome (if b then None else Some x) P
if_listed P x true is = tt
if_listed P x false is = is

-- what holds of a copy of each holds of all copies
all_replicated : {X : Type 0} (P : X → Type 0) (k : ℕ) (x : X) → P x → All P (replicate k x)
all_replicated P zero x h = All-nil P
all_replicated P (suc k) x h = All-cons P x (replicate k x) h (all_replicated P k x h)

-- the copy of what is prescribed
abbrev pub copy_from : FlatPrescription → FlatCopy
copy_from i = record { origin = i.origin; negative = int_lt i.number (pos 0); point = i.point }

pub all_copies : (P : FlatCopy → Type 0) (is : List FlatPrescription) → All (λ i. P (copy_from i)) is → All P (flat_map flat_copies_of is)
all_copies P [] each = All-nil P
all_copies P (i ∷ is) each =
    All-append P (flat_copies_of i) (flat_map flat_copies_of is) (all_replicated P (nat_abs i.number) (copy_from i) (All-head (λ j. P (copy_from j)) i is each))
    (all_copies P is (All-tail (λ j. P (copy_from j)) i is each))

-- what holds of what is there holds of all that is kept
all_kept : {X Y : Type 0} (P : Y → Type 0) (f : X → Option Y) (xs : List X) → All (λ x. IfSome (f x) P) xs → All P (filter_map f xs)
all_kept P f [] each = All-nil P
all_kept {Y = Y} P f (x ∷ xs) each = by (f x) (All-head (λ y. IfSome (f y) P) x xs each) (all_kept P f xs (All-tail (λ y. IfSome (f y) P) x xs each)) where
  by : (o : Option Y) → IfSome o P → All P (filter_map f xs) → All P (cons_option o (filter_map f xs))
  by None h rest = rest
  by (Some y) h rest = All-cons P y (filter_map f xs) h rest

all_joined : {X Y : Type 0} (P : Y → Type 0) (f : X → List Y) (xs : List X) → All (λ x. All P (f x)) xs → All P (flat_map f xs)
all_joined P f [] each = All-nil P
all_joined P f (x ∷ xs) each = All-append P (f x) (flat_map f xs) (All-head (λ y. All P (f y)) x xs each) (all_joined P f xs (All-tail (λ y. All P (f y)) x xs each))

module _ (t : FlatTests) (settle : ℤ → ℤ) (p q : FlatSide) where
  -- a hit is on an edge of each, has their number, and lies at height 0
  pub record IsHit (h : FlatHit) : Type 0 where
    pub on_p : h.p_edge < length p.edges
    pub on_q : h.q_edge < length q.edges
    pub number : h.number ≡ flat_number t p q (edge_at p h.p_edge) (edge_at q h.q_edge)
    pub flat : coordinate_of h.at 2 ≡ pos 0

  pub all_hits : All IsHit (flat_hits t.edge_edge settle p q)
  all_hits =
      all_joined IsHit (flat_hits_along t.edge_edge settle p q) (upto (length p.edges))
      (all_upto (λ i. All IsHit (flat_hits_along t.edge_edge settle p q i)) (length p.edges) (λ i il.
      all_kept IsHit (λ j. flat_hit settle i j (t.edge_edge (ends_of p (edge_at p i)) (ends_of q (edge_at q j)))) (upto (length q.edges))
      (all_upto (λ j. IfSome (flat_hit settle i j (t.edge_edge (ends_of p (edge_at p i)) (ends_of q (edge_at q j)))) IsHit)
      (length q.edges) (λ j jl. one i j il jl (t.edge_edge (ends_of p (edge_at p i)) (ends_of q (edge_at q j))) refl))))
    where
      one : (i j : ℕ) → i < length p.edges → j < length q.edges → (o : Option Meet) →
          t.edge_edge (ends_of p (edge_at p i)) (ends_of q (edge_at q j)) ≡ o → IfSome (flat_hit settle i j o) IsHit
      one i j il jl None e = tt
      one i j il jl (Some m) e =
          if_listed IsHit (record { p_edge = i; q_edge = j; number = m.count; at = flat_point settle m.spot }) (int_eq m.count (pos 0))
          (record { on_p = il; on_q = jl; number = sym (ap count_of e); flat = refl })

  -- a hit's number, where it is on such an edge
  hit_value : (i j : ℕ) (test : ℕ → ℕ → Bool) (o : Option Meet) →
      value_or_zero (λ (h : FlatHit). cond (test h.p_edge h.q_edge) h.number (pos 0)) (flat_hit settle i j o) ≡ cond (test i j) (count_of o) (pos 0)
  hit_value i j test None = by (test i j) where
    by : (b : Bool) → pos 0 ≡ cond b (pos 0) (pos 0)
    by true = refl
    by false = refl
  hit_value i j test (Some m) = by (int_eq m.count (pos 0)) refl where
    none : (b : Bool) → pos 0 ≡ cond b (pos 0) (pos 0)
    none true = refl
    none false = refl

    by : (b : Bool) → int_eq m.count (pos 0) ≡ b → value_or_zero (λ (h : FlatHit). cond (test h.p_edge h.q_edge) h.number (pos 0))
        (if b then None else Some (record { p_edge = i; q_edge = j; number = m.count; at = flat_point settle m.spot })) ≡ cond (test i j) m.count (pos 0)
    by true e = none (test i j) ∙ ap (λ z. cond (test i j) z (pos 0)) (sym ((Decides-int_eq m.count (pos 0)).0 e))
    by false e = refl

  -- the hits that pass, edge by edge
  hits_sum : (test : ℕ → ℕ → Bool) → total (λ h. cond (test h.p_edge h.q_edge) h.number (pos 0)) (flat_hits t.edge_edge settle p q)
      ≡ total (λ i. total (λ j. cond (test i j) (flat_number t p q (edge_at p i) (edge_at q j)) (pos 0)) (upto (length q.edges))) (upto (length p.edges))
  hits_sum test =
      total-flat_map (λ h. cond (test h.p_edge h.q_edge) h.number (pos 0)) (flat_hits_along t.edge_edge settle p q) (upto (length p.edges))
      ∙ total-same (λ i. total (λ h. cond (test h.p_edge h.q_edge) h.number (pos 0)) (flat_hits_along t.edge_edge settle p q i))
      (λ i. total (λ j. cond (test i j) (flat_number t p q (edge_at p i) (edge_at q j)) (pos 0)) (upto (length q.edges)))
      (λ i. total-filter_map (λ (h : FlatHit). cond (test h.p_edge h.q_edge) h.number (pos 0))
      (λ j. flat_hit settle i j (t.edge_edge (ends_of p (edge_at p i)) (ends_of q (edge_at q j)))) (upto (length q.edges))
      ∙ total-same (λ j. value_or_zero (λ (h : FlatHit). cond (test h.p_edge h.q_edge) h.number (pos 0))
      (flat_hit settle i j (t.edge_edge (ends_of p (edge_at p i)) (ends_of q (edge_at q j)))))
      (λ j. cond (test i j) (flat_number t p q (edge_at p i) (edge_at q j)) (pos 0))
      (λ j. hit_value i j test (t.edge_edge (ends_of p (edge_at p i)) (ends_of q (edge_at q j)))) (upto (length q.edges)))
      (upto (length p.edges))

  -- the hits of an edge of P have the numbers of the edge with all of Q
  pub hits_of_p : (k : ℕ) → k < length p.edges →
      total (λ h. cond (h.p_edge == k) h.number (pos 0)) (flat_hits t.edge_edge settle p q) ≡ total (flat_number t p q (edge_at p k)) q.edges
  hits_of_p k low =
      let row : ℕ → ℤ = λ i. total (λ j. flat_number t p q (edge_at p i) (edge_at q j)) (upto (length q.edges)) in
      hits_sum (λ i j. i == k)
      ∙ total-same (λ i. total (λ j. cond (i == k) (flat_number t p q (edge_at p i) (edge_at q j)) (pos 0)) (upto (length q.edges)))
      (λ i. where_same i k (row i)) (λ i. by (i == k) i) (upto (length p.edges))
      ∙ one_hit_of row k (length p.edges) low ∙ sym (total-places (flat_number t p q (edge_at p k)) (0, 0) q.edges)
    where
      by : (b : Bool) (i : ℕ) → total (λ j. cond b (flat_number t p q (edge_at p i) (edge_at q j)) (pos 0))
          (upto (length q.edges)) ≡ cond b (total (λ j. flat_number t p q (edge_at p i) (edge_at q j)) (upto (length q.edges))) (pos 0)
      by true i = refl
      by false i = total-zero (upto (length q.edges))

  pub hits_of_q : (k : ℕ) → k < length q.edges → total (λ h. cond (h.q_edge == k) h.number (pos 0))
      (flat_hits t.edge_edge settle p q) ≡ total (λ e. flat_number t p q e (edge_at q k)) p.edges
  hits_of_q k low =
      hits_sum (λ i j. j == k)
      ∙ total-same (λ i. total (λ j. cond (j == k) (flat_number t p q (edge_at p i) (edge_at q j)) (pos 0)) (upto (length q.edges)))
      (λ i. flat_number t p q (edge_at p i) (edge_at q k))
      (λ i. one_hit_of (λ j. flat_number t p q (edge_at p i) (edge_at q j)) k (length q.edges) low) (upto (length p.edges))
      ∙ sym (total-places (λ e. flat_number t p q e (edge_at q k)) (0, 0) p.edges)
