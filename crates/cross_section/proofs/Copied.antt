-- The copies of what is prescribed: what holds of all of them, what they have, and how many there are.
use Rattle.std.proofs.Common.{◌≡◌, ℕ, ◌+◌, ◌<◌, ℤ, pos, List, [], ◌++◌, length, get_or, int_lt, map, sym, ap, ◌∙◌, append_assoc, arith}
use Rattle.std.specs.Prelude.{◌+ℤ◌, ◌*ℤ◌, nat_abs, replicate}
use Rattle.std.specs.List.{All, flat_map, sum_by}
use Rattle.std.proofs.lemmas.List.{length-replicate}
use Rattle.std.proofs.lemmas.List.Concat.{flat_map-append, length-flat_map}
use Rattle.std.proofs.lemmas.List.Elements.{All-append, All-map}
use Rattle.std.proofs.lemmas.List.Sums.{sum_by-append}
use Rattle.chain_terms.specs.Sums.{upto}
use Rattle.mb_base.specs.declared.op.Op.{Op}
use Rattle.mesh_terms.specs.Points.{coordinate_of}
use Rattle.outline_pair_terms.specs.Lists.{FlatCopy, FlatPrescription, OfBoth, OfP, OfQ, constant, copy_count, flat_copies, flat_copies_of}
use Rattle.outline_pair_terms.specs.Lists.{hits_prescribed, p_prescribed, q_prescribed}
use Rattle.outline_pair_terms.specs.declared.FlatHit.{FlatHit}
use Rattle.outline_pair_terms.specs.Numbers.{FlatNumbers}
use Rattle.outline_pair_terms.specs.Laws.{IsOfBoth}
use Rattle.outline_pair_terms.proofs.Exchange.{all_upto}
use Rattle.outline_pair_terms.proofs.Prescribed.{all_copies, copy_from}
use Rattle.outline_terms.specs.Outlines.{IsOutline, Outline, outline_edges}
use Rattle.cross_section.specs.Copies.{AreNumbers, by_sign, hit_number, repeated, vertex_number}
use Rattle.cross_section.specs.declared.operand.Operand.{Operand}
use Rattle.cross_section.proofs.Joined.{by_places, joined_of, mapped_joined, mapped_replicate, same_joined, sum_of}

-- what copies of things have, as often as the things are prescribed
copied : {Y : Type 0} (g : FlatCopy → Y) (is : List FlatPrescription) → map g (flat_map flat_copies_of is) ≡ repeated (λ (i : FlatPrescription). i.number) (λ i. g (copy_from i)) is
copied g is =
    let same : (λ (x : FlatPrescription). map g (flat_copies_of x)) ≡ (λ (x : FlatPrescription). replicate (nat_abs x.number) (g (copy_from x)))
    = λ i x. mapped_replicate g (nat_abs x.number) (copy_from x) i in
    mapped_joined g flat_copies_of is ∙ ap (λ f. flat_map f is) same

-- the same of three lists of things
copied_three : {Y : Type 0} (g : FlatCopy → Y) (xs ys zs : List FlatPrescription) → map g (flat_map flat_copies_of (xs ++ (ys ++ zs)))
    ≡ (repeated (λ (i : FlatPrescription). i.number) (λ i. g (copy_from i)) xs ++ repeated (λ (i : FlatPrescription). i.number)
    (λ i. g (copy_from i)) ys) ++ repeated (λ (i : FlatPrescription). i.number) (λ i. g (copy_from i)) zs
copied_three {Y} g xs ys zs =
    let f : FlatPrescription → List Y = λ i. replicate (nat_abs i.number) (g (copy_from i)) in
    copied g (xs ++ (ys ++ zs)) ∙ flat_map-append f xs (ys ++ zs) ∙ ap (λ l. flat_map f xs ++ l) (flat_map-append f ys zs)
    ∙ sym (append_assoc (flat_map f xs) (flat_map f ys) (flat_map f zs))

-- there are as many as are counted
copies_long : (is : List FlatPrescription) → length (flat_map flat_copies_of is) ≡ copy_count is
copies_long is =
    let same : (λ (x : FlatPrescription). length (flat_copies_of x)) ≡ (λ (x : FlatPrescription). nat_abs x.number) = λ i x. length-replicate (nat_abs x.number) (copy_from x) i in
    length-flat_map flat_copies_of is ∙ ap (λ f. sum_by f is) same

-- the sum over a list is that over its places
pub counted_by_places : (number : ℤ → ℤ) (ws : List ℤ) (m : ℕ) → length ws ≡ m → sum_by (λ w. nat_abs (number w)) ws ≡ sum_by (λ v. nat_abs (number (get_or ws v (pos 0)))) (upto m)
counted_by_places number ws m long =
    ap (λ l. sum_by (λ w. nat_abs (number w)) l) (sym (by_places ws (pos 0))) ∙ sum_of (λ w. nat_abs (number w)) (λ v. get_or ws v (pos 0)) (upto (length ws))
    ∙ ap (λ k. sum_by (λ v. nat_abs (number (get_or ws v (pos 0)))) (upto k)) long

module _ (op : Op) (p q : Outline) (n : FlatNumbers) where
  -- how often vertices and hits are prescribed
  abbrev pub p_number : ℕ → ℤ
  p_number v = constant op 0 +ℤ constant op 2 *ℤ get_or n.w02 v (pos 0)

  abbrev pub q_number : ℕ → ℤ
  q_number v = constant op 1 +ℤ constant op 2 *ℤ get_or n.w20 v (pos 0)

  abbrev pub number_of_hit : FlatHit → ℤ
  number_of_hit h = constant op 2 *ℤ h.number

  -- and a copy of each
  abbrev pub p_copy : ℕ → FlatCopy
  p_copy v = record { origin = OfP v; negative = int_lt (p_number v) (pos 0); point = get_or p.points v [] }

  abbrev pub q_copy : ℕ → FlatCopy
  q_copy v = record { origin = OfQ v; negative = int_lt (q_number v) (pos 0); point = get_or q.points v [] }

  abbrev pub hit_copy : FlatHit → FlatCopy
  hit_copy h = record { origin = OfBoth h.p_edge h.q_edge; negative = int_lt (number_of_hit h) (pos 0); point = h.at }

  -- as prescribed
  abbrev p_one : ℕ → FlatPrescription
  p_one v = record { origin = OfP v; number = p_number v; point = get_or p.points v [] }

  abbrev q_one : ℕ → FlatPrescription
  q_one v = record { origin = OfQ v; number = q_number v; point = get_or q.points v [] }

  abbrev hit_one : FlatHit → FlatPrescription
  hit_one h = record { origin = OfBoth h.p_edge h.q_edge; number = number_of_hit h; point = h.at }

  -- what all copies have, from what those of P's vertices, of Q's and of hits have
  pub joined_parts : {Y : Type 0} (g : FlatCopy → Y) (ps qs hs : List Y) →
      ps ≡ repeated p_number (λ v. g (p_copy v)) (upto (length p.points)) → qs ≡ repeated q_number (λ v. g (q_copy v)) (upto (length q.points)) →
      hs ≡ repeated number_of_hit (λ h. g (hit_copy h)) n.hits → (ps ++ qs) ++ hs ≡ map g (flat_copies op p q n)
  joined_parts {Y} g ps qs hs of_p of_q of_hits =
      let f : FlatPrescription → List Y = λ i. replicate (nat_abs i.number) (g (copy_from i)) in
      (λ i. (of_p i ++ of_q i) ++ of_hits i) ∙ sym (copied_three g (p_prescribed op p n) (q_prescribed op q n) (hits_prescribed op n)
      ∙ (λ i. (joined_of f p_one (upto (length p.points)) i ++ joined_of f q_one (upto (length q.points)) i) ++ joined_of f hit_one n.hits i))

  -- what holds of a copy of each holds of all copies
  pub each_copy : (P : FlatCopy → Type 0) → ((v : ℕ) → v < length p.points → P (p_copy v)) →
      ((v : ℕ) → v < length q.points → P (q_copy v)) → All (λ h. P (hit_copy h)) n.hits → All P (flat_copies op p q n)
  each_copy P on_p on_q on_hits =
      let R : FlatPrescription → Type 0 = λ i. P (copy_from i) in
      all_copies P (p_prescribed op p n ++ (q_prescribed op q n ++ hits_prescribed op n))
      (All-append R (p_prescribed op p n) (q_prescribed op q n ++ hits_prescribed op n)
      (All-map R p_one (upto (length p.points)) (all_upto (λ v. R (p_one v)) (length p.points) on_p))
      (All-append R (q_prescribed op q n) (hits_prescribed op n)
      (All-map R q_one (upto (length q.points)) (all_upto (λ v. R (q_one v)) (length q.points) on_q)) (All-map R hit_one n.hits on_hits)))

  -- they are copies of vertices and hits
  pub known_copies : AreNumbers p q n → All (λ c. IsOfBoth (outline_edges p) (outline_edges q) (length p.points) (length q.points) c.origin) (flat_copies op p q n)
  known_copies is = each_copy (λ c. IsOfBoth (outline_edges p) (outline_edges q) (length p.points) (length q.points) c.origin)
      (λ v low. low) (λ v low. low) (λ k d low. (is.on_p k d low, is.on_q k d low))

  -- and lie at height 0
  pub flat_copies_flat : IsOutline p → IsOutline q → All (λ h. coordinate_of h.at 2 ≡ pos 0) n.hits → All (λ c. coordinate_of c.point 2 ≡ pos 0) (flat_copies op p q n)
  flat_copies_flat ps qs hits = each_copy (λ c. coordinate_of c.point 2 ≡ pos 0) (λ v low. ps.flat v [] low) (λ v low. qs.flat v [] low) hits

  -- how many there are
  pub count_copies : length (flat_copies op p q n) ≡ copy_count (p_prescribed op p n) + copy_count (q_prescribed op q n) + copy_count (hits_prescribed op n)
  count_copies =
      let size : FlatPrescription → ℕ = λ i. nat_abs i.number in
      omega (
        arith,
        copies_long (p_prescribed op p n ++ (q_prescribed op q n ++ hits_prescribed op n)),
        sum_by-append size (p_prescribed op p n) (q_prescribed op q n ++ hits_prescribed op n),
        sum_by-append size (q_prescribed op q n) (hits_prescribed op n),
      )

  pub count_p : length n.w02 ≡ length p.points → sum_by (λ w. nat_abs (constant op 0 +ℤ constant op 2 *ℤ w)) n.w02 ≡ copy_count (p_prescribed op p n)
  count_p long = counted_by_places (λ w. constant op 0 +ℤ constant op 2 *ℤ w) n.w02 (length p.points) long
      ∙ sym (sum_of (λ (i : FlatPrescription). nat_abs i.number) p_one (upto (length p.points)))

  pub count_q : length n.w20 ≡ length q.points → sum_by (λ w. nat_abs (constant op 1 +ℤ constant op 2 *ℤ w)) n.w20 ≡ copy_count (q_prescribed op q n)
  count_q long = counted_by_places (λ w. constant op 1 +ℤ constant op 2 *ℤ w) n.w20 (length q.points) long
      ∙ sym (sum_of (λ (i : FlatPrescription). nat_abs i.number) q_one (upto (length q.points)))

  pub count_hits : sum_by (λ (h : FlatHit). nat_abs (constant op 2 *ℤ h.number)) n.hits ≡ copy_count (hits_prescribed op n)
  count_hits = sym (sum_of (λ (i : FlatPrescription). nat_abs i.number) hit_one n.hits)

-- the same lists, by sign
pub same_by_sign : (number : ℕ → ℤ) (from to from' to' : ℕ → ℕ) (m : ℕ) → ((v : ℕ) → v < m → from v ≡ from' v) → ((v : ℕ) → v < m → to v ≡ to' v) →
    repeated number (λ v. by_sign (number v) (from v) (to v)) (upto m) ≡ repeated number (λ v. by_sign (number v) (from' v) (to' v)) (upto m)
same_by_sign number from to from' to' m starts ends =
    same_joined (λ v. replicate (nat_abs (number v)) (by_sign (number v) (from v) (to v))) (λ v. replicate (nat_abs (number v)) (by_sign (number v) (from' v) (to' v))) m
    (λ v low i. replicate (nat_abs (number v)) (by_sign (number v) (starts v low i) (ends v low i)))

-- the parts of vertices and hits, as they were handed in
pub vertex_points : (op : Op) (o : Operand) (ws ws' : List ℤ) (ps ps' : List (List ℤ)) → ws ≡ ws' → ps ≡ ps' →
    repeated (λ v. vertex_number op o (get_or ws v (pos 0))) (λ v. get_or ps v []) (upto (length ps))
    ≡ repeated (λ v. vertex_number op o (get_or ws' v (pos 0))) (λ v. get_or ps' v []) (upto (length ps'))
vertex_points op o ws ws' ps ps' e f = λ i. repeated (λ v. vertex_number op o (get_or (e i) v (pos 0))) (λ v. get_or (f i) v []) (upto (length (f i)))

pub vertex_lists : (op : Op) (o : Operand) (ws ws' : List ℤ) (n m : ℕ) (from to from' to' : ℕ → ℕ) →
    ws ≡ ws' → n ≡ m → ((v : ℕ) → v < m → from v ≡ from' v) → ((v : ℕ) → v < m → to v ≡ to' v) →
    repeated (λ v. vertex_number op o (get_or ws v (pos 0))) (λ v. by_sign (vertex_number op o (get_or ws v (pos 0))) (from v) (to v)) (upto n)
    ≡ repeated (λ v. vertex_number op o (get_or ws' v (pos 0))) (λ v. by_sign (vertex_number op o (get_or ws' v (pos 0))) (from' v) (to' v)) (upto m)
vertex_lists op o ws ws' n m from to from' to' e f starts ends =
    (λ i. repeated (λ v. vertex_number op o (get_or (e i) v (pos 0))) (λ v. by_sign (vertex_number op o (get_or (e i) v (pos 0))) (from v) (to v)) (upto (f i)))
    ∙ same_by_sign (λ v. vertex_number op o (get_or ws' v (pos 0))) from to from' to' m starts ends

pub hit_starts : (op : Op) (hs hs' : List FlatHit) (n m : ℕ) → hs ≡ hs' → n ≡ m →
    repeated (λ (h : FlatHit). hit_number op h.number) (λ h. by_sign (hit_number op h.number) h.p_edge (n + h.q_edge)) hs
    ≡ repeated (λ (h : FlatHit). hit_number op h.number) (λ h. by_sign (hit_number op h.number) h.p_edge (m + h.q_edge)) hs'
hit_starts op hs hs' n m e f = λ i. repeated (λ (h : FlatHit). hit_number op h.number) (λ h. by_sign (hit_number op h.number) h.p_edge (f i + h.q_edge)) (e i)

pub hit_ends : (op : Op) (hs hs' : List FlatHit) (n m : ℕ) → hs ≡ hs' → n ≡ m →
    repeated (λ (h : FlatHit). hit_number op h.number) (λ h. by_sign (hit_number op h.number) (n + h.q_edge) h.p_edge) hs
    ≡ repeated (λ (h : FlatHit). hit_number op h.number) (λ h. by_sign (hit_number op h.number) (m + h.q_edge) h.p_edge) hs'
hit_ends op hs hs' n m e f = λ i. repeated (λ (h : FlatHit). hit_number op h.number) (λ h. by_sign (hit_number op h.number) (f i + h.q_edge) h.p_edge) (e i)
