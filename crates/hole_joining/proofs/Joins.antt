-- A hole joined to a ring: sums once round, lengths, vertices, neighbours.
use Rattle.std.specs.Prelude.{◌≡◌, ◌≢◌, ℕ, ◌+◌, ◌<◌, ℤ, pos, ◌+ℤ◌, ◌≤ℤ◌, List, [], ◌∷◌, ◌++◌, ◌==◌, length, get_or, take, drop}
use Rattle.std.specs.List.{All}
use Rattle.std.proofs.Common.{arith, refl, sym, ap, ◌∙◌, append_assoc}
use Rattle.std.proofs.Math.Nat.{mod-eq_of_lt}
use Rattle.std.proofs.lemmas.Int.{ints}
use Rattle.std.proofs.lemmas.Bool.{eq-eqb, ne_eqb}
use Rattle.std.proofs.lemmas.List.{length-append, take-append-drop, take_more, drop_more}
use Rattle.std.proofs.lemmas.List.Elements.{All-cons, All-head, All-tail, All-nil}
use Rattle.chain_terms.specs.Chains.{one_if}
use Rattle.chain_terms.specs.Sums.{total}
use Rattle.chain_terms.specs.Paths.{path, last_of, round_edges}
use Rattle.chain_laws.specs.Sums.{total-append}
use Rattle.chain_laws.specs.Counts.{one_if-true, one_if-false}
use Rattle.chain_laws.proofs.Paths.{last_of-append, path-append, total-round_edges}
use Rattle.face_plane.specs.Rings.{In, Three, IsRing, vertex_at}
use Rattle.hole_joining.specs.Bridges.{join}
use Rattle.hole_joining.specs.Holes.{turned_to}
use Rattle.hole_joining.proofs.Turning.{once_round, round_later, round_turned, length-turned, often, often-append, often-turned, in_more}

-- a hole h, k joined at r0 by a bridge that is used both ways: the sum once round is that of both, and both ways of the bridge
bridge_total : (g : (ℕ × ℕ) → ℤ) (r0 : ℕ) (b : List ℕ) (h : ℕ) (k : List ℕ) →
    once_round g (r0 ∷ h ∷ (k ++ h ∷ r0 ∷ b)) ≡ (once_round g (h ∷ k) +ℤ once_round g (r0 ∷ b)) +ℤ (g (r0, h) +ℤ g (h, r0))
bridge_total g r0 b h k =
    omega (
      arith,
      ints,
      total-round_edges g r0 (h ∷ (k ++ h ∷ r0 ∷ b)),
      total-round_edges g h k,
      total-round_edges g r0 b,
      ap (total g) (path-append h k h (r0 ∷ b)),
      total-append g (path h k) ((last_of h k, h) ∷ path h (r0 ∷ b)),
      ap (λ v. g (v, r0)) (last_of-append h k h (r0 ∷ b)),
    )

-- the vertex of a place that the ring has
pub vertex_within : (r : List ℕ) (i : ℕ) → i < length r → vertex_at r i ≡ get_or r i 0
vertex_within r i h = ap (λ k. get_or r k 0) (mod-eq_of_lt h)

-- a list split at a place
split_at : (r : List ℕ) (i : ℕ) → i < length r → r ≡ take i r ++ get_or r i 0 ∷ drop (i + 1) r
split_at r i h = sym (take-append-drop i r) ∙ ap (λ l. take i r ++ l) (drop_more r i 0 h)

-- the joined ring, split at the place
join_split : (r : List ℕ) (i : ℕ) (h : ℕ) (k : List ℕ) → i < length r →
    join r i (h ∷ k) ≡ take i r ++ (get_or r i 0 ∷ h ∷ (k ++ h ∷ get_or r i 0 ∷ drop (i + 1) r))
join_split r i h k within =
    let t = take i r in
    let d = drop (i + 1) r in
    let r0 = get_or r i 0 in
    ap (λ v. take (i + 1) r ++ (h ∷ k) ++ (v ∷ vertex_at r i ∷ []) ++ d) (vertex_within (h ∷ k) 0 (omega arith))
    ∙ ap (λ v. take (i + 1) r ++ (h ∷ k) ++ (h ∷ v ∷ []) ++ d) (vertex_within r i within)
    ∙ ap (λ l. l ++ (h ∷ k) ++ (h ∷ r0 ∷ []) ++ d) (take_more r i 0 within)
    ∙ ap (λ l. l ++ (h ∷ r0 ∷ []) ++ d) (append_assoc t (r0 ∷ []) (h ∷ k))
    ∙ ap (λ l. l ++ d) (append_assoc t (r0 ∷ h ∷ k) (h ∷ r0 ∷ []))
    ∙ append_assoc t (r0 ∷ h ∷ (k ++ h ∷ r0 ∷ [])) d
    ∙ ap (λ l. t ++ r0 ∷ h ∷ l) (append_assoc k (h ∷ r0 ∷ []) d)

-- the sum once round the joined ring
pub join_total : (g : (ℕ × ℕ) → ℤ) (r : List ℕ) (i : ℕ) (h : ℕ) (k : List ℕ) → i < length r →
    once_round g (join r i (h ∷ k)) ≡ (once_round g (h ∷ k) +ℤ once_round g r) +ℤ (g (get_or r i 0, h) +ℤ g (h, get_or r i 0))
join_total g r i h k within =
    let t = take i r in
    let d = drop (i + 1) r in
    let r0 = get_or r i 0 in
    let ring = round_later g (r0 ∷ d) t ∙ ap (once_round g) (sym (split_at r i within)) in
    ap (once_round g) (join_split r i h k within) ∙ round_later g t (r0 ∷ h ∷ (k ++ h ∷ r0 ∷ d))
    ∙ ap (λ l. once_round g (r0 ∷ h ∷ l)) (append_assoc k (h ∷ r0 ∷ d) t) ∙ bridge_total g r0 (d ++ t) h k
    ∙ ap (λ z. (once_round g (h ∷ k) +ℤ z) +ℤ (g (r0, h) +ℤ g (h, r0))) ring

-- its places
pub length-join : (r : List ℕ) (i : ℕ) (hole : List ℕ) → length (join r i hole) ≡ length r + length hole + 2
length-join r i hole =
    let t = take (i + 1) r in
    let d = drop (i + 1) r in
    let e = vertex_at hole 0 ∷ vertex_at r i ∷ [] in
    omega (
      arith,
      length-append (t ++ hole ++ e) d,
      length-append (t ++ hole) e,
      length-append t hole,
      length-append t d,
      ap length (take-append-drop (i + 1) r),
    )

-- how often a vertex stands in it
pub often-join : (v : ℕ) (r : List ℕ) (i : ℕ) (hole : List ℕ) →
    often v (join r i hole) ≡ often v r + often v hole + often v (vertex_at hole 0 ∷ vertex_at r i ∷ [])
often-join v r i hole =
    let t = take (i + 1) r in
    let d = drop (i + 1) r in
    let e = vertex_at hole 0 ∷ vertex_at r i ∷ [] in
    omega (
      arith,
      often-append v (t ++ hole ++ e) d,
      often-append v (t ++ hole) e,
      often-append v t hole,
      often-append v t d,
      ap (often v) (take-append-drop (i + 1) r),
    )

-- one where an edge runs from a vertex to itself
abbrev pub stutter : (ℕ × ℕ) → ℤ
stutter e = pos (one_if (e.0 == e.1))

stutter_none : (e : ℕ × ℕ) → e.0 ≢ e.1 → stutter e ≡ pos 0
stutter_none e n = ap pos (one_if-false (e.0 == e.1) (ne_eqb e.0 e.1 n))

stutter_low : (e : ℕ × ℕ) → pos 0 ≤ℤ stutter e
stutter_low e = omega (arith, ints)

stutters_low : (es : List (ℕ × ℕ)) → pos 0 ≤ℤ total stutter es
stutters_low [] = omega (arith, ints)
stutters_low (e ∷ es) = omega (arith, ints, stutter_low e, stutters_low es)

-- edges between different vertices: none of them stutters
pub none_stutters : (es : List (ℕ × ℕ)) → All (λ e. e.0 ≢ e.1) es → total stutter es ≡ pos 0
none_stutters [] h = refl
none_stutters (e ∷ es) h =
    omega (arith, ints, stutter_none e (All-head (λ (d : ℕ × ℕ). d.0 ≢ d.1) e es h), none_stutters es (All-tail (λ (d : ℕ × ℕ). d.0 ≢ d.1) e es h))

-- and back
pub apart_from_none : (es : List (ℕ × ℕ)) → total stutter es ≡ pos 0 → All (λ e. e.0 ≢ e.1) es
apart_from_none [] h = All-nil (λ (d : ℕ × ℕ). d.0 ≢ d.1)
apart_from_none (e ∷ es) h =
    All-cons (λ (d : ℕ × ℕ). d.0 ≢ d.1) e es
    (λ same. let one = one_if-true (e.0 == e.1) (eq-eqb e.0 e.1 same) in absurd (omega (arith, ints, h, stutters_low es, one)))
    (apart_from_none es (omega (arith, ints, h, stutters_low es, stutter_low e)))

-- three different vertices stay where no vertex goes
pub three_within : (r s : List ℕ) → ((v : ℕ) → In v r → In v s) → Three r → Three s
three_within r s f t =
    record { a = t.a; b = t.b; c = t.c; a_in = f t.a t.a_in; b_in = f t.b t.b_in; c_in = f t.c t.c_in; ab = t.ab; bc = t.bc; ca = t.ca }

-- a ring stays one where it begins at another place
pub ringy_turned : (i : ℕ) (r : List ℕ) → IsRing r → IsRing (turned_to i r)
ringy_turned i r h = record {
  long = omega (arith, length-turned i r, h.long);
  apart = apart_from_none (round_edges (turned_to i r)) (round_turned stutter i r ∙ none_stutters (round_edges r) h.apart);
  three = three_within r (turned_to i r) (in_more r (turned_to i r) (λ v. omega (arith, often-turned v i r))) h.three;
}

-- a ring with a hole joined is one, where the hole's start is not the vertex of the place
pub ringy_join : (r : List ℕ) (i : ℕ) (hole : List ℕ) → IsRing r → IsRing hole → i < length r → vertex_at r i ≢ vertex_at hole 0 →
    IsRing (join r i hole)
ringy_join r i [] ring h within apart = absurd (omega (arith, h.long))
ringy_join r i (x ∷ k) ring h within apart =
    let differ : get_or r i 0 ≢ x = λ e. apart (vertex_within r i within ∙ e ∙ sym (vertex_within (x ∷ k) 0 (omega arith))) in
    let there = stutter_none (get_or r i 0, x) differ in
    let back = stutter_none (x, get_or r i 0) (λ e. differ (sym e)) in
    record {
      long = omega (arith, length-join r i (x ∷ k), ring.long);
      apart = apart_from_none (round_edges (join r i (x ∷ k)))
          (omega (
            arith,
            ints,
            join_total stutter r i x k within,
            none_stutters (round_edges r) ring.apart,
            none_stutters (round_edges (x ∷ k)) h.apart,
            there,
            back,
          ));
      three = three_within r (join r i (x ∷ k)) (in_more r (join r i (x ∷ k)) (λ v. omega (arith, often-join v r i (x ∷ k)))) ring.three;
    }
