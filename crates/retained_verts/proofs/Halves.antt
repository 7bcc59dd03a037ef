-- Numbers by half-edge as sums over the hits.
use Rattle.std.proofs.Common.{◌≡◌, ℕ, ◌+◌, ◌*◌, ◌<◌, ◌≤◌, inl, inr, Bool, true, false, cond, ◌==◌, ◌&&◌, if◌then◌else◌, ℤ, pos, neg_ℤ, ◌*ℤ◌, List, length, refl, arith, ap, sym, ◌∙◌}
use Rattle.std.proofs.lemmas.Int.{ints}
use Rattle.std.proofs.lemmas.Bool.{cases_eq, cases_lt, eq-eqb, ne_eqb, lt-ltb, le-ltb}
use Rattle.std.proofs.lemmas.List.Elements.{All-weaker}
use Rattle.chain_terms.specs.Ranks.{twin}
use Rattle.chain_terms.specs.Sums.{total, upto}
use Rattle.chain_laws.specs.Products.{total-times}
use Rattle.chain_laws.specs.Sums.{total-neg, total-same, total-same_all, total-swap, total-zero}
use Rattle.chain_laws.proofs.Places.{one_hit, total-upto_same, where_same, where_same-apart, where_same-at}
use Rattle.mb_base.specs.declared.results.Hit.{Hit}
use Rattle.side_terms.specs.Conservation.{half_number, hit_number}
use Rattle.side_terms.specs.Hits.{AreHits}
use Rattle.side_terms.specs.Lists.{way, way_round}
use Rattle.retained_verts.proofs.Ways.{same_no, same_yes, way_is}

-- a value where two are the same, named the other way round
pub turned : (a b : ℕ) (z : ℤ) → cond (a == b) z (pos 0) ≡ where_same b a z
turned a b z = elim (cases_eq a b) as (λ _. cond (a == b) z (pos 0) ≡ where_same b a z) [
  | inl e ↦ ap (λ t. cond t z (pos 0)) (eq-eqb a b e) ∙ sym (where_same-at b a z (sym e))
  | inr d ↦ ap (λ t. cond t z (pos 0)) (ne_eqb a b d) ∙ sym (where_same-apart b a z (λ e. d (sym e)))
]

-- twins go back
abbrev pub GoBack : List (ℕ × ℕ) → Type 0
GoBack es = (k : ℕ) → k < length es → twin es (twin es k) ≡ k

-- a lower half-edge against an edge, named by its lower half-edge
way_lower : (es : List (ℕ × ℕ)) → GoBack es → (h e : ℕ) → e < length es → e < twin es e → h < twin es h → way es h e ≡ cond (e == h) (pos 1) (pos 0)
way_lower es back h e inside lower low = elim (cases_eq e h) as (λ _. way es h e ≡ cond (e == h) (pos 1) (pos 0)) [
  | inl y ↦
      let w : way es h e ≡ pos 1 = omega (arith, ints, way_is es h e, same_yes h e (sym y), same_no h (twin es e) (λ x. omega (arith, x, y, lower))) in
      w ∙ sym (ap (λ t. cond t (pos 1) (pos 0)) (eq-eqb e h y))
  | inr n ↦
      let apart : h ≡ twin es e → ⊥ = λ x. let t : twin es h ≡ e = ap (twin es) x ∙ back e inside in omega (arith, x, t, lower, low) in
      let w : way es h e ≡ pos 0 = omega (arith, ints, way_is es h e, same_no h e (λ x. n (sym x)), same_no h (twin es e) apart) in
      w ∙ sym (ap (λ t. cond t (pos 1) (pos 0)) (ne_eqb e h n))
]

-- an upper one
way_upper : (es : List (ℕ × ℕ)) → GoBack es → (h e : ℕ) → h < length es → e < length es → e < twin es e → twin es h ≤ h → way es h e ≡ neg_ℤ (cond (e == twin es h) (pos 1) (pos 0))
way_upper es back h e inside_h inside lower up =
    let apart : h ≡ e → ⊥ = λ x. let t : twin es h ≡ twin es e = ap (twin es) x in omega (arith, x, t, lower, up) in
    elim (cases_eq e (twin es h)) as (λ _. way es h e ≡ neg_ℤ (cond (e == twin es h) (pos 1) (pos 0))) [
      | inl y ↦
          let at : h ≡ twin es e = sym (ap (twin es) y ∙ back h inside_h) in
          let w : way es h e ≡ neg_ℤ (pos 1) = omega (arith, ints, way_is es h e, same_no h e apart, same_yes h (twin es e) at) in
          w ∙ sym (ap (λ t. neg_ℤ (cond t (pos 1) (pos 0))) (eq-eqb e (twin es h) y))
      | inr n ↦
          let w : way es h e ≡ pos 0 = omega (arith, ints, way_is es h e, same_no h e apart, same_no h (twin es e) (λ x. n (sym (ap (twin es) x ∙ back e inside)))) in
          w ∙ sym (ap (λ t. neg_ℤ (cond t (pos 1) (pos 0))) (ne_eqb e (twin es h) n))
    ]

-- what a hit adds to a number, by the way of the half-edge
once : (n w : ℤ) → w ≡ pos 1 → n ≡ n *ℤ w
once n w e = let p = ap (λ z. n *ℤ z) e in omega (arith, ints, p)

not_once : (n w : ℤ) → w ≡ pos 0 → pos 0 ≡ n *ℤ w
not_once n w e = let p = ap (λ z. n *ℤ z) e in omega (arith, ints, p)

added : (a b : Bool) (n w : ℤ) → w ≡ cond a (pos 1) (pos 0) → cond (a && b) n (pos 0) ≡ cond b (n *ℤ w) (pos 0)
added true true n w e = once n w e
added true false n w e = refl
added false true n w e = not_once n w e
added false false n w e = refl

taken : (a b : Bool) (n w : ℤ) → w ≡ neg_ℤ (cond a (pos 1) (pos 0)) → neg_ℤ (cond (a && b) n (pos 0)) ≡ cond b (n *ℤ w) (pos 0)
taken true true n w e = let p = ap (λ z. n *ℤ z) e in omega (arith, ints, p)
taken true false n w e = refl
taken false true n w e = let p = ap (λ z. n *ℤ z) e in omega (arith, ints, p)
taken false false n w e = refl

-- the number of a half-edge and a face is what the hits with that face add, each by the way of the half-edge
pub half_as_sum : (es : List (ℕ × ℕ)) → GoBack es → (faces : ℕ) (hits : List Hit) → AreHits es faces hits → (h g : ℕ) → h < length es →
    half_number es hits h g ≡ total (λ k. cond (k.face == g) (k.number *ℤ way es h k.edge) (pos 0)) hits
half_as_sum es back faces hits known h g inside =
    let t = twin es h in
    let sum : ℤ = total (λ k. cond (k.face == g) (k.number *ℤ way es h k.edge) (pos 0)) hits in
    let OnEdge : Hit → Type 0 = λ k. (k.edge < length es) × (k.edge < twin es k.edge) in
    elim (cases_lt h t) as (λ _. half_number es hits h g ≡ sum) [
      | inl low ↦
          ap (λ b. if b then hit_number hits h g else neg_ℤ (hit_number hits t g)) (lt-ltb h t low)
          ∙ total-same_all (λ k. cond ((k.edge == h) && (k.face == g)) k.number (pos 0)) (λ k. cond (k.face == g) (k.number *ℤ way es h k.edge) (pos 0)) hits
          (All-weaker OnEdge (λ k. cond ((k.edge == h) && (k.face == g)) k.number (pos 0) ≡ cond (k.face == g) (k.number *ℤ way es h k.edge) (pos 0))
          (λ k on. added (k.edge == h) (k.face == g) k.number (way es h k.edge) (way_lower es back h k.edge on.0 on.1 low)) hits known.on_edges)
      | inr up ↦
          ap (λ b. if b then hit_number hits h g else neg_ℤ (hit_number hits t g)) (le-ltb h t up)
          ∙ sym (total-neg (λ k. cond ((k.edge == t) && (k.face == g)) k.number (pos 0)) hits)
          ∙ total-same_all (λ k. neg_ℤ (cond ((k.edge == t) && (k.face == g)) k.number (pos 0))) (λ k. cond (k.face == g) (k.number *ℤ way es h k.edge) (pos 0)) hits
          (All-weaker OnEdge (λ k. neg_ℤ (cond ((k.edge == t) && (k.face == g)) k.number (pos 0)) ≡ cond (k.face == g) (k.number *ℤ way es h k.edge) (pos 0))
          (λ k on. taken (k.edge == t) (k.face == g) k.number (way es h k.edge) (way_upper es back h k.edge inside on.0 on.1 up)) hits known.on_edges)
    ]

-- with all faces
pub along_all : (es : List (ℕ × ℕ)) → GoBack es → (faces : ℕ) (hits : List Hit) → AreHits es faces hits → (h : ℕ) → h < length es →
    total (half_number es hits h) (upto faces) ≡ total (λ k. k.number *ℤ way es h k.edge) hits
along_all es back faces hits known h inside =
    let z : Hit → ℤ = λ k. k.number *ℤ way es h k.edge in
    total-same (half_number es hits h) (λ g. total (λ k. cond (k.face == g) (z k) (pos 0)) hits) (λ g. half_as_sum es back faces hits known h g inside) (upto faces)
    ∙ total-swap (λ g k. cond (k.face == g) (z k) (pos 0)) (upto faces) hits
    ∙ total-same_all (λ k. total (λ g. cond (k.face == g) (z k) (pos 0)) (upto faces)) z hits
    (All-weaker (λ k. k.face < faces) (λ k. total (λ g. cond (k.face == g) (z k) (pos 0)) (upto faces) ≡ z k)
    (λ k below. total-same (λ g. cond (k.face == g) (z k) (pos 0)) (λ g. where_same g k.face (z k)) (λ g. turned k.face g (z k)) (upto faces)
    ∙ one_hit (z k) k.face faces below) hits known.on_faces)

-- what a hit adds round a face
round_added : (b : Bool) (n : ℤ) (w : ℕ → ℤ) → total (λ i. cond b (n *ℤ w i) (pos 0)) (upto 3) ≡ n *ℤ cond b (total w (upto 3)) (pos 0)
round_added true n w = total-times n w (upto 3)
round_added false n w = total-zero (upto 3) ∙ not_once n (pos 0) refl

-- round a face, with a face of the other side
pub along_round : (es : List (ℕ × ℕ)) → GoBack es → (faces : ℕ) (hits : List Hit) → AreHits es faces hits → (f g : ℕ) → 3 * f + 3 ≤ length es →
    total (λ i. half_number es hits (3 * f + i) g) (upto 3) ≡ total (λ k. k.number *ℤ cond (k.face == g) (way_round es f k.edge) (pos 0)) hits
along_round es back faces hits known f g inside =
    total-upto_same (λ i. half_number es hits (3 * f + i) g) (λ i. total (λ k. cond (k.face == g) (k.number *ℤ way es (3 * f + i) k.edge) (pos 0)) hits) 3
    (λ i three. half_as_sum es back faces hits known (3 * f + i) g (omega (arith, three, inside)))
    ∙ total-swap (λ i k. cond (k.face == g) (k.number *ℤ way es (3 * f + i) k.edge) (pos 0)) (upto 3) hits
    ∙ total-same (λ k. total (λ i. cond (k.face == g) (k.number *ℤ way es (3 * f + i) k.edge) (pos 0)) (upto 3))
    (λ k. k.number *ℤ cond (k.face == g) (way_round es f k.edge) (pos 0)) (λ k. round_added (k.face == g) k.number (λ i. way es (3 * f + i) k.edge)) hits
