-- The records of hits are the six of each of their copies.
use Rattle.std.proofs.Common.{◌≡◌, ℕ, zero, suc, ◌+◌, ◌<◌, pos, List, [], ◌∷◌, length, get_or, nat_abs, int_lt, inl, inr, subst, arith}
use Rattle.std.specs.List.{Contains, flat_map}
use Rattle.std.proofs.lemmas.List.Elements.{Contains-append_cases, Contains-append_left, Contains-append_right}
use Rattle.chain_terms.specs.Ranks.{twin}
use Rattle.chain_terms.specs.Sums.{up_from}
use Rattle.mb_base.specs.declared.op.Op.{Op}
use Rattle.mb_base.specs.declared.results.Hit.{Hit}
use Rattle.mb_base.specs.declared.results.Origin.{Origin}
use Rattle.side_terms.specs.Prescribed.{hit_number_of, prescribed_hits}
use Rattle.source_faces.specs.Stands.{hit_stands, one_hit_stands, six_stands}
use Rattle.source_faces.specs.declared.lists.stands.Stand.{Stand}
use Rattle.source_faces.proofs.Blocks.{before}

abbrev pub no_hit : Hit
no_hit = record { edge = 0; face = 0; number = pos 0; at = [] }

-- one of the copies from number k on
record IsOfCopy (six : ℕ → List Stand) (k n : ℕ) (s : Stand) : Type 0 where
  turn : ℕ
  inside : turn < n
  one : Contains (six (k + turn)) s

-- a record of one of n copies
of_copy : (six : ℕ → List Stand) (k n : ℕ) (s : Stand) → Contains (flat_map six (up_from k n)) s → IsOfCopy six k n s
of_copy six k zero s (i, l, e) = absurd (omega (arith, l))
of_copy six k (suc n) s c = elim (Contains-append_cases (six k) (flat_map six (up_from (suc k) n)) s c) as (λ _. IsOfCopy six k (suc n) s) [
  | inl a ↦ let here : k ≡ k + 0 = omega arith in record { turn = 0; inside = omega arith; one = subst (λ v. Contains (six v) s) here a }
  | inr b ↦
      let r = of_copy six (suc k) n s b in
      let more : suc k + r.turn ≡ k + suc r.turn = omega arith in
      record { turn = suc r.turn; inside = omega (arith, r.inside); one = subst (λ v. Contains (six v) s) more r.one }
]

-- and back
copy_listed : (six : ℕ → List Stand) (k n i : ℕ) (s : Stand) → i < n → Contains (six (k + i)) s → Contains (flat_map six (up_from k n)) s
copy_listed six k zero i s l c = absurd (omega (arith, l))
copy_listed six k (suc n) zero s l c =
    let here : k + 0 ≡ k = omega arith in Contains-append_left (six k) (flat_map six (up_from (suc k) n)) s (subst (λ v. Contains (six v) s) here c)
copy_listed six k (suc n) (suc i) s l c =
    let more : k + suc i ≡ suc k + i = omega arith in
    Contains-append_right (six k) (flat_map six (up_from (suc k) n)) s
    (copy_listed six (suc k) n i s (omega (arith, l)) (subst (λ v. Contains (six v) s) more c))

-- the copies of a hit
abbrev pub times_of : Op → Hit → ℕ
times_of op h = nat_abs (hit_number_of op h.number)

module _ (op : Op) (es : List (ℕ × ℕ)) (own other : ℕ) where
  -- the six of copy v of a hit
  abbrev pub six_of : Hit → ℕ → List Stand
  six_of h v = six_stands own other h.edge (twin es h.edge) h.face (int_lt (pos 0) (hit_number_of op h.number)) v

module _ (op : Op) (es : List (ℕ × ℕ)) (own other : ℕ) (origin : ℕ → ℕ → Origin) where
  -- a record of a copy of one of the hits, whose copies are numbered from k
  pub record IsOfHit (k : ℕ) (hs : List Hit) (s : Stand) : Type 0 where
    pub hit : ℕ
    pub turn : ℕ
    pub within : hit < length hs
    pub inside : turn < times_of op (get_or hs hit no_hit)
    pub one : Contains (six_of op es own other (get_or hs hit no_hit) (k + (before (prescribed_hits origin (hit_number_of op) hs) hit + turn))) s

  pub of_hit : (k : ℕ) (hs : List Hit) (s : Stand) → Contains (hit_stands op es own other k hs) s → IsOfHit k hs s
  of_hit k [] s (i, l, e) = absurd (omega (arith, l))
  of_hit k (h ∷ hs) s c =
      let size = times_of op h in
      elim (Contains-append_cases (one_hit_stands op es own other k h) (hit_stands op es own other (k + size) hs) s c)
      as (λ _. IsOfHit k (h ∷ hs) s) [
        | inl a ↦
            let r = of_copy (six_of op es own other h) k size s a in
            let here : k + r.turn ≡ k + (0 + r.turn) = omega arith in
            record {
              hit = 0;
              turn = r.turn;
              within = omega arith;
              inside = r.inside;
              one =
                  subst (λ v. Contains (six_of op es own other h v) s) here r.one;
            }
        | inr b ↦
            let r = of_hit (k + size) hs s b in
            let blocks = before (prescribed_hits origin (hit_number_of op) hs) r.hit in
            let more : k + size + (blocks + r.turn) ≡ k + (size + blocks + r.turn) = omega arith in
            record {
              hit = suc r.hit;
              turn = r.turn;
              within = omega (arith, r.within);
              inside = r.inside;
              one =
                  subst (λ v. Contains (six_of op es own other (get_or hs r.hit no_hit) v) s) more r.one;
            }
      ]

  -- and each such record is listed
  pub hit_listed : (k : ℕ) (hs : List Hit) (s : Stand) (j i : ℕ) → j < length hs → i < times_of op (get_or hs j no_hit) →
      Contains (six_of op es own other (get_or hs j no_hit) (k + (before (prescribed_hits origin (hit_number_of op) hs) j + i))) s →
      Contains (hit_stands op es own other k hs) s
  hit_listed k [] s j i l m c = absurd (omega (arith, l))
  hit_listed k (h ∷ hs) s zero i l m c =
      let size = times_of op h in
      let here : k + (0 + i) ≡ k + i = omega arith in
      Contains-append_left (one_hit_stands op es own other k h) (hit_stands op es own other (k + size) hs) s
      (copy_listed (six_of op es own other h) k size i s m (subst (λ v. Contains (six_of op es own other h v) s) here c))
  hit_listed k (h ∷ hs) s (suc j) i l m c =
      let size = times_of op h in
      let blocks = before (prescribed_hits origin (hit_number_of op) hs) j in
      let more : k + (size + blocks + i) ≡ k + size + (blocks + i) = omega arith in
      Contains-append_right (one_hit_stands op es own other k h) (hit_stands op es own other (k + size) hs) s
      (hit_listed (k + size) hs s j i (omega (arith, l)) m (subst (λ v. Contains (six_of op es own other (get_or hs j no_hit) v) s) more c))
