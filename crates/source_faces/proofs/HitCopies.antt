-- The records of hits say how the copies stand, where the copies of each hit are told by their numbers.
use Rattle.std.proofs.Common.{◌≡◌, ℕ, zero, suc, ◌+◌, ◌<◌, Bool, not, ℤ, pos, negsuc, List, length, get_or, nat_abs}
use Rattle.std.proofs.Common.{int_lt, refl, sym, ap, ◌∙◌, subst, arith}
use Rattle.std.specs.List.{Contains}
use Rattle.std.proofs.lemmas.Bool.{le-ltb, lt-ltb}
use Rattle.std.proofs.lemmas.List.Elements.{All-contains}
use Rattle.chain_terms.specs.Ranks.{twin}
use Rattle.mb_base.specs.declared.op.Op.{Op}
use Rattle.mb_base.specs.declared.results.Hit.{Hit}
use Rattle.mb_base.specs.declared.results.Origin.{Origin}
use Rattle.side_terms.specs.Lists.{Copy, no_copy, standing}
use Rattle.side_terms.specs.Prescribed.{Prescription, copy_of, hit_number_of, prescribed_hits}
use Rattle.source_faces.specs.Agreement.{IsHitCopy, StandsAs, list_name}
use Rattle.source_faces.specs.Stands.{hit_stands}
use Rattle.source_faces.specs.declared.lists.stands.Stand.{Stand}
use Rattle.source_faces.proofs.Blocks.{before}
use Rattle.source_faces.proofs.Listed.{hit_listed, no_hit, of_hit, six_of, times_of}
use Rattle.source_faces.proofs.Sights.{IsSeen, SaysHow, is_one_of_six, six_say}

-- what a hit is prescribed as
abbrev pub hit_as : Op → (ℕ → ℕ → Origin) → Hit → Prescription
hit_as op origin h = record { origin = origin h.edge h.face; number = hit_number_of op h.number; point = h.at }

-- a number that is not 0 is above 0 or below it
one_sign : (z : ℤ) → 0 < nat_abs z → int_lt z (pos 0) ≡ not (int_lt (pos 0) z)
one_sign (pos zero) some = absurd (omega (arith, some))
one_sign (pos (suc n)) some = le-ltb (suc n) 0 (omega arith) ∙ sym (ap not (lt-ltb 0 (suc n) (omega arith)))
one_sign (negsuc n) some = refl

-- a copy of a hit, by whether that is prescribed a positive number of times
abbrev pub copy_as : Op → (ℕ → ℕ → Origin) → Hit → Copy
copy_as op origin h = record { origin = origin h.edge h.face; negative = not (int_lt (pos 0) (hit_number_of op h.number)); point = h.at }

pub is_copy_as : (op : Op) (origin : ℕ → ℕ → Origin) (h : Hit) → 0 < nat_abs (hit_number_of op h.number) →
    copy_of (hit_as op origin h) ≡ copy_as op origin h
is_copy_as op origin h some =
    ap (λ b. record { origin = origin h.edge h.face; negative = b; point = h.at }) (one_sign (hit_number_of op h.number) some)

-- the number of a copy of a hit, where they are numbered from k
abbrev pub copy_number : Op → (ℕ → ℕ → Origin) → ℕ → List Hit → (j i : ℕ) → ℕ
copy_number op origin k hs j i = k + (before (prescribed_hits origin (hit_number_of op) hs) j + i)

module _ (op : Op) (P Q : List (ℕ × ℕ)) (faces : ℕ) (cs : List Copy) (es : List (ℕ × ℕ)) (Own Other : ℕ → Type 0) (own other : ℕ)
    (origin : ℕ → ℕ → Origin) (k : ℕ) (hs : List Hit) where
  -- hit j has a copy i
  abbrev pub IsTurn : (j i : ℕ) → Type 0
  IsTurn j i = (j < length hs) × (i < times_of op (get_or hs j no_hit))

  -- how a copy of hit j stands in list l of source face x
  abbrev pub stands_in : (j x l : ℕ) → ℤ
  stands_in j x l = standing P Q (list_name faces x l) (copy_as op origin (get_or hs j no_hit))

  -- the copies of the hits of the edges of es have such numbers, and stand as they are seen
  pub record AreTold : Type 0 where
    pub of_hits : (e f : ℕ) → IsHitCopy (origin e f)
    pub within : (j i : ℕ) → IsTurn j i → copy_number op origin k hs j i < length cs
    pub copy : (j i : ℕ) → IsTurn j i → get_or cs (copy_number op origin k hs j i) no_copy ≡ copy_as op origin (get_or hs j no_hit)
    pub seen : (j : ℕ) → j < length hs → let h = get_or hs j no_hit in
        IsSeen (stands_in j) Own Other own other h.edge (twin es h.edge) h.face (int_lt (pos 0) (hit_number_of op h.number))

  -- then each record says how its copy stands
  pub told_only : AreTold → (s : Stand) → Contains (hit_stands op es own other k hs) s →
      (s.copy < length cs) × IsHitCopy (get_or cs s.copy no_copy).origin
      × StandsAs s.start (standing P Q (list_name faces s.face s.list) (get_or cs s.copy no_copy))
  told_only known s c =
      let r = of_hit op es own other origin k hs s c in
      let h = get_or hs r.hit no_hit in
      let v = copy_number op origin k hs r.hit r.turn in
      let turn : IsTurn r.hit r.turn = (r.within, r.inside) in
      let six =
      six_say (stands_in r.hit) Own Other own other h.edge (twin es h.edge) h.face (int_lt (pos 0) (hit_number_of op h.number))
      (known.seen r.hit r.within) v in
      let says = All-contains (SaysHow (stands_in r.hit) v) (six_of op es own other h v) s six r.one in
      let copy : copy_as op origin h ≡ get_or cs s.copy no_copy = sym (known.copy r.hit r.turn turn) ∙ ap (λ w. get_or cs w no_copy) (sym says.0) in
      let inside = known.within r.hit r.turn turn in (
        omega (arith, inside, says.0),
        subst (λ (d : Copy). IsHitCopy d.origin) copy (known.of_hits h.edge h.face),
        subst (λ (d : Copy). StandsAs s.start (standing P Q (list_name faces s.face s.list) d)) copy says.1,
      )

  -- and each list in which a copy stands has its record
  pub told_each : AreTold → (j i : ℕ) → IsTurn j i → (x l v : ℕ) (start : Bool) → v ≡ copy_number op origin k hs j i →
      StandsAs start (standing P Q (list_name faces x l) (get_or cs v no_copy)) →
      Contains (hit_stands op es own other k hs) (record { face = x; list = l; copy = v; start = start })
  told_each known j i turn x l v start at stands =
      let h = get_or hs j no_hit in
      let s : Stand = record { face = x; list = l; copy = v; start = start } in
      let copy : get_or cs v no_copy ≡ copy_as op origin h = ap (λ w. get_or cs w no_copy) at ∙ known.copy j i turn in
      let so : StandsAs start (stands_in j x l) = subst (λ (d : Copy). StandsAs start (standing P Q (list_name faces x l) d)) copy stands in
      let six =
      is_one_of_six (stands_in j) Own Other own other h.edge (twin es h.edge) h.face (int_lt (pos 0) (hit_number_of op h.number))
      (known.seen j turn.0) v x l start so in
      hit_listed op es own other origin k hs s j i turn.0 turn.1 (subst (λ w. Contains (six_of op es own other h w) s) at six)
