-- Records in the order of their faces, face by face.
use Rattle.std.proofs.Common.{is_lt, ◌≡◌, ℕ, suc, ◌+◌, ◌-◌, ◌<◌, ◌≤◌, ◌==◌, nat_lt, List, [], ◌∷◌, true, cond, length}
use Rattle.std.proofs.Common.{take, drop, get_or, refl, ap, ◌∙◌, arith, inl, inr}
use Rattle.std.specs.List.{All}
use Rattle.std.specs.Ordering.{nat_cmp, ordering_then}
use Rattle.std.specs.declared.cmp.Ordering.{Ordering}
use Rattle.std.specs.declared.cmp.Ordering.TheVariants.{Greater}
use Rattle.std.proofs.lemmas.Bool.{cases_lt}
use Rattle.std.proofs.lemmas.List.{get_or_default}
use Rattle.std.proofs.lemmas.List.Elements.{All-cons, All-head, All-tail, All-weaker}
use Rattle.std.proofs.lemmas.List.Sums.{count_by-le-length}
use Rattle.chain_terms.specs.Chains.{one_if}
use Rattle.chain_laws.specs.Counts.{count_by-cons}
use Rattle.source_faces.specs.Agreement.{Ascend, no_stand, records_of}
use Rattle.source_faces.specs.Groups.{FacesAscend, IsGroup, earlier}
use Rattle.source_faces.specs.Stands.{face_count, group_end}
use Rattle.source_faces.specs.declared.lists.stands.Stand.{Stand}
use Rattle.source_faces.proofs.Tests.{is_below, is_same, not_below, not_same}

-- all records are of this face or of later ones
abbrev pub AreFrom : ℕ → List Stand → Type 0
AreFrom x ss = All (λ s. x ≤ s.face) ss

-- a record that comes before another is of no later face
face_first : (m n : ℕ) (o : Ordering) → is_lt (ordering_then (nat_cmp m n) o) ≡ true → m ≤ n
face_first m n o before = elim (cases_lt n m) as (λ _. m ≤ n) [
  | inl l ↦
      let greater : nat_cmp m n ≡ Greater = rw (not_below m n (omega (arith, l)), not_same m n (λ e. omega (arith, e, l))) refl in
      absurd (cc)
  | inr l ↦ l
]

-- where records ascend, so do their faces
pub ascend_faces : (ss : List Stand) → Ascend ss → FacesAscend ss
ascend_faces ss up i j l m = face_first (get_or ss i no_stand).face (get_or ss j no_stand).face _ (up i j l m)

-- the first record is of the earliest face
head_first : (s : Stand) (ss : List Stand) → FacesAscend (s ∷ ss) → AreFrom s.face ss
head_first s ss up k d l = rw (get_or_default ss k d no_stand l) (up 0 (suc k) (omega arith) (omega (arith, l)))

-- the others ascend too
faces_tail : (s : Stand) (ss : List Stand) → FacesAscend (s ∷ ss) → FacesAscend ss
faces_tail s ss up i j l m = up (suc i) (suc j) (omega (arith, l)) (omega (arith, m))

-- no records are of faces before a face that none comes before
pub earlier_none : (ss : List Stand) (x : ℕ) → AreFrom x ss → earlier ss x ≡ 0
earlier_none [] x from = refl
earlier_none (s ∷ ss) x from =
    let P : Stand → Type 0 = λ t. x ≤ t.face in
    omega (
      arith,
      count_by-cons (λ (t : Stand). nat_lt t.face x) s ss,
      ap one_if (not_below s.face x (All-head P s ss from)),
      earlier_none ss x (All-tail P s ss from),
    )

-- one more is of an earlier face
earlier_more : (s : Stand) (ss : List Stand) (x : ℕ) → s.face < x → earlier (s ∷ ss) x ≡ suc (earlier ss x)
earlier_more s ss x h = omega (arith, count_by-cons (λ (t : Stand). nat_lt t.face x) s ss, ap one_if (is_below s.face x h))

-- records of later faces are none of a face
later_none : (ss : List Stand) (x : ℕ) → AreFrom (x + 1) ss → records_of ss x ≡ []
later_none [] x from = refl
later_none (s ∷ ss) x from =
    let P : Stand → Type 0 = λ t. x + 1 ≤ t.face in
    rw (not_same s.face x (λ e. omega (arith, e, All-head P s ss from))) (later_none ss x (All-tail P s ss from))

-- the first record with those behind it
from_first : (s : Stand) (ss : List Stand) (x : ℕ) → FacesAscend (s ∷ ss) → x ≤ s.face → AreFrom x (s ∷ ss)
from_first s ss x up l =
    All-cons (λ (t : Stand). x ≤ t.face) s ss l
    (All-weaker (λ (t : Stand). s.face ≤ t.face) (λ t. x ≤ t.face) (λ t h. omega (arith, h, l)) ss (head_first s ss up))

-- the records of a face stand behind those of the faces before it
pub group_records : (ss : List Stand) (x : ℕ) → FacesAscend ss →
    take (face_count (drop (earlier ss x) ss) x) (drop (earlier ss x) ss) ≡ records_of ss x
group_records [] x up = refl
group_records (s ∷ ss) x up =
    let P : Stand → Type 0 = λ t. x ≤ t.face in
    let rest = group_records ss x (faces_tail s ss up) in
    elim (cases_lt s.face x)
    as (λ _. take (face_count (drop (earlier (s ∷ ss) x) (s ∷ ss)) x) (drop (earlier (s ∷ ss) x) (s ∷ ss)) ≡ records_of (s ∷ ss) x) [
      | inl l ↦ rw (earlier_more s ss x l, not_same s.face x (λ e. omega (arith, e, l))) rest
      | inr l ↦
          let from = from_first s ss x up l in
          let none = earlier_none (s ∷ ss) x from in
          let none_behind = earlier_none ss x (All-tail P s ss from) in
          elim (cases_lt x s.face)
          as (λ _. take (face_count (drop (earlier (s ∷ ss) x) (s ∷ ss)) x) (drop (earlier (s ∷ ss) x) (s ∷ ss)) ≡ records_of (s ∷ ss) x) [
            | inl m ↦
                let later = later_none ss x (All-tail (λ (t : Stand). x + 1 ≤ t.face) s ss (from_first s ss (x + 1) up (omega (arith, m)))) in
                rw (none, not_same s.face x (λ e. omega (arith, e, m)), later) refl
            | inr m ↦
                let here : (s.face == x) ≡ true = is_same s.face x (omega (arith, l, m)) in
                rw (none, here) (ap (λ ts. s ∷ ts) (rw none_behind at rest))
          ]
    ]

-- where those of a face end, those of the next one begin
pub group_ends : (ss : List Stand) (x : ℕ) → FacesAscend ss → group_end ss (earlier ss x) x ≡ earlier ss (x + 1)
group_ends [] x up = refl
group_ends (s ∷ ss) x up =
    let P : Stand → Type 0 = λ t. x ≤ t.face in
    let rest = group_ends ss x (faces_tail s ss up) in
    elim (cases_lt s.face x) as (λ _. group_end (s ∷ ss) (earlier (s ∷ ss) x) x ≡ earlier (s ∷ ss) (x + 1)) [
      | inl l ↦
          let behind : drop (earlier (s ∷ ss) x) (s ∷ ss) ≡ drop (earlier ss x) ss = ap (λ n. drop n (s ∷ ss)) (earlier_more s ss x l) in
          omega (arith, rest, earlier_more s ss x l, earlier_more s ss (x + 1) (omega (arith, l)), ap (λ ts. face_count ts x) behind)
      | inr l ↦
          let from = from_first s ss x up l in
          let none = earlier_none (s ∷ ss) x from in
          let none_behind = earlier_none ss x (All-tail P s ss from) in
          let all = ap (λ n. face_count (drop n (s ∷ ss)) x) none in
          elim (cases_lt x s.face) as (λ _. group_end (s ∷ ss) (earlier (s ∷ ss) x) x ≡ earlier (s ∷ ss) (x + 1)) [
            | inl m ↦
                let first : face_count (s ∷ ss) x ≡ 0 = ap (λ b. cond b (suc (face_count ss x)) 0) (not_same s.face x (λ e. omega (arith, e, m))) in
                omega (arith, none, all, first, earlier_none (s ∷ ss) (x + 1) (from_first s ss (x + 1) up (omega (arith, m))))
            | inr m ↦
                let first : face_count (s ∷ ss) x ≡ suc (face_count ss x) =
                ap (λ b. cond b (suc (face_count ss x)) 0) (is_same s.face x (omega (arith, l, m))) in
                let behind = ap (λ n. face_count (drop n ss) x) none_behind in
                omega (arith, rest, none, none_behind, all, first, behind, earlier_more s ss (x + 1) (omega (arith, m)))
          ]
    ]

-- those of each face are a group
pub faces_are_groups : (ss : List Stand) (x : ℕ) → FacesAscend ss → IsGroup ss x
faces_are_groups ss x up =
    record { begins = count_by-le-length (λ (s : Stand). nat_lt s.face x) ss; records = group_records ss x up; ends = group_ends ss x up }

-- the part of a list from a group's begin to its end has the records of the face
pub group_slice : (ss : List Stand) (x : ℕ) → FacesAscend ss →
    take (group_end ss (earlier ss x) x - earlier ss x) (drop (earlier ss x) ss) ≡ records_of ss x
group_slice ss x up =
    let begin = earlier ss x in
    let size : group_end ss begin x - begin ≡ face_count (drop begin ss) x = omega arith in
    ap (λ n. take n (drop begin ss)) size ∙ group_records ss x up

-- a group ends within the list
pub group_within : (ss : List Stand) (x : ℕ) → FacesAscend ss → group_end ss (earlier ss x) x ≤ length ss
group_within ss x up = omega (arith, group_ends ss x up, count_by-le-length (λ (s : Stand). nat_lt s.face (x + 1)) ss)
