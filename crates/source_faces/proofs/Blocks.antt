-- The copies of what is prescribed lie in blocks, one behind the other.
use Rattle.std.proofs.Common.{◌≡◌, ℕ, zero, suc, ◌+◌, ◌-◌, ◌<◌, ◌≤◌, pos, List, [], ◌∷◌, ◌++◌, length, get_or, nat_abs}
use Rattle.std.proofs.Common.{refl, ap, ◌∙◌, arith, inl, inr}
use Rattle.std.specs.List.{flat_map}
use Rattle.std.proofs.lemmas.List.{get_or_append_left, get_or-append_right, get_or-replicate, length-append, length-replicate}
use Rattle.std.proofs.lemmas.Bool.{cases_lt}
use Rattle.mb_base.specs.declared.results.Origin.TheVariants.{PVertex}
use Rattle.side_terms.specs.Lists.{Copy, no_copy}
use Rattle.side_terms.specs.Prescribed.{Prescription, copies_of, copy_of}

abbrev pub no_prescription : Prescription
no_prescription = record { origin = PVertex 0; number = pos 0; point = [] }

-- how many copies the first j have
abbrev pub before : List Prescription → ℕ → ℕ
before [] j = 0
before (i ∷ is) zero = 0
before (i ∷ is) (suc j) = nat_abs i.number + before is j

-- all copies
abbrev pub all_copies : List Prescription → List Copy
all_copies is = flat_map copies_of is

-- the length of the copies of one
pub length-copies_of : (i : Prescription) → length (copies_of i) ≡ nat_abs i.number
length-copies_of i = length-replicate (nat_abs i.number) (copy_of i)

-- copy k of the j-th is a copy of it
pub copy_in : (is : List Prescription) (j k : ℕ) → j < length is → k < nat_abs (get_or is j no_prescription).number →
    get_or (all_copies is) (before is j + k) no_copy ≡ copy_of (get_or is j no_prescription)
copy_in [] j k l m = absurd (omega (arith, l))
copy_in (i ∷ is) zero k l m =
    let inside : k < length (copies_of i) = omega (arith, m, length-copies_of i) in
    let here : 0 + k ≡ k = omega arith in
    ap (λ n. get_or (copies_of i ++ all_copies is) n no_copy) here ∙ get_or_append_left (copies_of i) (all_copies is) no_copy k inside
    ∙ get_or-replicate (nat_abs i.number) k (copy_of i) no_copy m
copy_in (i ∷ is) (suc j) k l m =
    let at = nat_abs i.number + before is j + k in
    let shift : at - nat_abs i.number ≡ before is j + k = omega arith in
    get_or-append_right (copies_of i) (all_copies is) (nat_abs i.number) at no_copy (length-copies_of i) (omega arith)
    ∙ ap (λ n. get_or (all_copies is) n no_copy) shift ∙ copy_in is j k (omega (arith, l)) m

-- where a copy lies
pub record LiesIn (is : List Prescription) (v : ℕ) : Type 0 where
  pub block : ℕ
  pub place : ℕ
  pub within : block < length is
  pub inside : place < nat_abs (get_or is block no_prescription).number
  pub at : v ≡ before is block + place

pub lies_in : (is : List Prescription) (v : ℕ) → v < length (all_copies is) → LiesIn is v
lies_in [] v l = absurd (omega (arith, l))
lies_in (i ∷ is) v l = elim (cases_lt v (nat_abs i.number)) as (λ _. LiesIn (i ∷ is) v) [
  | inl here ↦ record { block = 0; place = v; within = omega arith; inside = here; at = omega arith }
  | inr past ↦
      let later = lies_in is (v - nat_abs i.number) (omega (arith, past, l, length-append (copies_of i) (all_copies is), length-copies_of i)) in
      record {
        block = suc later.block;
        place = later.place;
        within = omega (arith, later.within);
        inside = later.inside;
        at =
            omega (arith, past, later.at);
      }
]

-- blocks ascend
pub before_ascends : (is : List Prescription) (j k : ℕ) → j < k → k ≤ length is → before is j + nat_abs (get_or is j no_prescription).number ≤ before is k
before_ascends [] j k l m = absurd (omega (arith, l, m))
before_ascends (i ∷ is) j zero l m = absurd (omega (arith, l))
before_ascends (i ∷ is) zero (suc k) l m = omega arith
before_ascends (i ∷ is) (suc j) (suc k) l m = omega (arith, before_ascends is j k (omega (arith, l)) (omega (arith, m)))

-- all copies together
pub before_all : (is : List Prescription) → before is (length is) ≡ length (all_copies is)
before_all [] = refl
before_all (i ∷ is) = omega (arith, before_all is, length-append (copies_of i) (all_copies is), length-copies_of i)
