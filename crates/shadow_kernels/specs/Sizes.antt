-- Sizes of counts, and what the two ends of an edge give.
use Rattle.std.specs.Prelude.{◌≡◌, ◌≢◌, ℤ, pos, negsuc, neg_ℤ, ◌≤ℤ◌, ◌⊎◌, Bool, true, false, if◌then◌else◌, Option, None, Some, IfSome}
use Rattle.std.specs.Ordering.{int_eq}
use Rattle.std.proofs.Common.{arith, refl, sym, ap, inl, inr, ◌∙◌}
use Rattle.std.proofs.lemmas.Int.{ints}
use Rattle.std.proofs.lemmas.Bool.Decides.{Decides-int_eq}
use Rattle.shadow_kernels.specs.declared.Spot.{Spot}
use Rattle.shadow_kernels.specs.declared.Meet.{Meet}
use Rattle.shadow_kernels.specs.Counts.{count_of, shadow_of, turned, met}

-- 1 or -1
abbrev pub IsUnit : ℤ → Type 0
IsUnit z = (z ≡ pos 1) ⊎ (z ≡ negsuc 0)

-- an answer's count is 1 or -1
abbrev pub IsSized : Option Meet → Type 0
IsSized None = Unit {0}
IsSized (Some m) = IsUnit m.count

-- by whether a number is 0
pub by_zero : {A : Type 0} (c : ℤ) → (c ≡ pos 0 → A) → (c ≢ pos 0 → A) → A
by_zero {A} c f g = by (int_eq c (pos 0)) refl where
  by : (t : Bool) → int_eq c (pos 0) ≡ t → A
  by true e = f ((Decides-int_eq c (pos 0)).0 e)
  by false e = g (λ z. let k = (Decides-int_eq c (pos 0)).1 z in absurd (cc))

-- what is there unless a number is 0
abbrev pub if_any : {X : Type 0} → ℤ → X → Option X
if_any c x = if int_eq c (pos 0) then None else Some x

pub any_none : {X : Type 0} (c : ℤ) (x : X) → c ≡ pos 0 → if_any c x ≡ None
any_none c x e = ap (λ (t : Bool). if t then None else Some x) ((Decides-int_eq c (pos 0)).1 e)

pub any_some : {X : Type 0} (c : ℤ) (x : X) → c ≢ pos 0 → if_any c x ≡ Some x
any_some c x n = ap (λ (t : Bool). if t then None else Some x) (no (int_eq c (pos 0)) refl) where
  no : (t : Bool) → int_eq c (pos 0) ≡ t → t ≡ false
  no true e = absurd (n ((Decides-int_eq c (pos 0)).0 e))
  no false e = refl

-- there is no answer at count 0
pub met_none : (c : ℤ) (above : Bool) (s : Spot) → c ≡ pos 0 → met c above s ≡ None
unfolding met
met_none c above s e = any_none c (record { count = c; above = above; spot = s }) e

-- there is one at every other count
pub met_some : (c : ℤ) (above : Bool) (s : Spot) → c ≢ pos 0 → met c above s ≡ Some (record { count = c; above = above; spot = s })
unfolding met
met_some c above s n = any_some c (record { count = c; above = above; spot = s }) n

-- what holds unless a number is 0 holds of what is there
pub any_holds : {X : Type 0} (P : X → Type 0) (c : ℤ) (x : X) → (c ≢ pos 0 → P x) → IfSome (if_any c x) P
any_holds P c x f = by_zero c
    (λ e. rw (any_none c x e) tt)
    (λ n. rw (any_some c x n) (f n))

-- a number that is 0 where there is nothing is that of which the rest was made
pub any_number : {X : Type 0} (number : Option X → ℤ) (c : ℤ) (x : X) → number None ≡ pos 0 → number (Some x) ≡ c → number (if_any c x) ≡ c
any_number number c x none some = by_zero c
    (λ e. ap number (any_none c x e) ∙ none ∙ sym e)
    (λ n. ap number (any_some c x n) ∙ some)

-- so an answer has its count, and what holds at every count that is not 0 holds of it
pub met_count : (c : ℤ) (above : Bool) (s : Spot) → count_of (met c above s) ≡ c
unfolding met
met_count c above s = any_number count_of c (record { count = c; above = above; spot = s }) refl refl

pub met_holds : (P : Meet → Type 0) (c : ℤ) (above : Bool) (s : Spot) → (c ≢ pos 0 → P (record { count = c; above = above; spot = s })) → IfSome (met c above s) P
unfolding met
met_holds P c above s f = any_holds P c (record { count = c; above = above; spot = s }) f

-- an answer at the count turned
pub met_turned : (c : ℤ) (above : Bool) (s : Spot) → met (neg_ℤ c) above s ≡ turned (met c above s)
met_turned c above s = by_zero c
    (λ e. met_none (neg_ℤ c) above s (omega (arith, ints)) ∙ ap turned (sym (met_none c above s e)))
    (λ n. met_some (neg_ℤ c) above s (λ z. n (omega (arith, ints))) ∙ ap turned (sym (met_some c above s n)))

-- a count from -1 to 1 that is not 0 is 1 or -1
pub unit_from : (c : ℤ) → negsuc 0 ≤ℤ c → c ≤ℤ pos 1 → c ≢ pos 0 → IsUnit c
unit_from (pos n) l h k = inl (omega (arith, ints))
unit_from (negsuc n) l h k = inr (omega (arith, ints))

-- so an answer with such counts is sized
pub sized_from : (m : Option Meet) → (negsuc 0 ≤ℤ count_of m) × (count_of m ≤ℤ pos 1) → IfSome m (λ n. n.count ≢ pos 0) → IsSized m
sized_from None h k = tt
sized_from (Some m) h k = unit_from m.count h.0 h.1 k

-- and one made of such a count
pub met_sized : (c : ℤ) (above : Bool) (s : Spot) → negsuc 0 ≤ℤ c → c ≤ℤ pos 1 → IsSized (met c above s)
met_sized c above s l h = by_zero c
    (λ e. rw (met_none c above s e) tt)
    (λ n. rw (met_some c above s n) (unit_from c l h n))

-- a sized answer has a count of -1, 0 or 1
pub sized_bounds : (m : Option Meet) → IsSized m → (negsuc 0 ≤ℤ count_of m) × (count_of m ≤ℤ pos 1)
sized_bounds None h = (omega (arith, ints), omega (arith, ints))
sized_bounds (Some m) (inl e) = (omega (arith, ints), omega (arith, ints))
sized_bounds (Some m) (inr e) = (omega (arith, ints), omega (arith, ints))

-- the shadow of an answer whose count is -1, 0 or 1 is so too
pub shadow_bounds : (m : Option Meet) → (negsuc 0 ≤ℤ count_of m) × (count_of m ≤ℤ pos 1) → (negsuc 0 ≤ℤ shadow_of m) × (shadow_of m ≤ℤ pos 1)
shadow_bounds None h = h
shadow_bounds (Some m) h = by m.above m.count h where
  by : (b : Bool) (n : ℤ) → (negsuc 0 ≤ℤ n) × (n ≤ℤ pos 1) → (negsuc 0 ≤ℤ (if b then n else pos 0)) × ((if b then n else pos 0) ≤ℤ pos 1)
  by true n h = h
  by false n h = (omega (arith, ints), omega (arith, ints))

-- a sized answer that is there has a count other than 0
pub sized_present : (m : Option Meet) → IsSized m → IfSome m (λ n. n.count ≢ pos 0)
sized_present None h = tt
sized_present (Some m) (inl e) = λ z. omega (arith, ints)
sized_present (Some m) (inr e) = λ z. omega (arith, ints)

-- turning keeps the size
pub turned_sized : (m : Option Meet) → IsSized m → IsSized (turned m)
turned_sized None h = tt
turned_sized (Some m) (inl e) = inr (ap neg_ℤ e)
turned_sized (Some m) (inr e) = inl (ap neg_ℤ e)

-- turning turns the count
pub turned_count : (m : Option Meet) → count_of (turned m) ≡ neg_ℤ (count_of m)
turned_count None = refl
turned_count (Some m) = refl

-- turning turns the shadow
pub turned_shadow : (m : Option Meet) → shadow_of (turned m) ≡ neg_ℤ (shadow_of m)
turned_shadow None = refl
turned_shadow (Some m) = by m.above m.count where
  by : (b : Bool) (n : ℤ) → (if b then neg_ℤ n else pos 0) ≡ neg_ℤ (if b then n else pos 0)
  by true n = refl
  by false n = refl

-- turning keeps what is said of the spot and the mark above
pub turned_holds : (P : Spot → Bool → Type 0) (m : Option Meet) → IfSome m (λ n. P n.spot n.above) → IfSome (turned m) (λ n. P n.spot n.above)
turned_holds P None h = tt
turned_holds P (Some m) h = h

-- turning twice gives the answer back
pub turned_twice : (m : Option Meet) → turned (turned m) ≡ m
turned_twice None = refl
turned_twice (Some m) = ap (λ (z : ℤ). Some (record { count = z; above = m.above; spot = m.spot })) (neg_twice m.count) where
  neg_twice : (z : ℤ) → neg_ℤ (neg_ℤ z) ≡ z
  neg_twice z = omega (arith, ints)
