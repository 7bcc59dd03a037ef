-- What is left of the places of a ring, and where in it a place stands.
use Rattle.std.specs.Prelude.{◌≡◌, ◌≢◌, ℕ, zero, suc, ◌<◌, ◌≤◌, List, [], ◌∷◌, Bool, true, false, ◌||◌, length, get_or, set}
use Rattle.std.specs.List.{list_any, remove}
use Rattle.std.proofs.Common.{arith, refl, ap, ◌∙◌, inl, inr}
use Rattle.std.proofs.lemmas.Bool.{cases_lt, or_right}
use Rattle.std.proofs.lemmas.List.{get_or-set_other}
use Rattle.ring_cutting.specs.declared.place.Place.{Place}
use Rattle.ring_cutting.specs.Left.{lives, place_of, left_of, rank}

-- a place that is left is one of the ring
pub lives_within : (bs : List Bool) (i : ℕ) → lives bs i ≡ true → i < length bs
lives_within [] i h = cc
lives_within (b ∷ bs) zero h = omega arith
lives_within (b ∷ bs) (suc i) h = omega (arith, lives_within bs i h)

-- what is left without one more was left before, and is another
pub lives_less : (bs : List Bool) (c m : ℕ) → lives (set bs c false) m ≡ true → lives bs m ≡ true
lives_less [] c m h = h
lives_less (b ∷ bs) zero zero h = cc
lives_less (b ∷ bs) zero (suc m) h = h
lives_less (b ∷ bs) (suc c) zero h = h
lives_less (b ∷ bs) (suc c) (suc m) h = lives_less bs c m h

pub lives_other : (bs : List Bool) (c m : ℕ) → lives (set bs c false) m ≡ true → m ≢ c
lives_other [] c m h = cc
lives_other (b ∷ bs) zero zero h = cc
lives_other (b ∷ bs) zero (suc m) h = λ e. absurd (omega (arith, e))
lives_other (b ∷ bs) (suc c) zero h = λ e. absurd (omega (arith, e))
lives_other (b ∷ bs) (suc c) (suc m) h = λ e. lives_other bs c m h (omega (arith, e))

-- and another that was left stays
pub lives_kept : (bs : List Bool) (c m : ℕ) → m ≢ c → lives bs m ≡ true → lives (set bs c false) m ≡ true
lives_kept bs c m apart h = get_or-set_other bs c m false false apart ∙ h

-- where it stands among them
pub rank_read : (bs : List Bool) (ps : List Place) (i : ℕ) (d : Place) → length bs ≡ length ps → lives bs i ≡ true →
    get_or (left_of bs ps) (rank bs i) d ≡ get_or ps i d
rank_read [] ps i d many h = cc
rank_read (b ∷ bs) [] i d many h = absurd (omega (arith, many))
rank_read (true ∷ bs) (p ∷ ps) zero d many h = refl
rank_read (false ∷ bs) (p ∷ ps) zero d many h = cc
rank_read (true ∷ bs) (p ∷ ps) (suc i) d many h = rank_read bs ps i d (omega (arith, many)) h
rank_read (false ∷ bs) (p ∷ ps) (suc i) d many h = rank_read bs ps i d (omega (arith, many)) h

pub rank_within : (bs : List Bool) (ps : List Place) (i : ℕ) → length bs ≡ length ps → lives bs i ≡ true → rank bs i < length (left_of bs ps)
rank_within [] ps i many h = cc
rank_within (b ∷ bs) [] i many h = absurd (omega (arith, many))
rank_within (true ∷ bs) (p ∷ ps) zero many h = omega arith
rank_within (false ∷ bs) (p ∷ ps) zero many h = cc
rank_within (true ∷ bs) (p ∷ ps) (suc i) many h = omega (arith, rank_within bs ps i (omega (arith, many)) h)
rank_within (false ∷ bs) (p ∷ ps) (suc i) many h = rank_within bs ps i (omega (arith, many)) h

-- what is left without it
pub left_without : (bs : List Bool) (ps : List Place) (i : ℕ) → length bs ≡ length ps → lives bs i ≡ true →
    left_of (set bs i false) ps ≡ remove (left_of bs ps) (rank bs i)
left_without [] ps i many h = cc
left_without (b ∷ bs) [] i many h = absurd (omega (arith, many))
left_without (true ∷ bs) (p ∷ ps) zero many h = refl
left_without (false ∷ bs) (p ∷ ps) zero many h = cc
left_without (true ∷ bs) (p ∷ ps) (suc i) many h = ap (λ (l : List Place). p ∷ l) (left_without bs ps i (omega (arith, many)) h)
left_without (false ∷ bs) (p ∷ ps) (suc i) many h = left_without bs ps i (omega (arith, many)) h

-- with all left, these are the ring
pub left_whole : (bs : List Bool) (ps : List Place) → length bs ≡ length ps → ((i : ℕ) → i < length bs → lives bs i ≡ true) → left_of bs ps ≡ ps
left_whole [] [] many h = refl
left_whole [] (p ∷ ps) many h = absurd (omega (arith, many))
left_whole (b ∷ bs) [] many h = absurd (omega (arith, many))
left_whole (true ∷ bs) (p ∷ ps) many h = ap (λ (l : List Place). p ∷ l) (left_whole bs ps (omega (arith, many)) (λ i l. h (suc i) (omega (arith, l))))
left_whole (false ∷ bs) (p ∷ ps) many h = let e : false ≡ true = h 0 (omega arith) in cc

-- with none left, none
none_left : (bs : List Bool) (ps : List Place) → ((m : ℕ) → lives bs m ≡ true → ⊥) → left_of bs ps ≡ []
none_left [] ps h = refl
none_left (b ∷ bs) [] h = refl
none_left (true ∷ bs) (p ∷ ps) h = absurd (h 0 refl)
none_left (false ∷ bs) (p ∷ ps) h = none_left bs ps (λ m l. h (suc m) l)

-- the first that is left stands first
pub rank_first : (bs : List Bool) (j : ℕ) → ((m : ℕ) → lives bs m ≡ true → j ≤ m) → rank bs j ≡ 0
rank_first [] j h = refl
rank_first (b ∷ bs) zero h = refl
rank_first (true ∷ bs) (suc j) h = absurd (omega (arith, h 0 refl))
rank_first (false ∷ bs) (suc j) h = rank_first bs j (λ m l. omega (arith, h (suc m) l))

-- the last stands last
pub rank_last : (bs : List Bool) (ps : List Place) (i : ℕ) → length bs ≡ length ps → lives bs i ≡ true →
    ((m : ℕ) → lives bs m ≡ true → m ≤ i) → suc (rank bs i) ≡ length (left_of bs ps)
rank_last [] ps i many h last = cc
rank_last (b ∷ bs) [] i many h last = absurd (omega (arith, many))
rank_last (true ∷ bs) (p ∷ ps) zero many h last = omega (arith, ap length (none_left bs ps (λ m l. omega (arith, last (suc m) l))))
rank_last (false ∷ bs) (p ∷ ps) zero many h last = cc
rank_last (true ∷ bs) (p ∷ ps) (suc i) many h last = omega (arith, rank_last bs ps i (omega (arith, many)) h (λ m l. omega (arith, last (suc m) l)))
rank_last (false ∷ bs) (p ∷ ps) (suc i) many h last = rank_last bs ps i (omega (arith, many)) h (λ m l. omega (arith, last (suc m) l))

-- with nothing left between two, one stands after the other
pub rank_next : (bs : List Bool) (i j : ℕ) → lives bs i ≡ true → i < j → ((m : ℕ) → lives bs m ≡ true → i < m → j ≤ m) → rank bs j ≡ suc (rank bs i)
rank_next [] i j h less none = cc
rank_next (b ∷ bs) i zero h less none = absurd (omega (arith, less))
rank_next (true ∷ bs) zero (suc j) h less none = ap suc (rank_first bs j (λ m l. omega (arith, none (suc m) l (omega arith))))
rank_next (false ∷ bs) zero (suc j) h less none = cc
rank_next (true ∷ bs) (suc i) (suc j) h less none =
    ap suc (rank_next bs i j h (omega (arith, less)) (λ m l k. omega (arith, none (suc m) l (omega (arith, k)))))
rank_next (false ∷ bs) (suc i) (suc j) h less none =
    rank_next bs i j h (omega (arith, less)) (λ m l k. omega (arith, none (suc m) l (omega (arith, k))))

-- ranks ascend
rank_above : (bs : List Bool) (i j : ℕ) → lives bs i ≡ true → i < j → rank bs i < rank bs j
rank_above [] i j h less = cc
rank_above (b ∷ bs) i zero h less = absurd (omega (arith, less))
rank_above (true ∷ bs) zero (suc j) h less = omega arith
rank_above (false ∷ bs) zero (suc j) h less = cc
rank_above (true ∷ bs) (suc i) (suc j) h less = omega (arith, rank_above bs i j h (omega (arith, less)))
rank_above (false ∷ bs) (suc i) (suc j) h less = rank_above bs i j h (omega (arith, less))

pub rank_below : (bs : List Bool) (i j : ℕ) → lives bs i ≡ true → lives bs j ≡ true → rank bs i < rank bs j → i < j
rank_below bs i j h k less = elim (cases_lt i j) as (λ _. i < j) [
  | inl l ↦ l
  | inr l ↦ elim (cases_lt j i) as (λ _. i < j) [
    | inl m ↦ absurd (omega (arith, less, rank_above bs j i k m))
    | inr m ↦ let same : i ≡ j = omega (arith, l, m) in absurd (omega (arith, less, ap (rank bs) same))
  ]
]

-- a place of each rank
pub record Ranked (bs : List Bool) (k : ℕ) : Type 0 where
  pub number : ℕ
  pub living : lives bs number ≡ true
  pub is : rank bs number ≡ k

pub ranked : (bs : List Bool) (ps : List Place) (k : ℕ) → k < length (left_of bs ps) → Ranked bs k
ranked [] ps k h = absurd (omega (arith, h))
ranked (b ∷ bs) [] k h = absurd (omega (arith, h))
ranked (true ∷ bs) (p ∷ ps) zero h = record { number = 0; living = refl; is = refl }
ranked (true ∷ bs) (p ∷ ps) (suc k) h =
    let r = ranked bs ps k (omega (arith, h)) in record { number = suc r.number; living = r.living; is = ap suc r.is }
ranked (false ∷ bs) (p ∷ ps) k h = let r = ranked bs ps k h in record { number = suc r.number; living = r.living; is = r.is }

-- one that is left and passes a test is found among them
pub any_left : (f : Place → Bool) (bs : List Bool) (ps : List Place) (w : ℕ) → length bs ≡ length ps → lives bs w ≡ true →
    f (place_of ps w) ≡ true → list_any f (left_of bs ps) ≡ true
any_left f [] ps w many h y = cc
any_left f (b ∷ bs) [] w many h y = absurd (omega (arith, many))
any_left f (true ∷ bs) (p ∷ ps) zero many h y = ap (λ (t : Bool). t || list_any f (left_of bs ps)) y
any_left f (false ∷ bs) (p ∷ ps) zero many h y = cc
any_left f (true ∷ bs) (p ∷ ps) (suc w) many h y = or_right (f p) (list_any f (left_of bs ps)) (any_left f bs ps w (omega (arith, many)) h y)
any_left f (false ∷ bs) (p ∷ ps) (suc w) many h y = any_left f bs ps w (omega (arith, many)) h y

-- where none does, none is
pub none_any : (f : Place → Bool) (bs : List Bool) (ps : List Place) → ((w : ℕ) → lives bs w ≡ true → f (place_of ps w) ≡ false) →
    list_any f (left_of bs ps) ≡ false
none_any f [] ps h = refl
none_any f (b ∷ bs) [] h = refl
none_any f (true ∷ bs) (p ∷ ps) h = rw (h 0 refl) (none_any f bs ps (λ w l. h (suc w) l))
none_any f (false ∷ bs) (p ∷ ps) h = none_any f bs ps (λ w l. h (suc w) l)

-- where none is found, none is once one more is gone
pub any_fewer : (f : Place → Bool) (bs : List Bool) (ps : List Place) (c : ℕ) → list_any f (left_of bs ps) ≡ false →
    list_any f (left_of (set bs c false) ps) ≡ false
any_fewer f [] ps c h = h
any_fewer f (b ∷ bs) [] zero h = refl
any_fewer f (b ∷ bs) [] (suc c) h = refl
any_fewer f (true ∷ bs) (p ∷ ps) zero h = (or_none (f p) (list_any f (left_of bs ps)) h).1
  where
    or_none : (a b : Bool) → (a || b) ≡ false → (a ≡ false) × (b ≡ false)
    or_none true b h = cc
    or_none false b h = (refl, h)
any_fewer f (false ∷ bs) (p ∷ ps) zero h = h
any_fewer f (true ∷ bs) (p ∷ ps) (suc c) h =
    both (f p) (list_any f (left_of bs ps)) (list_any f (left_of (set bs c false) ps)) h (any_fewer f bs ps c)
  where
    both : (a b d : Bool) → (a || b) ≡ false → (b ≡ false → d ≡ false) → (a || d) ≡ false
    both true b d h k = cc
    both false b d h k = k h
any_fewer f (false ∷ bs) (p ∷ ps) (suc c) h = any_fewer f bs ps c h
