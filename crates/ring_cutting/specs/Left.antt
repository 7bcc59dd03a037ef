-- The places of a ring that are left, by their numbers in the ring at the start.
use Rattle.std.specs.Prelude.{◌≡◌, ◌≢◌, ℕ, zero, suc, ◌+◌, ◌-◌, ◌<◌, ◌≤◌, ◌==◌, ◌⊎◌, pos, int_lt}
use Rattle.std.specs.Prelude.{List, [], ◌∷◌, length, get_or, set, Bool, true, false, cond, not, ◌&&◌}
use Rattle.std.specs.List.{list_any}
use Rattle.std.specs.Ordering.{nat_cmp}
use Rattle.std.specs.BTreeSet.{BTreeSet, contains}
use Rattle.face_plane.specs.Planes.{turn}
use Rattle.face_plane.specs.Rings.{In}
use Rattle.ring_cutting.specs.declared.place.Place.{Place}
use Rattle.ring_cutting.specs.Placed.{place_blocks, is_third}

-- whether a place is left
abbrev pub lives : List Bool → ℕ → Bool
lives bs i = get_or bs i false

-- the places after and before it
abbrev pub after_of : List ℕ → ℕ → ℕ
after_of nx i = get_or nx i 0

abbrev pub before_of : List ℕ → ℕ → ℕ
before_of bf i = get_or bf i 0

-- what is read beyond the places
abbrev pub no_place : Place
no_place = record { vertex = 0; at = (pos 0, pos 0) }

abbrev pub place_of : List Place → ℕ → Place
place_of ps i = get_or ps i no_place

-- the places that are left, in order
abbrev pub left_of : List Bool → List Place → List Place
left_of [] ps = []
left_of (b ∷ bs) [] = []
left_of (b ∷ bs) (p ∷ ps) = cond b (p ∷ left_of bs ps) (left_of bs ps)

-- how many places below a number are left
abbrev pub rank : List Bool → ℕ → ℕ
rank [] i = 0
rank (b ∷ bs) zero = 0
rank (b ∷ bs) (suc i) = cond b (suc (rank bs i)) (rank bs i)

-- i's place and then j's: what is left lies not between them, where the ring ends between them not behind i nor before j
pub record IsNext (bs : List Bool) (i j : ℕ) : Type 0 where
  pub stays : lives bs j ≡ true
  pub between : i < j → (m : ℕ) → lives bs m ≡ true → i < m → j ≤ m
  pub last : j ≤ i → (m : ℕ) → lives bs m ≡ true → m ≤ i
  pub first : j ≤ i → (m : ℕ) → lives bs m ≡ true → j ≤ m

-- the links of what is left
pub record IsLinked (len : ℕ) (nx bf : List ℕ) (bs : List Bool) : Type 0 where
  pub after_long : length nx ≡ len
  pub before_long : length bf ≡ len
  pub living_long : length bs ≡ len
  pub goes : (i : ℕ) → lives bs i ≡ true → IsNext bs i (after_of nx i)
  pub stays : (i : ℕ) → lives bs i ≡ true → lives bs (before_of bf i) ≡ true
  pub back : (i : ℕ) → lives bs i ≡ true → before_of bf (after_of nx i) ≡ i
  pub forth : (i : ℕ) → lives bs i ≡ true → after_of nx (before_of bf i) ≡ i

-- the links at the start
pub record IsBegun (len : ℕ) (nx bf : List ℕ) (bs : List Bool) : Type 0 where
  pub after_long : length nx ≡ len
  pub before_long : length bf ≡ len
  pub living_long : length bs ≡ len
  pub living : (i : ℕ) → i < len → lives bs i ≡ true
  pub after : (i : ℕ) → i < len → after_of nx i ≡ cond (i + 1 == len) 0 (i + 1)
  pub before : (i : ℕ) → i < len → before_of bf i ≡ cond (i == 0) (len - 1) (i - 1)

-- a place whose vertex is neither of two
abbrev pub third_place : ℕ → ℕ → Place → Bool
third_place p n w = is_third p n w.vertex

-- whether the neighbours' vertices differ and a third stands in another place
abbrev pub may_go : List Place → List Bool → ℕ → ℕ → ℕ → Bool
may_go ps bs p i n =
    not ((place_of ps p).vertex == (place_of ps n).vertex)
    && list_any (third_place (place_of ps p).vertex (place_of ps n).vertex) (left_of (set bs i false) ps)

-- whether a place and its neighbours turn left
abbrev pub goes_left : List Place → ℕ → ℕ → ℕ → Bool
goes_left ps p i n = int_lt (pos 0) (turn (place_of ps p).at (place_of ps i).at (place_of ps n).at)

-- whether a place is an ear but for what lies in its triangle
abbrev pub is_open : List Place → List Bool → ℕ → ℕ → ℕ → Bool
is_open ps bs p i n = may_go ps bs p i n && goes_left ps p i n

-- whether a place lies in its triangle
abbrev pub blocks_at : List Place → ℕ → ℕ → ℕ → ℕ → Bool
blocks_at ps p i n w = place_blocks (place_of ps p) (place_of ps i) (place_of ps n) (place_of ps w)

-- whether the place is an ear
abbrev pub is_ear_of : List Place → List Bool → ℕ → ℕ → ℕ → Bool
is_ear_of ps bs p i n =
    is_open ps bs p i n && not (list_any (place_blocks (place_of ps p) (place_of ps i) (place_of ps n)) (left_of bs ps))

-- the same by the links
abbrev pub may_go_at : List Place → List ℕ → List ℕ → List Bool → ℕ → Bool
may_go_at ps nx bf bs i = may_go ps bs (before_of bf i) i (after_of nx i)

abbrev pub is_ear_at : List Place → List ℕ → List ℕ → List Bool → ℕ → Bool
is_ear_at ps nx bf bs i = is_ear_of ps bs (before_of bf i) i (after_of nx i)

-- a place in the triangle of i is left, and i waits for it
pub record IsBlocked (ps : List Place) (bs : List Bool) (p i n : ℕ) (waiting : List (List ℕ)) : Type 0 where
  pub number : ℕ
  pub living : lives bs number ≡ true
  pub blocks : blocks_at ps p i n number ≡ true
  pub waits : In i (get_or waiting number [])

-- why a place is no ear
abbrev pub HasReason : List Place → List Bool → ℕ → ℕ → ℕ → List (List ℕ) → Type 0
HasReason ps bs p i n waiting = (is_open ps bs p i n ≡ false) ⊎ IsBlocked ps bs p i n waiting

-- each of some places is left
abbrev pub AreLeft : BTreeSet ℕ → List Bool → Type 0
AreLeft ns bs = (q : ℕ) → contains nat_cmp ns q ≡ true → lives bs q ≡ true

-- each but one is
abbrev pub AreLeftBut : ℕ → BTreeSet ℕ → List Bool → Type 0
AreLeftBut i ns bs = (q : ℕ) → q ≢ i → contains nat_cmp ns q ≡ true → lives bs q ≡ true

-- what is in doubt is left, and what else is left has a reason
pub record AreSettled (ps : List Place) (nx bf : List ℕ) (bs : List Bool) (doubtful : BTreeSet ℕ) (waiting : List (List ℕ)) : Type 0 where
  pub many : length waiting ≡ length ps
  pub known : AreLeft doubtful bs
  pub reasons : (i : ℕ) → lives bs i ≡ true → contains nat_cmp doubtful i ≡ false →
      HasReason ps bs (before_of bf i) i (after_of nx i) waiting
