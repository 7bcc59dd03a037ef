-- The bridge that is taken: the first clear one in the order of length, ring and place.
use Rattle.std.specs.Prelude.{◌≡◌, ℕ, zero, suc, ◌+◌, ◌<◌, ◌≤◌, ◌⊎◌, pos, List, [], ◌∷◌, ◌++◌, true, false, Bool, cond}
use Rattle.std.specs.Prelude.{◌&&◌, ◌||◌, ◌==◌, nat_lt, length, get_or, drop, filter, unsigned_abs, Option, Some, None}
use Rattle.std.specs.Bool.{Decides}
use Rattle.std.specs.List.{All}
use Rattle.std.specs.Option.{option_or}
use Rattle.std.proofs.Common.{arith, refl, sym, ap, subst, ◌∙◌, inl, inr}
use Rattle.std.proofs.lemmas.Bool.{cases_Bool, ltb-true, ltb-false, lt-ltb, le-ltb, and_parts, and_from, and_right}
use Rattle.std.proofs.lemmas.Bool.{both_ways, false_from_ne_true, cond-true, cond-false}
use Rattle.std.proofs.lemmas.List.{at_drop_more}
use Rattle.std.proofs.lemmas.List.Elements.{All-head}
use Rattle.std.proofs.lemmas.Option.{same_Some, none-some}
use Rattle.std.proofs.lemmas.Bool.Decides.{Decides-or, Decides-and, Decides-ltb, Decides-eqb}
use Rattle.hole_joining.specs.declared.bridge.Bridge.{Bridge}
use Rattle.face_plane.specs.Planes.{Plane, squared_distance}
use Rattle.hole_joining.specs.Bridges.{bridges_to, all_bridges, shorter, shortest, chosen}
use Rattle.hole_joining.specs.Passes.{is_later, is_after, is_nearer, better, best_of, passes}

-- b stands in the list
abbrev pub Member : Bridge → List Bridge → Type 0
Member b [] = ⊥
Member b (x ∷ xs) = (b ≡ x) ⊎ Member b xs

-- ring i, place j comes before ring k, place n
abbrev pub Before : ℕ → ℕ → ℕ → ℕ → Type 0
Before i j k n = (i < k) ⊎ ((i ≡ k) × (j < n))

-- shorter, or as long and earlier
abbrev pub IsLater : ℕ → ℕ → ℕ → ℕ → ℕ → ℕ → Type 0
IsLater l i j m k n = (l < m) ⊎ ((l ≡ m) × Before i j k n)

later_decides : (l i j m k n : ℕ) → Decides (is_later l i j m k n) (IsLater l i j m k n)
later_decides l i j m k n =
    Decides-or (nat_lt l m) ((l == m) && (nat_lt i k || ((i == k) && nat_lt j n))) (Decides-ltb l m)
    (Decides-and (l == m) (nat_lt i k || ((i == k) && nat_lt j n)) (Decides-eqb l m)
    (Decides-or (nat_lt i k) ((i == k) && nat_lt j n) (Decides-ltb i k) (Decides-and (i == k) (nat_lt j n) (Decides-eqb i k) (Decides-ltb j n))))

later_chain : (a b c l i j m k n : ℕ) → IsLater a b c l i j → IsLater l i j m k n → IsLater a b c m k n
later_chain a b c l i j m k n p q = grind arith

-- what a filter keeps stands in the list and passes
kept : (p : Bridge → Bool) (bs : List Bridge) (c : Bridge) → Member c (filter p bs) → Member c bs × (p c ≡ true)
kept p [] c h = elim h [ ]
kept p (x ∷ xs) c h = elim (cases_Bool (p x)) as (λ _. Member c (x ∷ xs) × (p c ≡ true)) [
  | inl y ↦
      let two : (c ≡ x) ⊎ Member c (filter p xs) = rw y at h in
      elim two as (λ _. Member c (x ∷ xs) × (p c ≡ true)) [
        | inl e ↦ (inl e, ap p e ∙ y)
        | inr m ↦ let r = kept p xs c m in (inr r.0, r.1)
      ]
  | inr n ↦ let rest : Member c (filter p xs) = rw n at h in let r = kept p xs c rest in (inr r.0, r.1)
]

-- and what stands in the list and passes is kept
keeps : (p : Bridge → Bool) (bs : List Bridge) (c : Bridge) → Member c bs → p c ≡ true → Member c (filter p bs)
keeps p [] c h y = elim h [ ]
keeps p (x ∷ xs) c (inl e) y = rw (sym (ap p e) ∙ y) (inl e)
keeps p (x ∷ xs) c (inr m) y = elim (cases_Bool (p x)) as (λ _. Member c (filter p (x ∷ xs))) [
  | inl t ↦ rw t (inr (keeps p xs c m y))
  | inr f ↦ rw f (keeps p xs c m y)
]

-- tests that agree on the list keep the same
filter_same : (p q : Bridge → Bool) (bs : List Bridge) → ((c : Bridge) → Member c bs → p c ≡ q c) → filter p bs ≡ filter q bs
filter_same p q [] same = refl
filter_same p q (x ∷ xs) same =
    rw (same x (inl refl)) (ap (λ l. cond (q x) (x ∷ l) l) (filter_same p q xs (λ c m. same c (inr m))))

-- all is kept where all passes
filter_all : (bs : List Bridge) → filter (λ b. true) bs ≡ bs
filter_all [] = refl
filter_all (x ∷ xs) = ap (λ l. x ∷ l) (filter_all xs)

-- a list of bridges in the order of ring and place, none before ring i, place j
abbrev pub Ascending : ℕ → ℕ → List Bridge → Type 0
Ascending i j [] = Unit {0}
Ascending i j (b ∷ bs) = Before i j b.ring (suc b.place) × Ascending b.ring (suc b.place) bs

before_chain : (i j k n p q : ℕ) → Before i j k (suc n) → Before k n p (suc q) → Before i j p (suc q)
before_chain i j k n p q a b = grind arith

-- the order may begin earlier
ascending_from : (i j k n : ℕ) (bs : List Bridge) → Before i j k (suc n) → Ascending k n bs → Ascending i j bs
ascending_from i j k n [] h up = tt
ascending_from i j k n (b ∷ bs) h up = (before_chain i j k n b.ring b.place h up.0, up.1)

-- what is kept is in that order too
ascending_kept : (p : Bridge → Bool) (i j : ℕ) (bs : List Bridge) → Ascending i j bs → Ascending i j (filter p bs)
ascending_kept p i j [] up = tt
ascending_kept p i j (x ∷ xs) up =
    let rest = ascending_kept p x.ring (suc x.place) xs up.1 in
    elim (cases_Bool (p x)) as (λ _. Ascending i j (filter p (x ∷ xs))) [
      | inl y ↦ rw y (up.0, rest)
      | inr n ↦ rw n (ascending_from i j x.ring (suc x.place) (filter p xs) (one_on i j x.ring x.place up.0) rest)
    ]
  where
    one_on : (i j k n : ℕ) → Before i j k (suc n) → Before i j k (suc (suc n))
    one_on i j k n h = grind arith

-- all members come after the begin
ascending_all : (i j : ℕ) (bs : List Bridge) → Ascending i j bs → (c : Bridge) → Member c bs → Before i j c.ring (suc c.place)
ascending_all i j [] up c h = elim h [ ]
ascending_all i j (x ∷ xs) up c (inl e) = subst (λ (z : Bridge). Before i j z.ring (suc z.place)) (sym e) up.0
ascending_all i j (x ∷ xs) up c (inr m) = chained i j x.ring x.place c.ring c.place up.0 (ascending_all x.ring (suc x.place) xs up.1 c m)
  where
    chained : (i j k n p q : ℕ) → Before i j k (suc n) → Before k (suc n) p (suc q) → Before i j p (suc q)
    chained i j k n p q a b = grind arith

-- there is a shortest one unless the list is empty
shortest_none : (bs : List Bridge) → shortest bs ≡ None → bs ≡ []
shortest_none [] e = refl
shortest_none (x ∷ xs) e = absurd (never x (shortest xs) e)
  where
    never : (x : Bridge) (o : Option Bridge) → shorter x o ≡ None → ⊥
    never x None e = cc
    never x (Some c) e = elim (cases_Bool (nat_lt c.squared_length x.squared_length)) as (λ _. ⊥) [
      | inl y ↦ let f : ◌≡◌ {A = Option Bridge} (Some c) None = rw y at e in cc
      | inr n ↦ let f : ◌≡◌ {A = Option Bridge} (Some x) None = rw n at e in cc
    ]

-- b is the first of all in the order of length, ring and place
abbrev pub IsFirst : Bridge → List Bridge → Type 0
IsFirst b bs = Member b bs × ((c : Bridge) → Member c bs → (b ≡ c) ⊎ IsLater b.squared_length b.ring b.place c.squared_length c.ring c.place)

-- the head against the first of the rest
head_first : (x : Bridge) (xs : List Bridge) → ((c : Bridge) → Member c xs → Before x.ring (suc x.place) c.ring (suc c.place)) →
    (o : Option Bridge) → (o ≡ None → xs ≡ []) → ((d : Bridge) → o ≡ Some d → IsFirst d xs) → (b : Bridge) → shorter x o ≡ Some b → IsFirst b (x ∷ xs)
head_first x xs up None none some b e =
    let same : x ≡ b = same_Some x b e in
    subst (λ z. IsFirst z (x ∷ xs)) same (inl refl, alone)
  where
    alone : (c : Bridge) → Member c (x ∷ xs) → (x ≡ c) ⊎ IsLater x.squared_length x.ring x.place c.squared_length c.ring c.place
    alone c (inl h) = inl (sym h)
    alone c (inr m) = let h : Member c [] = subst (Member c) (none refl) m in elim h [ ]
head_first x xs up (Some d) none some b e = elim (cases_Bool (nat_lt d.squared_length x.squared_length)) as (λ _. IsFirst b (x ∷ xs)) [
  | inl y ↦
      let f : ◌≡◌ {A = Option Bridge} (Some d) (Some b) = rw y at e in
      subst (λ z. IsFirst z (x ∷ xs)) (same_Some d b f) (inr (some d refl).0, keep_rest y)
  | inr n ↦
      let f : ◌≡◌ {A = Option Bridge} (Some x) (Some b) = rw n at e in
      subst (λ z. IsFirst z (x ∷ xs)) (same_Some x b f) (inl refl, keep_head n)
]
  where
    far : (l i j m k n p : ℕ) → l ≤ m → m ≤ p → Before i (suc j) k (suc n) → IsLater l i j p k n
    far l i j m k n p h g up = grind arith

    longer : (d c : Bridge) → (d ≡ c) ⊎ IsLater d.squared_length d.ring d.place c.squared_length c.ring c.place → d.squared_length ≤ c.squared_length
    longer d c (inl h) = omega (arith, ap (λ (z : Bridge). z.squared_length) h)
    longer d c (inr h) = omega (arith, h)

    keep_rest : nat_lt d.squared_length x.squared_length ≡ true → (c : Bridge) → Member c (x ∷ xs) →
        (d ≡ c) ⊎ IsLater d.squared_length d.ring d.place c.squared_length c.ring c.place
    keep_rest y c (inl h) =
        inr (inl (subst (λ (z : Bridge). d.squared_length < z.squared_length) (sym h) (ltb-true d.squared_length x.squared_length y)))
    keep_rest y c (inr m) = (some d refl).1 c m

    keep_head : nat_lt d.squared_length x.squared_length ≡ false → (c : Bridge) → Member c (x ∷ xs) →
        (x ≡ c) ⊎ IsLater x.squared_length x.ring x.place c.squared_length c.ring c.place
    keep_head n c (inl h) = inl (sym h)
    keep_head n c (inr m) =
        inr (far x.squared_length x.ring x.place d.squared_length c.ring c.place c.squared_length
        (ltb-false d.squared_length x.squared_length n) (longer d c ((some d refl).1 c m)) (up c m))

-- the shortest is the first in the order of length, ring and place
shortest_first : (i j : ℕ) (bs : List Bridge) → Ascending i j bs → (b : Bridge) → shortest bs ≡ Some b → IsFirst b bs
shortest_first i j [] up b e = absurd (none-some b e)
shortest_first i j (x ∷ xs) up b e =
    head_first x xs (ascending_all x.ring (suc x.place) xs up.1) (shortest xs) (shortest_none xs) (shortest_first x.ring (suc x.place) xs up.1) b e

-- two that are first are the same
one_first : (b c : Bridge) → (b ≡ c) ⊎ IsLater b.squared_length b.ring b.place c.squared_length c.ring c.place →
    (c ≡ b) ⊎ IsLater c.squared_length c.ring c.place b.squared_length b.ring b.place → b ≡ c
one_first b c (inl e) h = e
one_first b c (inr l) (inl e) = sym e
one_first b c (inr l) (inr m) = absurd (both b.squared_length b.ring b.place c.squared_length c.ring c.place l m)
  where
    both : (l i j m k n : ℕ) → IsLater l i j m k n → IsLater m k n l i j → ⊥
    both l i j m k n p q = grind arith

-- what is first is the shortest
is_shortest : (i j : ℕ) (bs : List Bridge) → Ascending i j bs → (b : Bridge) → IsFirst b bs → shortest bs ≡ Some b
is_shortest i j bs up b first = decide (shortest bs) refl
  where
    empty : (xs : List Bridge) → xs ≡ [] → Member b xs → ⊥
    empty xs e m = let h : Member b [] = subst (Member b) e m in elim h [ ]

    decide : (o : Option Bridge) → shortest bs ≡ o → o ≡ Some b
    decide None e = absurd (empty bs (shortest_none bs e) first.0)
    decide (Some d) e = let g = shortest_first i j bs up d e in ap Some (one_first d b (g.1 b first.0) (first.1 d g.0))

-- where the first of those that pass p passes q, it is the first of those that pass both
pub still_shortest : (p q : Bridge → Bool) (i j : ℕ) (bs : List Bridge) → Ascending i j bs → (b : Bridge) →
    shortest (filter p bs) ≡ Some b → q b ≡ true → shortest (filter (λ c. q c && p c) bs) ≡ Some b
still_shortest p q i j bs up b e y =
    let both : Bridge → Bool = λ c. q c && p c in
    let first = shortest_first i j (filter p bs) (ascending_kept p i j bs up) b e in
    let here = kept p bs b first.0 in
    is_shortest i j (filter both bs) (ascending_kept both i j bs up) b (
      keeps both bs b here.0 (and_from (q b) (p b) y here.1),
      λ c m. let r = kept both bs c m in
          first.1 c (keeps p bs c r.0 (and_parts (q c) (p c) r.1).1),
    )

-- after the first bridge after the last one, where that one is not clear, come the same clear bridges
after_refused : (clear : Bridge → Bool) (last : Option Bridge) (i j : ℕ) (bs : List Bridge) → Ascending i j bs → (b : Bridge) →
    shortest (filter (is_after last) bs) ≡ Some b → clear b ≡ false →
    (c : Bridge) → Member c bs → (clear c && is_after last c) ≡ (clear c && is_after (Some b) c)
after_refused clear last i j bs up b e n c m = elim (cases_Bool (clear c)) as (λ _. (clear c && is_after last c) ≡ (clear c && is_after (Some b) c)) [
  | inr f ↦ rw f refl
  | inl y ↦ ap (λ t. clear c && t) (elim (cases_Bool (is_after last c)) as (λ _. is_after last c ≡ is_after (Some b) c) [
    | inl t ↦ t ∙ sym (then_later t y)
    | inr f ↦ f ∙ sym (false_from_ne_true (is_after (Some b) c) (λ t. both_ways (is_after last c) f (from_last last b c here.1 t)))
  ])
]
  where
    first : IsFirst b (filter (is_after last) bs)
    first = shortest_first i j (filter (is_after last) bs) (ascending_kept (is_after last) i j bs up) b e

    here : Member b bs × (is_after last b ≡ true)
    here = kept (is_after last) bs b first.0

    then_later : is_after last c ≡ true → clear c ≡ true → is_after (Some b) c ≡ true
    then_later t y = elim (first.1 c (keeps (is_after last) bs c m t)) as (λ _. is_after (Some b) c ≡ true) [
      | inl same ↦ absurd (both_ways (clear c) (sym (ap clear same) ∙ n) y)
      | inr l ↦ (later_decides b.squared_length b.ring b.place c.squared_length c.ring c.place).1 l
    ]

    from_last : (o : Option Bridge) (b c : Bridge) → is_after o b ≡ true → is_after (Some b) c ≡ true → is_after o c ≡ true
    from_last None b c t u = refl
    from_last (Some a) b c t u =
        (later_decides a.squared_length a.ring a.place c.squared_length c.ring c.place).1
        (later_chain a.squared_length a.ring a.place b.squared_length b.ring b.place c.squared_length c.ring c.place
        ((later_decides a.squared_length a.ring a.place b.squared_length b.ring b.place).0 t)
        ((later_decides b.squared_length b.ring b.place c.squared_length c.ring c.place).0 u))

-- no bridge up to the last refused one is clear, as far as the choice goes
abbrev pub Refused : (Bridge → Bool) → List Bridge → Option Bridge → Type 0
Refused clear bs last = shortest (filter clear bs) ≡ shortest (filter (passes clear true last) bs)

-- none was refused
pub refused_none : (clear : Bridge → Bool) (bs : List Bridge) → Refused clear bs None
refused_none clear bs = ap shortest (filter_same clear (passes clear true None) bs (λ c m. and_true (clear c)))
  where
    and_true : (x : Bool) → x ≡ (x && true)
    and_true true = refl
    and_true false = refl

-- one more was refused
pub refused_more : (clear : Bridge → Bool) (last : Option Bridge) (i j : ℕ) (bs : List Bridge) → Ascending i j bs → (b : Bridge) →
    shortest (filter (is_after last) bs) ≡ Some b → clear b ≡ false →
    Refused clear bs last → Refused clear bs (Some b)
refused_more clear last i j bs up b e n h =
    h ∙ ap shortest (filter_same (passes clear true last) (passes clear true (Some b)) bs (after_refused clear last i j bs up b e n))

-- the next one is clear: it is taken
pub next_clear : (clear : Bridge → Bool) (last : Option Bridge) (i j : ℕ) (bs : List Bridge) → Ascending i j bs → (b : Bridge) →
    shortest (filter (is_after last) bs) ≡ Some b → clear b ≡ true →
    Refused clear bs last → chosen clear bs ≡ Some b
next_clear clear last i j bs up b e y h = ap (λ o. option_or o (shortest bs)) (h ∙ still_shortest (is_after last) clear i j bs up b e y)

-- there is no next one: the shortest of all is taken
pub next_none : (clear : Bridge → Bool) (last : Option Bridge) (bs : List Bridge) → shortest (filter (is_after last) bs) ≡ None →
    Refused clear bs last → chosen clear bs ≡ shortest bs
next_none clear last bs e h = ap (λ o. option_or o (shortest bs)) (h ∙ ap shortest (less bs (shortest_none (filter (is_after last) bs) e)))
  where
    less : (xs : List Bridge) → filter (is_after last) xs ≡ [] → filter (passes clear true last) xs ≡ []
    less xs f =
        empty (filter (passes clear true last) xs)
        (λ c m. let r = kept (passes clear true last) xs c m in
        none c (subst (Member c) f (keeps (is_after last) xs c r.0 (and_parts (clear c) (is_after last c) r.1).1)))
      where
        none : (c : Bridge) → Member c [] → ⊥
        none c m = m

        empty : (ys : List Bridge) → ((c : Bridge) → Member c ys → ⊥) → ys ≡ []
        empty [] h = refl
        empty (y ∷ ys) h = absurd (h y (inl refl))

-- the choice among those that come after the last refused one
pub rest_chosen : (clear : Bridge → Bool) (last : Option Bridge) (bs : List Bridge) → Refused clear bs last →
    chosen clear bs ≡ option_or (shortest (filter (passes clear true last) bs)) (shortest bs)
rest_chosen clear last bs h = ap (λ o. option_or o (shortest bs)) h

-- the best so far and the shortest of the rest
abbrev pub with_best : Option Bridge → Option Bridge → Option Bridge
with_best None o = o
with_best (Some c) o = shorter c o

-- one bridge more
better_first : (p : Bridge → Bool) (best : Option Bridge) (b : Bridge) (o : Option Bridge) → p b ≡ true →
    with_best (better p best b) o ≡ with_best best (shorter b o)
better_first p None b o y = rw y refl
better_first p (Some c) b None y =
    elim (cases_Bool (nat_lt b.squared_length c.squared_length)) as (λ _. with_best (better p (Some c) b) None ≡ shorter c (Some b)) [
      | inl t ↦ rw (t, y) refl
      | inr f ↦ rw f refl
    ]
better_first p (Some c) b (Some d) y =
    elim (cases_Bool (nat_lt b.squared_length c.squared_length)) as (λ _. with_best (better p (Some c) b) (Some d) ≡ shorter c (shorter b (Some d))) [
      | inl t ↦
          elim (cases_Bool (nat_lt d.squared_length b.squared_length))
          as (λ _. with_best (better p (Some c) b) (Some d) ≡ shorter c (shorter b (Some d))) [
            | inl u ↦
                let v : nat_lt d.squared_length c.squared_length ≡ true =
                lt-ltb d.squared_length c.squared_length
                (omega (arith, ltb-true d.squared_length b.squared_length u, ltb-true b.squared_length c.squared_length t)) in rw (t, y, u, v) refl
            | inr f ↦ rw (t, y, f, t) refl
          ]
      | inr f ↦
          elim (cases_Bool (nat_lt d.squared_length b.squared_length))
          as (λ _. with_best (better p (Some c) b) (Some d) ≡ shorter c (shorter b (Some d))) [
            | inl u ↦ rw (f, u) refl
            | inr g ↦
                let v : nat_lt d.squared_length c.squared_length ≡ false =
                le-ltb d.squared_length c.squared_length
                (omega (arith, ltb-false d.squared_length b.squared_length g, ltb-false b.squared_length c.squared_length f)) in rw (f, g, v, f) refl
          ]
    ]

-- a pass finds the shortest of those that pass
pub best_of_is : (p : Bridge → Bool) (best : Option Bridge) (bs : List Bridge) → best_of p best bs ≡ with_best best (shortest (filter p bs))
best_of_is p None [] = refl
best_of_is p (Some c) [] = refl
best_of_is p best (b ∷ bs) = elim (cases_Bool (p b)) as (λ _. best_of p best (b ∷ bs) ≡ with_best best (shortest (filter p (b ∷ bs)))) [
  | inl y ↦
      best_of_is p (better p best b) bs ∙ better_first p best b (shortest (filter p bs)) y
      ∙ ap (λ l. with_best best (shortest l)) (sym (cond-true (p b) (b ∷ filter p bs) (filter p bs) y))
  | inr n ↦
      ap (λ o. best_of p o bs) (worse best n) ∙ best_of_is p best bs
      ∙ ap (λ l. with_best best (shortest l)) (sym (cond-false (p b) (b ∷ filter p bs) (filter p bs) n))
]
  where
    worse : (o : Option Bridge) → p b ≡ false → better p o b ≡ o
    worse o n = cond-false (is_nearer o b && p b) (Some b) o (and_right (is_nearer o b) (p b) n)

-- the bridges to one ring come in order, and those to later rings after them
bridges_ascending : (at : Plane) (h k n : ℕ) (rs : List ℕ) (tail : List Bridge) → Ascending (suc k) 0 tail → (i j : ℕ) →
    Before i j k (suc n) → Ascending i j (bridges_to at h k n rs ++ tail)
bridges_ascending at h k n [] tail up i j b = ascending_from i j (suc k) 0 tail (next i j k n b) up
  where
    next : (i j k n : ℕ) → Before i j k (suc n) → Before i j (suc k) 1
    next i j k n b = grind arith
bridges_ascending at h k n (r ∷ rs) tail up i j b = (b, bridges_ascending at h k (suc n) rs tail up k (suc n) (inr (refl, omega arith)))

-- all bridges come in order
pub all_ascending : (at : Plane) (h k : ℕ) (rings : List (List ℕ)) → Ascending k 0 (all_bridges at h k rings)
all_ascending at h k [] = tt
all_ascending at h k (ring ∷ rings) =
    bridges_ascending at h k 0 ring (all_bridges at h (suc k) rings) (all_ascending at h (suc k) rings) k 0 (inr (refl, omega arith))

-- a pass over all that come after the last refused one
pub pass_after : (clear : Bridge → Bool) (last : Option Bridge) (bs : List Bridge) →
    best_of (passes clear false last) None bs ≡ shortest (filter (is_after last) bs)
pass_after clear last bs = best_of_is (passes clear false last) None bs

-- a pass over all
pub pass_all : (clear : Bridge → Bool) (bs : List Bridge) → best_of (passes clear false None) None bs ≡ shortest bs
pass_all clear bs = pass_after clear None bs ∙ ap shortest (filter_all bs)

-- a pass over the clear ones among these
pub pass_clear : (clear : Bridge → Bool) (last : Option Bridge) (bs : List Bridge) →
    best_of (passes clear true last) None bs ≡ shortest (filter (passes clear true last) bs)
pass_clear clear last bs = best_of_is (passes clear true last) None bs

-- a pass over two lists
best_of-append : (p : Bridge → Bool) (best : Option Bridge) (xs ys : List Bridge) → best_of p best (xs ++ ys) ≡ best_of p (best_of p best xs) ys
best_of-append p best [] ys = refl
best_of-append p best (x ∷ xs) ys = best_of-append p (better p best x) xs ys

-- a pass over one place more
pub best_of_place : (at : Plane) (h i j l : ℕ) (p : Bridge → Bool) (best now : Option Bridge) (rs : List ℕ) → j < length rs →
    pos l ≡ squared_distance (at h) (at (get_or rs j 0)) → now ≡ better p best (record { ring = i; place = j; squared_length = l }) →
    best_of p now (bridges_to at h i (j + 1) (drop (j + 1) rs)) ≡ best_of p best (bridges_to at h i j (drop j rs))
best_of_place at h i j l p best now rs within far e =
    let next : Bridge = record { ring = i; place = j; squared_length = unsigned_abs (squared_distance (at h) (at (get_or rs j 0))) } in
    let same : now ≡ better p best next = e ∙ ap (λ m. better p best (record { ring = i; place = j; squared_length = m })) (ap unsigned_abs far) in
    let one : j + 1 ≡ suc j = omega arith in
    ap (λ o. best_of p o (bridges_to at h i (j + 1) (drop (j + 1) rs))) same
    ∙ ap (λ k. best_of p (better p best next) (bridges_to at h i k (drop (j + 1) rs))) one
    ∙ sym (at_drop_more (λ r. best_of p best (bridges_to at h i j r)) rs j 0 within)

-- a bridge that does not pass changes nothing
not_better : (p : Bridge → Bool) (o : Option Bridge) (x : Bridge) → p x ≡ false → better p o x ≡ o
not_better p o x n = cond-false (is_nearer o x && p x) (Some x) o (and_right (is_nearer o x) (p x) n)

-- one that is no longer than one before which a best comes is taken in its place
takes : (p : Bridge → Bool) (o : Option Bridge) (b x : Bridge) → p x ≡ true → x.squared_length ≤ b.squared_length →
    is_nearer o b ≡ true → better p o x ≡ Some x
takes p o b x y short near = cond-true (is_nearer o x && p x) (Some x) o (and_from (is_nearer o x) (p x) (nearer o near) y)
  where
    nearer : (o : Option Bridge) → is_nearer o b ≡ true → is_nearer o x ≡ true
    nearer None n = refl
    nearer (Some c) n = lt-ltb x.squared_length c.squared_length (omega (arith, short, ltb-true b.squared_length c.squared_length n))

-- after one that is longer than b the best is still longer than b
still_longer : (p : Bridge → Bool) (o : Option Bridge) (b x : Bridge) → nat_lt b.squared_length x.squared_length ≡ true →
    is_nearer o b ≡ true → is_nearer (better p o x) b ≡ true
still_longer p o b x long near = elim (cases_Bool (is_nearer o x && p x)) as (λ _. is_nearer (better p o x) b ≡ true) [
  | inl y ↦ ap (λ z. is_nearer z b) (cond-true (is_nearer o x && p x) (Some x) o y) ∙ long
  | inr n ↦ ap (λ z. is_nearer z b) (cond-false (is_nearer o x && p x) (Some x) o n) ∙ near
]

-- a pass finds the same whatever it begins with, if that is longer than a bridge of the list that passes
pub same_best : (p : Bridge → Bool) (o q : Option Bridge) (bs : List Bridge) (b : Bridge) → Member b bs → p b ≡ true →
    is_nearer o b ≡ true → is_nearer q b ≡ true → best_of p o bs ≡ best_of p q bs
same_best p o q [] b m y s t = elim m [ ]
same_best p o q (x ∷ xs) b m y s t = elim (cases_Bool (p x)) as (λ _. best_of p o (x ∷ xs) ≡ best_of p q (x ∷ xs)) [
  | inr n ↦
      ap (λ z. best_of p z xs) (not_better p o x n) ∙ same_best p o q xs b (other n m) y s t
      ∙ sym (ap (λ z. best_of p z xs) (not_better p q x n))
  | inl u ↦ elim (cases_Bool (nat_lt b.squared_length x.squared_length)) as (λ _. best_of p o (x ∷ xs) ≡ best_of p q (x ∷ xs)) [
    | inl long ↦
        same_best p (better p o x) (better p q x) xs b (later long m) y (still_longer p o b x long s) (still_longer p q b x long t)
    | inr short ↦
        let no_longer = ltb-false b.squared_length x.squared_length short in
        ap (λ z. best_of p z xs) (takes p o b x u no_longer s ∙ sym (takes p q b x u no_longer t))
  ]
]
  where
    other : p x ≡ false → (b ≡ x) ⊎ Member b xs → Member b xs
    other n (inl e) = absurd (both_ways (p x) n (sym (ap p e) ∙ y))
    other n (inr r) = r

    later : nat_lt b.squared_length x.squared_length ≡ true → (b ≡ x) ⊎ Member b xs → Member b xs
    later long (inl e) = absurd (omega (arith, ltb-true b.squared_length x.squared_length long, ap (λ (z : Bridge). z.squared_length) e))
    later long (inr r) = r

-- a bridge to a place, of a length
abbrev pub bridge_of : ℕ → ℕ → ℕ → Bridge
bridge_of i k l = record { ring = i; place = k; squared_length = l }

-- the bridge to a place is one of those to its ring
member_place : (at : Plane) (h i j k n : ℕ) (rs : List ℕ) → k < length rs → n ≡ j + k →
    Member (bridge_of i n (unsigned_abs (squared_distance (at h) (at (get_or rs k 0))))) (bridges_to at h i j rs)
member_place at h i j k n [] less e = absurd (omega (arith, less))
member_place at h i j zero n (r ∷ rs) less e =
    let here : n ≡ j = omega (arith, e) in inl (ap (λ m. bridge_of i m (unsigned_abs (squared_distance (at h) (at r)))) here)
member_place at h i j (suc k) n (r ∷ rs) less e = inr (member_place at h i (suc j) k n rs (omega (arith, less)) (omega (arith, e)))

-- a pass over the bridges to one ring may begin with one longer than one of them that is shorter than the best and passes
pub from_bound : (at : Plane) (h i k l : ℕ) (p : Bridge → Bool) (best : Option Bridge) (rs : List ℕ) → k < length rs →
    pos l ≡ squared_distance (at h) (at (get_or rs k 0)) → (is_nearer best (bridge_of i k l) && p (bridge_of i k l)) ≡ true →
    best_of p (Some (bridge_of i k (l + 1))) (bridges_to at h i 0 rs) ≡ best_of p best (bridges_to at h i 0 rs)
from_bound at h i k l p best rs less far y =
    let bs = bridges_to at h i 0 rs in
    let there : Member (bridge_of i k l) bs =
    subst (λ m. Member (bridge_of i k m) bs) (sym (ap unsigned_abs far)) (member_place at h i 0 k k rs less (omega arith)) in
    let both = and_parts (is_nearer best (bridge_of i k l)) (p (bridge_of i k l)) y in
    same_best p (Some (bridge_of i k (l + 1))) best bs (bridge_of i k l) there both.1 (lt-ltb l (l + 1) (omega arith)) both.0

-- a pass over one ring more
pub best_of_ring : (at : Plane) (h i : ℕ) (p : Bridge → Bool) (best now : Option Bridge) (rings : List (List ℕ)) → i < length rings →
    now ≡ best_of p best (bridges_to at h i 0 (get_or rings i [])) →
    best_of p now (all_bridges at h (i + 1) (drop (i + 1) rings)) ≡ best_of p best (all_bridges at h i (drop i rings))
best_of_ring at h i p best now rings within e =
    let one : i + 1 ≡ suc i = omega arith in
    ap (λ o. best_of p o (all_bridges at h (i + 1) (drop (i + 1) rings))) e
    ∙ ap (λ k. best_of p (best_of p best (bridges_to at h i 0 (get_or rings i []))) (all_bridges at h k (drop (i + 1) rings))) one
    ∙ sym (best_of-append p best (bridges_to at h i 0 (get_or rings i [])) (all_bridges at h (suc i) (drop (i + 1) rings)))
    ∙ sym (at_drop_more (λ r. best_of p best (all_bridges at h i r)) rings i [] within)

-- a member of two lists is in one of them
member_cases : (b : Bridge) (xs ys : List Bridge) → Member b (xs ++ ys) → Member b xs ⊎ Member b ys
member_cases b [] ys h = inr h
member_cases b (x ∷ xs) ys (inl e) = inl (inl e)
member_cases b (x ∷ xs) ys (inr m) = elim (member_cases b xs ys m) as (λ _. Member b (x ∷ xs) ⊎ Member b ys) [ inl l ↦ inl (inr l) | inr r ↦ inr r ]

-- the bridges to one ring lead to its places
bridges_within : (at : Plane) (h i j : ℕ) (rs : List ℕ) (b : Bridge) → Member b (bridges_to at h i j rs) → (b.ring ≡ i) × (b.place < j + length rs)
bridges_within at h i j [] b m = elim m [ ]
bridges_within at h i j (r ∷ rs) b (inl e) = (ap (λ (z : Bridge). z.ring) e, omega (arith, ap (λ (z : Bridge). z.place) e))
bridges_within at h i j (r ∷ rs) b (inr m) = let p = bridges_within at h i (suc j) rs b m in (p.0, omega (arith, p.1))

-- all bridges lead to places of rings
all_within : (at : Plane) (h i : ℕ) (rings : List (List ℕ)) (b : Bridge) → Member b (all_bridges at h i rings) →
    (k : ℕ) × (b.ring ≡ i + k) × (k < length rings) × (b.place < length (get_or rings k []))
all_within at h i [] b m = elim m [ ]
all_within at h i (ring ∷ rings) b m =
    elim (member_cases b (bridges_to at h i 0 ring) (all_bridges at h (suc i) rings) m)
    as (λ _. (k : ℕ) × (b.ring ≡ i + k) × (k < suc (length rings)) × (b.place < length (get_or (ring ∷ rings) k []))) [
      | inl l ↦ let p = bridges_within at h i 0 ring b l in (zero, omega (arith, p.0), omega arith, omega (arith, p.1))
      | inr r ↦ let p = all_within at h (suc i) rings b r in (suc p.0, omega (arith, p.1), omega (arith, p.2), p.3)
    ]

-- a bridge to a place of one of the rings
pub record LeadsTo (rings : List (List ℕ)) (b : Bridge) : Type 0 where
  pub ring : b.ring < length rings
  pub place : b.place < length (get_or rings b.ring [])

pub leads_to : (at : Plane) (h : ℕ) (rings : List (List ℕ)) (b : Bridge) → Member b (all_bridges at h 0 rings) → LeadsTo rings b
leads_to at h rings b m =
    let p = all_within at h 0 rings b m in
    let same : b.ring ≡ p.0 = omega (arith, p.1) in
    record { ring = omega (arith, same, p.2); place = omega (arith, p.3, ap (λ k. length (get_or rings k [])) same) }

-- the shortest that passes leads to a place
pub shortest_leads : (at : Plane) (h : ℕ) (rings : List (List ℕ)) (p : Bridge → Bool) (b : Bridge) →
    shortest (filter p (all_bridges at h 0 rings)) ≡ Some b → LeadsTo rings b
shortest_leads at h rings p b e =
    let bs = all_bridges at h 0 rings in
    leads_to at h rings b (kept p bs b (shortest_first 0 0 (filter p bs) (ascending_kept p 0 0 bs (all_ascending at h 0 rings)) b e).0).0

-- so does the one that is chosen
pub chosen_leads : (at : Plane) (h : ℕ) (rings : List (List ℕ)) (clear : Bridge → Bool) (b : Bridge) →
    chosen clear (all_bridges at h 0 rings) ≡ Some b → LeadsTo rings b
chosen_leads at h rings clear b e = by_first (shortest (filter clear bs)) refl e
  where
    bs : List Bridge
    bs = all_bridges at h 0 rings

    by_first : (o : Option Bridge) → shortest (filter clear bs) ≡ o → option_or o (shortest bs) ≡ Some b → LeadsTo rings b
    by_first None f e = leads_to at h rings b (shortest_first 0 0 bs (all_ascending at h 0 rings) b e).0
    by_first (Some c) f e = shortest_leads at h rings clear b (f ∙ e)

-- where there is a ring with a place, a bridge is chosen
pub chosen_some : (clear : Bridge → Bool) (b : Bridge) (bs : List Bridge) → chosen clear (b ∷ bs) ≡ None → ⊥
chosen_some clear b bs e = by_first (shortest (filter clear (b ∷ bs))) e
  where
    empty : (c : Bridge) (cs : List Bridge) → c ∷ cs ≡ [] → ⊥
    empty c cs f = cc

    by_first : (o : Option Bridge) → option_or o (shortest (b ∷ bs)) ≡ None → ⊥
    by_first None e = empty b bs (shortest_none (b ∷ bs) e)
    by_first (Some c) e = absurd (none-some c (sym e))

-- so where there is a ring and no ring is empty
pub no_bridge : (at : Plane) (h : ℕ) (clear : Bridge → Bool) (rings : List (List ℕ)) → 0 < length rings → All (λ r. 0 < length r) rings →
    chosen clear (all_bridges at h 0 rings) ≡ None → ⊥
no_bridge at h clear [] one long e = omega (arith, one)
no_bridge at h clear ([] ∷ rest) one long e = omega (arith, All-head (λ (r : List ℕ). 0 < length r) [] rest long)
no_bridge at h clear ((r ∷ rs) ∷ rest) one long e = chosen_some clear _ _ e
