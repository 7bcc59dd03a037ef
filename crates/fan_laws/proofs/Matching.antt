-- Brackets on a circle have partners, found by reading it once from the front and then what is left.
use Rattle.std.proofs.Common.{◌≡◌, ◌≢◌, ◌<◌, ◌+◌, ◌-◌, ◌⊎◌, ℕ, zero, suc, Bool, true, false, List, [], ◌∷◌, ◌++◌, append_assoc, length, get_or, take, drop, refl, sym, ◌∙◌, ap, subst, arith, inl, inr, length-append}
use Rattle.std.specs.Prelude.{not, reverse, ◌==◌, if◌then◌else◌}
use Rattle.std.specs.List.{Contains, position_or_len}
use Rattle.std.proofs.lemmas.Bool.{cases_Bool, eq-eqb, ne_eqb}
use Rattle.std.proofs.lemmas.List.{append-nil, get_or-append_right, reverse-append}
use Rattle.std.proofs.lemmas.List.Elements.{Contains-append_left, Contains-append_right, Contains-append_cases}
use Rattle.std.proofs.lemmas.List.Sums.{position_or_len_is}
use Rattle.sheet_terms.specs.Twins.{closing, rest_from}
use Rattle.fan_laws.specs.Circles.{AreBrackets, circle_twin}
use Rattle.fan_laws.proofs.Level.{IsLevel, closes, closing_at, level_append, level_none, level_reverse, level_wrap, take_front}
use Rattle.fan_laws.proofs.Pending.{Pending, first_left, last_open, pending_close, pending_counts, pending_level, pending_none, pending_open}

-- what is left behind the front and one member
pub drop_front_more : (xs : List ℕ) (y : ℕ) (ys : List ℕ) → drop (length xs + 1) (xs ++ y ∷ ys) ≡ ys
drop_front_more [] y ys = refl
drop_front_more (x ∷ xs) y ys =
    let more : suc (length xs) + 1 ≡ suc (length xs + 1) = omega arith in ap (λ n. drop n (x ∷ xs ++ y ∷ ys)) more ∙ drop_front_more xs y ys

-- a member between others
pub inside : (xs : List ℕ) (y : ℕ) (ys : List ℕ) → Contains (xs ++ y ∷ ys) y
inside xs y ys = Contains-append_right xs (y ∷ ys) y (0, omega arith, refl)

-- the last of more members, or one of those before
pub one_more : (xs : List ℕ) (y z : ℕ) → Contains (xs ++ y ∷ []) z → Contains xs z ⊎ (z ≡ y)
one_more xs y z there = elim (Contains-append_cases xs (y ∷ []) z there) as (λ _. Contains xs z ⊎ (z ≡ y)) [
  | inl before ↦ inl before
  | inr last ↦ inr (only last)
]
  where
    only : Contains (y ∷ []) z → z ≡ y
    only (zero, l, e) = sym e
    only (suc i, l, e) = absurd (omega (arith, l))

-- a list has a last member or none
pub last_cases : (xs : List ℕ) → (xs ≡ []) ⊎ ((ys : List ℕ) × (y : ℕ) × (xs ≡ ys ++ y ∷ []))
last_cases [] = inl refl
last_cases (x ∷ xs) = elim (last_cases xs) as (λ _. (x ∷ xs ≡ []) ⊎ ((ys : List ℕ) × (y : ℕ) × (x ∷ xs ≡ ys ++ y ∷ []))) [
  | inl e ↦ inr ([], x, ap (λ l. x ∷ l) e)
  | inr p ↦ inr (x ∷ p.0, p.1, ap (λ l. x ∷ l) p.2)
]

-- five lists in a row
regroup : (e b a d cs : List ℕ) → (e ++ ((b ++ a) ++ d)) ++ cs ≡ (e ++ b) ++ (a ++ (d ++ cs))
regroup e b a d cs = simp append_assoc

-- members that differ
abbrev pub AreDifferent : List ℕ → Type 0
AreDifferent hs = (i j : ℕ) → i < j → j < length hs → get_or hs i 0 ≢ get_or hs j 0

-- the rest of a circle behind a member
pub rest_at : (hs before : List ℕ) (h : ℕ) (after : List ℕ) → AreDifferent hs → hs ≡ before ++ h ∷ after → rest_from h hs ≡ after ++ before
rest_at hs before h after differ parts = ap (λ i. drop (i + 1) hs ++ take i hs) place ∙ (λ i. behind i ++ ahead i)
  where
    many : length hs ≡ length before + 1 + length after
    many = ap length parts ∙ length-append before (h ∷ after) ∙ omega arith

    here : get_or hs (length before) 0 ≡ h
    here =
        let none : length before - length before ≡ 0 = omega arith in
        ap (λ l. get_or l (length before) 0) parts ∙ get_or-append_right before (h ∷ after) (length before) (length before) 0 refl (omega arith)
        ∙ ap (λ i. get_or (h ∷ after) i 0) none

    place : position_or_len (λ g. g == h) hs ≡ length before
    place =
        position_or_len_is (λ g. g == h) hs (length before) 0 (omega (arith, many))
        (λ k low. ne_eqb (get_or hs k 0) h (λ e. differ k (length before) low (omega (arith, many)) (e ∙ sym here))) (λ _. eq-eqb (get_or hs (length before) 0) h here)

    behind : drop (length before + 1) hs ≡ after
    behind = ap (drop (length before + 1)) parts ∙ drop_front_more before h after

    ahead : take (length before) hs ≡ before
    ahead = ap (take (length before)) parts ∙ take_front before (h ∷ after)

module _ (opens : ℕ → Bool) (hs : List ℕ) (differ : AreDifferent hs) where
  -- one opens, the other closes it
  pub record AreMates (s c : ℕ) : Type 0 where
    pub opened : opens s ≡ true
    pub closed : opens c ≡ false
    pub to : circle_twin opens hs s ≡ c
    pub back : circle_twin opens hs c ≡ s
    pub s_in : Contains hs s
    pub c_in : Contains hs c

  -- so they do with a level list between them
  mates : (s c : ℕ) (level x y z x' y' z' : List ℕ) → IsLevel opens level → opens s ≡ true → opens c ≡ false → hs ≡ x ++ s ∷ y → y ++ x ≡ level ++ c ∷ z →
      hs ≡ x' ++ c ∷ y' → y' ++ x' ≡ z' ++ s ∷ level → AreMates s c
  mates s c level x y z x' y' z' is opened closed s_at s_rest c_at c_rest = record {
    opened = opened;
    closed = closed;
    to =
        ap (λ b. if b then closing opens (rest_from s hs) else closing (closes opens) (reverse (rest_from s hs))) opened
        ∙ ap (closing opens) (rest_at hs x s y differ s_at ∙ s_rest) ∙ closing_at opens level c z is closed;
    back =
        ap (λ b. if b then closing opens (rest_from c hs) else closing (closes opens) (reverse (rest_from c hs))) closed
        ∙ ap (λ l. closing (closes opens) (reverse l)) (rest_at hs x' c y' differ c_at ∙ c_rest) ∙ ap (closing (closes opens)) turned
        ∙ closing_at (closes opens) (reverse level) s (reverse z') (level_reverse opens level is) (ap not opened);
    s_in = subst (λ l. Contains l s) (sym s_at) (inside x s y);
    c_in = subst (λ l. Contains l c) (sym c_at) (inside x' c y');
  }
    where
      turned : reverse (z' ++ s ∷ level) ≡ reverse level ++ s ∷ reverse z'
      turned = reverse-append z' (s ∷ level) ∙ ap (λ l. l ++ reverse z') (reverse-append (s ∷ []) level) ∙ simp append_assoc

  -- a bracket that closes the last that is held
  pub record IsClosing (left held all : List ℕ) (s c : ℕ) : Type 0 where
    pub mates : AreMates s c
    pub pending : Pending opens left held (all ++ c ∷ [])

  pub closes_last : (left held all rest : List ℕ) (s c : ℕ) → hs ≡ all ++ c ∷ rest → Pending opens left (held ++ s ∷ []) all → opens c ≡ false → IsClosing left held all s c
  closes_last left held all rest s c parts pending closed =
      let last = last_open opens left held all s pending in
      let before = last.0 in
      let level = last.1 in
      let is = last.2 in
      let whole : hs ≡ (before ++ s ∷ level) ++ c ∷ rest = parts ∙ ap (λ l. l ++ c ∷ rest) is.parts in
      let grown : before ++ (s ∷ level ++ c ∷ []) ≡ all ++ c ∷ [] = sym (ap (λ l. l ++ c ∷ []) is.parts ∙ simp append_assoc) in
      record {
        mates =
            mates s c level before (level ++ c ∷ rest) (rest ++ before) (before ++ s ∷ level) rest (rest ++ before) is.is_level is.opened closed
            (whole ∙ simp append_assoc) (simp append_assoc) whole (simp append_assoc);
        pending = subst (Pending opens left held) grown
            (pending_level opens left held before (s ∷ level ++ c ∷ []) is.pending (level_wrap opens s level c is.opened closed is.is_level));
      }

  -- what is left is read from the front on, and what is held from the back: between them lies a level list, round the end of the circle
  pub record IsRound (left held : List ℕ) : Type 0 where
    pub front : List ℕ
    pub middle : List ℕ
    pub behind : List ℕ
    pub parts : hs ≡ front ++ middle ++ behind
    pub level : IsLevel opens (behind ++ front)
    pub pending : Pending opens left held middle

  pub round_begins : (left held : List ℕ) → Pending opens left held hs → IsRound left held
  round_begins left held pending = record { front = []; middle = hs; behind = []; parts = sym (append-nil hs); level = level_none opens; pending = pending }

  pub record IsTurn (left held : List ℕ) (s c : ℕ) : Type 0 where
    pub mates : AreMates s c
    pub round : IsRound left held

  pub round_turns : (left held : List ℕ) (s c : ℕ) → IsRound (c ∷ left) (held ++ s ∷ []) → IsTurn left held s c
  round_turns left held s c is =
      let a = is.front in
      let b = is.behind in
      let found = first_left opens c left (held ++ s ∷ []) is.middle is.pending in
      let d = found.0 in
      let m = found.1 in
      let last = last_open opens left held m s found.2.pending in
      let n = last.0 in
      let e = last.1 in
      let whole : hs ≡ a ++ (d ++ c ∷ (n ++ s ∷ e)) ++ b = is.parts ∙ ap (λ l. a ++ l ++ b) (found.2.parts ∙ ap (λ l. d ++ c ∷ l) last.2.parts) in
      let level : IsLevel opens (e ++ ((b ++ a) ++ d)) = level_append opens e ((b ++ a) ++ d) last.2.is_level (level_append opens (b ++ a) d is.level found.2.is_level) in
      record {
        mates =
            mates s c (e ++ ((b ++ a) ++ d)) (a ++ d ++ c ∷ n) (e ++ b) n (a ++ d) (n ++ s ∷ e ++ b) n level last.2.opened found.2.closed (whole ∙ simp append_assoc)
            (simp append_assoc) (whole ∙ simp append_assoc) (simp append_assoc);
        round = record {
          front = a ++ (d ++ c ∷ []);
          middle = n;
          behind = s ∷ (e ++ b);
          parts = whole ∙ simp append_assoc;
          level = subst (IsLevel opens) (ap (λ l. s ∷ l) (regroup e b a d (c ∷ []))) (level_wrap opens s (e ++ ((b ++ a) ++ d)) c last.2.opened found.2.closed level);
          pending = last.2.pending;
        };
      }

  -- a member with its partner
  pub record HasMate (h : ℕ) : Type 0 where
    pub mate : ℕ
    pub to : circle_twin opens hs h ≡ mate
    pub back : circle_twin opens hs mate ≡ h
    pub other : opens mate ≡ not (opens h)
    pub within : Contains hs mate

  opener_has : (s c : ℕ) → AreMates s c → HasMate s
  opener_has s c is = record { mate = c; to = is.to; back = is.back; other = is.closed ∙ ap not (sym is.opened); within = is.c_in }

  closer_has : (s c : ℕ) → AreMates s c → HasMate c
  closer_has s c is = record { mate = s; to = is.back; back = is.to; other = is.opened ∙ ap not (sym is.closed); within = is.s_in }

  -- each member is held, left, or has a partner
  abbrev IsTold : List ℕ → List ℕ → ℕ → Type 0
  IsTold left held h = Contains held h ⊎ (Contains left h ⊎ HasMate h)

  record AreRead (left held : List ℕ) : Type 0 where
    pending : Pending opens left held hs
    told : (h : ℕ) → Contains hs h → IsTold left held h

  read : (rest all left held : List ℕ) → hs ≡ all ++ rest → Pending opens left held all → ((h : ℕ) → Contains all h → IsTold left held h) →
      (left' : List ℕ) × (held' : List ℕ) × AreRead left' held'
  read [] all left held parts pending told =
      let whole : hs ≡ all = parts ∙ append-nil all in
      (left, held, record { pending = subst (Pending opens left held) (sym whole) pending; told = λ h there. told h (subst (λ l. Contains l h) whole there) })
  read (x ∷ rest) all left held parts pending told =
      by (cases_Bool (opens x)) (last_cases held) (λ left held. read rest (all ++ x ∷ []) left held (parts ∙ simp append_assoc))
    where
      Later : List ℕ → List ℕ → Type 0
      Later left held = Pending opens left held (all ++ x ∷ []) → ((h : ℕ) → Contains (all ++ x ∷ []) h → IsTold left held h) →
          (left' : List ℕ) × (held' : List ℕ) × AreRead left' held'

      holds : (h : ℕ) → Contains all h ⊎ (h ≡ x) → IsTold left (held ++ x ∷ []) h
      holds h (inr e) = inl (subst (λ z. Contains (held ++ x ∷ []) z) (sym e) (inside held x []))
      holds h (inl before) = elim (told h before) as (λ _. IsTold left (held ++ x ∷ []) h) [
        | inl in_held ↦ inl (Contains-append_left held (x ∷ []) h in_held)
        | inr r ↦ inr r
      ]

      leaves : held ≡ [] → (h : ℕ) → Contains all h ⊎ (h ≡ x) → IsTold (left ++ x ∷ []) [] h
      leaves none h (inr e) = inr (inl (subst (λ z. Contains (left ++ x ∷ []) z) (sym e) (inside left x [])))
      leaves none h (inl before) = elim (told h before) as (λ _. IsTold (left ++ x ∷ []) [] h) [
        | inl in_held ↦ inl (subst (λ l. Contains l h) none in_held)
        | inr r ↦ elim r as (λ _. IsTold (left ++ x ∷ []) [] h) [
          | inl in_left ↦ inr (inl (Contains-append_left left (x ∷ []) h in_left))
          | inr mate ↦ inr (inr mate)
        ]
      ]

      pairs : (held' : List ℕ) (s : ℕ) → held ≡ held' ++ s ∷ [] → AreMates s x → (h : ℕ) → Contains all h ⊎ (h ≡ x) → IsTold left held' h
      pairs held' s is pair h (inr e) = inr (inr (subst HasMate (sym e) (closer_has s x pair)))
      pairs held' s is pair h (inl before) = elim (told h before) as (λ _. IsTold left held' h) [
        | inl in_held ↦ elim (one_more held' s h (subst (λ l. Contains l h) is in_held)) as (λ _. IsTold left held' h) [
          | inl still ↦ inl still
          | inr e ↦ inr (inr (subst HasMate (sym e) (opener_has s x pair)))
        ]
        | inr r ↦ inr r
      ]

      by : (opens x ≡ true) ⊎ (opens x ≡ false) → (held ≡ []) ⊎ ((ys : List ℕ) × (y : ℕ) × (held ≡ ys ++ y ∷ [])) → ((left held : List ℕ) → Later left held) →
          (left' : List ℕ) × (held' : List ℕ) × AreRead left' held'
      by (inl opened) last later = later left (held ++ x ∷ []) (pending_open opens left held all x pending opened) (λ h there. holds h (one_more all x h there))
      by (inr closed) (inl none) later =
          later (left ++ x ∷ []) [] (pending_close opens left all x (subst (λ l. Pending opens left l all) none pending) closed) (λ h there. leaves none h (one_more all x h there))
      by (inr closed) (inr (ys, y, is)) later =
          let closing = closes_last left ys all rest y x parts (subst (λ l. Pending opens left l all) is pending) closed in
          later left ys closing.pending (λ h there. pairs ys y is closing.mates h (one_more all x h there))

  turn : (left held : List ℕ) → length left ≡ length held → IsRound left held → ((h : ℕ) → Contains hs h → IsTold left held h) → (h : ℕ) → Contains hs h → HasMate h
  turn [] held many round told = λ h there. elim (told h there) as (λ _. HasMate h) [
    | inl in_held ↦ absurd (omega (arith, many, in_held.1))
    | inr r ↦ elim r as (λ _. HasMate h) [
      | inl in_left ↦ absurd (omega (arith, in_left.1))
      | inr mate ↦ mate
    ]
  ]
  turn (c ∷ left) held many round told = by (last_cases held) (turn left)
    where
      by : (held ≡ []) ⊎ ((ys : List ℕ) × (y : ℕ) × (held ≡ ys ++ y ∷ [])) →
          ((held : List ℕ) → length left ≡ length held → IsRound left held → ((h : ℕ) → Contains hs h → IsTold left held h) → (h : ℕ) → Contains hs h → HasMate h) →
          (h : ℕ) → Contains hs h → HasMate h
      by (inl none) later = absurd (omega (arith, many, ap length none))
      by (inr (ys, s, is)) later =
          let turned = round_turns left ys s c (subst (IsRound (c ∷ left)) is round) in
          later ys (omega (arith, many, ap length is, length-append ys (s ∷ []))) turned.round (λ h there. now h turned.mates (told h there))
        where
          now : (h : ℕ) → AreMates s c → IsTold (c ∷ left) held h → IsTold left ys h
          now h pair (inl in_held) = elim (one_more ys s h (subst (λ l. Contains l h) is in_held)) as (λ _. IsTold left ys h) [
            | inl still ↦ inl still
            | inr e ↦ inr (inr (subst HasMate (sym e) (opener_has s c pair)))
          ]
          now h pair (inr (inl (zero, l, e))) = inr (inr (subst HasMate e (closer_has s c pair)))
          now h pair (inr (inl (suc i, l, e))) = inr (inl (i, omega (arith, l), e))
          now h pair (inr (inr mate)) = inr (inr mate)

-- each bracket of a circle has a partner
pub brackets_match : (opens : ℕ → Bool) (hs : List ℕ) → (are : AreBrackets opens hs) → (h : ℕ) → Contains hs h → HasMate opens hs are.differ h
brackets_match opens hs are =
    let all = read opens hs are.differ hs [] [] [] refl (pending_none opens) (λ h there. absurd (omega (arith, there.1))) in
    turn opens hs are.differ all.0 all.1 (omega (arith, pending_counts opens all.0 all.1 hs all.2.pending, are.even))
    (round_begins opens hs are.differ all.0 all.1 all.2.pending) all.2.told
