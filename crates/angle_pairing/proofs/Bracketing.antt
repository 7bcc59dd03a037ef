-- The half-edges round an edge read once, those that open being held; and those that are left over closed afterwards.
use Rattle.std.proofs.Common.{◌≡◌, ◌≢◌, ◌<◌, ◌≤◌, ◌+◌, ◌⊎◌, inl, inr, ℕ, zero, suc, Bool, true, false, List, [], ◌∷◌, ◌++◌, drop, take, length, get_or, slice_set, refl, sym, ◌∙◌, ap, subst, arith, drop-cons, length-append}
use Rattle.std.specs.List.{All, Contains}
use Rattle.std.specs.Prelude.{Option, Some, option_to_list}
use Rattle.std.proofs.lemmas.Bool.{cases_Bool, cases_eq}
use Rattle.std.proofs.lemmas.List.{get_or_append_left, get_or_push, get_or-set_same, get_or-set_other, length-set, take_all, take_more, take-append-drop}
use Rattle.std.proofs.lemmas.List.Elements.{All-nil, Contains-append_left}
use Rattle.fan_laws.specs.Circles.{AreBrackets, circle_twin}
use Rattle.fan_laws.proofs.Level.{IsLevel}
use Rattle.fan_laws.proofs.Matching.{AreDifferent, AreMates, IsRound, closes_last, inside, last_cases, one_more, round_begins, round_turns}
use Rattle.fan_laws.proofs.Members.{at_place, member}
use Rattle.fan_laws.proofs.Pending.{Pending, last_open, pending_close, pending_counts, pending_none, pending_open, same_before}

-- a member of all is below where all are
pub low_member : (n : ℕ) (hs : List ℕ) (h : ℕ) → All (λ g. g < n) hs → Contains hs h → h < n
low_member n hs h low there = let p = at_place hs h there in subst (λ g. g < n) p.2 (low p.0 0 p.1)

-- the list up to a member, that member, and the rest
pub three_parts : (hs : List ℕ) (i x : ℕ) → i < length hs → get_or hs i 0 ≡ x → hs ≡ take i hs ++ x ∷ drop (suc i) hs
three_parts hs i x low is = sym (take-append-drop i hs) ∙ ap (λ l. take i hs ++ l) (drop-cons hs i 0 low) ∙ ap (λ y. take i hs ++ y ∷ drop (suc i) hs) is

pub one_further : (hs : List ℕ) (i x : ℕ) → i < length hs → get_or hs i 0 ≡ x → take (i + 1) hs ≡ take i hs ++ x ∷ []
one_further hs i x low is = take_more hs i 0 low ∙ ap (λ y. take i hs ++ y ∷ []) is

-- what holds of a list holds of its front, and of its last member
pub All-front : (P : ℕ → Type 0) (xs ys : List ℕ) → All P (xs ++ ys) → All P xs
All-front P xs ys all k d low =
    subst P (get_or_append_left xs ys d k low) (all k d (omega (arith, low, length-append xs ys)))

pub All-last : (P : ℕ → Type 0) (xs : List ℕ) (y : ℕ) → All P (xs ++ y ∷ []) → P y
All-last P xs y all = subst P (get_or_push xs y 0 (length xs) refl) (all (length xs) 0 (omega (arith, length-append xs (y ∷ []))))

pub All-more : (P : ℕ → Type 0) (xs : List ℕ) (y : ℕ) → All P xs → P y → All P (xs ++ y ∷ [])
All-more P xs y all here k d low = elim (cases_eq k (length xs)) as (λ _. P (get_or (xs ++ y ∷ []) k d)) [
  | inl e ↦ subst P (sym (get_or_push xs y d k (sym e))) here
  | inr apart ↦
      let less : k < length xs = omega (arith, low, length-append xs (y ∷ []), apart) in subst P (sym (get_or_append_left xs (y ∷ []) d k less)) (all k d less)
]

-- the last that was taken out
pub taken_out : (old new : List ℕ) (result : Option ℕ) (other : ℕ) → old ≡ new ++ option_to_list result → result ≡ Some other → old ≡ new ++ other ∷ []
taken_out old new result other is some = is ∙ ap (λ o. new ++ option_to_list o) some

-- two half-edges are made twins
abbrev pub joined : List ℕ → ℕ → ℕ → List ℕ
joined twins s c = slice_set (slice_set twins s c) c s

pub joined_s : (twins : List ℕ) (s c : ℕ) → s ≢ c → s < length twins → get_or (joined twins s c) s 0 ≡ c
joined_s twins s c apart low = get_or-set_other (slice_set twins s c) c s s 0 apart ∙ get_or-set_same twins s c 0 low

pub joined_c : (twins : List ℕ) (s c : ℕ) → c < length twins → get_or (joined twins s c) c 0 ≡ s
joined_c twins s c low = get_or-set_same (slice_set twins s c) c s 0 (omega (arith, low, length-set twins s c))

pub joined_other : (twins : List ℕ) (s c x : ℕ) → x ≢ s → x ≢ c → get_or (joined twins s c) x 0 ≡ get_or twins x 0
joined_other twins s c x not_s not_c = get_or-set_other (slice_set twins s c) c x s 0 not_c ∙ get_or-set_other twins s x c 0 not_s

pub joined_long : (twins : List ℕ) (s c : ℕ) → length (joined twins s c) ≡ length twins
joined_long twins s c = length-set (slice_set twins s c) c s ∙ length-set twins s c

module _ (opens : ℕ → Bool) (hs : List ℕ) where
  -- a half-edge has its twin
  abbrev pub IsJoined : List ℕ → ℕ → Type 0
  IsJoined twins h = get_or twins h 0 ≡ circle_twin opens hs h

  -- the first i members were read
  pub record IsReading (i : ℕ) (left held old twins : List ℕ) : Type 0 where
    pub full : length twins ≡ length old
    pub pending : Pending opens left held (take i hs)
    pub told : (h : ℕ) → Contains (take i hs) h → Contains held h ⊎ (Contains left h ⊎ IsJoined twins h)
    pub others : (h : ℕ) → (Contains hs h → ⊥) → get_or twins h 0 ≡ get_or old h 0
    pub lows : All (λ s. s < length twins) held

  pub reading_none : (left held old : List ℕ) → left ≡ [] → held ≡ [] → IsReading 0 left held old old
  reading_none left held old no_left none = record {
    full = refl;
    pending = subst (λ l. Pending opens l held []) (sym no_left) (subst (λ l. Pending opens [] l []) (sym none) (pending_none opens));
    told = λ h there. absurd (omega (arith, there.1));
    others = λ h out. refl;
    lows = subst (All (λ s. s < length old)) (sym none) (All-nil (λ s. s < length old));
  }

  -- partners that were joined
  after_join : (s c : ℕ) (differ : AreDifferent hs) (twins : List ℕ) → s < length twins → c < length twins → AreMates opens hs differ s c → (h : ℕ) →
      (h ≡ s) ⊎ ((h ≡ c) ⊎ IsJoined twins h) → IsJoined (joined twins s c) h
  after_join s c differ twins s_low c_low mates h (inl e) =
      ap (λ x. get_or (joined twins s c) x 0) e ∙ joined_s twins s c (mates_apart mates) s_low ∙ sym mates.to ∙ ap (circle_twin opens hs) (sym e)
    where
      mates_apart : AreMates opens hs differ s c → s ≢ c
      mates_apart m e = let p = m.opened in let q = m.closed in let r = ap opens e in absurd (cc)
  after_join s c differ twins s_low c_low mates h (inr (inl e)) =
      ap (λ x. get_or (joined twins s c) x 0) e ∙ joined_c twins s c c_low ∙ sym mates.back ∙ ap (circle_twin opens hs) (sym e)
  after_join s c differ twins s_low c_low mates h (inr (inr is)) = elim (cases_eq h c) as (λ _. IsJoined (joined twins s c) h) [
    | inl e ↦ ap (λ x. get_or (joined twins s c) x 0) e ∙ joined_c twins s c c_low ∙ sym mates.back ∙ ap (circle_twin opens hs) (sym e)
    | inr not_c ↦ elim (cases_eq h s) as (λ _. IsJoined (joined twins s c) h) [
      | inl e ↦
          ap (λ x. get_or (joined twins s c) x 0) e ∙ joined_s twins s c (λ f. not_c (e ∙ f)) s_low ∙ sym mates.to ∙ ap (circle_twin opens hs) (sym e)
      | inr not_s ↦ joined_other twins s c h not_s not_c ∙ is
    ]
  ]

  others_stay : (s c : ℕ) (old twins : List ℕ) → Contains hs s → Contains hs c → ((h : ℕ) → (Contains hs h → ⊥) → get_or twins h 0 ≡ get_or old h 0) →
      (h : ℕ) → (Contains hs h → ⊥) → get_or (joined twins s c) h 0 ≡ get_or old h 0
  others_stay s c old twins s_in c_in others h out =
      joined_other twins s c h (λ e. out (subst (Contains hs) (sym e) s_in)) (λ e. out (subst (Contains hs) (sym e) c_in)) ∙ others h out

  module _ (i x : ℕ) (low : i < length hs) (x_is : get_or hs i 0 ≡ x) (left held old twins : List ℕ) (is : IsReading i left held old twins) where
    further : take (i + 1) hs ≡ take i hs ++ x ∷ []
    further = one_further hs i x low x_is

    split : (h : ℕ) → Contains (take (i + 1) hs) h → Contains (take i hs) h ⊎ (h ≡ x)
    split h there = one_more (take i hs) x h (subst (λ l. Contains l h) further there)

    -- one that opens
    pub reading_opens : x < length twins → opens x ≡ true → (held_later : List ℕ) → held_later ≡ held ++ x ∷ [] → IsReading (i + 1) left held_later old twins
    reading_opens x_low opened held_later later_is =
        subst (λ l. IsReading (i + 1) left l old twins) (sym later_is)
        (record {
          full = is.full;
          pending = subst (Pending opens left (held ++ x ∷ [])) (sym further) (pending_open opens left held (take i hs) x is.pending opened);
          told = λ h there. told h (split h there);
          others = is.others;
          lows = All-more (λ s. s < length twins) held x is.lows x_low;
        })
      where
        told : (h : ℕ) → Contains (take i hs) h ⊎ (h ≡ x) → Contains (held ++ x ∷ []) h ⊎ (Contains left h ⊎ IsJoined twins h)
        told h (inr e) = inl (subst (λ z. Contains (held ++ x ∷ []) z) (sym e) (inside held x []))
        told h (inl before) = elim (is.told h before) as (λ _. Contains (held ++ x ∷ []) h ⊎ (Contains left h ⊎ IsJoined twins h)) [
          | inl in_held ↦ inl (Contains-append_left held (x ∷ []) h in_held)
          | inr r ↦ inr r
        ]

    -- one that closes where none is held
    pub reading_leaves : opens x ≡ false → held ≡ [] → (left_later held_later : List ℕ) → left_later ≡ left ++ x ∷ [] → held_later ≡ [] →
        IsReading (i + 1) left_later held_later old twins
    reading_leaves closed none left_later held_later left_is held_is =
        subst (λ l. IsReading (i + 1) l held_later old twins) (sym left_is)
        (subst (λ l. IsReading (i + 1) (left ++ x ∷ []) l old twins) (sym held_is)
        (record {
          full = is.full;
          pending = subst (Pending opens (left ++ x ∷ []) []) (sym further)
              (pending_close opens left (take i hs) x (subst (λ l. Pending opens left l (take i hs)) none is.pending) closed);
          told = λ h there. told h (split h there);
          others = is.others;
          lows = All-nil (λ s. s < length twins);
        }))
      where
        told : (h : ℕ) → Contains (take i hs) h ⊎ (h ≡ x) → Contains [] h ⊎ (Contains (left ++ x ∷ []) h ⊎ IsJoined twins h)
        told h (inr e) = inr (inl (subst (λ z. Contains (left ++ x ∷ []) z) (sym e) (inside left x [])))
        told h (inl before) = elim (is.told h before) as (λ _. Contains [] h ⊎ (Contains (left ++ x ∷ []) h ⊎ IsJoined twins h)) [
          | inl in_held ↦ inl (subst (λ l. Contains l h) none in_held)
          | inr r ↦ elim r as (λ _. Contains [] h ⊎ (Contains (left ++ x ∷ []) h ⊎ IsJoined twins h)) [
            | inl in_left ↦ inr (inl (Contains-append_left left (x ∷ []) h in_left))
            | inr joined_too ↦ inr (inr joined_too)
          ]
        ]

    -- one that closes the last that is held
    module _ (differ : AreDifferent hs) (lows : All (λ h. h < length twins) hs) (held' : List ℕ) (s : ℕ) (held_is : held ≡ held' ++ s ∷ []) where
      pending_last : Pending opens left (held' ++ s ∷ []) (take i hs)
      pending_last = subst (λ l. Pending opens left l (take i hs)) held_is is.pending

      -- which is one of the members
      pub last_in : Contains hs s
      last_in =
          let last = last_open opens left held' (take i hs) s pending_last in
          let there : Contains (take i hs) s = subst (λ l. Contains l s) (sym last.2.parts) (inside last.0 s last.1) in
          subst (λ l. Contains l s) (take-append-drop i hs) (Contains-append_left (take i hs) (drop i hs) s there)

      pub last_low : s < length twins
      last_low = low_member (length twins) hs s lows last_in

      pub reading_closes : opens x ≡ false → (held_later : List ℕ) → held_later ≡ held' → IsReading (i + 1) left held_later old (joined twins s x)
      reading_closes closed held_later later_is =
          let closing = closes_last opens hs differ left held' (take i hs) (drop (suc i) hs) s x (three_parts hs i x low x_is) pending_last closed in
          subst (λ l. IsReading (i + 1) left l old (joined twins s x)) (sym later_is)
          (record {
            full = joined_long twins s x ∙ is.full;
            pending = subst (Pending opens left held') (sym further) closing.pending;
            told = λ h there. told closing.mates h (split h there);
            others = others_stay s x old twins last_in x_in is.others;
            lows = subst (λ n. All (λ y. y < n) held') (sym (joined_long twins s x))
                (All-front (λ y. y < length twins) held' (s ∷ []) (subst (All (λ y. y < length twins)) held_is is.lows));
          })
        where
          x_in : Contains hs x
          x_in = subst (Contains hs) x_is (member hs i low)

          x_low : x < length twins
          x_low = low_member (length twins) hs x lows x_in

          told : AreMates opens hs differ s x → (h : ℕ) → Contains (take i hs) h ⊎ (h ≡ x) → Contains held' h ⊎ (Contains left h ⊎ IsJoined (joined twins s x) h)
          told mates h (inr e) = inr (inr (after_join s x differ twins last_low x_low mates h (inr (inl e))))
          told mates h (inl before) = elim (is.told h before) as (λ _. Contains held' h ⊎ (Contains left h ⊎ IsJoined (joined twins s x) h)) [
            | inl in_held ↦ elim (one_more held' s h (subst (λ l. Contains l h) held_is in_held)) as (λ _. Contains held' h ⊎ (Contains left h ⊎ IsJoined (joined twins s x) h)) [
              | inl still ↦ inl still
              | inr e ↦ inr (inr (after_join s x differ twins last_low x_low mates h (inl e)))
            ]
            | inr r ↦ elim r as (λ _. Contains held' h ⊎ (Contains left h ⊎ IsJoined (joined twins s x) h)) [
              | inl in_left ↦ inr (inl in_left)
              | inr was ↦ inr (inr (after_join s x differ twins last_low x_low mates h (inr (inr was))))
            ]
          ]

  -- some that are left over are to be closed
  pub record AreLate (rest held old twins : List ℕ) : Type 0 where
    pub full : length twins ≡ length old
    pub front : List ℕ
    pub middle : List ℕ
    pub behind : List ℕ
    pub parts : hs ≡ front ++ middle ++ behind
    pub level : IsLevel opens (behind ++ front)
    pub pending : Pending opens rest held middle
    pub many : length rest ≡ length held
    pub told : (h : ℕ) → Contains hs h → Contains held h ⊎ (Contains rest h ⊎ IsJoined twins h)
    pub others : (h : ℕ) → (Contains hs h → ⊥) → get_or twins h 0 ≡ get_or old h 0
    pub lows : All (λ s. s < length twins) held

  pub late_begins : (are : AreBrackets opens hs) (i : ℕ) (left held old twins : List ℕ) → length hs ≤ i → IsReading i left held old twins → AreLate left held old twins
  late_begins are i left held old twins all is =
      let whole : take i hs ≡ hs = take_all i hs all in
      let pending : Pending opens left held hs = subst (Pending opens left held) whole is.pending in
      let round = round_begins opens hs are.differ left held pending in
      record {
        full = is.full;
        front = round.front;
        middle = round.middle;
        behind = round.behind;
        parts = round.parts;
        level = round.level;
        pending = round.pending;
        many = omega (arith, pending_counts opens left held hs pending, are.even);
        told = λ h there. is.told h (subst (λ l. Contains l h) (sym whole) there);
        others = is.others;
        lows = is.lows;
      }

  pub late_some : (c : ℕ) (rest held old twins : List ℕ) → AreLate (c ∷ rest) held old twins → held ≢ []
  late_some c rest held old twins is none = omega (arith, is.many, ap length none)

  module _ (differ : AreDifferent hs) (c : ℕ) (rest held old twins : List ℕ) (is : AreLate (c ∷ rest) held old twins) (lows : All (λ h. h < length twins) hs)
      (held' : List ℕ) (s : ℕ) (held_is : held ≡ held' ++ s ∷ []) where
    round : IsRound opens hs differ (c ∷ rest) (held' ++ s ∷ [])
    round = record {
      front = is.front;
      middle = is.middle;
      behind = is.behind;
      parts = is.parts;
      level = is.level;
      pending = subst (λ l. Pending opens (c ∷ rest) l is.middle) held_is is.pending;
    }

    mates : AreMates opens hs differ s c
    mates = (round_turns opens hs differ rest held' s c round).mates

    pub late_low : s < length twins
    late_low = low_member (length twins) hs s lows mates.s_in

    pub c_low : c < length twins
    c_low = low_member (length twins) hs c lows mates.c_in

    pub late_closes : (held_later : List ℕ) → held_later ≡ held' → AreLate rest held_later old (joined twins s c)
    late_closes held_later later_is =
        let turned = (round_turns opens hs differ rest held' s c round).round in
        subst (λ l. AreLate rest l old (joined twins s c)) (sym later_is)
        (record {
          full = joined_long twins s c ∙ is.full;
          front = turned.front;
          middle = turned.middle;
          behind = turned.behind;
          parts = turned.parts;
          level = turned.level;
          pending = turned.pending;
          many = omega (arith, is.many, ap length held_is, length-append held' (s ∷ []));
          told = λ h there. told h (is.told h there);
          others = others_stay s c old twins mates.s_in mates.c_in is.others;
          lows = subst (λ n. All (λ y. y < n) held') (sym (joined_long twins s c))
              (All-front (λ y. y < length twins) held' (s ∷ []) (subst (All (λ y. y < length twins)) held_is is.lows));
        })
      where
        told : (h : ℕ) → Contains held h ⊎ (Contains (c ∷ rest) h ⊎ IsJoined twins h) → Contains held' h ⊎ (Contains rest h ⊎ IsJoined (joined twins s c) h)
        told h (inl in_held) =
            elim (one_more held' s h (subst (λ l. Contains l h) held_is in_held)) as (λ _. Contains held' h ⊎ (Contains rest h ⊎ IsJoined (joined twins s c) h)) [
              | inl still ↦ inl still
              | inr e ↦ inr (inr (after_join s c differ twins late_low c_low mates h (inl e)))
            ]
        told h (inr (inl (zero, l, e))) = inr (inr (after_join s c differ twins late_low c_low mates h (inr (inl (sym e)))))
        told h (inr (inl (suc i, l, e))) = inr (inl (i, omega (arith, l), e))
        told h (inr (inr was)) = inr (inr (after_join s c differ twins late_low c_low mates h (inr (inr was))))

  -- when none is left, each has its twin
  pub late_done : (rest held old twins : List ℕ) → length rest ≡ 0 → AreLate rest held old twins → (h : ℕ) → Contains hs h → IsJoined twins h
  late_done rest held old twins none is h there = elim (is.told h there) as (λ _. IsJoined twins h) [
    | inl in_held ↦ absurd (omega (arith, in_held.1, is.many, none))
    | inr r ↦ elim r as (λ _. IsJoined twins h) [
      | inl in_rest ↦ absurd (omega (arith, in_rest.1, none))
      | inr joined_too ↦ joined_too
    ]
  ]

  -- a half-edge taken, whatever it does
  pub reading_step : (differ : AreDifferent hs) (i x : ℕ) → i < length hs → get_or hs i 0 ≡ x → (left held old twins : List ℕ) → IsReading i left held old twins →
      All (λ h. h < length old) hs → (b : Bool) → b ≡ opens x → (left' held' twins' : List ℕ) →
      (b ≡ true → (held' ≡ held ++ x ∷ []) × (left' ≡ left) × (twins' ≡ twins)) →
      (b ≡ false → held ≡ [] → (held' ≡ []) × (left' ≡ left ++ x ∷ []) × (twins' ≡ twins)) →
      (b ≡ false → (rest : List ℕ) (s : ℕ) → held ≡ rest ++ s ∷ [] → (held' ≡ rest) × (left' ≡ left) × (twins' ≡ joined twins s x)) →
      IsReading (i + 1) left' held' old twins'
  reading_step differ i x low x_is left held old twins is olds b b_is left' held' twins' opened over closed = by (cases_Bool b) (last_cases held)
    where
      lows : All (λ h. h < length twins) hs
      lows = subst (λ n. All (λ h. h < n) hs) (sym is.full) olds

      x_low : x < length twins
      x_low = low_member (length twins) hs x lows (subst (Contains hs) x_is (member hs i low))

      renamed : (left'' twins'' : List ℕ) → left' ≡ left'' → twins' ≡ twins'' → IsReading (i + 1) left'' held' old twins'' → IsReading (i + 1) left' held' old twins'
      renamed left'' twins'' l t made = subst (λ z. IsReading (i + 1) z held' old twins') (sym l) (subst (λ z. IsReading (i + 1) left'' held' old z) (sym t) made)

      by : (b ≡ true) ⊎ (b ≡ false) → (held ≡ []) ⊎ ((ys : List ℕ) × (y : ℕ) × (held ≡ ys ++ y ∷ [])) → IsReading (i + 1) left' held' old twins'
      by (inl t) cases =
          let p = opened t in
          renamed left twins p.1 p.2 (reading_opens i x low x_is left held old twins is x_low (sym b_is ∙ t) held' p.0)
      by (inr f) (inl none) =
          let p = over f none in
          subst (λ z. IsReading (i + 1) left' held' old z) (sym p.2) (reading_leaves i x low x_is left held old twins is (sym b_is ∙ f) none left' held' p.1 p.0)
      by (inr f) (inr (ys, s, last)) =
          let p = closed f ys s last in
          renamed left (joined twins s x) p.1 p.2 (reading_closes i x low x_is left held old twins is differ lows ys s last (sym b_is ∙ f) held' p.0)

  -- one that is left over closed
  pub late_step : (differ : AreDifferent hs) (all : List ℕ) (i c : ℕ) → i < length all → get_or all i 0 ≡ c → (held old twins : List ℕ) → AreLate (drop i all) held old twins →
      All (λ h. h < length old) hs → (held' twins' : List ℕ) →
      ((rest : List ℕ) (s : ℕ) → held ≡ rest ++ s ∷ [] → (held' ≡ rest) × (twins' ≡ joined twins s c)) → AreLate (drop (i + 1) all) held' old twins'
  late_step differ all i c low c_is held old twins is olds held' twins' closed = by (last_cases held)
    where
      parts : drop i all ≡ c ∷ drop (i + 1) all
      parts =
          let more : suc i ≡ i + 1 = omega arith in
          drop-cons all i 0 low ∙ ap (λ y. y ∷ drop (suc i) all) c_is ∙ ap (λ j. c ∷ drop j all) more

      late : AreLate (c ∷ drop (i + 1) all) held old twins
      late = subst (λ l. AreLate l held old twins) parts is

      lows : All (λ h. h < length twins) hs
      lows = subst (λ n. All (λ h. h < n) hs) (sym is.full) olds

      by : (held ≡ []) ⊎ ((ys : List ℕ) × (y : ℕ) × (held ≡ ys ++ y ∷ [])) → AreLate (drop (i + 1) all) held' old twins'
      by (inl none) = absurd (late_some c (drop (i + 1) all) held old twins late none)
      by (inr (ys, s, last)) =
          let p = closed ys s last in
          subst (λ z. AreLate (drop (i + 1) all) held' old z) (sym p.1) (late_closes differ c (drop (i + 1) all) held old twins late lows ys s last held' p.0)

  -- the half-edge that is to be closed next
  pub late_next : (differ : AreDifferent hs) (all : List ℕ) (i c : ℕ) → i < length all → get_or all i 0 ≡ c → (held old twins : List ℕ) → AreLate (drop i all) held old twins →
      All (λ h. h < length old) hs → c < length twins
  late_next differ all i c low c_is held old twins is olds = by (last_cases held)
    where
      parts : drop i all ≡ c ∷ drop (i + 1) all
      parts =
          let more : suc i ≡ i + 1 = omega arith in
          drop-cons all i 0 low ∙ ap (λ y. y ∷ drop (suc i) all) c_is ∙ ap (λ j. c ∷ drop j all) more

      late : AreLate (c ∷ drop (i + 1) all) held old twins
      late = subst (λ l. AreLate l held old twins) parts is

      lows : All (λ h. h < length twins) hs
      lows = subst (λ n. All (λ h. h < n) hs) (sym is.full) olds

      by : (held ≡ []) ⊎ ((ys : List ℕ) × (y : ℕ) × (held ≡ ys ++ y ∷ [])) → c < length twins
      by (inl none) = absurd (late_some c (drop (i + 1) all) held old twins late none)
      by (inr (ys, s, last)) = c_low differ c (drop (i + 1) all) held old twins late lows ys s last

-- the last that is held is taken out
pub last_taken : (old new : List ℕ) (result : Option ℕ) (other : ℕ) → old ≡ new ++ option_to_list result → result ≡ Some other → (rest : List ℕ) (s : ℕ) → old ≡ rest ++ s ∷ [] →
    (new ≡ rest) × (other ≡ s)
last_taken old new result other is some rest s last = same_before new rest other s (sym (taken_out old new result other is some) ∙ last)
