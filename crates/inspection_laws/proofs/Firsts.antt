-- First points at their places, found one after the other by a set of points.
use Rattle.std.specs.Prelude.{◌≡◌, ℕ, zero, suc, ◌+◌, ◌-◌, ◌<◌, ◌≤◌, ℤ, List, [], ◌∷◌, ◌++◌, Bool, true, false, not, cond, ◌||◌, if◌then◌else◌, length, count_by, get_or}
use Rattle.std.specs.Cmp.Lexicographic.{pointwise, pointwise_decides}
use Rattle.std.specs.List.{list_any, position_or_len}
use Rattle.std.specs.Ordering.{int_eq}
use Rattle.std.proofs.Common.{arith, refl, sym, ap, ◌∙◌, subst, inl, inr}
use Rattle.std.proofs.lemmas.Bool.{cases_lt, not-true, not-false}
use Rattle.std.proofs.lemmas.Bool.Decides.{Decides-int_eq}
use Rattle.std.proofs.lemmas.List.{get_or_append_left, get_or_push, length-append}
use Rattle.std.proofs.lemmas.List.Sums.{fails_before_first, passes_at_first, position_or_len_is}
use Rattle.chain_terms.specs.Sums.{up_from, upto}
use Rattle.chain_laws.proofs.Places.{upto_more}
use Rattle.mesh_terms.specs.Points.{IsPoint, coordinate_of}
use Rattle.plane_laws.specs.Decisions.{Vector}
use Rattle.inspection_terms.specs.Inspected.{has_earlier, same_place}
use Rattle.inspection_terms.specs.Triangles.{place_at, place_of}
use Rattle.inspection_laws.specs.Sharing.{AreFirsts, IsFirst}
use Rattle.inspection_laws.proofs.Near.{count-upto_no, count-upto_yes}
use Rattle.inspection_laws.proofs.Tests.{place_yes, yes_place}

-- tests that say the same
same_test : (a b : Bool) → (a ≡ true → b ≡ true) → (b ≡ true → a ≡ true) → a ≡ b
same_test true b f g = sym (f refl)
same_test false true f g = absurd (let e : false ≡ true = g refl in cc)
same_test false false f g = refl

any-append : {X : Type 0} (p : X → Bool) (xs ys : List X) → list_any p (xs ++ ys) ≡ (list_any p xs || list_any p ys)
any-append p [] ys = refl
any-append p (x ∷ xs) ys = by (p x) (list_any p xs) (any-append p xs ys) where
  by : (b c : Bool) → list_any p (xs ++ ys) ≡ (c || list_any p ys) → (b || list_any p (xs ++ ys)) ≡ ((b || c) || list_any p ys)
  by true c e = refl
  by false c e = e

any-last : {X : Type 0} (p : X → Bool) (xs : List X) (x : X) → list_any p (xs ++ x ∷ []) ≡ (list_any p xs || p x)
any-last p xs x = any-append p xs (x ∷ []) ∙ ap (λ (b : Bool). list_any p xs || b) (none (p x)) where
  none : (b : Bool) → (b || false) ≡ b
  none true = refl
  none false = refl

any-same : (f g : ℕ → Bool) (k n : ℕ) → ((i : ℕ) → k ≤ i → i < k + n → f i ≡ g i) → list_any f (up_from k n) ≡ list_any g (up_from k n)
any-same f g k zero h = refl
any-same f g k (suc n) h = λ i. h k (omega arith) (omega arith) i || any-same f g (suc k) n (λ j l m. h j (omega (arith, l)) (omega (arith, m))) i

-- three coordinates
three_is : (p : List ℤ) → length p ≡ 3 → p ≡ coordinate_of p 0 ∷ coordinate_of p 1 ∷ coordinate_of p 2 ∷ []
three_is [] e = absurd (omega (arith, e))
three_is (x ∷ []) e = absurd (omega (arith, e))
three_is (x ∷ y ∷ []) e = absurd (omega (arith, e))
three_is (x ∷ y ∷ z ∷ []) e = refl
three_is (x ∷ y ∷ z ∷ w ∷ r) e = absurd (omega (arith, e))

-- points are one where their places are
point_same : (p q : List ℤ) → IsPoint p → IsPoint q → pointwise int_eq p q ≡ same_place (place_of q) (place_of p)
point_same p q hp hq = same_test _ _
    (λ e. place_yes (place_of q) (place_of p) (ap place_of (sym ((pointwise_decides Decides-int_eq p q).0 e))))
    (λ e. (pointwise_decides Decides-int_eq p q).1
    (three_is p hp.three ∙ (λ i. let v = yes_place (place_of q) (place_of p) e in sym (ap (λ (w : Vector). w.x) v) i ∷ sym (ap (λ (w : Vector). w.y) v) i ∷ sym
    (ap (λ (w : Vector). w.z) v) i ∷ [])
    ∙ sym (three_is q hq.three)))

-- nothing passes, or something does
none_passes : {X : Type 0} (p : X → Bool) (xs : List X) → list_any p xs ≡ false → position_or_len p xs ≡ length xs
none_passes p [] e = refl
none_passes p (x ∷ xs) e = by (p x) refl e (none_passes p xs) where
  by : (b : Bool) → p x ≡ b → (b || list_any p xs) ≡ false → (list_any p xs ≡ false → position_or_len p xs ≡ length xs) → position_or_len p (x ∷ xs) ≡ length (x ∷ xs)
  by true f g more = absurd (cc)
  by false f g more = ap (λ (b : Bool). cond (not b) (1 + position_or_len p xs) 0) f ∙ omega (arith, more g)

some_passes : {X : Type 0} (p : X → Bool) (xs : List X) → list_any p xs ≡ true → position_or_len p xs < length xs
some_passes p [] e = absurd (cc)
some_passes p (x ∷ xs) e = by (p x) refl e (some_passes p xs) where
  by : (b : Bool) → p x ≡ b → (b || list_any p xs) ≡ true → (list_any p xs ≡ true → position_or_len p xs < length xs) → position_or_len p (x ∷ xs) < length (x ∷ xs)
  by true f g more = omega (arith, ap (λ (b : Bool). cond (not b) (1 + position_or_len p xs) 0) f)
  by false f g more = omega (arith, ap (λ (b : Bool). cond (not b) (1 + position_or_len p xs) 0) f, more g)

-- the keys are the places of the first n points
pub record AreKept (points : List (List ℤ)) (n : ℕ) (keys : List (List ℤ)) : Type 0 where
  pub has : (q : List ℤ) → list_any (pointwise int_eq q) keys ≡ list_any (λ w. pointwise int_eq q (get_or points w [])) (upto n)

-- a point among the first n that is the first at its place, and its key
pub record IsHead (points : List (List ℤ)) (n w : ℕ) (key : List ℤ) : Type 0 where
  pub less : w < n
  pub first : has_earlier points w ≡ false
  pub own : key ≡ get_or points w []

-- of the first n points: the keys of their places, the first point at each, and for each point the first one at its place
pub record AreSoFar (points : List (List ℤ)) (n : ℕ) (keys : List (List ℤ)) (heads firsts : List ℕ) : Type 0 where
  pub on : (k : ℕ) → k < n → IsPoint (get_or points k [])
  pub kept : AreKept points n keys
  pub many : length heads ≡ length keys
  pub head : (i : ℕ) → i < length heads → IsHead points n (get_or heads i 0) (get_or keys i [])
  pub full : length firsts ≡ n
  pub each : (v : ℕ) → v < n → IsFirst points v (get_or firsts v 0)
  pub counted : length heads + count_by (has_earlier points) (upto n) ≡ n

-- before the first point
pub none_so_far : (points keys : List (List ℤ)) (heads firsts : List ℕ) → keys ≡ [] → heads ≡ [] → firsts ≡ [] → AreSoFar points 0 keys heads firsts
none_so_far points keys heads firsts no_keys no_heads none = record {
  on = λ k h. absurd (omega (arith, h));
  kept = record { has = λ q. ap (list_any (pointwise int_eq q)) no_keys };
  many = ap length no_heads ∙ sym (ap length no_keys);
  head = λ i h. absurd (omega (arith, h, ap length no_heads));
  full = ap length none;
  each = λ v h. absurd (omega (arith, h));
  counted = ap (λ xs. length xs + count_by (has_earlier points) (upto 0)) no_heads;
}

-- what stands in the lists after point n, of which the key stands at a place
pub record IsPlaced (points : List (List ℤ)) (n : ℕ) (firsts : List ℕ) (place : ℕ) (new_keys : List (List ℤ)) (new_heads : List ℕ) : Type 0 where
  pub within : place < length new_heads
  pub next : (longer : List ℕ) → longer ≡ firsts ++ get_or new_heads place 0 ∷ [] → AreSoFar points (n + 1) new_keys new_heads longer

-- what inserting a key gives
pub record IsInserted (keys : List (List ℤ)) (key : List ℤ) (place : ℕ) (is_new : Bool) (new_keys : List (List ℤ)) : Type 0 where
  pub place_is : place ≡ position_or_len (pointwise int_eq key) keys
  pub new_is : is_new ≡ not (list_any (pointwise int_eq key) keys)
  pub keys_are : new_keys ≡ (if list_any (pointwise int_eq key) keys then keys else keys ++ key ∷ [])

module _ (points : List (List ℤ)) (n : ℕ) (keys : List (List ℤ)) (heads firsts : List ℕ) (are : AreSoFar points n keys heads firsts)
    (key : List ℤ) (key_is : key ≡ get_or points n []) (on_grid : IsPoint key)
    (place : ℕ) (is_new : Bool) (new_keys : List (List ℤ)) (is : IsInserted keys key place is_new new_keys) where
  on_more : (k : ℕ) → k < n + 1 → IsPoint (get_or points k [])
  on_more k h = elim (cases_lt k n) [
    | inl l ↦ are.on k l
    | inr l ↦ let e : n ≡ k = omega (arith, h, l) in subst (λ j. IsPoint (get_or points j [])) e (subst IsPoint key_is on_grid)
  ]

  more : (q : List ℤ) → list_any (λ w. pointwise int_eq q (get_or points w [])) (upto (n + 1)) ≡ (list_any (pointwise int_eq q) keys || pointwise int_eq q key)
  more q =
      ap (list_any (λ w. pointwise int_eq q (get_or points w []))) (upto_more n) ∙ any-last (λ w. pointwise int_eq q (get_or points w [])) (upto n) n
      ∙ (λ i. sym (are.kept.has q) i || pointwise int_eq q (sym key_is i))

  -- a point is new exactly where it is the first at its place
  earlier : has_earlier points n ≡ list_any (pointwise int_eq key) keys
  earlier =
      any-same (λ w. same_place (place_at points w) (place_at points n)) (λ w. pointwise int_eq (get_or points n []) (get_or points w [])) 0 n
      (λ w l h. sym (point_same (get_or points n []) (get_or points w []) (on_more n (omega arith)) (on_more w (omega (arith, h)))))
      ∙ sym (are.kept.has (get_or points n [])) ∙ ap (λ p. list_any (pointwise int_eq p) keys) (sym key_is)

  pub earlier_new : is_new ≡ not (has_earlier points n)
  earlier_new = is.new_is ∙ ap not (sym earlier)

  -- the points that are not the first at their places, counted
  same_count : is_new ≡ true → count_by (has_earlier points) (upto n) ≡ count_by (has_earlier points) (upto (n + 1))
  same_count y = count-upto_no (has_earlier points) n (count_by (has_earlier points) (upto n)) refl (not-true (has_earlier points n) (sym earlier_new ∙ y))

  more_count : is_new ≡ false → count_by (has_earlier points) (upto n) + 1 ≡ count_by (has_earlier points) (upto (n + 1))
  more_count known = count-upto_yes (has_earlier points) n (count_by (has_earlier points) (upto n)) refl (not-false (has_earlier points n) (sym earlier_new ∙ known))

  -- a first point stays one
  head_stays : (i : ℕ) → i < length heads → IsHead points (n + 1) (get_or heads i 0) (get_or keys i [])
  head_stays i h = let old = are.head i h in record { less = omega (arith, old.less); first = old.first; own = old.own }

  module _ (new_heads : List ℕ) (kept : AreKept points (n + 1) new_keys) (many : length new_heads ≡ length new_keys)
      (head : (i : ℕ) → i < length new_heads → IsHead points (n + 1) (get_or new_heads i 0) (get_or new_keys i []))
      (within : place < length new_heads) (own : get_or new_keys place [] ≡ key)
      (counted : length new_heads + count_by (has_earlier points) (upto (n + 1)) ≡ n + 1) where
    placed : IsPlaced points n firsts place new_keys new_heads
    placed = record {
      within = within;
      next = λ longer longer_is.
          let long : length longer ≡ n + 1 = ap length longer_is ∙ length-append firsts (get_or new_heads place 0 ∷ []) ∙ ap (λ k. k + 1) are.full in
          let last : get_or longer n 0 ≡ get_or new_heads place 0 = ap (λ xs. get_or xs n 0) longer_is ∙ get_or_push firsts (get_or new_heads place 0) 0 n are.full in
          record {
            on = on_more;
            kept = kept;
            many = many;
            head = head;
            full = long;
            each = λ v h. elim (cases_lt v n) as (λ _. IsFirst points v (get_or longer v 0)) [
              | inl l ↦
                  let same : get_or longer v 0 ≡ get_or firsts v 0 = ap (λ xs. get_or xs v 0) longer_is
                  ∙ get_or_append_left firsts (get_or new_heads place 0 ∷ []) 0 v (omega (arith, l, are.full)) in
                  subst (IsFirst points v) (sym same) (are.each v l)
              | inr l ↦
                  let e : n ≡ v = omega (arith, h, l) in
                  subst (λ j. IsFirst points j (get_or longer j 0)) e (subst (IsFirst points n) (sym last) (here (head place within)))
            ];
            counted = counted;
          };
    } where
      here : IsHead points (n + 1) (get_or new_heads place 0) (get_or new_keys place []) → IsFirst points n (get_or new_heads place 0)
      here h = record { there = ap place_of (sym h.own ∙ own ∙ key_is); first = h.first; before = omega (arith, h.less) }

  -- a new point is a head
  pub placed_new : is_new ≡ true → (new_heads : List ℕ) → new_heads ≡ heads ++ n ∷ [] → IsPlaced points n firsts place new_keys new_heads
  placed_new y new_heads heads_are =
      placed new_heads (record { has = kept_now })
      (ap length heads_are ∙ length-append heads (n ∷ []) ∙ ap (λ k. k + 1) are.many ∙ sym (length-append keys (key ∷ [])) ∙ ap length (sym grown))
      head_now (omega (arith, last, many_heads)) (ap (λ ks. get_or ks place []) grown ∙ get_or_push keys key [] place (sym place_last))
      (omega (arith, many_heads, are.counted, same_count y))
    where
      absent : list_any (pointwise int_eq key) keys ≡ false
      absent = not-true (list_any (pointwise int_eq key) keys) (sym is.new_is ∙ y)

      grown : new_keys ≡ keys ++ key ∷ []
      grown = is.keys_are ∙ ap (λ (b : Bool). if b then keys else keys ++ key ∷ []) absent

      place_last : place ≡ length keys
      place_last = is.place_is ∙ none_passes (pointwise int_eq key) keys absent

      last : place ≡ length heads
      last = place_last ∙ sym are.many

      many_heads : length new_heads ≡ length heads + 1
      many_heads = ap length heads_are ∙ length-append heads (n ∷ [])

      kept_now : (q : List ℤ) → list_any (pointwise int_eq q) new_keys ≡ list_any (λ w. pointwise int_eq q (get_or points w [])) (upto (n + 1))
      kept_now q = ap (list_any (pointwise int_eq q)) grown ∙ any-last (pointwise int_eq q) keys key ∙ sym (more q)

      head_now : (i : ℕ) → i < length new_heads → IsHead points (n + 1) (get_or new_heads i 0) (get_or new_keys i [])
      head_now i h = elim (cases_lt i (length heads)) as (λ _. IsHead points (n + 1) (get_or new_heads i 0) (get_or new_keys i [])) [
        | inl l ↦
            let hs : get_or new_heads i 0 ≡ get_or heads i 0 = ap (λ xs. get_or xs i 0) heads_are ∙ get_or_append_left heads (n ∷ []) 0 i l in
            let ks : get_or new_keys i [] ≡ get_or keys i [] = ap (λ xs. get_or xs i []) grown
            ∙ get_or_append_left keys (key ∷ []) [] i (omega (arith, l, are.many)) in
            let old = head_stays i l in
            record { less = omega (arith, hs, old.less); first = ap (has_earlier points) hs ∙ old.first; own = ks ∙ old.own ∙ ap (λ w. get_or points w []) (sym hs) }
        | inr l ↦
            let e : length heads ≡ i = omega (arith, h, l, many_heads) in
            let hs : get_or new_heads i 0 ≡ n = ap (λ xs. get_or xs i 0) heads_are ∙ get_or_push heads n 0 i e in
            let ks : get_or new_keys i [] ≡ key = ap (λ xs. get_or xs i []) grown ∙ get_or_push keys key [] i (sym are.many ∙ e) in
            record { less = omega (arith, hs); first = ap (has_earlier points) hs ∙ earlier ∙ absent; own = ks ∙ key_is ∙ ap (λ w. get_or points w []) (sym hs) }
      ]

  -- one at a known place is not
  pub placed_known : is_new ≡ false → (new_heads : List ℕ) → new_heads ≡ heads → IsPlaced points n firsts place new_keys new_heads
  placed_known known new_heads heads_are =
      placed new_heads (record { has = kept_now }) (ap length heads_are ∙ are.many ∙ ap length (sym stays)) head_now
      (omega (arith, ap length heads_are, are.many, place_low)) (ap (λ ks. get_or ks place []) stays ∙ own)
      (omega (arith, ap length heads_are, are.counted, more_count known))
    where
      there : list_any (pointwise int_eq key) keys ≡ true
      there = not-false (list_any (pointwise int_eq key) keys) (sym is.new_is ∙ known)

      stays : new_keys ≡ keys
      stays = is.keys_are ∙ ap (λ (b : Bool). if b then keys else keys ++ key ∷ []) there

      place_low : place < length keys
      place_low = omega (arith, is.place_is, some_passes (pointwise int_eq key) keys there)

      own : get_or keys place [] ≡ key
      own =
          ap (λ k. get_or keys k []) is.place_is
          ∙ sym ((pointwise_decides Decides-int_eq key (get_or keys (position_or_len (pointwise int_eq key) keys) [])).0
          (passes_at_first (pointwise int_eq key) keys [] (some_passes (pointwise int_eq key) keys there)))

      kept_now : (q : List ℤ) → list_any (pointwise int_eq q) new_keys ≡ list_any (λ w. pointwise int_eq q (get_or points w [])) (upto (n + 1))
      kept_now q =
          ap (list_any (pointwise int_eq q)) stays
          ∙ same_test _ _ (λ h. left _ _ h) (λ h. back (list_any (pointwise int_eq q) keys) (pointwise int_eq q key) h refl refl) ∙ sym (more q)
        where
          left : (a b : Bool) → a ≡ true → (a || b) ≡ true
          left a b e = cc

          back : (a b : Bool) → (a || b) ≡ true → list_any (pointwise int_eq q) keys ≡ a → pointwise int_eq q key ≡ b → list_any (pointwise int_eq q) keys ≡ true
          back true b h f g = f
          back false b h f g = let same : q ≡ key = (pointwise_decides Decides-int_eq q key).0 (g ∙ h) in ap (λ p. list_any (pointwise int_eq p) keys) same ∙ there

      head_now : (i : ℕ) → i < length new_heads → IsHead points (n + 1) (get_or new_heads i 0) (get_or new_keys i [])
      head_now i h =
          let hs : get_or new_heads i 0 ≡ get_or heads i 0 = ap (λ xs. get_or xs i 0) heads_are in
          let ks : get_or new_keys i [] ≡ get_or keys i [] = ap (λ xs. get_or xs i []) stays in
          let old = head_stays i (omega (arith, h, ap length heads_are)) in
          record { less = omega (arith, hs, old.less); first = ap (has_earlier points) hs ∙ old.first; own = ks ∙ old.own ∙ ap (λ w. get_or points w []) (sym hs) }

-- for all points
pub all_so_far : (points keys : List (List ℤ)) (n : ℕ) (heads firsts : List ℕ) → AreSoFar points n keys heads firsts → n ≡ length points → AreFirsts points firsts
all_so_far points keys n heads firsts are end = record { full = are.full ∙ end; each = λ v h. are.each v (omega (arith, h, end)) }

-- and how many points are not the first at their places
pub doubled_all : (points keys : List (List ℤ)) (n : ℕ) (heads firsts : List ℕ) → AreSoFar points n keys heads firsts → n ≡ length points →
    length firsts - length heads ≡ count_by (has_earlier points) (upto (length points))
doubled_all points keys n heads firsts are end =
    omega (arith, are.full, are.counted, ap (λ k. count_by (has_earlier points) (upto k)) end)
