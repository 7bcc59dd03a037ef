-- Numbers by label, of which those other than 0 are listed: what another number for one label changes.
use Rattle.std.proofs.Common.{◌≡◌, ◌≢◌, ◌<◌, ◌≤◌, ◌+◌, ◌++◌, ◌∙◌, ℕ, ℤ, Bool, List, [], ◌∷◌, true, false, ap, append_assoc, arith, cond, drop, get_or, inl, inr, length, pos, refl, set, subst, suc, sym, take, zero, ◌+ℤ◌}
use Rattle.std.specs.Prelude.{◌⊎◌, insert, nat_le, not, remove, unsigned_abs}
use Rattle.std.specs.List.{All, position_or_len}
use Rattle.std.specs.Ordering.{int_eq}
use Rattle.std.proofs.lemmas.Bool.{both_ways, cases_Bool, false_from_ne_true, le-leb, lt-leb}
use Rattle.std.proofs.lemmas.Bool.Decides.{Decides-int_eq}
use Rattle.std.proofs.lemmas.Int.{ints}
use Rattle.std.proofs.lemmas.List.{drop_all, drop_at, drop_more, get_or-append-add, get_or_at, length-append, set-get_or, set_at, take_at}
use Rattle.std.proofs.lemmas.List.Elements.{All-append, All-cons, All-drop, All-nil, All-set, All-take, All-weaker}
use Rattle.plane_chains.specs.declared.nets.LabelNumber.{LabelNumber}
use Rattle.plane_chains.specs.Nets.{IsAdded, nonzero, nonzero_from}

-- what is listed of one label
abbrev pub entry : ℕ → ℤ → List LabelNumber
entry k n = cond (int_eq n (pos 0)) [] (record { label = k; number = n } ∷ [])

-- a place at the front, and one behind it
place_here : {X : Type 0} (p : X → Bool) (k : X) (ks : List X) → p k ≡ true → position_or_len p (k ∷ ks) ≡ 0
place_here p k ks e = ap (λ b. cond (not b) (1 + position_or_len p ks) 0) e

place_later : {X : Type 0} (p : X → Bool) (k : X) (ks : List X) → p k ≡ false → position_or_len p (k ∷ ks) ≡ 1 + position_or_len p ks
place_later p k ks e = ap (λ b. cond (not b) (1 + position_or_len p ks) 0) e

-- the labels begin with the first
labels_from : (k : ℕ) (ns : List ℤ) → All (λ (e : LabelNumber). k ≤ e.label) (nonzero_from k ns)
unfolding nonzero_from
labels_from k [] = All-nil (λ (e : LabelNumber). k ≤ e.label)
labels_from k (n ∷ ns) =
    All-append (λ (e : LabelNumber). k ≤ e.label) (entry k n) (nonzero_from (suc k) ns) (first (int_eq n (pos 0)))
    (All-weaker (λ (e : LabelNumber). suc k ≤ e.label) (λ (e : LabelNumber). k ≤ e.label) (λ e h. omega (arith, h)) (nonzero_from (suc k) ns) (labels_from (suc k) ns))
  where
    first : (b : Bool) → All (λ (e : LabelNumber). k ≤ e.label) (cond b [] (record { label = k; number = n } ∷ []))
    first true = All-nil (λ (e : LabelNumber). k ≤ e.label)
    first false = All-cons (λ (e : LabelNumber). k ≤ e.label) (record { label = k; number = n }) [] (omega arith) (All-nil (λ (e : LabelNumber). k ≤ e.label))

-- where all labels are for it or behind, the place is the first
place_first : (l : ℕ) (es : List LabelNumber) → All (λ (e : LabelNumber). l ≤ e.label) es → position_or_len (λ (e : LabelNumber). nat_le l e.label) es ≡ 0
place_first l [] h = refl
place_first l (e ∷ es) h = place_here (λ (e : LabelNumber). nat_le l e.label) e es (le-leb l e.label (h 0 e (omega arith)))

-- the list round the entry of a label
pub record Splits (l i k : ℕ) (ns : List ℤ) : Type 0 where
  pub front : List LabelNumber
  pub back : List LabelNumber
  pub place : position_or_len (λ (e : LabelNumber). nat_le l e.label) (nonzero_from k ns) ≡ length front
  pub behind : All (λ (e : LabelNumber). l < e.label) back
  pub joined : (v : ℤ) → nonzero_from k (set ns i v) ≡ front ++ (entry l v ++ back)

splits_first : (l k : ℕ) (n : ℤ) (ns : List ℤ) → l ≡ k → Splits l 0 k (n ∷ ns)
unfolding nonzero_from
splits_first l k n ns e = record {
  front = [];
  back = nonzero_from (suc k) ns;
  place = place_first l (nonzero_from k (n ∷ ns)) (All-weaker (λ (e : LabelNumber). k ≤ e.label) (λ (e : LabelNumber). l ≤ e.label) (λ x h. omega (arith, h, e)) (nonzero_from k (n ∷ ns)) (labels_from k (n ∷ ns)));
  behind = All-weaker (λ (e : LabelNumber). suc k ≤ e.label) (λ (e : LabelNumber). l < e.label) (λ x h. omega (arith, h, e)) (nonzero_from (suc k) ns) (labels_from (suc k) ns);
  joined = λ v. ap (λ m. entry m v ++ nonzero_from (suc k) ns) (sym e);
}

splits_later : (l i k : ℕ) (n : ℤ) (ns : List ℤ) → k < l → Splits l i (suc k) ns → Splits l (suc i) k (n ∷ ns)
unfolding nonzero_from
splits_later l i k n ns less s = record {
  front = entry k n ++ s.front;
  back = s.back;
  place = by (int_eq n (pos 0));
  behind = s.behind;
  joined = λ v. ap (λ es. entry k n ++ es) (s.joined v) ∙ sym (append_assoc (entry k n) s.front (entry l v ++ s.back));
}
  where
    test : LabelNumber → Bool
    test e = nat_le l e.label

    by : (b : Bool) → position_or_len test (cond b [] (record { label = k; number = n } ∷ []) ++ nonzero_from (suc k) ns)
        ≡ length (cond b [] (record { label = k; number = n } ∷ []) ++ s.front)
    by true = s.place
    by false = omega (
      arith,
      place_later test (record { label = k; number = n }) (nonzero_from (suc k) ns) (lt-leb l k less),
      s.place,
    )

splits : (l i k : ℕ) (ns : List ℤ) → l ≡ k + i → i < length ns → Splits l i k ns
unfolding nonzero_from
splits l i k [] e low = absurd (omega (arith, low))
splits l zero k (n ∷ ns) e low = splits_first l k n ns (omega (arith, e))
splits l (suc i) k (n ∷ ns) e low = splits_later l i k n ns (omega (arith, e)) (splits l i (suc k) ns (omega (arith, e)) (omega (arith, low)))

-- the entry of a number that is 0, and of another
entry_none : (l : ℕ) (v : ℤ) → v ≡ pos 0 → entry l v ≡ []
entry_none l v e = ap (λ b. cond b [] (record { label = l; number = v } ∷ [])) ((Decides-int_eq v (pos 0)).1 e)

entry_some : (l : ℕ) (v : ℤ) → v ≢ pos 0 → entry l v ≡ record { label = l; number = v } ∷ []
entry_some l v e = ap (λ b. cond b [] (record { label = l; number = v } ∷ [])) (false_from_ne_true (int_eq v (pos 0)) (λ h. e ((Decides-int_eq v (pos 0)).0 h)))

module _ (ns : List ℤ) (l : ℕ) (net : List LabelNumber) (at : ℕ) (is : net ≡ nonzero ns) (low : l < length ns)
    (place : at ≡ position_or_len (λ (e : LabelNumber). nat_le l e.label) net) where
  s : Splits l l 0 ns
  s = splits l l 0 ns (omega arith) low

  abbrev pub now : ℤ
  now = get_or ns l (pos 0)

  at_front : length s.front ≡ at
  at_front = sym (place ∙ ap (position_or_len (λ (e : LabelNumber). nat_le l e.label)) is ∙ s.place)

  net_is : net ≡ s.front ++ (entry l now ++ s.back)
  net_is = is ∙ ap nonzero (sym (set-get_or ns l (pos 0))) ∙ s.joined now

  -- where the label has a number it stands at the place
  pub record IsThere : Type 0 where
    pub inside : at < length net
    pub has : (d : LabelNumber) → get_or net at d ≡ record { label = l; number = now }

  pub there : now ≢ pos 0 → IsThere
  there some =
      let net_of : net ≡ s.front ++ record { label = l; number = now } ∷ s.back = net_is ∙ ap (λ es. s.front ++ (es ++ s.back)) (entry_some l now some) in
      record {
        inside = omega (arith, ap length net_of, length-append s.front (record { label = l; number = now } ∷ s.back), at_front);
        has = λ d. ap (λ es. get_or es at d) net_of ∙ get_or_at s.front (record { label = l; number = now }) s.back d at at_front;
      }

  -- where it has none, another stands there, or nothing
  pub absent : now ≡ pos 0 → (d : LabelNumber) → at < length net → (get_or net at d).label ≢ l
  absent none d inside same =
      let net_of : net ≡ s.front ++ s.back = net_is ∙ ap (λ es. s.front ++ (es ++ s.back)) (entry_none l now none) in
      let long : 0 < length s.back = omega (arith, inside, ap length net_of, length-append s.front s.back, at_front) in
      let label = s.behind 0 d long in
      omega (arith, label, same, ap (λ (e : LabelNumber). e.label) (ap (λ es. get_or es at d) net_of ∙ read)) where
        read : get_or (s.front ++ s.back) at d ≡ get_or s.back 0 d
        read = ap (λ n. get_or (s.front ++ s.back) n d) (omega (arith, at_front)) ∙ get_or-append-add s.front s.back 0 d

  pub inserted : (x : ℤ) → now ≡ pos 0 → x ≢ pos 0 → insert net at (record { label = l; number = x }) ≡ nonzero (set ns l (now +ℤ x))
  inserted x none some =
      let net_of : net ≡ s.front ++ s.back = net_is ∙ ap (λ es. s.front ++ (es ++ s.back)) (entry_none l now none) in
      let same : now +ℤ x ≡ x = omega (arith, ints, none) in
      ap (λ es. take at es ++ record { label = l; number = x } ∷ drop at es) net_of
      ∙ (λ j. take_at s.front s.back at at_front j ++ record { label = l; number = x } ∷ drop_at s.front s.back at at_front j)
      ∙ ap (λ es. s.front ++ (es ++ s.back)) (sym (entry_some l x some)) ∙ sym (s.joined x) ∙ ap (λ v. nonzero (set ns l v)) (sym same)

  pub written : (x : ℤ) → now ≢ pos 0 →
      cond (int_eq (now +ℤ x) (pos 0)) (remove net at) (set net at (record { label = l; number = now +ℤ x })) ≡ nonzero (set ns l (now +ℤ x))
  written x some =
      let net_of : net ≡ s.front ++ record { label = l; number = now } ∷ s.back = net_is ∙ ap (λ es. s.front ++ (es ++ s.back)) (entry_some l now some) in
      ap (λ es. cond (int_eq (now +ℤ x) (pos 0)) (remove es at) (set es at (record { label = l; number = now +ℤ x }))) net_of
      ∙ by (int_eq (now +ℤ x) (pos 0)) ∙ sym (s.joined (now +ℤ x)) where
        before : List LabelNumber
        before = s.front ++ record { label = l; number = now } ∷ s.back

        gone : remove before at ≡ s.front ++ s.back
        gone =
            (λ j. take_at s.front (record { label = l; number = now } ∷ s.back) at at_front j
            ++ (ap (λ es. drop (suc at) es) (sym (append_assoc s.front (record { label = l; number = now } ∷ []) s.back))
            ∙ drop_at (s.front ++ record { label = l; number = now } ∷ []) s.back (suc at)
            (omega (arith, length-append s.front (record { label = l; number = now } ∷ []), at_front))) j)

        by : (b : Bool) → cond b (remove before at) (set before at (record { label = l; number = now +ℤ x }))
            ≡ s.front ++ (cond b [] (record { label = l; number = now +ℤ x } ∷ []) ++ s.back)
        by true = gone
        by false = set_at s.front (record { label = l; number = now }) s.back (record { label = l; number = now +ℤ x }) at at_front

-- a place is at most behind all
pub place_most : (p : LabelNumber → Bool) (es : List LabelNumber) → position_or_len p es ≤ length es
place_most p [] = omega arith
place_most p (e ∷ es) = by (cases_Bool (p e)) (place_most p es) where
  by : (p e ≡ true) ⊎ (p e ≡ false) → position_or_len p es ≤ length es → position_or_len p (e ∷ es) ≤ suc (length es)
  by (inl h) rest = omega (arith, place_here p e es h)
  by (inr h) rest = omega (arith, place_later p e es h, rest)

-- one number more is looked at
pub place_step : (p : LabelNumber → Bool) (net : List LabelNumber) (i : ℕ) (d : LabelNumber) → i < length net → p (get_or net i d) ≡ false →
    i + position_or_len p (drop i net) ≡ position_or_len p net → (i + 1) + position_or_len p (drop (i + 1) net) ≡ position_or_len p net
place_step p net i d low fails so_far =
    let more : position_or_len p (drop i net) ≡ 1 + position_or_len p (drop (i + 1) net) =
    ap (position_or_len p) (drop_more net i d low) ∙ place_later p (get_or net i d) (drop (i + 1) net) fails in
    omega (arith, more, so_far)

pub place_found : (p : LabelNumber → Bool) (net : List LabelNumber) (i : ℕ) (d : LabelNumber) → i < length net → p (get_or net i d) ≡ true →
    i + position_or_len p (drop i net) ≡ position_or_len p net → i ≡ position_or_len p net
place_found p net i d low passes so_far =
    let here : position_or_len p (drop i net) ≡ 0 = ap (position_or_len p) (drop_more net i d low) ∙ place_here p (get_or net i d) (drop (i + 1) net) passes in
    omega (arith, here, so_far)

pub place_none : (p : LabelNumber → Bool) (net : List LabelNumber) (i : ℕ) → length net ≤ i → i ≤ length net → i + position_or_len p (drop i net) ≡ position_or_len p net →
    length net ≡ position_or_len p net
place_none p net i all within so_far =
    let none : position_or_len p (drop i net) ≡ 0 = ap (position_or_len p) (drop_all i net all) in omega (arith, none, so_far, all, within)

-- sizes of numbers when one is put in, taken out or changed
pub inserted_small : (net : List LabelNumber) (at most size : ℕ) (e : LabelNumber) → All (λ (x : LabelNumber). unsigned_abs x.number ≤ most) net → unsigned_abs e.number ≤ most + size →
    All (λ (x : LabelNumber). unsigned_abs x.number ≤ most + size) (insert net at e)
inserted_small net at most size e all h =
    let more : All (λ (x : LabelNumber). unsigned_abs x.number ≤ most + size) net = λ k d low. omega (arith, all k d low) in
    All-append (λ (x : LabelNumber). unsigned_abs x.number ≤ most + size) (take at net) (e ∷ drop at net) (All-take (λ (x : LabelNumber). unsigned_abs x.number ≤ most + size) at net more)
    (All-cons (λ (x : LabelNumber). unsigned_abs x.number ≤ most + size) e (drop at net) h (All-drop (λ (x : LabelNumber). unsigned_abs x.number ≤ most + size) at net more))

pub put_small : (net : List LabelNumber) (at most size : ℕ) (e : LabelNumber) (b : Bool) → All (λ (x : LabelNumber). unsigned_abs x.number ≤ most) net → unsigned_abs e.number ≤ most + size →
    All (λ (x : LabelNumber). unsigned_abs x.number ≤ most + size) (cond b (remove net at) (set net at e))
put_small net at most size e true all h =
    let more : All (λ (x : LabelNumber). unsigned_abs x.number ≤ most + size) net = λ k d low. omega (arith, all k d low) in
    All-append (λ (x : LabelNumber). unsigned_abs x.number ≤ most + size) (take at net) (drop (suc at) net) (All-take (λ (x : LabelNumber). unsigned_abs x.number ≤ most + size) at net more)
    (All-drop (λ (x : LabelNumber). unsigned_abs x.number ≤ most + size) (suc at) net more)
put_small net at most size e false all h =
    All-set (λ (x : LabelNumber). unsigned_abs x.number ≤ most + size) net at e h (λ k d low. omega (arith, all k d low))

-- nothing is added
pub added_none : (net : List LabelNumber) (label : ℕ) (number : ℤ) → number ≡ pos 0 → IsAdded net net label number
added_none net label number none = record {
  sum = λ ns is low. is ∙ ap nonzero (sym (set-get_or ns label (pos 0)) ∙ ap (set ns label) (no_more (get_or ns label (pos 0))));
  small = λ most all. λ k d low. omega (arith, all k d low);
}
  where
    no_more : (z : ℤ) → z ≡ z +ℤ number
    no_more z = omega (arith, ints, none)

-- a number for a label that had none, where another stands at its place or nothing
pub added_new : (net new : List LabelNumber) (label at : ℕ) (number : ℤ) → at ≡ position_or_len (λ (e : LabelNumber). nat_le label e.label) net → number ≢ pos 0 →
    (at < length net → (get_or net at (record { label = 0; number = pos 0 })).label ≢ label) → new ≡ insert net at (record { label = label; number = number }) →
    IsAdded net new label number
added_new net new label at number place some other put = record {
  sum = λ ns is low. put ∙ inserted ns label net at is low place number (none ns is low) some;
  small = λ most all.
      subst (λ es. All (λ (e : LabelNumber). unsigned_abs e.number ≤ most + unsigned_abs number) es) (sym put)
      (inserted_small net at most (unsigned_abs number) (record { label = label; number = number }) all (omega arith));
}
  where
    none : (ns : List ℤ) → net ≡ nonzero ns → label < length ns → get_or ns label (pos 0) ≡ pos 0
    none ns is low = elim (cases_Bool (int_eq (get_or ns label (pos 0)) (pos 0))) as (λ _. get_or ns label (pos 0) ≡ pos 0) [
      | inl h ↦ (Decides-int_eq (get_or ns label (pos 0)) (pos 0)).0 h
      | inr h ↦
          let t = there ns label net at is low place (λ e. both_ways (int_eq (get_or ns label (pos 0)) (pos 0)) h ((Decides-int_eq (get_or ns label (pos 0)) (pos 0)).1 e)) in
          absurd (other t.inside (ap (λ (e : LabelNumber). e.label) (t.has (record { label = 0; number = pos 0 }))))
    ]

-- a number for a label that has one
pub added_there : (net new : List LabelNumber) (label at : ℕ) (number had sum : ℤ) → at ≡ position_or_len (λ (e : LabelNumber). nat_le label e.label) net → at < length net →
    (get_or net at (record { label = 0; number = pos 0 })).label ≡ label → had ≡ (get_or net at (record { label = 0; number = pos 0 })).number → sum ≡ had +ℤ number →
    new ≡ cond (int_eq sum (pos 0)) (remove net at) (set net at (record { label = label; number = sum })) → IsAdded net new label number
added_there net new label at number had sum place inside same was total put = record {
  sum = λ ns is low.
      let some : get_or ns label (pos 0) ≢ pos 0 = λ e. absent ns label net at is low place e (record { label = 0; number = pos 0 }) inside same in
      let value : sum ≡ get_or ns label (pos 0) +ℤ number =
      total ∙ ap (λ z. z +ℤ number) (was ∙ ap (λ (e : LabelNumber). e.number) ((there ns label net at is low place some).has (record { label = 0; number = pos 0 }))) in
      put ∙ ap (λ v. cond (int_eq v (pos 0)) (remove net at) (set net at (record { label = label; number = v }))) value ∙ written ns label net at is low place number some;
  small = λ most all.
      subst (λ es. All (λ (e : LabelNumber). unsigned_abs e.number ≤ most + unsigned_abs number) es) (sym put)
      (put_small net at most (unsigned_abs number) (record { label = label; number = sum }) (int_eq sum (pos 0)) all
      (omega (arith, ints, total, was, all at (record { label = 0; number = pos 0 }) inside)));
}
