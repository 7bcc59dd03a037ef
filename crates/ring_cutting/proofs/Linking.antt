-- The links of what is left of a ring, and those once a place is taken out.
use Rattle.std.specs.Prelude.{◌≡◌, ◌≢◌, ℕ, ◌+◌, ◌-◌, ◌<◌, ◌≤◌, List, Bool, true, false, cond, ◌==◌, length, get_or, set}
use Rattle.std.proofs.Common.{arith, refl, sym, subst, ap, ◌∙◌, inl, inr}
use Rattle.std.proofs.lemmas.Bool.{cases_lt, cases_eq, eq-eqb, ne_eqb}
use Rattle.std.proofs.lemmas.List.{get_or-set_same, get_or-set_other, length-set}
use Rattle.ring_cutting.specs.Left.{lives, after_of, before_of, IsNext, IsLinked, IsBegun}
use Rattle.ring_cutting.proofs.Lefts.{lives_within, lives_less, lives_other, lives_kept}

-- what follows another place than the one before it follows still
next_kept : (bs : List Bool) (c i j : ℕ) → j ≢ c → IsNext bs i j → IsNext (set bs c false) i j
next_kept bs c i j apart h = record {
  stays = lives_kept bs c j apart h.stays;
  between = λ l m k. h.between l m (lives_less bs c m k);
  last = λ l m k. h.last l m (lives_less bs c m k);
  first = λ l m k. h.first l m (lives_less bs c m k);
}

-- the place behind the one that goes follows the one before it
next_joined : (bs : List Bool) (p c n : ℕ) → lives bs c ≡ true → p ≢ c → n ≢ c → IsNext bs p c → IsNext bs c n → IsNext (set bs c false) p n
next_joined bs p c n here before after to from = record {
  stays = lives_kept bs c n after from.stays;
  between = λ l m k. middle l m (lives_less bs c m k) (lives_other bs c m k);
  last = λ l m k. end l m (lives_less bs c m k) (lives_other bs c m k);
  first = λ l m k. start l m (lives_less bs c m k) (lives_other bs c m k);
}
  where
    middle : p < n → (m : ℕ) → lives bs m ≡ true → m ≢ c → p < m → n ≤ m
    middle l m k other h = elim (cases_lt p c) as (λ _. n ≤ m) [
      | inl pc ↦ elim (cases_lt c n) as (λ _. n ≤ m) [
        | inl cn ↦ from.between cn m k (omega (arith, to.between pc m k h, other))
        | inr nc ↦ absurd (omega (arith, to.between pc m k h, from.last nc m k, other))
      ]
      | inr cp ↦ absurd (omega (arith, to.last cp m k, h))
    ]

    end : n ≤ p → (m : ℕ) → lives bs m ≡ true → m ≢ c → m ≤ p
    end l m k other = elim (cases_lt p c) as (λ _. m ≤ p) [
      | inl pc ↦ elim (cases_lt p m) as (λ _. m ≤ p) [
        | inl pm ↦ absurd (omega (arith, to.between pc m k pm, from.last (omega (arith, l, pc)) m k, other))
        | inr mp ↦ mp
      ]
      | inr cp ↦ to.last cp m k
    ]

    start : n ≤ p → (m : ℕ) → lives bs m ≡ true → m ≢ c → n ≤ m
    start l m k other = elim (cases_lt c n) as (λ _. n ≤ m) [
      | inl cn ↦ elim (cases_lt p c) as (λ _. n ≤ m) [
        | inl pc ↦ absurd (omega (arith, pc, cn, l))
        | inr cp ↦ from.between cn m k (omega (arith, to.first cp m k, other))
      ]
      | inr nc ↦ from.first nc m k
    ]

-- a read of what was written, or of another number
read_set : (xs : List ℕ) (i j v : ℕ) → j ≡ i → i < length xs → get_or (set xs i v) j 0 ≡ v
read_set xs i j v e h = ap (λ (k : ℕ). get_or (set xs i v) k 0) e ∙ get_or-set_same xs i v 0 h

-- the links without a place
pub links_without : (len : ℕ) (nx bf : List ℕ) (bs : List Bool) (c p n : ℕ) → IsLinked len nx bf bs → lives bs c ≡ true →
    p ≡ before_of bf c → n ≡ after_of nx c → n ≢ c → IsLinked len (set nx p n) (set bf n p) (set bs c false)
links_without len nx bf bs c p n h here pe ne apart = record {
  after_long = length-set nx p n ∙ h.after_long;
  before_long = length-set bf n p ∙ h.before_long;
  living_long = length-set bs c false ∙ h.living_long;
  goes = λ i k. goes i (lives_less bs c i k) (lives_other bs c i k);
  stays = λ i k. stays i (lives_less bs c i k) (lives_other bs c i k);
  back = λ i k. back i (lives_less bs c i k) (lives_other bs c i k);
  forth = λ i k. forth i (lives_less bs c i k) (lives_other bs c i k);
}
  where
    to_c : after_of nx p ≡ c
    to_c = ap (after_of nx) pe ∙ h.forth c here

    p_lives : lives bs p ≡ true
    p_lives = ap (lives bs) pe ∙ h.stays c here

    n_lives : lives bs n ≡ true
    n_lives = ap (lives bs) ne ∙ (h.goes c here).stays

    from_c : before_of bf n ≡ c
    from_c = ap (before_of bf) ne ∙ h.back c here

    p_apart : p ≢ c
    p_apart e = apart (ne ∙ ap (after_of nx) (sym e) ∙ to_c)

    p_within : p < length nx
    p_within = omega (arith, lives_within bs p p_lives, h.living_long, h.after_long)

    n_within : n < length bf
    n_within = omega (arith, lives_within bs n n_lives, h.living_long, h.before_long)

    joined : IsNext (set bs c false) p n
    joined = next_joined bs p c n here p_apart apart (subst (IsNext bs p) to_c (h.goes p p_lives)) (subst (IsNext bs c) (sym ne) (h.goes c here))

    goes : (i : ℕ) → lives bs i ≡ true → i ≢ c → IsNext (set bs c false) i (after_of (set nx p n) i)
    goes i k other = elim (cases_eq i p) as (λ _. IsNext (set bs c false) i (after_of (set nx p n) i)) [
      | inl e ↦
          subst (λ (j : ℕ). IsNext (set bs c false) i j) (sym (read_set nx p i n e p_within))
          (subst (λ (j : ℕ). IsNext (set bs c false) j n) (sym e) joined)
      | inr d ↦
          subst (λ (j : ℕ). IsNext (set bs c false) i j) (sym (get_or-set_other nx p i n 0 d))
          (next_kept bs c i (after_of nx i) (λ e. d (sym (h.back i k) ∙ ap (before_of bf) e ∙ sym pe)) (h.goes i k))
    ]

    stays : (i : ℕ) → lives bs i ≡ true → i ≢ c → lives (set bs c false) (before_of (set bf n p) i) ≡ true
    stays i k other = elim (cases_eq i n) as (λ _. lives (set bs c false) (before_of (set bf n p) i) ≡ true) [
      | inl e ↦ ap (lives (set bs c false)) (read_set bf n i p e n_within) ∙ lives_kept bs c p p_apart p_lives
      | inr d ↦
          ap (lives (set bs c false)) (get_or-set_other bf n i p 0 d)
          ∙ lives_kept bs c (before_of bf i) (λ e. d (sym (h.forth i k) ∙ ap (after_of nx) e ∙ sym ne)) (h.stays i k)
    ]

    back : (i : ℕ) → lives bs i ≡ true → i ≢ c → before_of (set bf n p) (after_of (set nx p n) i) ≡ i
    back i k other = elim (cases_eq i p) as (λ _. before_of (set bf n p) (after_of (set nx p n) i) ≡ i) [
      | inl e ↦ ap (before_of (set bf n p)) (read_set nx p i n e p_within) ∙ get_or-set_same bf n p 0 n_within ∙ sym e
      | inr d ↦
          ap (before_of (set bf n p)) (get_or-set_other nx p i n 0 d)
          ∙ get_or-set_other bf n (after_of nx i) p 0 (λ e. other (sym (h.back i k) ∙ ap (before_of bf) e ∙ from_c)) ∙ h.back i k
    ]

    forth : (i : ℕ) → lives bs i ≡ true → i ≢ c → after_of (set nx p n) (before_of (set bf n p) i) ≡ i
    forth i k other = elim (cases_eq i n) as (λ _. after_of (set nx p n) (before_of (set bf n p) i) ≡ i) [
      | inl e ↦ ap (after_of (set nx p n)) (read_set bf n i p e n_within) ∙ get_or-set_same nx p n 0 p_within ∙ sym e
      | inr d ↦
          ap (after_of (set nx p n)) (get_or-set_other bf n i p 0 d)
          ∙ get_or-set_other nx p (before_of bf i) n 0 (λ e. other (sym (h.forth i k) ∙ ap (after_of nx) e ∙ to_c)) ∙ h.forth i k
    ]

-- the links at the start are those of the whole ring
pub begun_linked : (len : ℕ) (nx bf : List ℕ) (bs : List Bool) → 0 < len → IsBegun len nx bf bs → IsLinked len nx bf bs
begun_linked len nx bf bs some h = record {
  after_long = h.after_long;
  before_long = h.before_long;
  living_long = h.living_long;
  goes = λ i l. goes i (within i l);
  stays = λ i l. stays i (within i l);
  back = λ i l. back i (within i l);
  forth = λ i l. forth i (within i l);
}
  where
    within : (i : ℕ) → lives bs i ≡ true → i < len
    within i l = omega (arith, lives_within bs i l, h.living_long)

    choose_true : (a b x y : ℕ) → a ≡ b → cond (a == b) x y ≡ x
    choose_true a b x y e = rw (eq-eqb a b e) refl

    choose_false : (a b x y : ℕ) → a ≢ b → cond (a == b) x y ≡ y
    choose_false a b x y n = rw (ne_eqb a b n) refl

    after_last : (i : ℕ) → i < len → i + 1 ≡ len → after_of nx i ≡ 0
    after_last i l e = h.after i l ∙ choose_true (i + 1) len 0 (i + 1) e

    after_other : (i : ℕ) → i < len → i + 1 ≢ len → after_of nx i ≡ i + 1
    after_other i l n = h.after i l ∙ choose_false (i + 1) len 0 (i + 1) n

    before_first : (i : ℕ) → i < len → i ≡ 0 → before_of bf i ≡ len - 1
    before_first i l e = h.before i l ∙ choose_true i 0 (len - 1) (i - 1) e

    before_other : (i : ℕ) → i < len → i ≢ 0 → before_of bf i ≡ i - 1
    before_other i l n = h.before i l ∙ choose_false i 0 (len - 1) (i - 1) n

    goes : (i : ℕ) → i < len → IsNext bs i (after_of nx i)
    goes i l = elim (cases_eq (i + 1) len) as (λ _. IsNext bs i (after_of nx i)) [
      | inl e ↦ subst (IsNext bs i) (sym (after_last i l e)) (record {
        stays = h.living 0 some;
        between = λ less m k above. absurd (omega (arith, less));
        last = λ less m k. omega (arith, within m k, e);
        first = λ less m k. omega arith;
      })
      | inr n ↦ subst (IsNext bs i) (sym (after_other i l n)) (record {
        stays = h.living (i + 1) (omega (arith, l, n));
        between = λ less m k above. omega (arith, above);
        last = λ less m k. absurd (omega (arith, less));
        first = λ less m k. absurd (omega (arith, less));
      })
    ]

    stays : (i : ℕ) → i < len → lives bs (before_of bf i) ≡ true
    stays i l = elim (cases_eq i 0) as (λ _. lives bs (before_of bf i) ≡ true) [
      | inl e ↦ h.living (before_of bf i) (omega (arith, before_first i l e, some))
      | inr n ↦ h.living (before_of bf i) (omega (arith, before_other i l n, l))
    ]

    back : (i : ℕ) → i < len → before_of bf (after_of nx i) ≡ i
    back i l = elim (cases_eq (i + 1) len) as (λ _. before_of bf (after_of nx i) ≡ i) [
      | inl e ↦ ap (before_of bf) (after_last i l e) ∙ before_first 0 some refl ∙ omega (arith, e)
      | inr n ↦ ap (before_of bf) (after_other i l n) ∙ before_other (i + 1) (omega (arith, l, n)) (λ z. omega (arith, z)) ∙ omega arith
    ]

    forth : (i : ℕ) → i < len → after_of nx (before_of bf i) ≡ i
    forth i l = elim (cases_eq i 0) as (λ _. after_of nx (before_of bf i) ≡ i) [
      | inl e ↦ ap (after_of nx) (before_first i l e) ∙ after_last (len - 1) (omega (arith, some)) (omega (arith, some)) ∙ sym e
      | inr n ↦ ap (after_of nx) (before_other i l n) ∙ after_other (i - 1) (omega (arith, l, n)) (λ z. omega (arith, z, l, n)) ∙ omega (arith, n)
    ]

-- a place that does not follow itself does not stand before itself
pub before_apart : (len : ℕ) (nx bf : List ℕ) (bs : List Bool) (c : ℕ) → IsLinked len nx bf bs → lives bs c ≡ true → after_of nx c ≢ c →
    before_of bf c ≢ c
before_apart len nx bf bs c h here apart e = apart (ap (after_of nx) (sym e) ∙ h.forth c here)

-- a place that is left has links
pub after_within : (len : ℕ) (nx bf : List ℕ) (bs : List Bool) (i : ℕ) → IsLinked len nx bf bs → lives bs i ≡ true → i < length nx
after_within len nx bf bs i h here = omega (arith, lives_within bs i here, h.living_long, h.after_long)

pub before_within : (len : ℕ) (nx bf : List ℕ) (bs : List Bool) (i : ℕ) → IsLinked len nx bf bs → lives bs i ≡ true → i < length bf
before_within len nx bf bs i h here = omega (arith, lives_within bs i here, h.living_long, h.before_long)

-- it is a place of the ring, and so are its neighbours
pub low : (len : ℕ) (nx bf : List ℕ) (bs : List Bool) (i : ℕ) → IsLinked len nx bf bs → lives bs i ≡ true → i < len
low len nx bf bs i h here = omega (arith, lives_within bs i here, h.living_long)

pub low_after : (len : ℕ) (nx bf : List ℕ) (bs : List Bool) (i : ℕ) → IsLinked len nx bf bs → lives bs i ≡ true → after_of nx i < len
low_after len nx bf bs i h here = low len nx bf bs (after_of nx i) h (h.goes i here).stays

pub low_before : (len : ℕ) (nx bf : List ℕ) (bs : List Bool) (i : ℕ) → IsLinked len nx bf bs → lives bs i ≡ true → before_of bf i < len
low_before len nx bf bs i h here = low len nx bf bs (before_of bf i) h (h.stays i here)
