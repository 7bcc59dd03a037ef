-- Brackets that have no partner yet, in a list that is read from the front: those that closed more than was open, and those that are open.
use Rattle.std.proofs.Common.{◌≡◌, ◌+◌, ℕ, Bool, true, false, List, [], ◌∷◌, ◌++◌, append_assoc, length, get_or, refl, sym, ◌∙◌, ap, subst, arith, length-append}
use Rattle.std.specs.Prelude.{not, count_by}
use Rattle.std.proofs.lemmas.List.{reverse-append, reverse-reverse}
use Rattle.std.specs.Prelude.{reverse}
use Rattle.chain_terms.specs.Chains.{one_if}
use Rattle.fan_laws.proofs.Level.{IsLevel, closes, count_more, level_append, level_none}

-- lists with one more member are the same where both parts are
pub same_before : (xs ys : List ℕ) (x y : ℕ) → xs ++ x ∷ [] ≡ ys ++ y ∷ [] → (xs ≡ ys) × (x ≡ y)
same_before xs ys x y same =
    let turned : x ∷ reverse xs ≡ y ∷ reverse ys = sym (reverse-append xs (x ∷ [])) ∙ ap reverse same ∙ reverse-append ys (y ∷ []) in
    (sym (reverse-reverse xs) ∙ ap (λ l. reverse (tail l)) turned ∙ reverse-reverse ys, ap (λ l. get_or l 0 0) turned)
  where
    tail : List ℕ → List ℕ
    tail [] = []
    tail (z ∷ zs) = zs

pub not_none : (xs : List ℕ) (x : ℕ) → [] ≡ xs ++ x ∷ [] → ⊥
not_none xs x same = omega (arith, ap length same, length-append xs (x ∷ []))

module _ (opens : ℕ → Bool) where
  -- level lists with closing brackets `left` and then opening ones `open` between them
  pub data Pending : List ℕ → List ℕ → List ℕ → Type 0 where
    Begun : {left held all : List ℕ} → left ≡ [] → held ≡ [] → IsLevel opens all → Pending left held all
    Closed : {left held all : List ℕ} → (left' : List ℕ) (c : ℕ) (before level : List ℕ) → Pending left' [] before → opens c ≡ false → IsLevel opens level →
        left ≡ left' ++ c ∷ [] →
        held ≡ [] → all ≡ before ++ c ∷ level → Pending left held all
    Opened : {left held all : List ℕ} → (held' : List ℕ) (s : ℕ) (before level : List ℕ) → Pending left held' before → opens s ≡ true → IsLevel opens level →
        held ≡ held' ++ s ∷ [] →
        all ≡ before ++ s ∷ level → Pending left held all

  pub pending_none : Pending [] [] []
  pending_none = Begun refl refl (level_none opens)

  -- a level list more
  pub pending_level : (left held all xs : List ℕ) → Pending left held all → IsLevel opens xs → Pending left held (all ++ xs)
  pending_level left held all xs (Begun no_left no_open level) more = Begun no_left no_open (level_append opens all xs level more)
  pending_level left held all xs (Closed left' c before level pending closed is l o a) more =
      Closed left' c before (level ++ xs) pending closed (level_append opens level xs is more) l o (ap (λ t. t ++ xs) a ∙ simp append_assoc)
  pending_level left held all xs (Opened held' s before level pending opened is o a) more =
      Opened held' s before (level ++ xs) pending opened (level_append opens level xs is more) o (ap (λ t. t ++ xs) a ∙ simp append_assoc)

  -- a bracket that opens
  pub pending_open : (left held all : List ℕ) (s : ℕ) → Pending left held all → opens s ≡ true → Pending left (held ++ s ∷ []) (all ++ s ∷ [])
  pending_open left held all s pending opened = Opened held s all [] pending opened (level_none opens) refl refl

  -- one that closes where none is open
  pub pending_close : (left all : List ℕ) (c : ℕ) → Pending left [] all → opens c ≡ false → Pending (left ++ c ∷ []) [] (all ++ c ∷ [])
  pending_close left all c pending closed = Closed left c all [] pending closed (level_none opens) refl refl refl

  -- what stands behind the last that is open
  pub record IsLast (left held : List ℕ) (s : ℕ) (all before level : List ℕ) : Type 0 where
    pub parts : all ≡ before ++ s ∷ level
    pub pending : Pending left held before
    pub is_level : IsLevel opens level
    pub opened : opens s ≡ true

  pub last_open : (left held all : List ℕ) (s : ℕ) → Pending left (held ++ s ∷ []) all → (before : List ℕ) × (level : List ℕ) × IsLast left held s all before level
  last_open left held all s pending = by (held ++ s ∷ []) refl pending
    where
      by : (os : List ℕ) → held ++ s ∷ [] ≡ os → Pending left os all → (before : List ℕ) × (level : List ℕ) × IsLast left held s all before level
      by os e (Begun no_left no_open level) = absurd (not_none held s (sym (e ∙ no_open)))
      by os e (Closed left' c before level pending closed is l o a) = absurd (not_none held s (sym (e ∙ o)))
      by os e (Opened held' s' before level pending opened is o a) =
          let p = same_before held held' s s' (e ∙ o) in (
            before,
            level,
            record {
              parts = a ∙ ap (λ x. before ++ x ∷ level) (sym p.1);
              pending = subst (λ os. Pending left os before) (sym p.0) pending;
              is_level = is;
              opened = ap opens p.1 ∙ opened;
            },
          )

  -- a list with none of either is level
  pub nothing_pending : (all : List ℕ) → Pending [] [] all → IsLevel opens all
  nothing_pending all (Begun l o level) = level
  nothing_pending all (Closed left' c before level pending closed is l o a) = absurd (not_none left' c l)
  nothing_pending all (Opened held' s before level pending opened is o a) = absurd (not_none held' s o)

  -- what stands before the first that closed too much
  pub record IsFront (c : ℕ) (left held all level after : List ℕ) : Type 0 where
    pub parts : all ≡ level ++ c ∷ after
    pub pending : Pending left held after
    pub is_level : IsLevel opens level
    pub closed : opens c ≡ false

  pub first_left : (c : ℕ) (left held all : List ℕ) → Pending (c ∷ left) held all → (level : List ℕ) × (after : List ℕ) × IsFront c left held all level after
  first_left c left held all pending = by (c ∷ left) held all pending c left refl
    where
      by : (ls held all : List ℕ) → Pending ls held all → (c : ℕ) (left : List ℕ) → ls ≡ c ∷ left → (level : List ℕ) × (after : List ℕ) × IsFront c left held all level after
      by ls held all (Begun no_left no_open level) c left e = absurd (omega (arith, ap length (sym no_left ∙ e)))
      by ls held all (Closed [] d before level pending closed is l o a) c left e =
          let same : d ∷ [] ≡ c ∷ left = sym l ∙ e in
          let head : d ≡ c = ap (λ t. get_or t 0 0) same in
          let none : [] ≡ left = ap tail same in (
            before,
            level,
            record {
              parts = a ∙ ap (λ x. before ++ x ∷ level) head;
              pending = subst (λ t. Pending t held level) none (Begun refl o is);
              is_level = nothing_pending before pending;
              closed = ap opens (sym head) ∙ closed;
            },
          )
        where
          tail : List ℕ → List ℕ
          tail [] = []
          tail (z ∷ zs) = zs
      by ls held all (Closed (x ∷ left') d before level pending closed is l o a) c left e =
          let same : x ∷ left' ++ d ∷ [] ≡ c ∷ left = sym l ∙ e in
          let head : x ≡ c = ap (λ t. get_or t 0 0) same in
          let rest : left' ++ d ∷ [] ≡ left = ap tail same in
          let found = by (x ∷ left') [] before pending c left' (ap (λ y. y ∷ left') head) in (
            found.0,
            found.1 ++ d ∷ level,
            record {
              parts = a ∙ ap (λ t. t ++ d ∷ level) found.2.parts ∙ simp append_assoc;
              pending = Closed left' d found.1 level found.2.pending closed is (sym rest) o refl;
              is_level = found.2.is_level;
              closed = found.2.closed;
            },
          )
        where
          tail : List ℕ → List ℕ
          tail [] = []
          tail (z ∷ zs) = zs
      by ls held all (Opened held' s before level pending opened is o a) c left e =
          let found = by ls held' before pending c left e in (
            found.0,
            found.1 ++ s ∷ level,
            record {
              parts = a ∙ ap (λ t. t ++ s ∷ level) found.2.parts ∙ simp append_assoc;
              pending = Opened held' s found.1 level found.2.pending opened is o refl;
              is_level = found.2.is_level;
              closed = found.2.closed;
            },
          )

  -- as many more are open as opened more
  pub pending_counts : (left held all : List ℕ) → Pending left held all → count_by opens all + length left ≡ count_by (closes opens) all + length held
  pending_counts left held all (Begun no_left no_open level) = omega (arith, ap length no_left, ap length no_open, level.even)
  pending_counts left held all (Closed left' c before level pending closed is l o a) =
      omega (
        arith,
        pending_counts left' [] before pending,
        ap length l,
        length-append left' (c ∷ []),
        ap length o,
        ap (count_by opens) a,
        ap (count_by (closes opens)) a,
        count_more opens before c level,
        count_more (closes opens) before c level,
        ap one_if closed,
        ap (λ b. one_if (not b)) closed,
        is.even,
      )
  pending_counts left held all (Opened held' s before level pending opened is o a) =
      omega (
        arith,
        pending_counts left held' before pending,
        ap length o,
        length-append held' (s ∷ []),
        ap (count_by opens) a,
        ap (count_by (closes opens)) a,
        count_more opens before s level,
        count_more (closes opens) before s level,
        ap one_if opened,
        ap (λ b. one_if (not b)) opened,
        is.even,
      )
