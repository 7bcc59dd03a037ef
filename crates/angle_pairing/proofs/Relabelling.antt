-- Labels once two half-edges have changed twins and the fans at their ends were labelled again.
use Rattle.std.proofs.Common.{◌≡◌, ◌≢◌, ◌<◌, ◌⊎◌, inl, inr, ℕ, zero, suc, List, length, get_or, slice_set, refl, sym, ◌∙◌, ap, subst, arith}
use Rattle.std.proofs.lemmas.List.{get_or-set_same, get_or-set_other, get_or_default, length-set, same_lists}
use Rattle.chain_terms.specs.Permutations.{times}
use Rattle.mesh_terms.specs.Halves.{next_half}
use Rattle.sheet_terms.specs.Vertices.{around_by, changed}
use Rattle.fan_laws.specs.Pairs.{AreTwins, IsChange, Reaches}
use Rattle.fan_laws.proofs.Changes.{a_below, a_not_b, around_other, b_below, b_not_g, cases, changed_are, many, new_a, new_b, new_g, new_h, new_other}
use Rattle.fan_laws.proofs.Cycles.{around_low, next_among, reaches_back, reaches_next, reaches_on, times_low}
use Rattle.angle_pairing.specs.Labels.{AreLabels, IsLabelled}

-- four writes change the twins of two half-edges
pub exchanged : (twins : List ℕ) (g h : ℕ) → IsChange twins g h →
    slice_set (slice_set (slice_set (slice_set twins g (get_or twins h 0)) h (get_or twins g 0)) (get_or twins g 0) h) (get_or twins h 0) g ≡ changed twins (g, h)
exchanged twins g h is =
    same_lists fourth (changed twins (g, h)) (long ∙ sym (many twins g h is))
    (λ k d low.
    let k_low : k < length twins = omega (arith, low, long) in
    get_or_default fourth k d 0 low ∙ at k k_low ∙ get_or_default (changed twins (g, h)) k 0 d (omega (arith, k_low, many twins g h is)))
  where
    fourth : List ℕ
    fourth = slice_set (slice_set (slice_set (slice_set twins g (get_or twins h 0)) h (get_or twins g 0)) (get_or twins g 0) h) (get_or twins h 0) g

    one : length (slice_set twins g (get_or twins h 0)) ≡ length twins
    one = length-set twins g (get_or twins h 0)

    two : length (slice_set (slice_set twins g (get_or twins h 0)) h (get_or twins g 0)) ≡ length twins
    two = length-set (slice_set twins g (get_or twins h 0)) h (get_or twins g 0) ∙ one

    three : length (slice_set (slice_set (slice_set twins g (get_or twins h 0)) h (get_or twins g 0)) (get_or twins g 0) h) ≡ length twins
    three = length-set (slice_set (slice_set twins g (get_or twins h 0)) h (get_or twins g 0)) (get_or twins g 0) h ∙ two

    long : length (slice_set (slice_set (slice_set (slice_set twins g (get_or twins h 0)) h (get_or twins g 0)) (get_or twins g 0) h) (get_or twins h 0) g) ≡ length twins
    long = length-set (slice_set (slice_set (slice_set twins g (get_or twins h 0)) h (get_or twins g 0)) (get_or twins g 0) h) (get_or twins h 0) g ∙ three

    after_fourth : (k : ℕ) → k ≢ get_or twins h 0 →
        get_or (slice_set (slice_set (slice_set (slice_set twins g (get_or twins h 0)) h (get_or twins g 0)) (get_or twins g 0) h) (get_or twins h 0) g) k 0
        ≡ get_or (slice_set (slice_set (slice_set twins g (get_or twins h 0)) h (get_or twins g 0)) (get_or twins g 0) h) k 0
    after_fourth k apart = get_or-set_other (slice_set (slice_set (slice_set twins g (get_or twins h 0)) h (get_or twins g 0)) (get_or twins g 0) h) (get_or twins h 0) k g 0 apart

    after_third : (k : ℕ) → k ≢ get_or twins g 0 →
        get_or (slice_set (slice_set (slice_set twins g (get_or twins h 0)) h (get_or twins g 0)) (get_or twins g 0) h) k 0
        ≡ get_or (slice_set (slice_set twins g (get_or twins h 0)) h (get_or twins g 0)) k 0
    after_third k apart = get_or-set_other (slice_set (slice_set twins g (get_or twins h 0)) h (get_or twins g 0)) (get_or twins g 0) k h 0 apart

    after_second : (k : ℕ) → k ≢ h →
        get_or (slice_set (slice_set twins g (get_or twins h 0)) h (get_or twins g 0)) k 0 ≡ get_or (slice_set twins g (get_or twins h 0)) k 0
    after_second k apart = get_or-set_other (slice_set twins g (get_or twins h 0)) h k (get_or twins g 0) 0 apart

    at : (k : ℕ) → k < length twins →
        get_or (slice_set (slice_set (slice_set (slice_set twins g (get_or twins h 0)) h (get_or twins g 0)) (get_or twins g 0) h) (get_or twins h 0) g) k 0
        ≡ get_or (changed twins (g, h)) k 0
    at k low =
        cases twins g h is k
        (λ e. ap (λ x. get_or (slice_set (slice_set (slice_set (slice_set twins g (get_or twins h 0)) h (get_or twins g 0)) (get_or twins g 0) h) (get_or twins h 0) g) x 0) e
        ∙ after_fourth g (λ s. b_not_g twins g h is (sym s)) ∙ after_third g (λ s. is.g_apart (sym s)) ∙ after_second g is.apart
        ∙ get_or-set_same twins g (get_or twins h 0) 0 is.g_below ∙ sym (ap (λ x. get_or (changed twins (g, h)) x 0) e ∙ new_g twins g h is))
        (λ e. ap (λ x. get_or (slice_set (slice_set (slice_set (slice_set twins g (get_or twins h 0)) h (get_or twins g 0)) (get_or twins g 0) h) (get_or twins h 0) g) x 0) e
        ∙ after_fourth h (λ s. is.h_apart (sym s)) ∙ after_third h (λ s. is.across (sym s))
        ∙ get_or-set_same (slice_set twins g (get_or twins h 0)) h (get_or twins g 0) 0 (omega (arith, one, is.h_below))
        ∙ sym (ap (λ x. get_or (changed twins (g, h)) x 0) e ∙ new_h twins g h is))
        (λ e. ap (λ x. get_or (slice_set (slice_set (slice_set (slice_set twins g (get_or twins h 0)) h (get_or twins g 0)) (get_or twins g 0) h) (get_or twins h 0) g) x 0) e
        ∙ after_fourth (get_or twins g 0) (a_not_b twins g h is)
        ∙ get_or-set_same (slice_set (slice_set twins g (get_or twins h 0)) h (get_or twins g 0)) (get_or twins g 0) h 0 (omega (arith, two, a_below twins g h is))
        ∙ sym (ap (λ x. get_or (changed twins (g, h)) x 0) e ∙ new_a twins g h is))
        (λ e. ap (λ x. get_or (slice_set (slice_set (slice_set (slice_set twins g (get_or twins h 0)) h (get_or twins g 0)) (get_or twins g 0) h) (get_or twins h 0) g) x 0) e
        ∙ get_or-set_same (slice_set (slice_set (slice_set twins g (get_or twins h 0)) h (get_or twins g 0)) (get_or twins g 0) h) (get_or twins h 0) g 0
        (omega (arith, three, b_below twins g h is))
        ∙ sym (ap (λ x. get_or (changed twins (g, h)) x 0) e ∙ new_b twins g h is))
        (λ none. after_fourth k none.not_b ∙ after_third k none.not_a ∙ after_second k none.not_h
        ∙ get_or-set_other twins g k (get_or twins h 0) 0 none.not_g ∙ sym (new_other twins g h is k low none))

-- a half-edge whose label is right
pub record IsRight (twins labels : List ℕ) (x : ℕ) : Type 0 where
  pub kept : get_or labels (around_by twins x) 0 ≡ get_or labels x 0
  pub one : Reaches twins x (get_or labels x 0)

module _ (twins : List ℕ) (are : AreTwins twins) (p : ℕ) (p_low : p < length twins) (old new : List ℕ) (is : IsLabelled twins p old new) where
  -- what is reached from where a fan is labelled is right
  pub right_there : (x : ℕ) → x < length twins → Reaches twins p x → IsRight twins new x
  right_there x low to = record {
    kept = label (around_by twins x) (around_low twins are x low) (reaches_next twins p x to) ∙ sym (label x low to);
    one = subst (Reaches twins x) (sym (label x low to)) (reaches_back twins are p x p_low to);
  }
    where
      label : (y : ℕ) → y < length twins → Reaches twins p y → get_or new y 0 ≡ p
      label y y_low reached = elim (is.each y y_low) as (λ _. get_or new y 0 ≡ p) [
        | inl r ↦ r.0
        | inr r ↦ absurd (r.1 reached)
      ]

  -- and what was right stays so
  pub right_stays : (x : ℕ) → x < length twins → IsRight twins old x → IsRight twins new x
  right_stays x low right = elim (is.each x low) as (λ _. IsRight twins new x) [
    | inl r ↦ right_there x low r.1
    | inr r ↦ elim (is.each (around_by twins x) (around_low twins are x low)) as (λ _. IsRight twins new x) [
      | inl next ↦ absurd (r.1 (reaches_on twins p (around_by twins x) x next.1 (reaches_back twins are x (around_by twins x) low (1, refl))))
      | inr next ↦ record { kept = next.0 ∙ right.kept ∙ sym r.0; one = subst (Reaches twins x) (sym r.0) right.one }
    ]
  ]

module _ (twins : List ℕ) (g h : ℕ) (is : IsChange twins g h) (labels : List ℕ) (are : AreLabels twins labels) where
  abbrev now : List ℕ
  now = changed twins (g, h)

  abbrev a : ℕ
  a = get_or twins g 0

  abbrev b : ℕ
  b = get_or twins h 0

  -- going around comes to one of the four
  abbrev pub Meets : ℕ → Type 0
  Meets x = (Reaches now x g ⊎ Reaches now x h) ⊎ (Reaches now x (next_half g) ⊎ Reaches now x (next_half h))

  -- or it goes as before
  walk : (x : ℕ) → x < length twins → (k : ℕ) → Meets x ⊎ (times (around_by now) k x ≡ times (around_by twins) k x)
  walk x low zero = inr refl
  walk x low (suc k) = elim (walk x low k) as (λ _. Meets x ⊎ (times (around_by now) (suc k) x ≡ times (around_by twins) (suc k) x)) [
    | inl met ↦ inl met
    | inr same ↦
        let y = times (around_by twins) k x in
        cases twins g h is y (λ e. inl (inl (inl (k, same ∙ e)))) (λ e. inl (inl (inr (k, same ∙ e))))
        (λ e. inl (inr (inr (suc k, ap (around_by now) (same ∙ e) ∙ ap next_half (new_a twins g h is)))))
        (λ e. inl (inr (inl (suc k, ap (around_by now) (same ∙ e) ∙ ap next_half (new_b twins g h is)))))
        (λ none. inr (ap (around_by now) same ∙ around_other twins g h is y (times_low twins is.are k x low) none))
  ]

  -- a half-edge that meets none of the four has the right label
  right_or_met : (x : ℕ) → x < length twins → Meets x ⊎ IsRight now labels x
  right_or_met x low = elim (walk x low 1) as (λ _. Meets x ⊎ IsRight now labels x) [
    | inl met ↦ inl met
    | inr step ↦ by (are.one x low) step
  ]
    where
      by : Reaches twins x (get_or labels x 0) → around_by now x ≡ around_by twins x → Meets x ⊎ IsRight now labels x
      by (k, to) step = elim (walk x low k) as (λ _. Meets x ⊎ IsRight now labels x) [
        | inl met ↦ inl met
        | inr same ↦ inr (record { kept = ap (λ y. get_or labels y 0) step ∙ are.kept x low; one = (k, same ∙ to) })
      ]

  -- so once the four are labelled, all labels are right
  pub relabelled : (one two three four : List ℕ) → IsLabelled now g labels one → IsLabelled now h one two → IsLabelled now (next_half g) two three →
      IsLabelled now (next_half h) three four → AreLabels now four
  relabelled one two three four first second third fourth = record {
    full = fourth.full;
    kept = λ x low. (right x (omega (arith, low, long))).kept;
    one = λ x low. (right x (omega (arith, low, long))).one;
  }
    where
      long : length (changed twins (g, h)) ≡ length twins
      long = many twins g h is

      now_are : AreTwins (changed twins (g, h))
      now_are = changed_are twins g h is

      g_low : g < length (changed twins (g, h))
      g_low = omega (arith, long, is.g_below)

      h_low : h < length (changed twins (g, h))
      h_low = omega (arith, long, is.h_below)

      p_low : next_half g < length (changed twins (g, h))
      p_low = next_among (length (changed twins (g, h))) g now_are.whole g_low

      q_low : next_half h < length (changed twins (g, h))
      q_low = next_among (length (changed twins (g, h))) h now_are.whole h_low

      right : (x : ℕ) → x < length twins → IsRight (changed twins (g, h)) four x
      right x low = elim (right_or_met x low) as (λ _. IsRight (changed twins (g, h)) four x) [
        | inr fine ↦
            right_stays now now_are (next_half h) q_low three four fourth x x_low
            (right_stays now now_are (next_half g) p_low two three third x x_low
            (right_stays now now_are h h_low one two second x x_low (right_stays now now_are g g_low labels one first x x_low fine)))
        | inl met ↦ elim met as (λ _. IsRight (changed twins (g, h)) four x) [
          | inl starts ↦ elim starts as (λ _. IsRight (changed twins (g, h)) four x) [
            | inl to ↦
                right_stays now now_are (next_half h) q_low three four fourth x x_low
                (right_stays now now_are (next_half g) p_low two three third x x_low
                (right_stays now now_are h h_low one two second x x_low (right_there now now_are g g_low labels one first x x_low (reaches_back now now_are x g x_low to))))
            | inr to ↦
                right_stays now now_are (next_half h) q_low three four fourth x x_low
                (right_stays now now_are (next_half g) p_low two three third x x_low
                (right_there now now_are h h_low one two second x x_low (reaches_back now now_are x h x_low to)))
          ]
          | inr ends ↦ elim ends as (λ _. IsRight (changed twins (g, h)) four x) [
            | inl to ↦
                right_stays now now_are (next_half h) q_low three four fourth x x_low
                (right_there now now_are (next_half g) p_low two three third x x_low (reaches_back now now_are x (next_half g) x_low to))
            | inr to ↦ right_there now now_are (next_half h) q_low three four fourth x x_low (reaches_back now now_are x (next_half h) x_low to)
          ]
        ]
      ]
        where
          x_low : x < length (changed twins (g, h))
          x_low = omega (arith, low, long)

-- the same with names for what was read
pub relabelled_as : (twins : List ℕ) (g h : ℕ) → IsChange twins g h → (labels : List ℕ) → AreLabels twins labels → (now one two three four : List ℕ) (p q : ℕ) →
    now ≡ changed twins (g, h) → p ≡ next_half g → q ≡ next_half h → IsLabelled now g labels one → IsLabelled now h one two → IsLabelled now p two three →
    IsLabelled now q three four → AreLabels now four
relabelled_as twins g h is labels are now one two three four p q now_is p_is q_is first second third fourth =
    subst (λ t. AreLabels t four) (sym now_is)
    (relabelled twins g h is labels are one two three four (subst (λ t. IsLabelled t g labels one) now_is first) (subst (λ t. IsLabelled t h one two) now_is second)
    (subst (λ t. IsLabelled t (next_half g) two three) now_is (subst (λ k. IsLabelled now k two three) p_is third))
    (subst (λ t. IsLabelled t (next_half h) three four) now_is (subst (λ k. IsLabelled now k three four) q_is fourth)))
