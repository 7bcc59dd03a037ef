-- Going once round a fan and labelling it; and doing so from each half-edge that has no label.
use Rattle.std.proofs.Common.{◌≡◌, ◌≢◌, ◌<◌, ◌≤◌, ◌+◌, ◌*◌, ◌/◌, ◌%◌, ◌⊎◌, inl, inr, ℕ, suc, List, length, get_or, replicate, slice_set, refl, sym, ◌∙◌, ap, subst, arith}
use Rattle.std.proofs.lemmas.Bool.{cases_eq}
use Rattle.std.proofs.lemmas.List.{get_or-replicate, get_or-set_same, get_or-set_other, length-replicate, length-set, same_lists, get_or_default}
use Rattle.std.proofs.Math.Nat.{mod-lt, mod-add-div'}
use Rattle.chain_terms.specs.Permutations.{times}
use Rattle.chain_laws.proofs.Walks.{returns, times-add}
use Rattle.halfedge.specs.Numbering.{no_fan}
use Rattle.halfedge.proofs.FanWalk.{IsPassed}
use Rattle.halfedge.proofs.Marks.{returns_again}
use Rattle.mesh_terms.specs.Halves.{prev_half}
use Rattle.sheet_terms.specs.Vertices.{around_by, leaders}
use Rattle.fan_laws.specs.Pairs.{AreTwins, Reaches}
use Rattle.fan_laws.proofs.Cycles.{around_by_inverse, times_low}
use Rattle.fan_laws.proofs.Leaders.{itself, leader, leader_below, leader_least, leader_read, leader_reaches, length-leaders, met_before, one_leader}
use Rattle.angle_pairing.specs.Labels.{IsLabelled}

-- after i steps from h: what was passed has h as its label, the rest its old label
pub record IsWalking (twins : List ℕ) (h : ℕ) (old labels : List ℕ) (i at : ℕ) : Type 0 where
  pub full : length labels ≡ length twins
  pub at_is : at ≡ times (around_by twins) i h
  pub each : (x : ℕ) → x < length twins → ((get_or labels x 0 ≡ h) × IsPassed (around_by twins) h i x)
      ⊎ ((get_or labels x 0 ≡ get_or old x 0) × (IsPassed (around_by twins) h i x → ⊥))

pub walking_none : (twins : List ℕ) (h : ℕ) (old : List ℕ) → length old ≡ length twins → IsWalking twins h old old 0 h
walking_none twins h old full = record { full = full; at_is = refl; each = λ x low. inr (refl, λ p. omega (arith, p.1)) }

module _ (twins : List ℕ) (h : ℕ) (old labels : List ℕ) (i at : ℕ) (is : IsWalking twins h old labels i at) where
  -- one step more
  pub walking_more : at < length twins → IsWalking twins h old (slice_set labels at h) (i + 1) (around_by twins at)
  walking_more low = record {
    full = length-set labels at h ∙ is.full;
    at_is = let more : i + 1 ≡ suc i = omega arith in ap (around_by twins) is.at_is ∙ ap (λ m. times (around_by twins) m h) (sym more);
    each = λ x x_low. elim (cases_eq x at) as (λ _. Told x) [
      | inl e ↦
          inl (
            ap (λ y. get_or (slice_set labels at h) y 0) e ∙ get_or-set_same labels at h 0 (omega (arith, low, is.full)),
            (i, omega arith, sym is.at_is ∙ sym e),
          )
      | inr apart ↦ by x apart (is.each x x_low)
    ];
  }
    where
      Told : ℕ → Type 0
      Told x = ((get_or (slice_set labels at h) x 0 ≡ h) × IsPassed (around_by twins) h (i + 1) x)
          ⊎ ((get_or (slice_set labels at h) x 0 ≡ get_or old x 0) × (IsPassed (around_by twins) h (i + 1) x → ⊥))

      by : (x : ℕ) → x ≢ at →
          ((get_or labels x 0 ≡ h) × IsPassed (around_by twins) h i x) ⊎ ((get_or labels x 0 ≡ get_or old x 0) × (IsPassed (around_by twins) h i x → ⊥)) →
          Told x
      by x apart (inl (e, (j, l, to))) = inl (get_or-set_other labels at x h 0 apart ∙ e, (j, omega (arith, l), to))
      by x apart (inr (e, none)) =
          inr (
            get_or-set_other labels at x h 0 apart ∙ e,
            λ p. elim (cases_eq p.0 i) as (λ _. ⊥) [
              | inl last ↦ apart (sym p.2 ∙ ap (λ m. times (around_by twins) m h) last ∙ sym is.at_is)
              | inr before ↦ none (p.0, omega (arith, p.1, before), p.2)
            ],
          )

  -- where all of the fan was passed, it is labelled
  pub walking_done : ((x : ℕ) → Reaches twins h x → IsPassed (around_by twins) h i x) → IsLabelled twins h old labels
  walking_done whole = record { full = is.full; each = λ x low. by x (is.each x low) }
    where
      by : (x : ℕ) → ((get_or labels x 0 ≡ h) × IsPassed (around_by twins) h i x) ⊎ ((get_or labels x 0 ≡ get_or old x 0) × (IsPassed (around_by twins) h i x → ⊥)) →
          ((get_or labels x 0 ≡ h) × Reaches twins h x) ⊎ ((get_or labels x 0 ≡ get_or old x 0) × (Reaches twins h x → ⊥))
      by x (inl (e, (j, l, to))) = inl (e, (j, to))
      by x (inr (e, none)) = inr (e, λ r. none (whole x r))

-- a walk that is back has passed all that it reaches
pub passed_back : (twins : List ℕ) (h i : ℕ) → 0 < i → times (around_by twins) i h ≡ h → (x : ℕ) → Reaches twins h x → IsPassed (around_by twins) h i x
passed_back twins h i some back x (k, to) =
    let s = around_by twins in
    let split = mod-add-div' k i in (
      k % i,
      mod-lt k some,
      sym (ap (times s (k % i)) (returns_again s i h back (k / i))) ∙ sym (times-add s (k % i) (k / i * i) h) ∙ ap (λ m. times s m h) split ∙ to,
    )

-- and so has one of as many steps as half-edges
pub passed_all : (twins : List ℕ) → AreTwins twins → (h : ℕ) → h < length twins → (x : ℕ) → Reaches twins h x → IsPassed (around_by twins) h (length twins) x
passed_all twins are h low x (k, to) =
    let m = met_before (around_by twins) (length twins) h x
    (returns (around_by twins) (λ y. get_or twins (prev_half y) 0) (length twins) (around_by_inverse twins are) h low) k to in
    (m.0, m.1, m.2)

-- those whose leader is below n have it as their label, the others none
pub record AreLed (twins labels : List ℕ) (n : ℕ) : Type 0 where
  pub full : length labels ≡ length twins
  pub each : (x : ℕ) → x < length twins → ((leader twins x < n) × (get_or labels x 0 ≡ leader twins x)) ⊎ ((n ≤ leader twins x) × (get_or labels x 0 ≡ no_fan))

pub led_none : (twins labels : List ℕ) → labels ≡ replicate (length twins) no_fan → AreLed twins labels 0
led_none twins labels is = record {
  full = ap length is ∙ length-replicate (length twins) no_fan;
  each = λ x low. inr (omega arith, ap (λ l. get_or l x 0) is ∙ get_or-replicate (length twins) x no_fan 0 low);
}

module _ (twins : List ℕ) (are : AreTwins twins) (labels : List ℕ) (n : ℕ) (low : n < length twins) (few : length twins < no_fan) (led : AreLed twins labels n) where
  -- a half-edge without a label leads
  no_label : get_or labels n 0 ≡ no_fan → leader twins n ≡ n
  no_label none = elim (led.each n low) as (λ _. leader twins n ≡ n) [
    | inl p ↦ absurd (omega (arith, p.0, p.1, none, low, few))
    | inr p ↦ omega (arith, p.0, leader_least twins are n n low (0, refl))
  ]

  pub led_more : (new : List ℕ) → get_or labels n 0 ≡ no_fan → IsLabelled twins n labels new → AreLed twins new (n + 1)
  led_more new none is = record { full = is.full; each = λ x x_low. by x x_low (is.each x x_low) (led.each x x_low) }
    where
      leads_itself : leader twins n ≡ n
      leads_itself = no_label none

      by : (x : ℕ) → x < length twins → ((get_or new x 0 ≡ n) × Reaches twins n x) ⊎ ((get_or new x 0 ≡ get_or labels x 0) × (Reaches twins n x → ⊥)) →
          ((leader twins x < n) × (get_or labels x 0 ≡ leader twins x)) ⊎ ((n ≤ leader twins x) × (get_or labels x 0 ≡ no_fan)) →
          ((leader twins x < n + 1) × (get_or new x 0 ≡ leader twins x)) ⊎ ((n + 1 ≤ leader twins x) × (get_or new x 0 ≡ no_fan))
      by x x_low (inl (e, to)) old =
          let one : leader twins x ≡ n = sym (one_leader twins are n x low x_low to) ∙ leads_itself in inl (omega (arith, one), e ∙ sym one)
      by x x_low (inr (e, none)) (inl (less, was)) = inl (omega (arith, less), e ∙ was)
      by x x_low (inr (e, none)) (inr (more, was)) = elim (cases_eq (leader twins x) n) as (λ _. After x) [
        | inl same ↦ absurd (none (leader_reaches twins are n x x_low (leads_itself ∙ sym same)))
        | inr apart ↦ inr (omega (arith, more, apart), e ∙ was)
      ]
        where
          After : ℕ → Type 0
          After x = ((leader twins x < n + 1) × (get_or new x 0 ≡ leader twins x)) ⊎ ((n + 1 ≤ leader twins x) × (get_or new x 0 ≡ no_fan))

  pub led_same : get_or labels n 0 ≢ no_fan → AreLed twins labels (n + 1)
  led_same some = record { full = led.full; each = λ x x_low. by x x_low (led.each x x_low) }
    where
      lower : leader twins n < n
      lower = elim (led.each n low) as (λ _. leader twins n < n) [
        | inl p ↦ p.0
        | inr p ↦ absurd (some p.1)
      ]

      by : (x : ℕ) → x < length twins → ((leader twins x < n) × (get_or labels x 0 ≡ leader twins x)) ⊎ ((n ≤ leader twins x) × (get_or labels x 0 ≡ no_fan)) →
          ((leader twins x < n + 1) × (get_or labels x 0 ≡ leader twins x)) ⊎ ((n + 1 ≤ leader twins x) × (get_or labels x 0 ≡ no_fan))
      by x x_low (inl (less, was)) = inl (omega (arith, less), was)
      by x x_low (inr (more, was)) = elim (cases_eq (leader twins x) n) as (λ _. Later x) [
        | inl same ↦ absurd (let itself_is = sym (ap (leader twins) same) ∙ itself twins are x x_low ∙ same in omega (arith, itself_is, lower))
        | inr apart ↦ inr (omega (arith, more, apart), was)
      ]
        where
          Later : ℕ → Type 0
          Later x = ((leader twins x < n + 1) × (get_or labels x 0 ≡ leader twins x)) ⊎ ((n + 1 ≤ leader twins x) × (get_or labels x 0 ≡ no_fan))

pub led_all : (twins : List ℕ) → AreTwins twins → (labels : List ℕ) (n : ℕ) → length twins ≤ n → AreLed twins labels n → labels ≡ leaders twins
led_all twins are labels n enough led =
    same_lists labels (leaders twins) (led.full ∙ sym (length-leaders twins))
    (λ k d k_low.
    let low : k < length twins = omega (arith, k_low, led.full) in
    get_or_default labels k d 0 k_low ∙ at k low (led.each k low) ∙ sym (leader_read twins k low) ∙ get_or_default (leaders twins) k 0 d (omega (arith, low, length-leaders twins)))
  where
    at : (k : ℕ) → k < length twins → ((leader twins k < n) × (get_or labels k 0 ≡ leader twins k)) ⊎ ((n ≤ leader twins k) × (get_or labels k 0 ≡ no_fan)) →
        get_or labels k 0 ≡ leader twins k
    at k low (inl p) = p.1
    at k low (inr p) = absurd (omega (arith, p.0, leader_below twins are k low, enough))

-- the walk stands at one of the half-edges
pub walking_low : (twins : List ℕ) → AreTwins twins → (h : ℕ) → h < length twins → (old labels : List ℕ) (i at : ℕ) → IsWalking twins h old labels i at → at < length twins
walking_low twins are h low old labels i at is = subst (λ g. g < length twins) (sym is.at_is) (times_low twins are i h low)
