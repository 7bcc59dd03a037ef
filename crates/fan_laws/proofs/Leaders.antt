-- The least half-edge of each fan.
use Rattle.std.proofs.Common.{◌≡◌, ◌<◌, ◌≤◌, ◌+◌, ◌*◌, ◌/◌, ◌%◌, ◌⊎◌, inl, inr, ℕ, zero, suc, List, [], ◌∷◌, length, get_or, refl, sym, ◌∙◌, ap, subst, arith}
use Rattle.std.proofs.lemmas.Bool.{cases_lt}
use Rattle.std.proofs.Math.Nat.{mod-lt, mod-add-div'}
use Rattle.std.proofs.lemmas.List.{length-map}
use Rattle.chain_terms.specs.Permutations.{Returns, times}
use Rattle.chain_terms.specs.Sums.{upto}
use Rattle.chain_laws.proofs.Places.{length-up_from}
use Rattle.chain_laws.proofs.Walks.{returns, times-add}
use Rattle.halfedge.proofs.Listed.{listed}
use Rattle.halfedge.proofs.Marks.{returns_again}
use Rattle.mesh_terms.specs.Halves.{prev_half}
use Rattle.sheet_terms.specs.Vertices.{around_by, leaders, least, met}
use Rattle.fan_laws.specs.Pairs.{AreTwins, Reaches}
use Rattle.fan_laws.proofs.Cycles.{around_by_inverse, around_low, reaches_back, reaches_on, times_low}

-- the least is at most each member
least_at_most : (m : ℕ) (xs : List ℕ) (i : ℕ) → i < length xs → least m xs ≤ get_or xs i 0
least_at_most m [] i low = absurd (omega (arith, low))
least_at_most m (x ∷ xs) zero low = omega arith
least_at_most m (x ∷ xs) (suc i) low = omega (arith, least_at_most m xs i (omega (arith, low)))

-- and it is the first or a member
least_there : (m : ℕ) (xs : List ℕ) → (least m xs ≡ m) ⊎ ((i : ℕ) × (i < length xs) × (get_or xs i 0 ≡ least m xs))
least_there m [] = inl refl
least_there m (x ∷ xs) = elim (cases_lt (least m xs) x) as (λ _. (least m (x ∷ xs) ≡ m) ⊎ ((i : ℕ) × (i < length (x ∷ xs)) × (get_or (x ∷ xs) i 0 ≡ least m (x ∷ xs)))) [
  | inl less ↦ elim (least_there m xs) as (λ _. (least m (x ∷ xs) ≡ m) ⊎ ((i : ℕ) × (i < length (x ∷ xs)) × (get_or (x ∷ xs) i 0 ≡ least m (x ∷ xs)))) [
    | inl e ↦ inl (omega (arith, less, e))
    | inr p ↦ inr (suc p.0, omega (arith, p.1), omega (arith, less, p.2))
  ]
  | inr more ↦ inr (0, omega arith, omega (arith, more))
]

-- a walk that returns meets whatever it meets before it has returned
pub met_before : (s : ℕ → ℕ) (n h g : ℕ) → Returns s n h → (k : ℕ) → times s k h ≡ g → (i : ℕ) × (i < n) × (times s i h ≡ g)
met_before s n h g return k to_g =
    let d = return.steps in
    let i = k % d in
    let split = mod-add-div' k d in (
      i,
      omega (arith, mod-lt k return.some, return.few),
      sym (ap (λ x. times s i x) (returns_again s d h return.back (k / d))) ∙ sym (times-add s i (k / d * d) h) ∙ ap (λ m. times s m h) split ∙ to_g,
    )

-- what is met
length-met : (twins : List ℕ) (n h : ℕ) → length (met twins n h) ≡ n
length-met twins zero h = refl
length-met twins (suc n) h = omega (arith, length-met twins n (around_by twins h))

met_at : (twins : List ℕ) (n h i : ℕ) → i < n → get_or (met twins n h) i 0 ≡ times (around_by twins) i h
met_at twins zero h i low = absurd (omega (arith, low))
met_at twins (suc n) h zero low = refl
met_at twins (suc n) h (suc i) low =
    let more : i + 1 ≡ suc i = omega arith in
    met_at twins n (around_by twins h) i (omega (arith, low)) ∙ sym (times-add (around_by twins) i 1 h) ∙ ap (λ m. times (around_by twins) m h) more

-- the leader of a half-edge
abbrev pub leader : List ℕ → ℕ → ℕ
leader twins h = least h (met twins (length twins) h)

pub length-leaders : (twins : List ℕ) → length (leaders twins) ≡ length twins
length-leaders twins = length-map (upto (length twins)) (leader twins) ∙ length-up_from 0 (length twins)

pub leader_read : (twins : List ℕ) (h : ℕ) → h < length twins → get_or (leaders twins) h 0 ≡ leader twins h
leader_read twins h low = listed (leader twins) (length twins) h 0 low

module _ (twins : List ℕ) (are : AreTwins twins) where
  -- it is in the fan
  pub leads : (h : ℕ) → Reaches twins h (leader twins h)
  leads h = elim (least_there h (met twins (length twins) h)) as (λ _. Reaches twins h (leader twins h)) [
    | inl e ↦ (0, sym e)
    | inr p ↦ (p.0, sym (met_at twins (length twins) h p.0 (omega (arith, p.1, length-met twins (length twins) h))) ∙ p.2)
  ]

  pub leader_below : (h : ℕ) → h < length twins → leader twins h < length twins
  leader_below h below = let l = leads h in subst (λ g. g < length twins) l.1 (times_low twins are l.0 h below)

  -- and before all others
  pub leader_least : (h g : ℕ) → h < length twins → Reaches twins h g → leader twins h ≤ g
  leader_least h g below (k, to_g) =
      let m = met_before (around_by twins) (length twins) h g
      (returns (around_by twins) (λ x. get_or twins (prev_half x) 0) (length twins) (around_by_inverse twins are) h below) k to_g in
      subst (λ x. leader twins h ≤ x) (met_at twins (length twins) h m.0 m.1 ∙ m.2)
      (least_at_most h (met twins (length twins) h) m.0 (omega (arith, m.1, length-met twins (length twins) h)))

  -- half-edges of one fan have one leader
  pub one_leader : (h g : ℕ) → h < length twins → g < length twins → Reaches twins h g → leader twins h ≡ leader twins g
  one_leader h g h_below g_below to =
      omega (
        arith,
        leader_least h (leader twins g) h_below (reaches_on twins h g (leader twins g) to (leads g)),
        leader_least g (leader twins h) g_below (reaches_on twins g h (leader twins h) (reaches_back twins are h g h_below to) (leads h)),
      )

  pub itself : (h : ℕ) → h < length twins → leader twins (leader twins h) ≡ leader twins h
  itself h below = sym (one_leader h (leader twins h) below (leader_below h below) (leads h))

  pub leader_around : (h : ℕ) → h < length twins → leader twins (around_by twins h) ≡ leader twins h
  leader_around h below = sym (one_leader h (around_by twins h) below (around_low twins are h below) (1, refl))

  -- and half-edges with one leader are in one fan
  pub leader_reaches : (h g : ℕ) → g < length twins → leader twins h ≡ leader twins g → Reaches twins h g
  leader_reaches h g g_below same =
      reaches_on twins h (leader twins h) g (leads h) (subst (λ l. Reaches twins l g) (sym same) (reaches_back twins are g (leader twins g) g_below (leads g)))
