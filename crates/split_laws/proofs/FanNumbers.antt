-- The list of all fans, with the number of each half-edge in it, is a numbering of the fans.
use Rattle.std.proofs.Common.{◌≡◌, ◌<◌, ◌≤◌, ◌*◌, ◌/◌, ◌%◌, ◌⊎◌, inl, inr, ℕ, zero, suc, List, [], ◌∷◌, length, get_or, map, refl, sym, ◌∙◌, ap, subst, arith}
use Rattle.std.specs.Prelude.{◌==◌}
use Rattle.std.specs.List.{Contains, position_or_len}
use Rattle.std.proofs.lemmas.Bool.{cases_lt, eq-eqb, ne_eqb}
use Rattle.std.proofs.Math.Nat.{mod-lt, mod-add-div'}
use Rattle.std.proofs.lemmas.List.{length-map}
use Rattle.std.proofs.lemmas.List.Sums.{position_or_len_is}
use Rattle.chain_terms.specs.Chains.{all_edges}
use Rattle.chain_terms.specs.Permutations.{AreInverse, Returns, times}
use Rattle.chain_terms.specs.Ranks.{start, twin}
use Rattle.chain_terms.specs.Sums.{upto}
use Rattle.chain_laws.proofs.Places.{length-up_from}
use Rattle.chain_laws.proofs.Walks.{returns, times-add, times_below}
use Rattle.mesh_terms.specs.Fans.{AreFans}
use Rattle.mesh_terms.specs.Halves.{SameFan, around, around_times, prev_half}
use Rattle.mesh_terms.specs.Meshes.{IsAccepted, Triple}
use Rattle.halfedge.proofs.Around.{around_inverse}
use Rattle.halfedge.proofs.Listed.{listed}
use Rattle.halfedge.proofs.Marks.{one_fan, returns_again}
use Rattle.pinch_split.specs.Split.{all_fans, fan_of, least, least_of_fan, met_from}
use Rattle.pinch_split.proofs.Anew.{HasFans}
use Rattle.pinch_split.proofs.Whole.{start_below}
use Rattle.split_laws.proofs.FanLists.{IsLeast, at_place, fans_rise, is_least, is_listed, member}

-- the least is at most each member
least_at_most : (m : ℕ) (xs : List ℕ) (i : ℕ) → i < length xs → least m xs ≤ get_or xs i 0
least_at_most m [] i low = absurd (omega (arith, low))
least_at_most m (x ∷ xs) zero low = omega arith
least_at_most m (x ∷ xs) (suc i) low = omega (arith, least_at_most m xs i (omega (arith, low)))

-- and it is the first or a member
least_there : (m : ℕ) (xs : List ℕ) → (least m xs ≡ m) ⊎ ((i : ℕ) × (i < length xs) × (get_or xs i 0 ≡ least m xs))
least_there m [] = inl refl
least_there m (x ∷ xs) = elim (cases_lt (least m xs) x) as (λ _. (least m (x ∷ xs) ≡ m) ⊎ ((i : ℕ) × (i < length (x ∷ xs)) × (get_or (x ∷ xs) i 0 ≡ least m (x ∷ xs)))) [
  | inl less ↦ elim (least_there m xs) as (λ _. (least m (x ∷ xs) ≡ m) ⊎ ((i : ℕ) × (i < length (x ∷ xs)) × (get_or (x ∷ xs) i 0 ≡ least m (x ∷ xs)))) [
    | inl e ↦ inl (omega (arith, less, e))
    | inr p ↦ inr (suc p.0, omega (arith, p.1), omega (arith, less, p.2))
  ]
  | inr more ↦ inr (0, omega arith, omega (arith, more))
]

-- a walk that returns meets whatever it meets before it has returned
met_before : (s : ℕ → ℕ) (n h g : ℕ) → Returns s n h → (k : ℕ) → times s k h ≡ g → (i : ℕ) × (i < n) × (times s i h ≡ g)
met_before s n h g return k to_g =
    let d = return.steps in
    let i = k % d in
    let split = mod-add-div' k d in (
      i,
      omega (arith, mod-lt k return.some, return.few),
      sym (ap (λ x. times s i x) (returns_again s d h return.back (k / d))) ∙ sym (times-add s i (k / d * d) h) ∙ ap (λ m. times s m h) split ∙ to_g,
    )

module _ (points : ℕ) (ts : List Triple) (accepted : IsAccepted points ts) where
  abbrev es : List (ℕ × ℕ)
  es = all_edges ts

  abbrev first : List ℕ
  first = all_fans points es

  abbrev of : List ℕ
  of = map (fan_of points es) (upto (length es))

  abbrev leader : ℕ → ℕ
  leader h = least_of_fan es h

  inverse : AreInverse (around es) (λ h. twin es (prev_half h)) (length es)
  inverse = around_inverse ts accepted.closed

  full : (h : ℕ) → length (met_from es h) ≡ length es
  full h = length-map (upto (length es)) (λ k. around_times es k h) ∙ length-up_from 0 (length es)

  met : (h i : ℕ) → i < length es → get_or (met_from es h) i 0 ≡ times (around es) i h
  met h i low = listed (λ k. around_times es k h) (length es) i 0 low

  -- the least half-edge of a fan is in it
  leads : (h : ℕ) → SameFan es h (leader h)
  leads h = elim (least_there h (met_from es h)) as (λ _. SameFan es h (leader h)) [
    | inl e ↦ (0, sym e)
    | inr p ↦ (p.0, sym (met h p.0 (omega (arith, p.1, full h))) ∙ p.2)
  ]

  leader_below : (h : ℕ) → h < length es → leader h < length es
  leader_below h below = let l = leads h in subst (λ g. g < length es) l.1 (times_below (around es) (λ g. twin es (prev_half g)) (length es) inverse l.0 h below)

  -- and before all others
  leader_least : (h g : ℕ) → h < length es → SameFan es h g → leader h ≤ g
  leader_least h g below (k, to_g) =
      let m = met_before (around es) (length es) h g (returns (around es) (λ x. twin es (prev_half x)) (length es) inverse h below) k to_g in
      subst (λ x. leader h ≤ x) (met h m.0 m.1 ∙ m.2) (least_at_most h (met_from es h) m.0 (omega (arith, m.1, full h)))

  -- each half-edge of a fan leads to each
  back : (h g : ℕ) → h < length es → SameFan es h g → SameFan es g h
  back h g below to = one_fan ts accepted.closed h below g h to (0, refl)

  through : (h g x : ℕ) → h < length es → g < length es → SameFan es h g → SameFan es g x → SameFan es h x
  through h g x h_below g_below to on = one_fan ts accepted.closed g g_below h x (back h g h_below to) on

  -- half-edges of one fan have one leader
  one_leader : (h g : ℕ) → h < length es → g < length es → SameFan es h g → leader h ≡ leader g
  one_leader h g h_below g_below to =
      omega (
        arith,
        leader_least h (leader g) h_below (through h g (leader g) h_below g_below to (leads g)),
        leader_least g (leader h) g_below (through g h (leader h) g_below h_below (back h g h_below to) (leads h)),
      )

  itself : (h : ℕ) → h < length es → leader (leader h) ≡ leader h
  itself h below = sym (one_leader h (leader h) below (leader_below h below) (leads h))

  -- each fan is listed
  leader_listed : (h : ℕ) → h < length es → Contains first (leader h)
  leader_listed h below =
      let inside = leader_below h below in
      is_listed es 0 points (leader h)
      (record { low = omega arith; high = omega (arith, start_below points ts accepted.mesh.below (leader h) inside); below = inside; itself = itself h below })

  listed_least : (k : ℕ) → k < length first → IsLeast es 0 points (get_or first k 0)
  listed_least k low = is_least es 0 points (get_or first k 0) (member first k low)

  -- a half-edge has the number at which its leader stands
  numbered_at : (h k : ℕ) → k < length first → get_or first k 0 ≡ leader h → fan_of points es h ≡ k
  numbered_at h k low here =
      position_or_len_is (λ g. g == leader h) first k 0 (omega (arith, low))
      (λ j less. ne_eqb (get_or first j 0) (leader h) (λ same. apart j less (same ∙ sym here)))
      (λ _. eq-eqb (get_or first k 0) (leader h) here)
    where
      apart : (j : ℕ) → j < k → get_or first j 0 ≡ get_or first k 0 → ⊥
      apart j less same = let before = fans_rise es 0 points j k less low in omega (arith, before.halves (ap (start es) same), same)

  -- so its number is that of a place, at which its leader stands
  number : (h : ℕ) → h < length es → (fan_of points es h < length first) × (get_or first (fan_of points es h) 0 ≡ leader h)
  number h below =
      let place = at_place first (leader h) (leader_listed h below) in
      let is = numbered_at h place.0 place.1 place.2 in
      (subst (λ k. k < length first) (sym is) place.1, ap (λ k. get_or first k 0) is ∙ place.2)

  read : (h : ℕ) → h < length es → get_or of h 0 ≡ fan_of points es h
  read h below = listed (fan_of points es) (length es) h 0 below

  leader_at : (h : ℕ) → h < length es → get_or first (get_or of h 0) 0 ≡ leader h
  leader_at h below = ap (λ k. get_or first k 0) (read h below) ∙ (number h below).1

  around_below : (h : ℕ) → h < length es → around es h < length es
  around_below h below = times_below (around es) (λ g. twin es (prev_half g)) (length es) inverse 1 h below

  pub fans_numbered : AreFans es of first
  fans_numbered = record {
    one_each = length-map (upto (length es)) (fan_of points es) ∙ length-up_from 0 (length es);
    steps = λ h below.
        read (around es h) (around_below h below)
        ∙ ap (λ l. position_or_len (λ g. g == l) first) (sym (one_leader h (around es h) below (around_below h below) (1, refl)))
        ∙ sym (read h below);
    numbered = λ h below. subst (λ k. k < length first) (sym (read h below)) (number h below).0;
    first_in = λ k low. let r = listed_least k low in (r.below, read (get_or first k 0) r.below ∙ numbered_at (get_or first k 0) k low (sym r.itself));
    reached = λ h below. subst (λ g. SameFan es g h) (sym (leader_at h below)) (back h (leader h) below (leads h));
    returns = λ k low. let r = returns (around es) (λ x. twin es (prev_half x)) (length es) inverse (get_or first k 0) (listed_least k low).below in (r.steps, r.some, r.back);
    least = λ h below. subst (λ g. g ≤ h) (sym (leader_at h below)) (leader_least h h below (0, refl));
    by_start = λ j k less low. (fans_rise es 0 points j k less low).starts;
    by_half = λ j k less low. (fans_rise es 0 points j k less low).halves;
  }

  pub has_listed_fans : HasFans ts of first
  has_listed_fans = record { three = accepted.mesh.three; closed = accepted.closed; fans = fans_numbered }
