-- The numbers of fans: the places of their leaders in the list of all.
use Rattle.std.proofs.Common.{◌≡◌, ◌<◌, ℕ, List, length, get_or, map, sym, ◌∙◌, ap, subst, arith}
use Rattle.std.specs.Prelude.{◌==◌}
use Rattle.std.specs.List.{Contains, position_or_len}
use Rattle.std.proofs.lemmas.Bool.{eq-eqb, ne_eqb}
use Rattle.std.proofs.lemmas.List.{get_or-map, length-map}
use Rattle.std.proofs.lemmas.List.Sums.{position_or_len_is}
use Rattle.chain_terms.specs.Ranks.{start}
use Rattle.sheet_terms.specs.Vertices.{fan_list, leaders}
use Rattle.fan_laws.specs.Pairs.{AreTwins}
use Rattle.fan_laws.proofs.FanLists.{IsLeader, fans_rise, is_leader, is_listed}
use Rattle.fan_laws.proofs.Leaders.{itself, leader, leader_below, leader_read, length-leaders}
use Rattle.fan_laws.proofs.Members.{at_place, member}

-- numbers of the fans, and the leader of each
pub record AreNumbers (twins of first : List ℕ) : Type 0 where
  pub one_each : length of ≡ length twins
  pub numbered : (h : ℕ) → h < length twins → get_or of h 0 < length first
  pub leads : (h : ℕ) → h < length twins → get_or first (get_or of h 0) 0 ≡ leader twins h
  pub first_in : (k : ℕ) → k < length first → (get_or first k 0 < length twins) × (get_or of (get_or first k 0) 0 ≡ k)

-- half-edges with one leader have one number
pub record AreAlike (twins of : List ℕ) : Type 0 where
  pub one : (g h : ℕ) → g < length twins → h < length twins → leader twins g ≡ leader twins h → get_or of g 0 ≡ get_or of h 0

module _ (n : ℕ) (es : List (ℕ × ℕ)) (twins : List ℕ) (are : AreTwins twins) (full : length twins ≡ length es) (low : (h : ℕ) → h < length es → start es h < n) where
  abbrev ls : List ℕ
  ls = leaders twins

  abbrev pub first : List ℕ
  first = fan_list n es ls

  abbrev pub number : ℕ → ℕ
  number h = position_or_len (λ g. g == leader twins h) first

  abbrev pub of : List ℕ
  of = map (λ l. position_or_len (λ g. g == l) first) ls

  pub read : (h : ℕ) → h < length twins → get_or of h 0 ≡ number h
  read h below =
      get_or-map (λ l. position_or_len (λ g. g == l) first) ls h 0 0 (omega (arith, below, length-leaders twins))
      ∙ ap (λ l. position_or_len (λ g. g == l) first) (leader_read twins h below)

  -- each fan is listed
  leader_listed : (h : ℕ) → h < length twins → Contains first (leader twins h)
  leader_listed h below =
      let inside = leader_below twins are h below in
      is_listed es ls 0 n (leader twins h)
      (record {
        low = omega arith;
        high = omega (arith, low (leader twins h) (omega (arith, inside, full)));
        below = omega (arith, inside, full);
        itself = leader_read twins (leader twins h) inside ∙ itself twins are h below;
      })

  listed : (k : ℕ) → k < length first → IsLeader es ls 0 n (get_or first k 0)
  listed k k_low = is_leader es ls 0 n (get_or first k 0) (member first k k_low)

  -- a half-edge has the number at which its leader stands
  numbered_at : (h k : ℕ) → k < length first → get_or first k 0 ≡ leader twins h → number h ≡ k
  numbered_at h k k_low here =
      position_or_len_is (λ g. g == leader twins h) first k 0 (omega (arith, k_low))
      (λ j less. ne_eqb (get_or first j 0) (leader twins h) (λ same. apart j less (same ∙ sym here)))
      (λ _. eq-eqb (get_or first k 0) (leader twins h) here)
    where
      apart : (j : ℕ) → j < k → get_or first j 0 ≡ get_or first k 0 → ⊥
      apart j less same = let before = fans_rise es ls 0 n j k less k_low in omega (arith, before.halves (ap (start es) same), same)

  pub number_is : (h : ℕ) → h < length twins → (number h < length first) × (get_or first (number h) 0 ≡ leader twins h)
  number_is h below =
      let place = at_place first (leader twins h) (leader_listed h below) in
      let is = numbered_at h place.0 place.1 place.2 in
      (subst (λ k. k < length first) (sym is) place.1, ap (λ k. get_or first k 0) is ∙ place.2)

  pub are_numbers : AreNumbers twins of first
  are_numbers = record {
    one_each = length-map ls (λ l. position_or_len (λ g. g == l) first) ∙ length-leaders twins;
    numbered = λ h below. subst (λ k. k < length first) (sym (read h below)) (number_is h below).0;
    leads = λ h below. ap (λ k. get_or first k 0) (read h below) ∙ (number_is h below).1;
    first_in = λ k k_low.
        let r = listed k k_low in
        let below : get_or first k 0 < length twins = omega (arith, r.below, full) in
        (below, read (get_or first k 0) below ∙ numbered_at (get_or first k 0) k k_low (sym r.itself ∙ leader_read twins (get_or first k 0) below));
  }

  pub are_alike : AreAlike twins of
  are_alike = record {
    one = λ g h g_low h_low same. read g g_low ∙ ap (λ l. position_or_len (λ x. x == l) first) same ∙ sym (read h h_low);
  }
