-- Triangles over their fans: accepted, clean, each directed edge once, and over the given places.
use Rattle.std.proofs.Common.{◌≡◌, ◌≢◌, ◌<◌, ◌≤◌, ◌+◌, ◌-◌, ◌*◌, ◌/◌, inl, inr, ℕ, zero, suc, ℤ, neg_ℤ, true, cond, List, map, length, get_or, refl, sym, subst, ◌∙◌, ap, arith}
use Rattle.std.specs.Prelude.{None, Option, Some, nat_lt, pos}
use Rattle.std.specs.List.{All}
use Rattle.std.proofs.lemmas.Bool.{cases_lt, le-ltb, lt-ltb}
use Rattle.std.proofs.lemmas.Int.{ints}
use Rattle.std.proofs.lemmas.List.{get_or-map, length-map, same_lists}
use Rattle.chain_terms.specs.Chains.{IsClosed, all_edges}
use Rattle.chain_terms.specs.Odd.{IsOdd, along}
use Rattle.chain_terms.specs.Permutations.{times}
use Rattle.chain_terms.specs.Ranks.{start, finish, twin}
use Rattle.chain_terms.specs.Sums.{total, upto}
use Rattle.chain_laws.specs.Chains.{closed_from_sums}
use Rattle.chain_laws.specs.Sums.{total-neg}
use Rattle.chain_laws.proofs.Inverses.{inverse_sum}
use Rattle.chain_laws.proofs.Places.{total-places, total-upto_same}
use Rattle.chain_laws.proofs.Twins.{twin_runs_back}
use Rattle.chain_laws.proofs.Walks.{different_below}
use Rattle.halfedge.specs.Clean.{IsClean}
use Rattle.halfedge.proofs.Edges.{length-all_edges, next_below, next_starts, not_back}
use Rattle.mesh_terms.specs.Halves.{SameFan, around, next_half}
use Rattle.mesh_terms.specs.Meshes.{HasThree, IsAccepted, IsBelow, Triple, is_used}
use Rattle.pinch_split.specs.Back.{named_by}
use Rattle.pinch_split.specs.Split.{corner_values}
use Rattle.pinch_split.proofs.Anew.{all_corners, corner_at, used_start}
use Rattle.pinch_split.proofs.CleanFans.{triple_starts}
use Rattle.pinch_split.proofs.Corners.{length-corners}
use Rattle.pinch_split.proofs.Whole.{start_below}
use Rattle.sheet_terms.specs.Vertices.{around_by, fans_by, over_fans, parted_by, repeated}
use Rattle.fan_laws.specs.Laws.{AreSettled, CanPart, FansPart, IsParted, fan_edges}
use Rattle.fan_laws.specs.Pairs.{ArePaired, Reaches}
use Rattle.fan_laws.proofs.Cycles.{around_low, times_low}
use Rattle.fan_laws.proofs.Leaders.{leader, leader_around, leader_reaches, leads}
use Rattle.fan_laws.proofs.Members.{IsClear, edge_at, firsts_one, repeated_is, same_from}
use Rattle.fan_laws.proofs.Numbers.{AreNumbers, are_numbers}
use Rattle.fan_laws.proofs.RoundEdges.{twins_by_angle_are_paired}
use Rattle.fan_laws.proofs.Settling.{alike_starts, as_many, changes_settle, fan_finish, fan_start, leader_number, number_leader, reached_start}

module _ (n : ℕ) (ts : List Triple) (can : CanPart n ts) (twins : List ℕ) (settled : AreSettled n ts twins) where
  abbrev es : List (ℕ × ℕ)
  es = all_edges ts

  abbrev of : List ℕ
  of = (fans_by n ts twins).of

  abbrev first : List ℕ
  first = (fans_by n ts twins).first

  abbrev anew : List (ℕ × ℕ)
  anew = fan_edges n ts twins

  abbrev fan : ℕ → ℕ
  fan h = get_or of h 0

  three : All HasThree ts
  three = can.three

  below : All (IsBelow n) ts
  below = can.below

  paired : ArePaired es twins
  paired = settled.paired

  numbers : AreNumbers twins of first
  numbers = are_numbers n es twins paired.are paired.full (λ h low. start_below n ts below h low)

  among : (h : ℕ) → h < length es → h < length twins
  among h low = omega (arith, low, paired.full)

  abbrev other : ℕ → ℕ
  other h = get_or twins h 0

  other_below : (h : ℕ) → h < length es → get_or twins h 0 < length es
  other_below h low = omega (arith, paired.are.below h (among h low), paired.full)

  numbered : (h : ℕ) → h < length es → fan h < length first
  numbered h low = numbers.numbered h (among h low)

  -- the next half-edge has the fan of the twin
  next_as_twin : (h : ℕ) → h < length es → fan (next_half h) ≡ fan (get_or twins h 0)
  next_as_twin h low =
      let t = get_or twins h 0 in
      let t_low = other_below h low in
      let back : around_by twins t ≡ next_half h = ap next_half (paired.are.back h (among h low)) in
      leader_number ts three n below twins paired (next_half h) t (next_below ts h low) t_low
      (ap (leader twins) (sym back) ∙ leader_around twins paired.are t (among t t_low))

  start_anew : (h : ℕ) → h < length es → start anew h ≡ fan h
  start_anew h low = fan_start ts three n below twins paired h low

  finish_anew : (h : ℕ) → h < length es → finish anew h ≡ fan (get_or twins h 0)
  finish_anew h low = fan_finish ts three n below twins paired h low ∙ next_as_twin h low

  -- so the twin runs back
  twin_start : (h : ℕ) → h < length es → start anew (get_or twins h 0) ≡ finish anew h
  twin_start h low = start_anew (get_or twins h 0) (other_below h low) ∙ sym (finish_anew h low)

  twin_finish : (h : ℕ) → h < length es → finish anew (get_or twins h 0) ≡ start anew h
  twin_finish h low =
      finish_anew (get_or twins h 0) (other_below h low) ∙ ap fan (paired.are.back h (among h low)) ∙ sym (start_anew h low)

  length-anew : length anew ≡ length es
  length-anew = as_many ts three n below twins paired

  -- the fans at both ends of a half-edge differ
  fans_differ : (h : ℕ) → h < length es → fan h ≢ fan (next_half h)
  fans_differ h low same =
      let next_low = next_below ts h low in
      let one = number_leader ts three n below twins paired h (next_half h) low next_low same in
      let e : start es h ≡ finish es h = alike_starts ts three twins paired h (next_half h) low next_low one ∙ next_starts ts h low in
      not_back ts three h h low refl (e, sym e)

  three_anew : All HasThree (over_fans of (length ts))
  three_anew = all_corners HasThree fan (length ts) each
    where
      each : (i : ℕ) → i < length ts → HasThree (corner_values fan i)
      each i low =
          let full = length-all_edges ts in
          let second : next_half (3 * i) ≡ 3 * i + 1 = omega arith in
          let third : next_half (3 * i + 1) ≡ 3 * i + 2 = omega arith in
          let again : next_half (3 * i + 2) ≡ 3 * i = omega arith in
          record {
            ab = λ e. fans_differ (3 * i) (omega (arith, low, full)) (e ∙ ap fan (sym second));
            bc = λ e. fans_differ (3 * i + 1) (omega (arith, low, full)) (e ∙ ap fan (sym third));
            ca = λ e. fans_differ (3 * i + 2) (omega (arith, low, full)) (e ∙ ap fan (sym again));
          }

  below_anew : All (IsBelow (length first)) (over_fans of (length ts))
  below_anew = all_corners (IsBelow (length first)) fan (length ts) each
    where
      each : (i : ℕ) → i < length ts → IsBelow (length first) (corner_values fan i)
      each i low =
          let full = length-all_edges ts in
          record {
            a = numbered (3 * i) (omega (arith, low, full));
            b = numbered (3 * i + 1) (omega (arith, low, full));
            c = numbered (3 * i + 2) (omega (arith, low, full));
          }

  used_anew : (v : ℕ) → v < length first → is_used (over_fans of (length ts)) v ≡ true
  used_anew v low =
      let held = numbers.first_in v low in
      let h = get_or first v 0 in
      let h_low : h < length es = omega (arith, held.0, paired.full) in
      ap (is_used (over_fans of (length ts))) (sym (start_anew h h_low ∙ held.1)) ∙ used_start (over_fans of (length ts)) h (omega (arith, h_low, length-anew))

  -- each half-edge has its twin as its reverse
  closed_anew : IsClosed anew
  closed_anew = closed_from_sums anew vanishes
    where
      term : (ℕ → ℕ → ℤ) → ℕ → ℤ
      term f h = f (start anew h) (finish anew h)

      opposite : (f : ℕ → ℕ → ℤ) → IsOdd f → (h : ℕ) → h < length es → term f (get_or twins h 0) ≡ neg_ℤ (term f h)
      opposite f odd h low =
          let turned = odd.turns (finish anew h) (start anew h) in
          let same : term f (get_or twins h 0) ≡ f (finish anew h) (start anew h) = λ i. f (twin_start h low i) (twin_finish h low i) in
          omega (arith, ints, turned, same)

      vanishes : (f : ℕ → ℕ → ℤ) → IsOdd f → total (along f) anew ≡ pos 0
      vanishes f odd =
          let m = length es in
          let spread = total-places (along f) (0, 0) anew ∙ ap (λ k. total (term f) (upto k)) length-anew in
          let turn = inverse_sum (term f) other other m
          (record {
            below = other_below;
            above = other_below;
            back = λ h low. paired.are.back h (among h low);
            forth = λ h low. paired.are.back h (among h low);
          }) in
          let back = total-upto_same (λ k. term f (get_or twins k 0)) (λ k. neg_ℤ (term f k)) m (opposite f odd) ∙ total-neg (term f) (upto m) in
          omega (arith, ints, spread, turn, back)

  -- no two run alike
  clear : IsClear anew (length anew)
  clear = elim (repeated_is anew (repeated anew) refl) as (λ _. IsClear anew (length anew)) [
    | inl p ↦ p.1
    | inr p ↦ absurd (some p.0 p.1 (sym p.2 ∙ settled.none))
  ]
    where
      some : (g h : ℕ) → ◌≡◌ {A = Option (ℕ × ℕ)} (Some (g, h)) None → ⊥
      some g h e = cc

  one_place : (g h : ℕ) → g < length es → h < length es → start anew g ≡ start anew h → finish anew g ≡ finish anew h → g ≡ h
  one_place g h g_low h_low starts ends =
      let g_in : g < length anew = omega (arith, g_low, length-anew) in
      let h_in : h < length anew = omega (arith, h_low, length-anew) in
      sym (clear g g_in) ∙ firsts_one anew g h g_in h_in (same_from (edge_at anew g) (edge_at anew h) starts ends) ∙ clear h h_in

  -- so the twins are the only ones
  twin_anew : (h : ℕ) → h < length es → twin anew h ≡ get_or twins h 0
  twin_anew h low =
      let back = twin_runs_back anew closed_anew h (omega (arith, low, length-anew)) in
      one_place (twin anew h) (get_or twins h 0) (omega (arith, back.within, length-anew)) (other_below h low) (back.from ∙ sym (twin_start h low))
      (back.to ∙ sym (twin_finish h low))

  walk_anew : (h : ℕ) → h < length es → (k : ℕ) → times (around anew) k h ≡ times (around_by twins) k h
  walk_anew h low zero = refl
  walk_anew h low (suc k) =
      let at = times_low twins paired.are k h (among h low) in
      ap (around anew) (walk_anew h low k) ∙ ap next_half (twin_anew (times (around_by twins) k h) (omega (arith, at, paired.full)))

  clean_anew : IsClean anew
  clean_anew h g h_in g_in same =
      let h_low : h < length es = omega (arith, h_in, length-anew) in
      let g_low : g < length es = omega (arith, g_in, length-anew) in
      let one = number_leader ts three n below twins paired h g h_low g_low (sym (start_anew h h_low) ∙ same ∙ start_anew g g_low) in
      walked h_low (leader_reaches twins paired.are h g (among g g_low) one)
    where
      walked : h < length es → Reaches twins h g → SameFan anew h g
      walked low (k, to) = (k, walk_anew h low k ∙ to)

  -- two half-edges for each fan: its first, and the one around from it
  moves : (h : ℕ) → h < length es → around_by twins h ≢ h
  moves h low same =
      not_back ts three h (get_or twins h 0) low (in_one (get_or twins h 0) h same) (paired.from h low, paired.to h low)
    where
      in_one : (g h : ℕ) → next_half g ≡ h → h / 3 ≡ g / 3
      in_one g h e = omega (arith, e)

  few_fans : 2 * length first ≤ length es
  few_fans = different_below f (2 * length first) (length es) f_below different
    where
      f : ℕ → ℕ
      f j = cond (nat_lt j (length first)) (get_or first j 0) (around_by twins (get_or first (j - length first) 0))

      low : (j : ℕ) → j < length first → f j ≡ get_or first j 0
      low j l = ap (λ b. cond b (get_or first j 0) (around_by twins (get_or first (j - length first) 0))) (lt-ltb j (length first) l)

      high : (j : ℕ) → length first ≤ j → f j ≡ around_by twins (get_or first (j - length first) 0)
      high j l = ap (λ b. cond b (get_or first j 0) (around_by twins (get_or first (j - length first) 0))) (le-ltb j (length first) l)

      f_below : (j : ℕ) → j < 2 * length first → f j < length es
      f_below j l = elim (cases_lt j (length first)) as (λ _. f j < length es) [
        | inl less ↦ subst (λ h. h < length es) (sym (low j less)) (omega (arith, (numbers.first_in j less).0, paired.full))
        | inr more ↦
            let k : j - length first < length first = omega (arith, l, more) in
            subst (λ h. h < length es) (sym (high j more))
            (omega (arith, around_low twins paired.are (get_or first (j - length first) 0) (numbers.first_in (j - length first) k).0, paired.full))
      ]

      fan_low : (j : ℕ) → j < length first → fan (f j) ≡ j
      fan_low j l = ap fan (low j l) ∙ (numbers.first_in j l).1

      fan_high : (j : ℕ) → length first ≤ j → j < 2 * length first → fan (f j) ≡ j - length first
      fan_high j l m =
          let held = numbers.first_in (j - length first) (omega (arith, l, m)) in
          let h = get_or first (j - length first) 0 in
          let h_low : h < length es = omega (arith, held.0, paired.full) in
          let next_low : around_by twins h < length es = omega (arith, around_low twins paired.are h held.0, paired.full) in
          ap fan (high j l) ∙ leader_number ts three n below twins paired (around_by twins h) h next_low h_low (leader_around twins paired.are h held.0) ∙ held.1

      apart : (i j : ℕ) → i < length first → length first ≤ j → j < 2 * length first → f i ≢ f j
      apart i j i_low j_high l same =
          let which : i ≡ j - length first = sym (fan_low i i_low) ∙ ap fan same ∙ fan_high j j_high l in
          let here : get_or first i 0 ≡ around_by twins (get_or first i 0) =
          sym (low i i_low) ∙ same ∙ high j j_high ∙ ap (λ k. around_by twins (get_or first k 0)) (sym which) in
          moves (get_or first i 0) (omega (arith, (numbers.first_in i i_low).0, paired.full)) (sym here)

      different : (i j : ℕ) → i < j → j < 2 * length first → f i ≢ f j
      different i j less l = elim (cases_lt i (length first)) as (λ _. f i ≢ f j) [
        | inl i_low ↦ elim (cases_lt j (length first)) as (λ _. f i ≢ f j) [
          | inl j_low ↦ λ same. omega (arith, less, sym (fan_low i i_low) ∙ ap fan same ∙ fan_low j j_low)
          | inr j_high ↦ apart i j i_low j_high l
        ]
        | inr i_high ↦
            λ same. omega (arith, less, i_high, sym (fan_high i i_high (omega (arith, less, l))) ∙ ap fan same ∙ fan_high j (omega (arith, i_high, less)) l)
      ]

  abbrev from : List ℕ
  from = map (start es) first

  many_from : length from ≡ length first
  many_from = length-map first (start es)

  from_below : All (λ v. v < n) from
  from_below k d low =
      let within : k < length first = omega (arith, low, many_from) in
      subst (λ v. v < n) (sym (get_or-map (start es) first k 0 d within)) (start_below n ts below (get_or first k 0) (omega (arith, (numbers.first_in k within).0, paired.full)))

  -- a fan's vertex is at the place where its half-edges start
  old_start : (h : ℕ) → h < length es → get_or from (fan h) 0 ≡ start es h
  old_start h low =
      get_or-map (start es) first (fan h) 0 0 (numbered h low) ∙ ap (start es) (numbers.leads h (among h low))
      ∙ reached_start ts three twins paired h (leader twins h) (among h low) (leads twins paired.are h)

  triples_back : map (named_by from) (over_fans of (length ts)) ≡ ts
  triples_back = same_lists (map (named_by from) (over_fans of (length ts))) ts (length-map (over_fans of (length ts)) (named_by from) ∙ length-corners fan (length ts)) each
    where
      each : (i : ℕ) (d : Triple) → i < length (map (named_by from) (over_fans of (length ts))) → get_or (map (named_by from) (over_fans of (length ts))) i d ≡ get_or ts i d
      each i d low =
          let within : i < length (over_fans of (length ts)) = omega (arith, low, length-map (over_fans of (length ts)) (named_by from)) in
          let i_low : i < length ts = omega (arith, within, length-corners fan (length ts)) in
          let halves = length-all_edges ts in
          let a = old_start (3 * i) (omega (arith, i_low, halves)) in
          let b = old_start (3 * i + 1) (omega (arith, i_low, halves)) in
          let c = old_start (3 * i + 2) (omega (arith, i_low, halves)) in
          get_or-map (named_by from) (over_fans of (length ts)) i (0, 0, 0) d within ∙ (λ j. named_by from (corner_at fan (length ts) i (0, 0, 0) i_low j))
          ∙ (λ j. (a j, b j, c j)) ∙ sym (triple_starts ts i d i_low)

  pub is_parted : IsParted n ts (parted_by n ts twins)
  is_parted = record {
    accepted = subst (λ k. IsAccepted k (over_fans of (length ts))) (sym many_from)
        (record {
          mesh = record {
            three = three_anew;
            below = below_anew;
            used = used_anew;
            few_points = omega (arith, few_fans, length-all_edges ts, can.few_triples);
            few_triples = omega (arith, length-corners fan (length ts), can.few_triples);
          };
          closed = closed_anew;
        });
    clean = clean_anew;
    once = settled.once;
    from = from_below;
    back = triples_back;
    few = omega (arith, few_fans, length-all_edges ts, many_from);
  }

pub fans_part : FansPart
fans_part points ts can =
    let n = length points in
    let twins = twins_by_angle_are_paired points ts can.three can.closed in
    is_parted n ts can _ (changes_settle n ts _ can.three can.below twins)

-- accepted triangles are such
pub can_part : (n : ℕ) (ts : List Triple) → IsAccepted n ts → CanPart n ts
can_part n ts accepted =
    record { three = accepted.mesh.three; below = accepted.mesh.below; closed = accepted.closed; few_triples = accepted.mesh.few_triples }
