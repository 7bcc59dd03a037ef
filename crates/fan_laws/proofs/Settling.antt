-- Changes of twins come to an end: with each the first half-edge that runs as one before it is a later one.
use Rattle.std.proofs.Common.{◌≡◌, ◌≢◌, ◌<◌, ◌≤◌, ◌+◌, ◌*◌, inl, inr, ℕ, zero, suc, true, List, length, get_or, refl, sym, ◌∙◌, ap, subst, arith}
use Rattle.std.specs.Prelude.{Option}
use Rattle.std.specs.List.{All}
use Rattle.std.proofs.lemmas.Bool.{cases_eq, cases_lt}
use Rattle.chain_terms.specs.Chains.{all_edges}
use Rattle.chain_terms.specs.Permutations.{times}
use Rattle.chain_terms.specs.Ranks.{finish, start}
use Rattle.halfedge.proofs.Edges.{length-all_edges, next_below, next_starts, not_back}
use Rattle.mesh_terms.specs.Halves.{next_half}
use Rattle.mesh_terms.specs.Meshes.{HasThree, IsBelow, Triple}
use Rattle.pinch_split.proofs.Corners.{finish_value, length-corner_edges, start_value}
use Rattle.pinch_split.proofs.Whole.{start_below}
use Rattle.sheet_terms.specs.Chains.{same_edge}
use Rattle.sheet_terms.specs.Vertices.{around_by, changed, fans_by, first_as, on_pair, repeated, settled_within}
use Rattle.fan_laws.specs.Laws.{AreSettled, ChangesSettle, fan_edges}
use Rattle.fan_laws.specs.Pairs.{ArePaired, IsChange, Reaches}
use Rattle.fan_laws.proofs.Changes.{around_g, around_h, around_other, cases, changed_are, many, new_a, new_b, new_g, new_h, new_other, still_kept}
use Rattle.fan_laws.proofs.Cycles.{kept_where_reached, times_low}
use Rattle.fan_laws.proofs.Exchanged.{exchanged_part}
use Rattle.fan_laws.proofs.Leaders.{leader, leader_around, leader_reaches}
use Rattle.fan_laws.proofs.Members.{IsClear, IsRepeated, clear_none, clear_once, edge_at, first_not_behind, first_same, firsts_one, repeated_is, same_from, same_means}
use Rattle.fan_laws.proofs.Numbers.{are_alike, are_numbers}

-- two half-edges run between the same fans
pub record RunAlike (twins : List ℕ) (g h : ℕ) : Type 0 where
  pub starts : leader twins g ≡ leader twins h
  pub ends : leader twins (next_half g) ≡ leader twins (next_half h)

module _ (ts : List Triple) (three : All HasThree ts) where
  abbrev pub es : List (ℕ × ℕ)
  es = all_edges ts

  -- no half-edge ends where it starts
  pub no_loop : (h : ℕ) → h < length es → start es h ≢ finish es h
  no_loop h low e = not_back ts three h h low refl (e, sym e)

  module _ (twins : List ℕ) (paired : ArePaired es twins) where
    among : (h : ℕ) → h < length twins → h < length es
    among h low = omega (arith, low, paired.full)

    -- going around keeps the start
    pub around_start : (h : ℕ) → h < length twins → start es (around_by twins h) ≡ start es h
    around_start h low =
        next_starts ts (get_or twins h 0) (among (get_or twins h 0) (paired.are.below h low)) ∙ paired.to h (among h low)

    pub reached_start : (h g : ℕ) → h < length twins → Reaches twins h g → start es g ≡ start es h
    reached_start h g low to = kept_where_reached twins paired.are (start es) around_start h g low to

    -- then they run between the same places
    pub alike_starts : (g h : ℕ) → g < length es → h < length es → leader twins g ≡ leader twins h → start es g ≡ start es h
    alike_starts g h g_low h_low same =
        sym (reached_start g h (omega (arith, g_low, paired.full)) (leader_reaches twins paired.are g h (omega (arith, h_low, paired.full)) same))

    pub alike_ends : (g h : ℕ) → g < length es → h < length es → RunAlike twins g h → finish es g ≡ finish es h
    alike_ends g h g_low h_low is =
        sym (next_starts ts g g_low) ∙ alike_starts (next_half g) (next_half h) (next_below ts g g_low) (next_below ts h h_low) is.ends ∙ next_starts ts h h_low

    -- two half-edges that run alike may change twins
    module _ (g h : ℕ) (g_low : g < length twins) (h_low : h < length twins) (apart : g ≢ h)
        (starts : start es g ≡ start es h) (ends : finish es g ≡ finish es h) where
      pub may_change : IsChange twins g h
      may_change = record {
        are = paired.are;
        g_below = g_low;
        h_below = h_low;
        apart = apart;
        g_apart = λ e. no_loop g (among g g_low) (sym (ap (start es) e) ∙ paired.from g (among g g_low));
        h_apart = λ e. no_loop h (among h h_low) (sym (ap (start es) e) ∙ paired.from h (among h h_low));
        across = λ e. no_loop h (among h h_low) (sym (ap (start es) e) ∙ paired.from g (among g g_low) ∙ ends);
      }

      abbrev pub later : List ℕ
      later = changed twins (g, h)

      -- the twins are still half-edges that run back
      pub changed_paired : ArePaired es later
      changed_paired = record {
        full = many twins g h may_change ∙ paired.full;
        are = changed_are twins g h may_change;
        from = λ k low. from k (omega (arith, low, paired.full));
        to = λ k low. to k (omega (arith, low, paired.full));
      }
        where
          a : ℕ
          a = get_or twins g 0

          b : ℕ
          b = get_or twins h 0

          from : (k : ℕ) → k < length twins → start es (get_or later k 0) ≡ finish es k
          from k low =
              cases twins g h may_change k
              (λ e. ap (λ x. start es (get_or later x 0)) e ∙ ap (start es) (new_g twins g h may_change) ∙ paired.from h (among h h_low) ∙ sym ends ∙ ap (finish es) (sym e))
              (λ e. ap (λ x. start es (get_or later x 0)) e ∙ ap (start es) (new_h twins g h may_change) ∙ paired.from g (among g g_low) ∙ ends ∙ ap (finish es) (sym e))
              (λ e. ap (λ x. start es (get_or later x 0)) e ∙ ap (start es) (new_a twins g h may_change) ∙ sym starts ∙ sym (paired.to g (among g g_low)) ∙ ap (finish es) (sym e))
              (λ e. ap (λ x. start es (get_or later x 0)) e ∙ ap (start es) (new_b twins g h may_change) ∙ starts ∙ sym (paired.to h (among h h_low)) ∙ ap (finish es) (sym e))
              (λ none. ap (start es) (new_other twins g h may_change k low none) ∙ paired.from k (among k low))

          to : (k : ℕ) → k < length twins → finish es (get_or later k 0) ≡ start es k
          to k low =
              cases twins g h may_change k
              (λ e. ap (λ x. finish es (get_or later x 0)) e ∙ ap (finish es) (new_g twins g h may_change) ∙ paired.to h (among h h_low) ∙ sym starts ∙ ap (start es) (sym e))
              (λ e. ap (λ x. finish es (get_or later x 0)) e ∙ ap (finish es) (new_h twins g h may_change) ∙ paired.to g (among g g_low) ∙ starts ∙ ap (start es) (sym e))
              (λ e. ap (λ x. finish es (get_or later x 0)) e ∙ ap (finish es) (new_a twins g h may_change) ∙ sym ends ∙ sym (paired.from g (among g g_low)) ∙ ap (start es) (sym e))
              (λ e. ap (λ x. finish es (get_or later x 0)) e ∙ ap (finish es) (new_b twins g h may_change) ∙ ends ∙ sym (paired.from h (among h h_low)) ∙ ap (start es) (sym e))
              (λ none. ap (finish es) (new_other twins g h may_change k low none) ∙ paired.to k (among k low))

      -- where the two were in one fan, they no longer are
      pub parted : Reaches twins g h → Reaches later h g → ⊥
      parted (n, there) (m, back) =
          exchanged_part (around_by twins) (around_by later) g h
          (record { apart = apart; at_a = around_g twins g h may_change; at_b = around_h twins g h may_change; others = others }) n there m back
        where
          others : (i : ℕ) → times (around_by twins) i g ≢ g → times (around_by twins) i g ≢ h →
              around_by later (times (around_by twins) i g) ≡ around_by twins (times (around_by twins) i g)
          others i not_g not_h =
              let at = reached_start g (times (around_by twins) i g) g_low (i, refl) in
              around_other twins g h may_change (times (around_by twins) i g) (times_low twins paired.are i g g_low)
              (record {
                not_g = not_g;
                not_h = not_h;
                not_a = λ e. no_loop g (among g g_low) (sym at ∙ ap (start es) e ∙ paired.from g (among g g_low));
                not_b = λ e. no_loop g (among g g_low) (sym at ∙ ap (start es) e ∙ paired.from h (among h h_low) ∙ sym ends);
              })

      -- and half-edges in one fan were in one
      pub finer : leader twins g ≡ leader twins h → leader twins (next_half g) ≡ leader twins (next_half h) → (x y : ℕ) → x < length twins → y < length twins →
          leader later x ≡ leader later y → leader twins x ≡ leader twins y
      finer same same_ends x y x_low y_low one =
          let are = changed_are twins g h may_change in
          let long = many twins g h may_change in
          let a_low = paired.are.below g g_low in
          let b_low = paired.are.below h h_low in
          let a_is : leader twins (get_or twins g 0) ≡ leader twins (next_half g) =
          sym (leader_around twins paired.are (get_or twins g 0) a_low) ∙ ap (λ t. leader twins (next_half t)) (paired.are.back g g_low) in
          let b_is : leader twins (get_or twins h 0) ≡ leader twins (next_half h) =
          sym (leader_around twins paired.are (get_or twins h 0) b_low) ∙ ap (λ t. leader twins (next_half t)) (paired.are.back h h_low) in
          let kept = still_kept twins g h may_change (leader twins) (leader_around twins paired.are) same (a_is ∙ same_ends ∙ sym b_is) in
          sym (kept_where_reached later are (leader twins) (λ z low. kept z (omega (arith, low, long))) x y (omega (arith, x_low, long))
          (leader_reaches later are x y (omega (arith, y_low, long)) one))

  -- the triangles over fans
  module _ (n : ℕ) (below : All (IsBelow n) ts) where
    module _ (twins : List ℕ) (paired : ArePaired es twins) where
      abbrev pub of : List ℕ
      of = (fans_by n ts twins).of

      low_starts : (h : ℕ) → h < length es → start es h < n
      low_starts h low = start_below n ts below h low

      few : (h : ℕ) → h < length es → h < 3 * length ts
      few h low = omega (arith, low, length-all_edges ts)

      pub as_many : length (fan_edges n ts twins) ≡ length es
      as_many = length-corner_edges (λ h. get_or of h 0) (length ts) ∙ sym (length-all_edges ts)

      -- a half-edge runs from its fan to that of the next
      pub fan_start : (h : ℕ) → h < length es → start (fan_edges n ts twins) h ≡ get_or of h 0
      fan_start h low = start_value (λ g. get_or of g 0) (length ts) h (few h low)

      pub fan_finish : (h : ℕ) → h < length es → finish (fan_edges n ts twins) h ≡ get_or of (next_half h) 0
      fan_finish h low = finish_value (λ g. get_or of g 0) (length ts) h (few h low)

      -- numbers are the same where leaders are
      pub number_leader : (g h : ℕ) → g < length es → h < length es → get_or of g 0 ≡ get_or of h 0 → leader twins g ≡ leader twins h
      number_leader g h g_low h_low same =
          let numbers = are_numbers n es twins paired.are paired.full low_starts in
          let first = (fans_by n ts twins).first in
          sym (numbers.leads g (omega (arith, g_low, paired.full))) ∙ ap (λ k. get_or first k 0) same ∙ numbers.leads h (omega (arith, h_low, paired.full))

      pub leader_number : (g h : ℕ) → g < length es → h < length es → leader twins g ≡ leader twins h → get_or of g 0 ≡ get_or of h 0
      leader_number g h g_low h_low same =
          (are_alike n es twins paired.are paired.full low_starts).one g h (omega (arith, g_low, paired.full)) (omega (arith, h_low, paired.full)) same

      pub alike_means : (g h : ℕ) → g < length es → h < length es → same_edge (edge_at (fan_edges n ts twins) g) (edge_at (fan_edges n ts twins) h) ≡ true → RunAlike twins g h
      alike_means g h g_low h_low same =
          let p = same_means (edge_at (fan_edges n ts twins) g) (edge_at (fan_edges n ts twins) h) same in
          record {
            starts = number_leader g h g_low h_low (sym (fan_start g g_low) ∙ p.0 ∙ fan_start h h_low);
            ends = number_leader (next_half g) (next_half h) (next_below ts g g_low) (next_below ts h h_low) (sym (fan_finish g g_low) ∙ p.1 ∙ fan_finish h h_low);
          }

      pub alike_from : (g h : ℕ) → g < length es → h < length es → RunAlike twins g h → same_edge (edge_at (fan_edges n ts twins) g) (edge_at (fan_edges n ts twins) h) ≡ true
      alike_from g h g_low h_low is =
          same_from (edge_at (fan_edges n ts twins) g) (edge_at (fan_edges n ts twins) h)
          (fan_start g g_low ∙ leader_number g h g_low h_low is.starts ∙ sym (fan_start h h_low))
          (fan_finish g g_low ∙ leader_number (next_half g) (next_half h) (next_below ts g g_low) (next_below ts h h_low) is.ends ∙ sym (fan_finish h h_low))

      -- the change at the first half-edge that runs as one before it
      module _ (g h : ℕ) (is : IsRepeated (fan_edges n ts twins) g h) where
        pub h_low : h < length es
        h_low = omega (arith, is.below, as_many)

        pub g_low : g < length es
        g_low = omega (arith, is.before, h_low)

        alike : RunAlike twins h g
        alike =
            alike_means h g h_low g_low
            (subst (λ j. same_edge (edge_at (fan_edges n ts twins) h) (edge_at (fan_edges n ts twins) j) ≡ true) is.first (first_same (fan_edges n ts twins) h is.below))

        abbrev pub after : List ℕ
        after = changed twins (g, h)

        g_in : g < length twins
        g_in = omega (arith, g_low, paired.full)

        h_in : h < length twins
        h_in = omega (arith, h_low, paired.full)

        differ : g ≢ h
        differ e = omega (arith, e, is.before)

        starts : start es g ≡ start es h
        starts = alike_starts twins paired g h g_low h_low (sym alike.starts)

        ends : finish es g ≡ finish es h
        ends = sym (alike_ends twins paired h g h_low g_low alike)

        pub change_may : IsChange twins g h
        change_may = may_change twins paired g h g_in h_in differ starts ends

        pub change_paired : ArePaired es after
        change_paired = changed_paired twins paired g h g_in h_in differ starts ends

        change_finer : (x y : ℕ) → x < length es → y < length es → leader after x ≡ leader after y → leader twins x ≡ leader twins y
        change_finer x y x_low y_low =
            finer twins paired g h g_in h_in differ starts ends (sym alike.starts) (sym alike.ends) x y (omega (arith, x_low, paired.full)) (omega (arith, y_low, paired.full))

        change_parts : leader after g ≡ leader after h → ⊥
        change_parts one =
            parted twins paired g h g_in h_in differ starts ends (leader_reaches twins paired.are g h h_in (sym alike.starts))
            (leader_reaches after change_paired.are h g (omega (arith, g_low, change_paired.full)) (sym one))

    -- after the change none up to h runs as one before it
    module _ (twins : List ℕ) (paired : ArePaired es twins) (g h : ℕ) (is : IsRepeated (fan_edges n ts twins) g h) where
      abbrev now : List ℕ
      now = changed twins (g, h)

      is_paired : ArePaired es now
      is_paired = change_paired twins paired g h is

      pub clear_further : IsClear (fan_edges n ts now) (suc h)
      clear_further k less = elim (cases_eq (first_as (fan_edges n ts now) k) k) as (λ _. first_as (fan_edges n ts now) k ≡ k) [
        | inl e ↦ e
        | inr apart ↦ absurd (by (first_as (fan_edges n ts now) k) refl apart)
      ]
        where
          k_low : k < length es
          k_low = omega (arith, less, h_low twins paired g h is)

          k_in : k < length (fan_edges n ts now)
          k_in = omega (arith, k_low, as_many now is_paired)

          old_in : k < length (fan_edges n ts twins)
          old_in = omega (arith, k_low, as_many twins paired)

          by : (j : ℕ) → first_as (fan_edges n ts now) k ≡ j → first_as (fan_edges n ts now) k ≢ k → ⊥
          by j j_is apart =
              let j_less : j < k = omega (arith, first_not_behind (fan_edges n ts now) k k_in, j_is, apart) in
              let j_low : j < length es = omega (arith, j_less, k_low) in
              let j_old : j < length (fan_edges n ts twins) = omega (arith, j_low, as_many twins paired) in
              let alike = alike_means now is_paired k j k_low j_low
              (subst (λ i. same_edge (edge_at (fan_edges n ts now) k) (edge_at (fan_edges n ts now) i) ≡ true) j_is (first_same (fan_edges n ts now) k k_in)) in
              let was_starts = change_finer twins paired g h is k j k_low j_low alike.starts in
              let was_ends = change_finer twins paired g h is (next_half k) (next_half j) (next_below ts k k_low) (next_below ts j j_low) alike.ends in
              let same = alike_from twins paired k j k_low j_low (record { starts = was_starts; ends = was_ends }) in
              let one = firsts_one (fan_edges n ts twins) k j old_in j_old same in
              elim (cases_eq k h) as (λ _. ⊥) [
                | inl e ↦
                    let at_g : j ≡ g = sym (is.clear j (omega (arith, j_less, e))) ∙ sym one ∙ ap (first_as (fan_edges n ts twins)) e ∙ is.first in
                    change_parts twins paired g h is (ap (leader now) (sym at_g) ∙ sym alike.starts ∙ ap (leader now) e)
                | inr other ↦ omega (arith, j_less, is.clear k (omega (arith, less, other)), is.clear j (omega (arith, j_less, less)), one)
              ]

    -- where none runs as one before it, they have come to an end
    done : (twins : List ℕ) → ArePaired es twins → IsClear (fan_edges n ts twins) (length (fan_edges n ts twins)) → AreSettled n ts twins
    done twins paired all = record { paired = paired; none = clear_none (fan_edges n ts twins) all; once = clear_once (fan_edges n ts twins) all }

    -- so they do come to an end
    pub settles : (m i : ℕ) → length es ≤ i + m → (twins : List ℕ) → ArePaired es twins → IsClear (fan_edges n ts twins) i → AreSettled n ts (settled_within m n ts twins)
    settles zero i enough twins paired clear = done twins paired (λ h low. clear h (omega (arith, low, enough, as_many twins paired)))
    settles (suc m) i enough twins paired clear = by (repeated (fan_edges n ts twins)) refl (settles m)
      where
        abbreviated : Option (ℕ × ℕ) → List ℕ
        abbreviated r = on_pair r twins (λ q. settled_within m n ts (changed twins q))

        by : (o : Option (ℕ × ℕ)) → repeated (fan_edges n ts twins) ≡ o →
            ((i : ℕ) → length es ≤ i + m → (twins : List ℕ) → ArePaired es twins → IsClear (fan_edges n ts twins) i → AreSettled n ts (settled_within m n ts twins)) →
            AreSettled n ts (settled_within (suc m) n ts twins)
        by o is rest = elim (repeated_is (fan_edges n ts twins) o is) as (λ _. AreSettled n ts (settled_within (suc m) n ts twins)) [
          | inl p ↦ subst (AreSettled n ts) (sym (ap abbreviated (is ∙ p.0))) (done twins paired p.1)
          | inr p ↦
              let g = p.0 in
              let h = p.1 in
              let found = p.3 in
              let not_less : i ≤ h = elim (cases_lt h i) as (λ _. i ≤ h) [
                | inl less ↦ absurd (omega (arith, found.before, found.first, clear h less))
                | inr more ↦ more
              ] in
              subst (AreSettled n ts) (sym (ap abbreviated (is ∙ p.2)))
              (rest (suc h) (omega (arith, enough, not_less)) (changed twins (g, h)) (change_paired twins paired g h found) (clear_further twins paired g h found))
        ]

pub changes_settle : ChangesSettle
changes_settle n ts twins three below paired =
    settles ts three n below (length twins) 0 (omega (arith, paired.full)) twins paired (λ h low. absurd (omega (arith, low)))
