-- Changes one after the other, told by the fans alone: none of the half-edges up to one runs as one before it.
use Rattle.std.proofs.Common.{◌≡◌, ◌≢◌, ◌<◌, ℕ, zero, suc, List, length, refl, sym, ◌∙◌, ap, subst, arith, inl, inr}
use Rattle.std.specs.Prelude.{Some}
use Rattle.std.specs.List.{All}
use Rattle.std.proofs.lemmas.Bool.{cases_eq, cases_lt}
use Rattle.chain_terms.specs.Chains.{all_edges}
use Rattle.chain_terms.specs.Ranks.{finish, start}
use Rattle.halfedge.proofs.Edges.{next_below}
use Rattle.mesh_terms.specs.Halves.{next_half}
use Rattle.mesh_terms.specs.Meshes.{HasThree, IsBelow, Triple}
use Rattle.sheet_terms.specs.Vertices.{changed, first_as, on_pair, repeated, settled_within}
use Rattle.fan_laws.specs.Laws.{fan_edges}
use Rattle.fan_laws.specs.Pairs.{ArePaired, IsChange}
use Rattle.fan_laws.proofs.Leaders.{leader, leader_reaches}
use Rattle.fan_laws.proofs.Members.{IsClear, IsRepeated, clear_none, first_before, first_not_behind, first_same, repeated_is}
use Rattle.fan_laws.proofs.Settling.{RunAlike, alike_ends, alike_from, alike_means, alike_starts, as_many, changed_paired, finer, may_change, parted}

-- none of the first n half-edges runs as one before it
abbrev pub ClearBelow : List ℕ → ℕ → Type 0
ClearBelow twins n = (g h : ℕ) → g < h → h < n → RunAlike twins g h → ⊥

pub alike_back : (twins : List ℕ) (g h : ℕ) → RunAlike twins g h → RunAlike twins h g
alike_back twins g h is = record { starts = sym is.starts; ends = sym is.ends }

pub alike_on : (twins : List ℕ) (g h k : ℕ) → RunAlike twins g h → RunAlike twins h k → RunAlike twins g k
alike_on twins g h k one other = record { starts = one.starts ∙ other.starts; ends = one.ends ∙ other.ends }

module _ (ts : List Triple) (three : All HasThree ts) (twins : List ℕ) (paired : ArePaired (all_edges ts) twins) where
  abbrev es : List (ℕ × ℕ)
  es = all_edges ts

  -- a half-edge that runs as one before it, where none before it does
  module _ (g h : ℕ) (less : g < h) (h_low : h < length es) (clear : ClearBelow twins h) (alike : RunAlike twins g h) where
    g_low : g < length es
    g_low = omega (arith, less, h_low)

    g_in : g < length twins
    g_in = omega (arith, g_low, paired.full)

    h_in : h < length twins
    h_in = omega (arith, h_low, paired.full)

    apart : g ≢ h
    apart e = omega (arith, e, less)

    starts : start es g ≡ start es h
    starts = alike_starts ts three twins paired g h g_low h_low alike.starts

    ends : finish es g ≡ finish es h
    ends = alike_ends ts three twins paired g h g_low h_low alike

    pub turn_may : IsChange twins g h
    turn_may = may_change ts three twins paired g h g_in h_in apart starts ends

    abbrev after : List ℕ
    after = changed twins (g, h)

    pub turn_paired : ArePaired es after
    turn_paired = changed_paired ts three twins paired g h g_in h_in apart starts ends

    was : (x y : ℕ) → x < length es → y < length es → RunAlike after x y → RunAlike twins x y
    was x y x_low y_low is = record {
      starts = one x y x_low y_low is.starts;
      ends = one (next_half x) (next_half y) (next_below ts x x_low) (next_below ts y y_low) is.ends;
    }
      where
        one : (x y : ℕ) → x < length es → y < length es → leader after x ≡ leader after y → leader twins x ≡ leader twins y
        one x y x_low y_low =
            finer ts three twins paired g h g_in h_in apart starts ends alike.starts alike.ends x y (omega (arith, x_low, paired.full)) (omega (arith, y_low, paired.full))

    -- once the two have changed twins, none up to it does
    pub turn_clears : ClearBelow after (suc h)
    turn_clears x y x_less y_low is =
        let x_low : x < length es = omega (arith, x_less, y_low, h_low) in
        let old = was x y x_low (omega (arith, y_low, h_low)) is in
        elim (cases_eq y h) as (λ _. ⊥) [
          | inr other ↦ clear x y x_less (omega (arith, y_low, other)) old
          | inl e ↦
              let to_h : RunAlike twins x h = subst (RunAlike twins x) e old in
              let between = alike_on twins x h g to_h (alike_back twins g h alike) in
              elim (cases_eq x g) as (λ _. ⊥) [
                | inl same ↦
                    parted ts three twins paired g h g_in h_in apart starts ends (leader_reaches twins paired.are g h h_in alike.starts)
                    (leader_reaches after turn_paired.are h g (omega (arith, g_low, turn_paired.full)) (sym (ap (leader after) (sym same) ∙ is.starts ∙ ap (leader after) e)))
                | inr differ ↦ elim (cases_lt x g) as (λ _. ⊥) [
                  | inl before ↦ clear x g before less between
                  | inr behind ↦ clear g x (omega (arith, behind, differ)) (omega (arith, x_less, e)) (alike_back twins x g between)
                ]
              ]
        ]

    module _ (n : ℕ) (below : All (IsBelow n) ts) where
      abbrev fans : List (ℕ × ℕ)
      fans = fan_edges n ts twins

      many : length fans ≡ length es
      many = as_many ts three n below twins paired

      first_low : (k : ℕ) → k < length fans → first_as fans k < length es
      first_low k k_low = omega (arith, first_not_behind fans k k_low, k_low, many)

      runs_as_first : (k : ℕ) → k < length fans → RunAlike twins k (first_as fans k)
      runs_as_first k k_low = alike_means ts three n below twins paired k (first_as fans k) (omega (arith, k_low, many)) (first_low k k_low) (first_same fans k k_low)

      first_is : first_as fans h ≡ g
      first_is =
          let not_later = first_before fans h g (alike_from ts three n below twins paired h g h_low g_low (alike_back twins g h alike)) in
          elim (cases_lt (first_as fans h) g) as (λ _. first_as fans h ≡ g) [
            | inl before ↦
                absurd (clear (first_as fans h) g before less
                (alike_back twins g (first_as fans h) (alike_on twins g h (first_as fans h) alike (runs_as_first h (omega (arith, h_low, many))))))
            | inr behind ↦ omega (arith, not_later, behind)
          ]

      -- it is what the search finds
      turn_found : repeated fans ≡ Some (g, h)
      turn_found = elim (repeated_is fans (repeated fans) refl) as (λ _. repeated fans ≡ Some (g, h)) [
        | inl p ↦ absurd (omega (arith, less, first_is, p.1 h (omega (arith, h_low, many))))
        | inr p ↦ at p.0 p.1 p.2 p.3
      ]
        where
          at : (g' h' : ℕ) → repeated fans ≡ Some (g', h') → IsRepeated fans g' h' → repeated fans ≡ Some (g, h)
          at g' h' found is = elim (cases_lt h' h) as (λ _. repeated fans ≡ Some (g, h)) [
            | inl earlier ↦
                absurd (clear g' h' is.before earlier (alike_back twins h' g' (subst (RunAlike twins h') is.first (runs_as_first h' is.below))))
            | inr not_earlier ↦ elim (cases_eq h' h) as (λ _. repeated fans ≡ Some (g, h)) [
              | inl e ↦ found ∙ (λ i. Some ((sym is.first ∙ ap (first_as fans) e ∙ first_is) i, e i))
              | inr later ↦ absurd (omega (arith, less, first_is, is.clear h (omega (arith, not_earlier, later))))
            ]
          ]

      pub turn_settles : (m : ℕ) → settled_within (suc m) n ts twins ≡ settled_within m n ts after
      turn_settles m = ap (λ r. on_pair r twins (λ q. settled_within m n ts (changed twins q))) turn_found

  -- where none does, that is the end
  module _ (clear : ClearBelow twins (length es)) (n : ℕ) (below : All (IsBelow n) ts) where
    all_clear : IsClear (fan_edges n ts twins) (length (fan_edges n ts twins))
    all_clear h h_low =
        let fans = fan_edges n ts twins in
        let many = as_many ts three n below twins paired in
        let not_behind = first_not_behind fans h h_low in
        let k = first_as fans h in
        elim (cases_eq k h) as (λ _. k ≡ h) [
          | inl e ↦ e
          | inr apart ↦
              absurd (clear k h (omega (arith, not_behind, apart)) (omega (arith, h_low, many))
              (alike_back twins h k (alike_means ts three n below twins paired h k (omega (arith, h_low, many)) (omega (arith, not_behind, h_low, many))
              (first_same fans h h_low))))
        ]

    pub end_settles : (m : ℕ) → settled_within m n ts twins ≡ twins
    end_settles zero = refl
    end_settles (suc m) = ap (λ r. on_pair r twins (λ q. settled_within m n ts (changed twins q))) (clear_none (fan_edges n ts twins) all_clear)
