-- Members of lists of numbers, and the first edge that is the same as one of a list.
use Rattle.std.proofs.Common.{◌≡◌, ◌≢◌, ◌<◌, ◌≤◌, ◌⊎◌, inl, inr, ℕ, suc, Bool, true, false, List, [], ◌∷◌, length, get_or, filter, refl, sym, ◌∙◌, ap, subst, arith}
use Rattle.std.specs.Prelude.{◌==◌, ◌&&◌, not, None, Option, Some}
use Rattle.std.specs.List.{Contains}
use Rattle.std.proofs.lemmas.Bool.{and_from, and_parts, both_ways, cases_Bool, cases_eq, cases_lt, eq-eqb, eqb-true, ne_eqb, not-true}
use Rattle.std.proofs.lemmas.List.{get_or_default}
use Rattle.std.proofs.lemmas.List.Sums.{fails_before_first, passes_at_first}
use Rattle.chain_terms.specs.Chains.{dir, is_edge, one_if}
use Rattle.chain_terms.specs.Sums.{upto}
use Rattle.chain_laws.specs.Ascending.{Ascends}
use Rattle.chain_laws.specs.Chains.{edge_is}
use Rattle.chain_laws.proofs.Ascending.{filter-ascends, head_least, kept, kept_at}
use Rattle.sheet_terms.specs.Chains.{same_edge}
use Rattle.sheet_terms.specs.Vertices.{first_as, repeated, with_first}

-- a member stands at a place, whatever the default
pub at_place : (xs : List ℕ) (z : ℕ) → Contains xs z → (i : ℕ) × (i < length xs) × (get_or xs i 0 ≡ z)
at_place xs z (i, l, e) = (i, l, get_or_default xs i 0 z l ∙ e)

-- what stands at a place is a member
pub member : (xs : List ℕ) (i : ℕ) → i < length xs → Contains xs (get_or xs i 0)
member xs i l = (i, l, get_or_default xs i (get_or xs i 0) 0 l)

-- the edge at a place
abbrev pub edge_at : List (ℕ × ℕ) → ℕ → ℕ × ℕ
edge_at es h = get_or es h (0, 0)

pub same_means : (d e : ℕ × ℕ) → same_edge d e ≡ true → (d.0 ≡ e.0) × (d.1 ≡ e.1)
same_means d e is = let p = and_parts (d.0 == e.0) (d.1 == e.1) is in (eqb-true d.0 e.0 p.0, eqb-true d.1 e.1 p.1)

pub same_from : (d e : ℕ × ℕ) → d.0 ≡ e.0 → d.1 ≡ e.1 → same_edge d e ≡ true
same_from d e p q = and_from (d.0 == e.0) (d.1 == e.1) (eq-eqb d.0 e.0 p) (eq-eqb d.1 e.1 q)

-- edges that are the same have the same tests
pub same_test : (d e f : ℕ × ℕ) → same_edge d e ≡ true → same_edge d f ≡ same_edge e f
same_test d e f is = let p = same_means d e is in λ i. (p.0 i == f.0) && (p.1 i == f.1)

module _ (es : List (ℕ × ℕ)) where
  -- the first that is the same stands there or before
  pub first_not_behind : (h : ℕ) → h < length es → first_as es h ≤ h
  first_not_behind h low = elim (cases_lt h (first_as es h)) as (λ _. first_as es h ≤ h) [
    | inl less ↦
        absurd (both_ways (same_edge (edge_at es h) (edge_at es h)) (fails_before_first (same_edge (edge_at es h)) es h (0, 0) less)
        (same_from (edge_at es h) (edge_at es h) refl refl))
    | inr more ↦ more
  ]

  -- it is the same
  pub first_same : (h : ℕ) → h < length es → same_edge (edge_at es h) (edge_at es (first_as es h)) ≡ true
  first_same h low = passes_at_first (same_edge (edge_at es h)) es (0, 0) (omega (arith, first_not_behind h low, low))

  -- and no later than any that is
  pub first_before : (h g : ℕ) → same_edge (edge_at es h) (edge_at es g) ≡ true → first_as es h ≤ g
  first_before h g same = elim (cases_lt g (first_as es h)) as (λ _. first_as es h ≤ g) [
    | inl less ↦ absurd (both_ways (same_edge (edge_at es h) (edge_at es g)) (fails_before_first (same_edge (edge_at es h)) es g (0, 0) less) same)
    | inr more ↦ more
  ]

  -- edges that are the same have one first
  pub firsts_one : (h g : ℕ) → h < length es → g < length es → same_edge (edge_at es h) (edge_at es g) ≡ true → first_as es h ≡ first_as es g
  firsts_one h g h_low g_low same =
      let p = same_means (edge_at es h) (edge_at es g) same in
      let back = same_from (edge_at es g) (edge_at es h) (sym p.0) (sym p.1) in
      omega (
        arith,
        first_before h (first_as es g) (same_test (edge_at es h) (edge_at es g) (edge_at es (first_as es g)) same ∙ first_same g g_low),
        first_before g (first_as es h) (same_test (edge_at es g) (edge_at es h) (edge_at es (first_as es h)) back ∙ first_same h h_low),
      )

  -- none of the first n edges is the same as one before it
  abbrev pub IsClear : ℕ → Type 0
  IsClear n = (h : ℕ) → h < n → first_as es h ≡ h

  -- an edge that is the same as one before it, the first such; and the first that it is the same as
  pub record IsRepeated (g h : ℕ) : Type 0 where
    pub below : h < length es
    pub first : first_as es h ≡ g
    pub before : g < h
    pub clear : IsClear h

  abbrev is_again : ℕ → Bool
  is_again h = not (first_as es h == h)

  again_means : (h : ℕ) → is_again h ≡ true → first_as es h ≢ h
  again_means h is e = both_ways (first_as es h == h) (not-true (first_as es h == h) is) (eq-eqb (first_as es h) h e)

  again_from : (h : ℕ) → first_as es h ≢ h → is_again h ≡ true
  again_from h apart = ap not (ne_eqb (first_as es h) h apart)

  -- one that is the same as one before it is in the list of these
  in_list : (h : ℕ) → h < length es → first_as es h ≢ h → Contains (filter is_again (upto (length es))) h
  in_list h low apart = kept is_again 0 (length es) h (record { low = omega arith; high = omega (arith, low); passes = again_from h apart })

  -- what the search finds
  pub repeated_is : (o : Option (ℕ × ℕ)) → repeated es ≡ o → ((o ≡ None) × IsClear (length es)) ⊎ ((g : ℕ) × (h : ℕ) × (o ≡ Some (g, h)) × IsRepeated g h)
  repeated_is o is = by (filter is_again (upto (length es))) refl is
    where
      by : (hs : List ℕ) → filter is_again (upto (length es)) ≡ hs → with_first es hs ≡ o →
          ((o ≡ None) × IsClear (length es)) ⊎ ((g : ℕ) × (h : ℕ) × (o ≡ Some (g, h)) × IsRepeated g h)
      by [] none there =
          inl (
            sym there,
            λ h low. elim (cases_eq (first_as es h) h) as (λ _. first_as es h ≡ h) [
              | inl e ↦ e
              | inr apart ↦ let c = subst (λ l. Contains l h) none (in_list h low apart) in absurd (omega (arith, c.1))
            ],
          )
      by (h ∷ hs) some there =
          let first = kept_at is_again 0 (length es) 0 (omega (arith, ap length some)) in
          let head : get_or (filter is_again (upto (length es))) 0 0 ≡ h = ap (λ l. get_or l 0 0) some in
          let low : h < length es = omega (arith, first.high, head) in
          let apart = again_means h (ap is_again (sym head) ∙ first.passes) in
          inr (
            first_as es h,
            h,
            sym there,
            record {
              below = low;
              first = refl;
              before = omega (arith, first_not_behind h low, apart);
              clear = λ k less. elim (cases_eq (first_as es k) k) as (λ _. first_as es k ≡ k) [
                | inl e ↦ e
                | inr other ↦
                    let c = subst (λ l. Contains l k) some (in_list k (omega (arith, less, low)) other) in
                    absurd (omega (arith, less, head_least h hs (subst Ascends some (filter-ascends is_again 0 (length es))) k c))
              ];
            },
          )

  -- where all are clear the search finds none
  pub clear_none : IsClear (length es) → repeated es ≡ None
  clear_none clear = elim (repeated_is (repeated es) refl) as (λ _. repeated es ≡ None) [
    | inl p ↦ p.0
    | inr p ↦ absurd (let is = p.3 in omega (arith, is.before, is.first, clear p.1 is.below))
  ]

-- a list without an edge that is another has each once
none_same : (a b : ℕ) (es : List (ℕ × ℕ)) → ((k : ℕ) → k < length es → is_edge (edge_at es k) a b ≡ false) → dir es a b ≡ 0
none_same a b [] none = refl
none_same a b (e ∷ es) none = omega (arith, ap one_if (none 0 (omega arith)), none_same a b es (λ k low. none (suc k) (omega (arith, low))))

pub once_each : (es : List (ℕ × ℕ)) → ((g h : ℕ) → g < h → h < length es → same_edge (edge_at es g) (edge_at es h) ≡ false) → (a b : ℕ) → dir es a b ≤ 1
once_each [] differ a b = omega arith
once_each (e ∷ es) differ a b =
    let rest = once_each es (λ g h less low. differ (suc g) (suc h) (omega (arith, less)) (omega (arith, low))) a b in
    elim (cases_Bool (is_edge e a b)) as (λ _. dir (e ∷ es) a b ≤ 1) [
      | inl is ↦
          let p = edge_is e a b is in
          let none = none_same a b es (λ k low. elim (cases_Bool (is_edge (edge_at es k) a b)) as (λ _. is_edge (edge_at es k) a b ≡ false) [
            | inl here ↦
                let q = edge_is (edge_at es k) a b here in
                absurd (both_ways (same_edge e (edge_at es k)) (differ 0 (suc k) (omega arith) (omega (arith, low))) (same_from e (edge_at es k) (p.0 ∙ sym q.0) (p.1 ∙ sym q.1)))
            | inr other ↦ other
          ]) in
          omega (arith, ap one_if is, none)
      | inr other ↦ omega (arith, ap one_if other, rest)
    ]

-- where none is the same as one before it, each is there once
pub clear_once : (es : List (ℕ × ℕ)) → IsClear es (length es) → (a b : ℕ) → dir es a b ≤ 1
clear_once es clear =
    once_each es (λ g h less low. elim (cases_Bool (same_edge (edge_at es g) (edge_at es h))) as (λ _. same_edge (edge_at es g) (edge_at es h) ≡ false) [
      | inl same ↦
          absurd (omega (arith, less, clear g (omega (arith, less, low)), clear h low, firsts_one es g h (omega (arith, less, low)) low same))
      | inr other ↦ other
    ])
