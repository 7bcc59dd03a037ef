-- The edges without a mark, as marks are set.
use Rattle.std.proofs.Common.{◌≡◌, ◌≤◌, ◌<◌, ℕ, zero, suc, List, [], ◌∷◌, Bool, true, false, ◌==◌, length, get_or, set, replicate, refl, ap, subst, arith, inl, inr, None}
use Rattle.std.proofs.lemmas.Bool.{eq-eqb, false_from_ne_true, eqb-true, cases_Bool, both_ways}
use Rattle.std.proofs.lemmas.List.Elements.{Contains-get_or}
use Rattle.chain_terms.specs.Cycles.{out, end_from}
use Rattle.chain_terms.specs.Ranks.{start}
use Rattle.chain_laws.specs.Counts.{count_by-cons, one_if-true}
use Rattle.chain_laws.specs.Firsts.{counted}
use Rattle.face_loops.specs.Trails.{left, GoesOn}

-- without marks all edges are left
pub left-none : (es : List (ℕ × ℕ)) (n : ℕ) → length es ≡ n → left es (replicate n false) ≡ es
left-none [] n h = refl
left-none (e ∷ es) zero h = absurd (omega (arith, h))
left-none (e ∷ es) (suc n) h = ap (λ l. e ∷ l) (left-none es n (omega (arith, h)))

-- with all marks none is left
pub left-all : (es : List (ℕ × ℕ)) (used : List Bool) → ((k : ℕ) → k < length es → get_or used k false ≡ true) → left es used ≡ []
left-all [] used h = refl
left-all (e ∷ es) [] h = refl
left-all (e ∷ es) (u ∷ used) h = rw (h 0 (omega arith)) (left-all es used (λ k l. h (suc k) (omega (arith, l))))

-- the first edge without a mark
pub left-first : (es : List (ℕ × ℕ)) (used : List Bool) (i : ℕ) → length used ≡ length es → i < length es → ((k : ℕ) → k < i → get_or used k false ≡ true) →
    get_or used i false ≡ false →
    left es used ≡ get_or es i (0, 0) ∷ left es (set used i true)
left-first [] used i full within before here = absurd (omega (arith, within))
left-first (e ∷ es) [] i full within before here = absurd (omega (arith, full))
left-first (e ∷ es) (u ∷ used) zero full within before here = rw here refl
left-first (e ∷ es) (u ∷ used) (suc i) full within before here =
    rw (before 0 (omega arith)) (left-first es used i (omega (arith, full)) (omega (arith, within)) (λ k l. before (suc k) (omega (arith, l))) here)

-- where an edge starts at v, some are counted
starts_there : (es : List (ℕ × ℕ)) (v place : ℕ) → place < length es → start es place ≡ v → 0 < out es v
starts_there es v place within here =
    counted (λ e. e.0 == v) (get_or es place (0, 0)) es (Contains-get_or es place (0, 0) within) (eq-eqb (start es place) v here)

-- so no other edge starts there where one alone does
other_start : (e : ℕ × ℕ) (es : List (ℕ × ℕ)) (v place : ℕ) → out (e ∷ es) v ≤ 1 → place < length es → start es place ≡ v → (e.0 == v) ≡ false
other_start e es v place once within here =
    false_from_ne_true (e.0 == v) (λ y. absurd (omega (arith, once, starts_there es v place within here, count_by-cons (λ d. d.0 == v) e es, one_if-true (e.0 == v) y)))

-- an edge in front that starts elsewhere, with or without a mark
goes_later : (e : ℕ × ℕ) (es : List (ℕ × ℕ)) (u : Bool) (used : List Bool) (v i : ℕ) → (e.0 == v) ≡ false → GoesOn es used v i → GoesOn (e ∷ es) (u ∷ used) v (suc i)
goes_later e es true used v i other g = record { within = omega (arith, g.within); from = g.from; goes = g.goes; rest = g.rest }
goes_later e es false used v i other g =
    record { within = omega (arith, g.within); from = g.from; goes = rw other g.goes; rest = rw other (ap (λ l. e ∷ l) g.rest) }

-- the only edge from v, where it has no mark
pub goes_on : (es : List (ℕ × ℕ)) (used : List Bool) (v i : ℕ) → length used ≡ length es → i < length es → get_or used i false ≡ false → start es i ≡ v →
    out es v ≤ 1 → GoesOn es used v i
goes_on [] used v i full within free here once = absurd (omega (arith, within))
goes_on (e ∷ es) [] v i full within free here once = absurd (omega (arith, full))
goes_on (e ∷ es) (u ∷ used) v zero full within free here once =
    let y = eq-eqb e.0 v here in
    rw free (record { within = omega arith; from = here; goes = rw y refl; rest = rw y refl })
goes_on (e ∷ es) (u ∷ used) v (suc i) full within free here once =
    let other = other_start e es v i once (omega (arith, within)) here in
    goes_later e es u used v i other
    (goes_on es used v i (omega (arith, full)) (omega (arith, within)) free here (omega (arith, once, count_by-cons (λ d. d.0 == v) e es)))

-- where each edge from v has a mark, none goes on
pub none_goes_on : (es : List (ℕ × ℕ)) (used : List Bool) (v : ℕ) → ((k : ℕ) → k < length es → start es k ≡ v → get_or used k false ≡ true) → end_from v (left es used) ≡ None
none_goes_on [] used v h = refl
none_goes_on (e ∷ es) [] v h = refl
none_goes_on (e ∷ es) (u ∷ used) v h =
    let rest = none_goes_on es used v (λ k l. h (suc k) (omega (arith, l))) in
    elim (cases_Bool u) as (λ _. end_from v (left (e ∷ es) (u ∷ used)) ≡ None) [
      | inl y ↦ rw y rest
      | inr n ↦
          let other : (e.0 == v) ≡ false = false_from_ne_true (e.0 == v) (λ y. let marked : u ≡ true = h 0 (omega arith) (eqb-true e.0 v y) in both_ways u n marked) in
          rw n (rw other rest)
    ]

-- where one edge alone starts at v, it stands at one place
one_start : (es : List (ℕ × ℕ)) (v i k : ℕ) → out es v ≤ 1 → i < length es → start es i ≡ v → k < length es → start es k ≡ v → i ≡ k
one_start [] v i k once within here below there = absurd (omega (arith, within))
one_start (e ∷ es) v zero zero once within here below there = refl
one_start (e ∷ es) v zero (suc k) once within here below there = absurd (both_ways (e.0 == v) (other_start e es v k once (omega (arith, below)) there) (eq-eqb e.0 v here))
one_start (e ∷ es) v (suc i) zero once within here below there = absurd (both_ways (e.0 == v) (other_start e es v i once (omega (arith, within)) here) (eq-eqb e.0 v there))
one_start (e ∷ es) v (suc i) (suc k) once within here below there =
    ap suc (one_start es v i k (omega (arith, once, count_by-cons (λ d. d.0 == v) e es)) (omega (arith, within)) here (omega (arith, below)) there)

-- so where it has a mark, none goes on
pub marked_alone : (es : List (ℕ × ℕ)) (used : List Bool) (v i : ℕ) → i < length es → get_or used i false ≡ true → start es i ≡ v → out es v ≤ 1 → end_from v (left es used) ≡ None
marked_alone es used v i within taken here once =
    none_goes_on es used v (λ k below there. subst (λ j. get_or used j false ≡ true) (one_start es v i k once within here below there) taken)
