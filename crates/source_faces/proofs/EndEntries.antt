-- The entries of the copies at both ends of a half-edge.
use Rattle.std.proofs.Common.{◌≡◌, ◌⊎◌, ℕ, ◌+◌, ◌<◌, ◌≤◌, inl, inr, Bool, true, false, List, ◌++◌, map, length, get_or, sym, subst, arith}
use Rattle.std.specs.Prelude.{nat_lt}
use Rattle.std.specs.List.{Contains}
use Rattle.std.proofs.lemmas.Bool.{cond_both, ltb-false, ltb-true}
use Rattle.std.proofs.lemmas.List.{map-append}
use Rattle.std.proofs.lemmas.List.Elements.{Contains-append_cases, Contains-append_left, Contains-append_right}
use Rattle.mb_base.specs.declared.results.Entry.{Entry}
use Rattle.source_faces.specs.declared.lists.runs.CopyRange.{CopyRange}
use Rattle.source_faces.specs.Agreement.{AreInOrder}
use Rattle.source_faces.specs.Entries.{run_entries}
use Rattle.source_faces.specs.ListParts.{end_entries, no_run}
use Rattle.source_faces.proofs.Rising.{Rises, rises_append, rises_higher, rises_lower}
use Rattle.source_faces.proofs.RunEntries.{run_rises}

-- the entries of both ends, whichever comes first
pub into_ends : (runs : List CopyRange) (a b : ℕ) (e : Entry) →
    Contains (run_entries (get_or runs a no_run) true) e ⊎ Contains (run_entries (get_or runs b no_run) false) e → Contains (end_entries runs a b) e
into_ends runs a b e =
    let A = run_entries (get_or runs a no_run) true in
    let B = run_entries (get_or runs b no_run) false in
    cond_both (nat_lt a b) (A ++ B) (B ++ A) (λ l. Contains A e ⊎ Contains B e → Contains l e) (λ y c. first A B e c) (λ n c. second A B e c)
  where
    first : (A B : List Entry) (e : Entry) → Contains A e ⊎ Contains B e → Contains (A ++ B) e
    first A B e (inl c) = Contains-append_left A B e c
    first A B e (inr c) = Contains-append_right A B e c

    second : (A B : List Entry) (e : Entry) → Contains A e ⊎ Contains B e → Contains (B ++ A) e
    second A B e (inl c) = Contains-append_right B A e c
    second A B e (inr c) = Contains-append_left B A e c

pub of_ends : (runs : List CopyRange) (a b : ℕ) (e : Entry) → Contains (end_entries runs a b) e →
    Contains (run_entries (get_or runs a no_run) true) e ⊎ Contains (run_entries (get_or runs b no_run) false) e
of_ends runs a b e =
    let A = run_entries (get_or runs a no_run) true in
    let B = run_entries (get_or runs b no_run) false in
    cond_both (nat_lt a b) (A ++ B) (B ++ A) (λ l. Contains l e → Contains A e ⊎ Contains B e) (λ y c. Contains-append_cases A B e c)
    (λ n c. turned A B e (Contains-append_cases B A e c))
  where
    turned : (A B : List Entry) (e : Entry) → Contains B e ⊎ Contains A e → Contains A e ⊎ Contains B e
    turned A B e (inl c) = inr c
    turned A B e (inr c) = inl c

-- they rise, by their numbers
both_rise : (k : ℕ) (r s : CopyRange) (t u : Bool) → r.first + r.count ≤ s.first → s.first + s.count ≤ k →
    Rises 0 k (map (λ e. e.vertex) (run_entries r t ++ run_entries s u))
both_rise k r s t u between last =
    let vs = map (λ (e : Entry). e.vertex) (run_entries r t) in
    let ws = map (λ (e : Entry). e.vertex) (run_entries s u) in
    let first : Rises 0 (r.first + r.count) vs = rises_lower 0 r.first (r.first + r.count) vs (omega arith) (run_rises r t) in
    let second : Rises (r.first + r.count) k ws =
    rises_lower (r.first + r.count) s.first k ws between (rises_higher s.first (s.first + s.count) k ws last (run_rises s u)) in
    subst (Rises 0 k) (sym (map-append (λ (e : Entry). e.vertex) (run_entries r t) (run_entries s u)))
    (rises_append 0 (r.first + r.count) k vs ws first second)

pub ends_rise : (k : ℕ) (runs : List CopyRange) → AreInOrder k runs → (a b : ℕ) → a < length runs → b < length runs → (a ≡ b → ⊥) →
    Rises 0 k (map (λ e. e.vertex) (end_entries runs a b))
ends_rise k runs order a b a_low b_low apart =
    let r = get_or runs a no_run in
    let s = get_or runs b no_run in
    cond_both (nat_lt a b) (run_entries r true ++ run_entries s false) (run_entries s false ++ run_entries r true)
    (λ l. Rises 0 k (map (λ e. e.vertex) l))
    (λ y. both_rise k r s true false (order.each a b (ltb-true a b y) b_low) (order.last b no_run b_low))
    (λ n. let less = ltb-false a b n in both_rise k s r false true (order.each b a (omega (arith, less, apart)) a_low) (order.last a no_run a_low))
