-- The triangles of an extrusion have three different vertices and use all points.
use Rattle.std.proofs.Common.{◌≡◌, ◌≢◌, ℕ, ◌+◌, ◌-◌, ◌<◌, true, List, [], ◌∷◌, ◌++◌, inl, inr, map, sym, ap, ◌∙◌, arith}
use Rattle.std.specs.Prelude.{◌==◌, ◌||◌}
use Rattle.std.specs.List.{All, flat_map}
use Rattle.std.proofs.lemmas.Bool.{cases_Bool, cases_lt, eqb-true, eq-eqb, or_left, or_right}
use Rattle.std.proofs.lemmas.List.Elements.{All-append, All-cons, All-head, All-map, All-nil, All-tail}
use Rattle.std.proofs.lemmas.List.Folds.{list_any-append}
use Rattle.chain_terms.specs.Chains.{one_if}
use Rattle.chain_terms.specs.Cycles.{out}
use Rattle.chain_laws.specs.Counts.{count_by-cons}
use Rattle.chain_laws.specs.Triples.{opposite_triple, renamed_triple}
use Rattle.mesh_terms.specs.Meshes.{HasThree, IsBelow, Triple, has, is_used}
use Rattle.outline_terms.specs.Extrusion.{extruded_triples, walls}
use Rattle.outline_terms.specs.Laws.{IsSolid}

-- an edge between two different vertices below n
abbrev IsEdge : ℕ → ℕ × ℕ → Type 0
IsEdge n e = (e.0 < n) × (e.1 < n) × (e.0 ≢ e.1)

walls_three : (n : ℕ) (es : List (ℕ × ℕ)) → All (IsEdge n) es → All HasThree (flat_map (walls n) es)
walls_three n [] each = All-nil HasThree
walls_three n (e ∷ es) each =
    let k = All-head (IsEdge n) e es each in
    let a = e.0 in
    let b = e.1 in
    All-cons HasThree (a, b, b + n) ((a, b + n, a + n) ∷ flat_map (walls n) es) (record { ab = k.2; bc = λ q. omega (arith, q, k.1); ca = λ q. omega (arith, q, k.0) })
    (All-cons HasThree (a, b + n, a + n) (flat_map (walls n) es)
    (record { ab = λ q. omega (arith, q, k.0); bc = λ q. k.2 (omega (arith, q)); ca = λ q. omega (arith, q, k.0) })
    (walls_three n es (All-tail (IsEdge n) e es each)))

walls_below : (n : ℕ) (es : List (ℕ × ℕ)) → All (IsEdge n) es → All (IsBelow (n + n)) (flat_map (walls n) es)
walls_below n [] each = All-nil (IsBelow (n + n))
walls_below n (e ∷ es) each =
    let k = All-head (IsEdge n) e es each in
    let a = e.0 in
    let b = e.1 in
    All-cons (IsBelow (n + n)) (a, b, b + n) ((a, b + n, a + n) ∷ flat_map (walls n) es) (record { a = omega (arith, k.0); b = omega (arith, k.1); c = omega (arith, k.1) })
    (All-cons (IsBelow (n + n)) (a, b + n, a + n) (flat_map (walls n) es)
    (record { a = omega (arith, k.0); b = omega (arith, k.1); c = omega (arith, k.0) }) (walls_below n es (All-tail (IsEdge n) e es each)))

-- the walls use the start of each edge, and what lies above it
pub record UsesBoth (n : ℕ) (us : List Triple) (v : ℕ) : Type 0 where
  pub low : is_used us v ≡ true
  pub high : is_used us (v + n) ≡ true

walls_use : (n : ℕ) (es : List (ℕ × ℕ)) (v : ℕ) → 0 < out es v → UsesBoth n (flat_map (walls n) es) v
walls_use n [] v some = absurd (omega (arith, some))
walls_use n (e ∷ es) v some = elim (cases_Bool (e.0 == v)) as (λ _. UsesBoth n (flat_map (walls n) (e ∷ es)) v) [
  | inl y ↦
      let is = eqb-true e.0 v y in
      let one = has (e.0, e.1, e.1 + n) in
      let two = has (e.0, e.1 + n, e.0 + n) in
      let rest = flat_map (walls n) es in
      let there : two (v + n) ≡ true = or_right ((e.0 == v + n) || (e.1 + n == v + n)) (e.0 + n == v + n) (eq-eqb (e.0 + n) (v + n) (ap (λ k. k + n) is)) in
      record {
        low = or_left (one v) (two v || is_used rest v) (or_left ((e.0 == v) || (e.1 == v)) (e.1 + n == v) (or_left (e.0 == v) (e.1 == v) y));
        high = or_right (one (v + n)) (two (v + n) || is_used rest (v + n)) (or_left (two (v + n)) (is_used rest (v + n)) there);
      }
  | inr m ↦
      let r = walls_use n es v (omega (arith, some, count_by-cons (λ f. f.0 == v) e es, ap one_if m)) in
      let rest = flat_map (walls n) es in
      record {
        low = or_right (has (e.0, e.1, e.1 + n) v) (has (e.0, e.1 + n, e.0 + n) v || is_used rest v) (or_right (has (e.0, e.1 + n, e.0 + n) v) (is_used rest v) r.low);
        high = or_right (has (e.0, e.1, e.1 + n) (v + n)) (has (e.0, e.1 + n, e.0 + n) (v + n) || is_used rest (v + n))
            (or_right (has (e.0, e.1 + n, e.0 + n) (v + n)) (is_used rest (v + n)) r.high);
      }
]

-- what a last part uses, the whole does
used_behind : (xs ys : List Triple) (v : ℕ) → is_used ys v ≡ true → is_used (xs ++ ys) v ≡ true
used_behind xs ys v h = list_any-append (λ t. has t v) xs ys ∙ or_right (is_used xs v) (is_used ys v) h

pub extrusion_solid : (n : ℕ) (ts : List Triple) (es : List (ℕ × ℕ)) → All HasThree ts → All (IsBelow n) ts →
    All (λ e. (e.0 < n) × (e.1 < n) × (e.0 ≢ e.1)) es → ((v : ℕ) → v < n → 0 < out es v) → IsSolid (n + n) (extruded_triples n ts es)
extrusion_solid n ts es three below each starts =
    let bottom = map opposite_triple ts in
    let top = map (renamed_triple (λ v. v + n)) ts in
    let sides = flat_map (walls n) es in
    let behind : (v : ℕ) → is_used sides v ≡ true → is_used (extruded_triples n ts es) v ≡ true = λ v h. used_behind bottom (top ++ sides) v (used_behind top sides v h) in
    record {
      three = All-append HasThree bottom
          (top ++ sides) (All-map HasThree opposite_triple ts
          (λ k d low. let t = three k d low in record { ab = λ q. t.ca (sym q); bc = λ q. t.bc (sym q); ca = λ q. t.ab (sym q) }))
          (All-append HasThree top sides
          (All-map HasThree (renamed_triple (λ v. v + n)) ts
          (λ k d low. let t = three k d low in record { ab = λ q. t.ab (omega (arith, q)); bc = λ q. t.bc (omega (arith, q)); ca = λ q. t.ca (omega (arith, q)) }))
          (walls_three n es each));
      below = All-append (IsBelow (n + n)) bottom
          (top ++ sides) (All-map (IsBelow (n + n)) opposite_triple ts
          (λ k d low. let t = below k d low in record { a = omega (arith, t.a); b = omega (arith, t.c); c = omega (arith, t.b) }))
          (All-append (IsBelow (n + n)) top sides
          (All-map (IsBelow (n + n)) (renamed_triple (λ v. v + n)) ts
          (λ k d low. let t = below k d low in record { a = omega (arith, t.a); b = omega (arith, t.b); c = omega (arith, t.c) })) (walls_below n es each));
      used = λ v low. elim (cases_lt v n) as (λ _. is_used (extruded_triples n ts es) v ≡ true) [
        | inl l ↦ behind v (walls_use n es v (starts v l)).low
        | inr m ↦
            let w : v - n + n ≡ v = omega (arith, m) in
            behind v (ap (is_used sides) (sym w) ∙ (walls_use n es (v - n) (starts (v - n) (omega (arith, m, low)))).high)
      ];
    }
