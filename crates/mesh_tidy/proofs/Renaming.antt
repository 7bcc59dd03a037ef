-- Triangles in which one half-edge after the other starts at another vertex.
use Rattle.std.proofs.Common.{◌≡◌, ◌≢◌, ℕ, zero, suc, ◌+◌, ◌*◌, ◌/◌, ◌%◌, ◌<◌, ◌≤◌, ◌⊎◌, inl, inr, Bool, true, false, List, [], ◌∷◌, ◌++◌, take, length, get_or, set, refl, sym, ap, subst, ◌∙◌, arith, get_or-set_same, get_or-set_other}
use Rattle.std.specs.Prelude.{cond, ◌==◌}
use Rattle.std.specs.List.{Contains}
use Rattle.std.proofs.lemmas.Bool.{both_ways, cases_Bool, cases_eq, cases_lt, eqb-true, eq-eqb, ne_eqb}
use Rattle.std.proofs.lemmas.List.{get_or_past, length-map, length-set, take_more}
use Rattle.std.proofs.lemmas.List.Elements.{Contains-push_cases}
use Rattle.chain_terms.specs.Chains.{all_edges}
use Rattle.chain_terms.specs.Ranks.{start}
use Rattle.halfedge.proofs.Edges.{length-all_edges}
use Rattle.halfedge.proofs.Starts.{start_read}
use Rattle.mesh_terms.specs.Meshes.{Triple, triple_of, triples_of}
use Rattle.tidy_terms.specs.Collapse.{merged}
use Rattle.tidy_laws.proofs.Closed.{merged_other, merged_second}
use Rattle.mesh_tidy.specs.TidySurface.{IsRenamed}

-- past the end a half-edge starts at 0
start_past : (xs : List (List ℕ)) (x : ℕ) → 3 * length xs ≤ x → start (all_edges (triples_of xs)) x ≡ 0
start_past xs x past = ap (λ (e : ℕ × ℕ). e.0) (get_or_past (all_edges (triples_of xs)) x (0, 0) (omega (arith, past, length-all_edges (triples_of xs), length-map xs triple_of)))

-- one number of one triple is written
module _ (xs : List (List ℕ)) (h v : ℕ) (t : List ℕ) (low : h < 3 * length xs) (is : t ≡ get_or xs (h / 3) []) (three : h % 3 < length t) where
  abbrev pub written : List (List ℕ)
  written = set xs (h / 3) (set t (h % 3) v)

  -- the half-edge starts there, and the others where they did
  pub start_written : start (all_edges (triples_of written)) h ≡ v
  start_written =
      start_read written h (omega (arith, low, length-set xs (h / 3) (set t (h % 3) v)))
      ∙ ap (λ l. get_or l (h % 3) 0) (get_or-set_same xs (h / 3) (set t (h % 3) v) [] (omega (arith, low))) ∙ get_or-set_same t (h % 3) v 0 three

  pub start_other : (x : ℕ) → x ≢ h → start (all_edges (triples_of written)) x ≡ start (all_edges (triples_of xs)) x
  start_other x apart = elim (cases_lt x (3 * length xs)) as (λ _. start (all_edges (triples_of written)) x ≡ start (all_edges (triples_of xs)) x) [
    | inl x_low ↦
        start_read written x (omega (arith, x_low, length-set xs (h / 3) (set t (h % 3) v))) ∙ by (cases_eq (x / 3) (h / 3)) ∙ sym (start_read xs x x_low)
    | inr past ↦ start_past written x (omega (arith, past, length-set xs (h / 3) (set t (h % 3) v))) ∙ sym (start_past xs x past)
  ]
    where
      by : (x / 3 ≡ h / 3) ⊎ (x / 3 ≢ h / 3) → get_or (get_or written (x / 3) []) (x % 3) 0 ≡ get_or (get_or xs (x / 3) []) (x % 3) 0
      by (inl e) =
          let within : x % 3 ≢ h % 3 = λ f. apart (omega (arith, e, f)) in
          ap (λ i. get_or (get_or written i []) (x % 3) 0) e ∙ ap (λ l. get_or l (x % 3) 0) (get_or-set_same xs (h / 3) (set t (h % 3) v) [] (omega (arith, low)))
          ∙ get_or-set_other t (h % 3) (x % 3) v 0 within ∙ ap (λ l. get_or l (x % 3) 0) is ∙ ap (λ i. get_or (get_or xs i []) (x % 3) 0) (sym e)
      by (inr n) = ap (λ l. get_or l (x % 3) 0) (get_or-set_other xs (h / 3) (x / 3) (set t (h % 3) v) [] n)

-- none is renamed yet
pub none_renamed : (ts : List Triple) (halves : List ℕ) (old new : ℕ) → IsRenamed ts ts (take 0 halves) old new
none_renamed ts halves old new = record { listed = λ h inside. absurd (omega (arith, inside.1)); either = λ h. inl refl }

-- one more of the half-edges
module _ (before now : List Triple) (halves : List ℕ) (i old new : ℕ) (low : i < length halves) (so_far : IsRenamed before now (take i halves) old new) where
  abbrev pub x : ℕ
  x = get_or halves i 0

  abbrev pub Listed : ℕ → Type 0
  Listed h = Contains (take (i + 1) halves) h

  before_or : (h : ℕ) → Listed h → Contains (take i halves) h ⊎ (x ≡ h)
  before_or h inside = Contains-push_cases (take i halves) x h (subst (λ l. Contains l h) (take_more halves i 0 low) inside)

  -- one that starts elsewhere stays
  pub renamed_same : start (all_edges now) x ≢ old → IsRenamed before now (take (i + 1) halves) old new
  renamed_same other = record { listed = λ h inside. listed h (before_or h inside); either = so_far.either } where
    listed : (h : ℕ) → Contains (take i halves) h ⊎ (x ≡ h) → start (all_edges now) h ≡ merged new old (start (all_edges before) h)
    listed h (inl c) = so_far.listed h c
    listed h (inr e) =
        subst (λ y. start (all_edges now) y ≡ merged new old (start (all_edges before) y)) e
        (elim (so_far.either x) as (λ _. start (all_edges now) x ≡ merged new old (start (all_edges before) x)) [
          | inl same ↦ same ∙ sym (merged_other new old (start (all_edges before) x) (λ q. other (same ∙ q)))
          | inr is ↦ is
        ])

  -- one that starts at the old vertex starts at the new one
  pub renamed_more : (after : List Triple) → start (all_edges now) x ≡ old → start (all_edges after) x ≡ new →
      ((h : ℕ) → h ≢ x → start (all_edges after) h ≡ start (all_edges now) h) → IsRenamed before after (take (i + 1) halves) old new
  renamed_more after was is others = record { listed = λ h inside. listed h (cases_eq h x) (before_or h inside); either = λ h. either h (cases_eq h x) } where
    named : start (all_edges after) x ≡ merged new old (start (all_edges before) x)
    named = is ∙ sym (merged_second new old (start (all_edges before) x) first) where
      first : start (all_edges before) x ≡ old
      first = elim (so_far.either x) as (λ _. start (all_edges before) x ≡ old) [
        | inl same ↦ sym same ∙ was
        | inr put ↦ elim (cases_eq (start (all_edges before) x) old) as (λ _. start (all_edges before) x ≡ old) [
          | inl e ↦ e
          | inr n ↦ sym (merged_other new old (start (all_edges before) x) n) ∙ sym put ∙ was
        ]
      ]

    listed : (h : ℕ) → (h ≡ x) ⊎ (h ≢ x) → Contains (take i halves) h ⊎ (x ≡ h) → start (all_edges after) h ≡ merged new old (start (all_edges before) h)
    listed h (inl e) c = subst (λ y. start (all_edges after) y ≡ merged new old (start (all_edges before) y)) (sym e) named
    listed h (inr n) (inl c) = others h n ∙ so_far.listed h c
    listed h (inr n) (inr e) = absurd (n (sym e))

    either : (h : ℕ) → (h ≡ x) ⊎ (h ≢ x) → (start (all_edges after) h ≡ start (all_edges before) h) ⊎ (start (all_edges after) h ≡ merged new old (start (all_edges before) h))
    either h (inl e) = inr (subst (λ y. start (all_edges after) y ≡ merged new old (start (all_edges before) y)) (sym e) named)
    either h (inr n) =
        elim (so_far.either h) as (λ _.
        (start (all_edges after) h ≡ start (all_edges before) h) ⊎ (start (all_edges after) h ≡ merged new old (start (all_edges before) h))) [
          | inl same ↦ inl (others h n ∙ same)
          | inr put ↦ inr (others h n ∙ put)
        ]
