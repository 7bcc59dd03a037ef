-- Steps along the edges of a triangle.
use Rattle.std.proofs.Common.{◌≡◌, ◌<◌, ◌+◌, ◌*◌, ◌/◌, ◌==◌, ◌&&◌, ◌⊎◌, ℕ, Bool, true, false, not, cond, List, [], ◌∷◌, ◌++◌, length, get_or, set, refl, sym, ◌∙◌, ap, subst, inl, inr, arith}
use Rattle.std.specs.List.{All, Contains, count_by}
use Rattle.std.proofs.lemmas.Bool.{cases_Bool}
use Rattle.std.proofs.lemmas.List.{get_or-map, length-map, length-set}
use Rattle.chain_terms.specs.Chains.{edges, all_edges}
use Rattle.chain_terms.specs.Ranks.{start, finish}
use Rattle.mesh_terms.specs.Meshes.{Triple, IsBelow, triple_of, triples_of}
use Rattle.chain_laws.specs.Counts.{one_if-true}
use Rattle.halfedge.proofs.Starts.{triangle_edge}
use Rattle.spanning_forest.specs.declared.entrance.Entrance.{Entrance}
use Rattle.spanning_forest.specs.declared.entrance.Entrance.TheVariants.{Root, Along}
use Rattle.spanning_forest.specs.Forests.{vertices_of, roots_of}
use Rattle.spanning_forest.specs.Walks.{leads, IsMarked, IsUnmarked, AreBegun, AreEntered, AreMore, IsFaceEntered}
use Rattle.spanning_forest.proofs.Entering.{entered_push, marked_entered, roots_push}
use Rattle.spanning_forest.proofs.Marks.{marked_here}
use Rattle.spanning_forest.proofs.Reaching.{reached_none, reached_new, reached_on}
use Rattle.spanning_forest.proofs.Spokes.{length-halves}

-- no step where the start has no mark
no_start : (seen : List Bool) (from to : ℕ) → get_or seen from false ≡ false → leads seen from to ≡ false
no_start seen from to n = ap (λ b. b && not (get_or seen to false)) n

-- nor where the end has one
no_end : (seen : List Bool) (from to : ℕ) → get_or seen to false ≡ true → leads seen from to ≡ false
no_end seen from to t = ap (λ b. get_or seen from false && not b) t ∙ never (get_or seen from false)
  where
    never : (b : Bool) → (b && false) ≡ false
    never true = refl
    never false = refl

-- else there is one
one_step : (seen : List Bool) (from to : ℕ) → get_or seen from false ≡ true → get_or seen to false ≡ false → leads seen from to ≡ true
one_step seen from to f n = ap (λ b. b && not (get_or seen to false)) f ∙ ap not n

-- after a step along an edge its end has a mark where its start had one
pub record IsLed (es : List (ℕ × ℕ)) (from to : ℕ) (seen : List Bool) (entrances : List Entrance) (new : List Bool) (later : List Entrance) : Type 0 where
  pub more : AreMore es seen entrances new later
  pub end : IsMarked seen from → IsMarked new to

-- the same of lists that are the same
led_same : (es : List (ℕ × ℕ)) (from to : ℕ) (seen : List Bool) (entrances : List Entrance) (new marks : List Bool) (later others : List Entrance) →
    new ≡ marks → later ≡ others → IsLed es from to seen entrances marks others → IsLed es from to seen entrances new later
led_same es from to seen entrances new marks later others e f l =
    subst (λ m. IsLed es from to seen entrances m later) (sym e) (subst (λ o. IsLed es from to seen entrances marks o) (sym f) l)

-- nothing is done where the start has no mark, or the end has one
stays : (es : List (ℕ × ℕ)) (from to : ℕ) (seen : List Bool) (entrances : List Entrance) (new : List Bool) (later : List Entrance) → AreEntered es seen entrances →
    leads seen from to ≡ false → new ≡ cond (leads seen from to) (set seen to true) seen → (l : List Entrance) → later ≡ cond (leads seen from to) l entrances →
    (IsMarked seen from → IsMarked seen to) → IsLed es from to seen entrances new later
stays es from to seen entrances new later are none made l grown end =
    led_same es from to seen entrances new seen later entrances (made ∙ ap (λ b. cond b (set seen to true) seen) none) (grown ∙ ap (λ b. cond b l entrances) none)
    (record { more = reached_none es seen entrances are; end = end })

-- a step along edge h
pub led : (es : List (ℕ × ℕ)) (h from to : ℕ) (seen : List Bool) (entrances : List Entrance) (new : List Bool) (later : List Entrance) → AreEntered es seen entrances →
    h < length es → start es h ≡ from → finish es h ≡ to → to < length seen → new ≡ cond (leads seen from to) (set seen to true) seen →
    later ≡ cond (leads seen from to) (entrances ++ Along h ∷ []) entrances → IsLed es from to seen entrances new later
led es h from to seen entrances new later are inside starts ends low made grown =
    elim (cases_Bool (get_or seen from false)) as (λ _. IsLed es from to seen entrances new later) [
      | inl f ↦ elim (cases_Bool (get_or seen to false)) as (λ _. IsLed es from to seen entrances new later) [
        | inl t ↦
            stays es from to seen entrances new later are (no_end seen from to t) made (entrances ++ Along h ∷ []) grown (λ _. t)
        | inr free ↦
            let made_one = one_step seen from to f free in
            let there = subst (Contains (vertices_of es entrances)) (sym starts) (marked_entered es seen entrances from are f) in
            let reached = reached_new es [] h to seen entrances seen entrances (reached_none es seen entrances are) (sym ends) free low inside there in
            led_same es from to seen entrances new (set seen to true) later (entrances ++ Along h ∷ [])
            (made ∙ ap (λ b. cond b (set seen to true) seen) made_one) (grown ∙ ap (λ b. cond b (entrances ++ Along h ∷ []) entrances) made_one)
            (record {
              more = reached_on es [] ([] ++ h ∷ []) seen entrances seen entrances (set seen to true) (entrances ++ Along h ∷ []) (reached_none es seen entrances are) reached;
              end = λ _. marked_here seen to low;
            })
      ]
      | inr n ↦
          stays es from to seen entrances new later are (no_start seen from to n) made (entrances ++ Along h ∷ []) grown (λ m. cc)
    ]

-- once round a triangle and one step more
pub led_round : (es : List (ℕ × ℕ)) (t : Triple) (s0 s1 s2 s3 s4 : List Bool) (e0 e1 e2 e3 e4 : List Entrance) → IsLed es t.0 t.1 s0 e0 s1 e1 →
    IsLed es t.1 t.2 s1 e1 s2 e2 → IsLed es t.2 t.0 s2 e2 s3 e3 → IsLed es t.0 t.1 s3 e3 s4 e4 → IsFaceEntered es t s0 e0 s4 e4
led_round es t s0 s1 s2 s3 s4 e0 e1 e2 e3 e4 p q r u = record {
  more = reached_on es [] [] s0 e0 s3 e3 s4 e4 (reached_on es [] [] s0 e0 s2 e2 s3 e3 (reached_on es [] [] s0 e0 s1 e1 s2 e2 p.more q.more) r.more) u.more;
  all = round;
}
  where
    round : IsMarked s0 t.0 ⊎ IsMarked s0 t.1 ⊎ IsMarked s0 t.2 → IsMarked s4 t.0 × IsMarked s4 t.1 × IsMarked s4 t.2
    round (inl a) =
        let b = p.end a in
        let c = q.end b in
        (u.more.kept t.0 (r.more.kept t.0 (q.more.kept t.0 (p.more.kept t.0 a))), u.more.kept t.1 (r.more.kept t.1 (q.more.kept t.1 b)), u.more.kept t.2 (r.more.kept t.2 c))
    round (inr (inl b)) =
        let at = p.more.kept t.1 b in
        let c = q.end at in
        (u.more.kept t.0 (r.end c), u.more.kept t.1 (r.more.kept t.1 (q.more.kept t.1 at)), u.more.kept t.2 (r.more.kept t.2 c))
    round (inr (inr c)) =
        let at = q.more.kept t.2 (p.more.kept t.2 c) in
        let a = r.end at in
        (u.more.kept t.0 a, u.end a, u.more.kept t.2 (r.more.kept t.2 at))

-- its vertices are below the bound of the vertices
pub face_below : (n : ℕ) (triples : List (List ℕ)) (f : ℕ) → All (IsBelow n) (triples_of triples) → f < length triples → IsBelow n (triple_of (get_or triples f []))
face_below n triples f below inside =
    subst (IsBelow n) (get_or-map triple_of triples f [] (0, 0, 0) inside) (below f (0, 0, 0) (omega (arith, inside, length-map triples triple_of)))

-- half-edge h, which is the one of its triangle at place k
pub face_edge : (triples : List (List ℕ)) (f k h : ℕ) → f < length triples → k < 3 → h ≡ 3 * f + k →
    get_or (all_edges (triples_of triples)) h (0, 0) ≡ get_or (edges (triple_of (get_or triples f []))) k (0, 0)
face_edge triples f k h inside low is =
    let at : h / 3 ≡ f = omega (arith, low, is) in
    sym (triangle_edge triples h k (omega (arith, inside, low, is)) (omega (arith, low, is))) ∙ ap (λ i. get_or (edges (triple_of (get_or triples i []))) k (0, 0)) at

-- the step along it
pub led_at : (triples : List (List ℕ)) (f k h from to : ℕ) (seen : List Bool) (entrances : List Entrance) (new : List Bool) (later : List Entrance) → f < length triples →
    k < 3 → h ≡ 3 * f + k → get_or (edges (triple_of (get_or triples f []))) k (0, 0) ≡ (from, to) → AreEntered (all_edges (triples_of triples)) seen entrances →
    to < length seen → new ≡ cond (leads seen from to) (set seen to true) seen → later ≡ cond (leads seen from to) (entrances ++ Along h ∷ []) entrances →
    IsLed (all_edges (triples_of triples)) from to seen entrances new later
led_at triples f k h from to seen entrances new later inside place is edge are low made grown =
    let es = all_edges (triples_of triples) in
    let here : get_or es h (0, 0) ≡ (from, to) = face_edge triples f k h inside place is ∙ edge in
    led es h from to seen entrances new later are (omega (arith, inside, place, is, length-halves triples)) (ap (λ (e : ℕ × ℕ). e.0) here) (ap (λ (e : ℕ × ℕ). e.1) here) low
    made grown

-- the first vertex is entered as a root
pub begun_first : (es : List (ℕ × ℕ)) (old : List Bool) (before : List Entrance) → AreEntered es old before → before ≡ [] → 0 < length old →
    AreBegun es (length old) (set old 0 true) (before ++ Root 0 ∷ [])
begun_first es old before are none low = record {
  entered = entered_push es old before (Root 0) 0 are free low refl tt;
  full = length-set old 0 true;
  first = marked_here old 0 low;
  roots = roots_push before 0 ∙ ap (λ l. roots_of l ++ 0 ∷ []) none;
}
  where
    free : IsUnmarked old 0
    free = elim (cases_Bool (get_or old 0 false)) as (λ _. IsUnmarked old 0) [
      | inl y ↦
          let zero_times : count_by (λ w. w == 0) (vertices_of es before) ≡ 0 = ap (λ l. count_by (λ w. w == 0) (vertices_of es l)) none in
          absurd (omega (arith, are.once 0, zero_times, one_if-true (get_or old 0 false) y))
      | inr n ↦ n
    ]

-- and others along edges
pub begun_on : (es : List (ℕ × ℕ)) (n : ℕ) (seen : List Bool) (entrances : List Entrance) (new : List Bool) (later : List Entrance) → AreBegun es n seen entrances →
    AreMore es seen entrances new later → AreBegun es n new later
begun_on es n seen entrances new later b m = record {
  entered = m.entered;
  full = m.full ∙ b.full;
  first = m.kept 0 b.first;
  roots = m.roots ∙ b.roots;
}
