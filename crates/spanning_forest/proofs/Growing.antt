-- The walk: what was entered while it goes on.
use Rattle.std.proofs.Common.{◌≡◌, ◌<◌, ◌≤◌, ◌+◌, ℕ, Bool, true, List, [], ◌∷◌, ◌++◌, length, get_or, map, set, refl, sym, ◌∙◌, ap, subst, inl, inr, arith, length-append}
use Rattle.std.specs.List.{All, Contains}
use Rattle.std.proofs.lemmas.Bool.{cases_lt}
use Rattle.std.proofs.lemmas.List.{get_or_append_left, get_or_default, length-set}
use Rattle.std.proofs.lemmas.List.Elements.{All-contains, All-weaker}
use Rattle.chain_terms.specs.Chains.{dir}
use Rattle.chain_terms.specs.Ranks.{start, finish}
use Rattle.chain_terms.specs.Sums.{upto}
use Rattle.places_by_key.specs.Buckets.{places_of}
use Rattle.spanning_forest.specs.declared.entrance.Entrance.{Entrance}
use Rattle.spanning_forest.specs.declared.entrance.Entrance.TheVariants.{Root}
use Rattle.spanning_forest.specs.Forests.{entered, vertices_of, roots_of}
use Rattle.spanning_forest.specs.Walks.{starts_of, IsMarked, AreAllEntered, AreEntered, AreLeft, AreReached, AreWhole, IsComponentEntered}
use Rattle.spanning_forest.proofs.Entering.{entered_at, entered_marked, marked_entered, place_of, roots_push}
use Rattle.spanning_forest.proofs.Marks.{marked_here, marked_kept, marked_within}
use Rattle.spanning_forest.proofs.Spokes.{IsSpoke, all_spokes, read_spokes, spoke_to}

-- the vertex entered at a place
abbrev pub vertex_at : List (ℕ × ℕ) → List Entrance → ℕ → ℕ
vertex_at es entrances i = entered es (get_or entrances i (Root 0))

-- no new root, and the edges from the vertices that were entered at the first places end at marked ones
pub record IsGrowing (es : List (ℕ × ℕ)) (old : List Bool) (before : List Entrance) (seen : List Bool) (entrances : List Entrance) (next : ℕ) : Type 0 where
  pub entered : AreEntered es seen entrances
  pub full : length seen ≡ length old
  pub kept : (w : ℕ) → IsMarked old w → IsMarked seen w
  pub within : next ≤ length entrances
  pub left : AreLeft es seen entrances next
  pub roots : roots_of entrances ≡ roots_of before

-- earlier places keep their vertices
vertex_kept : (es : List (ℕ × ℕ)) (before more : List Entrance) (i : ℕ) → i < length before → vertex_at es (before ++ more) i ≡ vertex_at es before i
vertex_kept es before more i low = ap (entered es) (get_or_append_left before more (Root 0) i low)

-- the walk begins
pub growing_begins : (es : List (ℕ × ℕ)) (old : List Bool) (before : List Entrance) (next : ℕ) → AreEntered es old before → next ≤ length before →
    AreLeft es old before next → IsGrowing es old before old before next
growing_begins es old before next are low left = record {
  entered = are;
  full = refl;
  kept = λ w m. m;
  within = low;
  left = left;
  roots = refl;
}

-- with a root behind whole components, all before it are left
pub left_before : (es : List (ℕ × ℕ)) (v : ℕ) (old : List Bool) (before : List Entrance) → AreEntered es old before → AreWhole es old →
    AreLeft es (set old v true) (before ++ Root v ∷ []) (length before)
left_before es v old before are whole i b l some =
    let a = vertex_at es before i in
    let some_before : 0 < dir es a b = subst (λ n. 0 < dir es n b) (vertex_kept es before (Root v ∷ []) i l) some in
    marked_kept old v b (whole a b (entered_marked es old before a are (entered_at es before i l)) some_before)

-- the vertex that comes next is left by all its edges
pub growing_goes_on : (es : List (ℕ × ℕ)) (x : ℕ) (old : List Bool) (before : List Entrance) (seen : List Bool) (entrances : List Entrance) (next : ℕ)
    (new : List Bool) (later : List Entrance) → IsGrowing es old before seen entrances next → next < length entrances → x ≡ vertex_at es entrances next →
    AreReached es (places_of (starts_of es) x) seen entrances new later → IsGrowing es old before new later (next + 1)
growing_goes_on es x old before seen entrances next new later g low is r = record {
  entered = r.entered;
  full = r.full ∙ g.full;
  kept = λ w m. r.kept w (g.kept w m);
  within = omega (arith, low, ap length r.grown, length-append entrances r.more);
  left = λ i b l some. elim (cases_lt i next) as (λ _. IsMarked new b) [
    | inl before_next ↦ r.kept b (g.left i b before_next (subst (λ n. 0 < dir es n b) (kept_at i (omega (arith, before_next, low))) some))
    | inr at_next ↦
        let here : next ≡ i = omega (arith, at_next, l) in
        let from : vertex_at es later i ≡ x = kept_at i (omega (arith, here, low)) ∙ ap (vertex_at es entrances) (sym here) ∙ sym is in
        marked_end b (subst (λ n. 0 < dir es n b) from some)
  ];
  roots = r.roots ∙ g.roots;
}
  where
    kept_at : (i : ℕ) → i < length entrances → vertex_at es later i ≡ vertex_at es entrances i
    kept_at i l = ap (λ es_later. vertex_at es es_later i) r.grown ∙ vertex_kept es entrances r.more i l

    marked_end : (b : ℕ) → 0 < dir es x b → IsMarked new b
    marked_end b some =
        let (h, inside, at) = spoke_to es x b some in
        subst (IsMarked new) at (All-contains (λ k. IsMarked new (finish es k)) (places_of (starts_of es) x) h r.ends inside)

-- with all of them left all is entered that edges lead to
pub growing_ends : (es : List (ℕ × ℕ)) (old : List Bool) (before : List Entrance) (seen : List Bool) (entrances : List Entrance) (next : ℕ) →
    IsGrowing es old before seen entrances next → length entrances ≤ next → AreAllEntered es old before seen entrances
growing_ends es old before seen entrances next g all = record {
  entered = g.entered;
  full = g.full;
  kept = g.kept;
  whole = λ a b m some.
      let (i, low, at) = place_of es entrances a (marked_entered es seen entrances a g.entered m) in
      g.left i b (omega (arith, low, all)) (subst (λ n. 0 < dir es n b) (sym at) some);
  roots = g.roots;
}

-- so from a root its component is entered
pub component_entered : (es : List (ℕ × ℕ)) (v : ℕ) (old : List Bool) (before : List Entrance) (new : List Bool) (entrances : List Entrance) → v < length old →
    AreAllEntered es (set old v true) (before ++ Root v ∷ []) new entrances → IsComponentEntered es v old before new entrances
component_entered es v old before new entrances low a = record {
  entered = a.entered;
  full = a.full ∙ length-set old v true;
  kept = λ w m. a.kept w (marked_kept old v w m);
  here = a.kept v (marked_here old v low);
  whole = a.whole;
  roots = a.roots ∙ roots_push before v;
}

-- the vertex of the next entrance has a place
pub next_below : (es : List (ℕ × ℕ)) (old : List Bool) (before : List Entrance) (seen : List Bool) (entrances : List Entrance) (next : ℕ) →
    IsGrowing es old before seen entrances next → next < length entrances → vertex_at es entrances next < length old
next_below es old before seen entrances next g low =
    let a = vertex_at es entrances next in
    omega (arith, marked_within seen a (entered_marked es seen entrances a g.entered (entered_at es entrances next low)), g.full)

-- its spokes start at a vertex that was entered
pub next_starts : (es : List (ℕ × ℕ)) (entrances : List Entrance) (next x : ℕ) → next < length entrances → x ≡ vertex_at es entrances next →
    All (λ h. Contains (vertices_of es entrances) (start es h)) (places_of (starts_of es) x)
next_starts es entrances next x low is =
    let WasEntered = Contains (vertices_of es entrances) in
    let there = subst WasEntered (sym is) (entered_at es entrances next low) in
    All-weaker (IsSpoke es x) (λ h. WasEntered (start es h)) (λ h s. subst WasEntered (sym s.from) there) (places_of (starts_of es) x) (all_spokes es x)

-- what is read as the next entrance enters the next vertex
pub next_read : (es : List (ℕ × ℕ)) (entrances : List Entrance) (next x : ℕ) (read : Entrance) → next < length entrances → read ≡ get_or entrances next read →
    x ≡ entered es read → x ≡ vertex_at es entrances next
next_read es entrances next x read low there is = is ∙ ap (entered es) (there ∙ get_or_default entrances next read (Root 0) low)

-- what is read as its bucket are its spokes
pub next_spokes : (es : List (ℕ × ℕ)) (x : ℕ) (old : List Bool) (before : List Entrance) (seen : List Bool) (entrances : List Entrance) (next : ℕ)
    (spokes : List (List ℕ)) (bucket : List ℕ) → IsGrowing es old before seen entrances next → next < length entrances → x ≡ vertex_at es entrances next →
    spokes ≡ map (places_of (starts_of es)) (upto (length old)) → bucket ≡ get_or spokes x [] → bucket ≡ places_of (starts_of es) x
next_spokes es x old before seen entrances next spokes bucket g low is gathered read =
    read_spokes es (length old) x spokes bucket (omega (arith, is, next_below es old before seen entrances next g low)) gathered read
