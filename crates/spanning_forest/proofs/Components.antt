-- The components of the vertices that were looked at, and the forest once all were.
use Rattle.std.proofs.Common.{◌≡◌, ◌<◌, ◌≤◌, ◌+◌, ◌-◌, ℕ, zero, suc, Bool, false, List, [], ◌∷◌, ◌++◌, length, get_or, take, replicate, refl, sym, ◌∙◌, ap, subst, inl, inr, arith, length-append}
use Rattle.std.specs.List.{All, Contains}
use Rattle.std.proofs.lemmas.List.{get_or_append_left, get_or_default, get_or-append_right, get_or-replicate, get_or-take, length-take-le, length-replicate}
use Rattle.std.proofs.lemmas.List.Elements.{All-nil, All-push, All-same, Contains-get_or}
use Rattle.std.proofs.lemmas.Bool.{cases_lt}
use Rattle.chain_terms.specs.Chains.{IsClosed}
use Rattle.chain_terms.specs.Ranks.{start, finish}
use Rattle.chain_laws.specs.Ascending.{Ascends}
use Rattle.chain_laws.proofs.Ascending.{contains_later}
use Rattle.chain_laws.specs.Chains.{dir_contains, dir_some}
use Rattle.chain_laws.specs.Counts.{one_if-true}
use Rattle.component_terms.specs.Laws.{AreBelow}
use Rattle.component_terms.proofs.Counted.{only}
use Rattle.component_terms.specs.Components.{IsJoined, Here, Along as Joins, IsLeast, HasComponents}
use Rattle.spanning_forest.specs.declared.entrance.Entrance.{Entrance}
use Rattle.spanning_forest.specs.declared.entrance.Entrance.TheVariants.{Root, Along}
use Rattle.spanning_forest.specs.Forests.{entered, vertices_of, roots_of, Follows, IsSpanningForest}
use Rattle.spanning_forest.specs.Walks.{IsMarked, IsUnmarked, AreAllEntered, AreBegun, AreEntered, AreWhole, IsComponentEntered}
use Rattle.spanning_forest.proofs.Entering.{entered_marked, entered_none, marked_entered, place_of}
use Rattle.spanning_forest.proofs.Growing.{vertex_at}
use Rattle.spanning_forest.proofs.Marks.{all_marked, marked_within}

-- the vertices before v were looked at: they are entered, with all that are joined to them
pub record AreWalked (es : List (ℕ × ℕ)) (n v : ℕ) (seen : List Bool) (entrances : List Entrance) : Type 0 where
  pub entered : AreEntered es seen entrances
  pub full : length seen ≡ n
  pub whole : AreWhole es seen
  pub done : (w : ℕ) → w < v → IsMarked seen w
  pub ascending : Ascends (roots_of entrances)
  pub before : All (λ r. r < v) (roots_of entrances)
  pub least : All (IsLeast es) (roots_of entrances)

-- where all of each component is marked, a vertex is marked that is joined to a marked one
joined_marked : (es : List (ℕ × ℕ)) (seen : List Bool) (v w : ℕ) → IsClosed es → AreWhole es seen → IsJoined es v w → IsMarked seen w → IsMarked seen v
joined_marked es seen v w closed whole Here m = m
joined_marked es seen v w closed whole (Joins a b joined some) m = joined_marked es seen v a closed whole joined (whole b a m (omega (arith, some, closed a b)))

-- nothing is marked where all marks are off
none_marked : (n w : ℕ) → IsMarked (replicate n false) w → ⊥
none_marked n w m =
    let low : w < n = omega (arith, marked_within (replicate n false) w m, length-replicate n false) in
    cc (get_or-replicate n w false false low)

-- before the first vertex
pub walked_none : (es : List (ℕ × ℕ)) (n : ℕ) → AreWalked es n 0 (replicate n false) []
walked_none es n = record {
  entered = entered_none es n;
  full = length-replicate n false;
  whole = λ a b m some. absurd (none_marked n a m);
  done = λ w low. absurd (omega (arith, low));
  ascending = λ i j less low. absurd (omega (arith, low));
  before = All-nil (λ r. r < 0);
  least = All-nil (IsLeast es);
}

-- each number before v + 1 is before v or is v
done_more : (P : ℕ → Type 0) (v : ℕ) → ((w : ℕ) → w < v → P w) → P v → (w : ℕ) → w < v + 1 → P w
done_more P v before here w low = elim (cases_lt w v) as (λ _. P w) [
  | inl l ↦ before w l
  | inr g ↦ let e : v ≡ w = omega arith in subst P e here
]

-- a vertex that has a mark is passed over
pub walked_past : (es : List (ℕ × ℕ)) (n v : ℕ) (seen : List Bool) (entrances : List Entrance) → AreWalked es n v seen entrances → IsMarked seen v →
    AreWalked es n (v + 1) seen entrances
walked_past es n v seen entrances w m = record {
  entered = w.entered;
  full = w.full;
  whole = w.whole;
  done = done_more (IsMarked seen) v w.done m;
  ascending = w.ascending;
  before = λ k d low. let l = w.before k d low in omega (arith, l);
  least = w.least;
}

-- a list that ascends still does with a greater number behind it
ascends_push : (xs : List ℕ) (v : ℕ) → Ascends xs → All (λ r. r < v) xs → Ascends (xs ++ v ∷ [])
ascends_push xs v up before i j less low = elim (cases_lt j (length xs)) as (λ _. get_or (xs ++ v ∷ []) i 0 < get_or (xs ++ v ∷ []) j 0) [
  | inl l ↦ omega (arith, up i j less l, get_or_append_left xs (v ∷ []) 0 i (omega (arith, less, l)), get_or_append_left xs (v ∷ []) 0 j l)
  | inr g ↦
      let inside : i < length xs = omega (arith, less, low, length-append xs (v ∷ [])) in
      let last : j - length xs ≡ 0 = omega (arith, low, length-append xs (v ∷ [])) in
      let b = before i 0 inside in
      omega (arith, b, get_or_append_left xs (v ∷ []) 0 i inside, get_or-append_right xs (v ∷ []) (length xs) j 0 refl g, ap (λ k. get_or (v ∷ []) k 0) last)
]

-- a vertex without a mark is the least of its component
is_least : (es : List (ℕ × ℕ)) (n v : ℕ) (seen : List Bool) (entrances : List Entrance) → IsClosed es → AreWalked es n v seen entrances → IsUnmarked seen v →
    IsLeast es v
is_least es n v seen entrances closed walked free w joined = elim (cases_lt w v) as (λ _. v ≤ w) [
  | inl l ↦ let m = joined_marked es seen v w closed walked.whole joined (walked.done w l) in cc
  | inr g ↦ g
]

-- a vertex without a mark is a root, and its component is entered
pub walked_component : (es : List (ℕ × ℕ)) (n v : ℕ) (seen : List Bool) (entrances : List Entrance) (new : List Bool) (later : List Entrance) → IsClosed es →
    AreWalked es n v seen entrances → IsUnmarked seen v → IsComponentEntered es v seen entrances new later → AreWalked es n (v + 1) new later
walked_component es n v seen entrances new later closed w free m = record {
  entered = m.entered;
  full = m.full ∙ w.full;
  whole = m.whole;
  done = done_more (IsMarked new) v (λ a low. m.kept a (w.done a low)) m.here;
  ascending = subst Ascends (sym m.roots) (ascends_push (roots_of entrances) v w.ascending w.before);
  before = All-same (λ r. r < v + 1) (roots_of later) (roots_of entrances ++ v ∷ []) m.roots
      (All-push (λ r. r < v + 1) (roots_of entrances) v (λ k d low. let l = w.before k d low in omega (arith, l)) (omega arith));
  least = All-same (IsLeast es) (roots_of later) (roots_of entrances ++ v ∷ []) m.roots
      (All-push (IsLeast es) (roots_of entrances) v w.least (is_least es n v seen entrances closed w free));
}

-- the first vertex alone is a root
pub walked_first : (es : List (ℕ × ℕ)) (n : ℕ) (old : List Bool) (before : List Entrance) (new : List Bool) (later : List Entrance) → AreBegun es n old before →
    AreAllEntered es old before new later → AreWalked es n 1 new later
walked_first es n old before new later b a = record {
  entered = a.entered;
  full = a.full ∙ b.full;
  whole = a.whole;
  done = done_more (IsMarked new) 0 (λ w low. absurd (omega (arith, low))) (a.kept 0 b.first);
  ascending = one_ascends (roots_of later) (a.roots ∙ b.roots);
  before = All-same (λ r. r < 1) (roots_of later) (0 ∷ []) (a.roots ∙ b.roots) (All-push (λ r. r < 1) [] 0 (All-nil (λ r. r < 1)) (omega arith));
  least = All-same (IsLeast es) (roots_of later) (0 ∷ []) (a.roots ∙ b.roots) (All-push (IsLeast es) [] 0 (All-nil (IsLeast es)) (λ w joined. omega arith));
}
  where
    one_ascends : (xs : List ℕ) → xs ≡ 0 ∷ [] → Ascends xs
    one_ascends xs e = subst Ascends (sym e) (ascends_push [] 0 (λ i j less low. absurd (omega (arith, low))) (All-nil (λ r. r < 0)))

-- where as many were entered as there are vertices, all were
pub walked_at_once : (es : List (ℕ × ℕ)) (n : ℕ) (seen : List Bool) (entrances : List Entrance) → AreBelow n es → 0 < n → n ≤ length entrances →
    AreBegun es n seen entrances → AreWalked es n n seen entrances
walked_at_once es n seen entrances below some all b = record {
  entered = b.entered;
  full = b.full;
  whole = λ u w m led. let (h, low, at) = dir_contains es u w led in marked w (subst (λ (e : ℕ × ℕ). e.1 < n) at (below h (u, w) low).1);
  done = marked;
  ascending = subst Ascends (sym b.roots) (ascends_push [] 0 (λ i j less low. absurd (omega (arith, low))) (All-nil (λ r. r < 0)));
  before = All-same (λ r. r < n) (roots_of entrances) (0 ∷ []) b.roots (All-push (λ r. r < n) [] 0 (All-nil (λ r. r < n)) some);
  least = All-same (IsLeast es) (roots_of entrances) (0 ∷ []) b.roots (All-push (IsLeast es) [] 0 (All-nil (IsLeast es)) (λ w joined. omega arith));
}
  where
    marked : (w : ℕ) → w < n → IsMarked seen w
    marked w low = all_marked seen w (omega (arith, b.entered.as_many, b.full, all)) (omega (arith, low, b.full))

-- the same where the lists are known otherwise
pub walked_same : (es : List (ℕ × ℕ)) (n v : ℕ) (seen marks : List Bool) (entrances others : List Entrance) → seen ≡ marks → entrances ≡ others →
    AreWalked es n v marks others → AreWalked es n v seen entrances
walked_same es n v seen marks entrances others e f w = subst (λ l. AreWalked es n v l entrances) (sym e) (subst (AreWalked es n v marks) (sym f) w)

-- a root of the list is one of its roots
root_listed : (entrances : List Entrance) (i v : ℕ) → i < length entrances → get_or entrances i (Root 0) ≡ Root v → Contains (roots_of entrances) v
root_listed [] i v low is = absurd (omega (arith, low))
root_listed (e ∷ rest) zero v low is = subst (λ x. Contains (roots_of (x ∷ rest)) v) (sym is) (0, omega arith, refl)
root_listed (Root u ∷ rest) (suc i) v low is = contains_later v u (roots_of rest) (root_listed rest i v (omega (arith, low)) is)
root_listed (Along h ∷ rest) (suc i) v low is = root_listed rest i v (omega (arith, low)) is

-- each entrance follows those before it
abbrev AllFollow : List (ℕ × ℕ) → List Entrance → Type 0
AllFollow es entrances = (i : ℕ) → i < length entrances → Follows es (take i entrances) (get_or entrances i (Root 0))

-- a root that is joined to the vertex
abbrev HasRoot : List (ℕ × ℕ) → List Entrance → ℕ → Type 0
HasRoot es entrances v = (r : ℕ) × Contains (roots_of entrances) r × IsJoined es r v

-- the vertex of one entrance has a root where those of all earlier ones have
rooted : (es : List (ℕ × ℕ)) (entrances : List Entrance) (i : ℕ) → i < length entrances →
    ((j : ℕ) → j < i → HasRoot es entrances (vertex_at es entrances j)) → (e : Entrance) → get_or entrances i (Root 0) ≡ e → Follows es (take i entrances) e →
    HasRoot es entrances (vertex_at es entrances i)
rooted es entrances i inside earlier (Root v) is f = (v, root_listed entrances i v inside is, subst (IsJoined es v) (sym (ap (entered es) is)) Here)
rooted es entrances i inside earlier (Along h) is f =
    let (j, low, from) = place_of es (take i entrances) (start es h) f.1 in
    let before : j < i = omega (arith, low, length-take-le i entrances (omega (arith, inside))) in
    let same : vertex_at es entrances j ≡ start es h = ap (entered es) (sym (get_or-take i entrances j (Root 0) before)) ∙ from in
    let (r, listed, joined) = earlier j before in
    let some = dir_some es (start es h) (finish es h) (h, f.0, get_or_default es h (start es h, finish es h) (0, 0) f.0) in
    (r, listed, subst (IsJoined es r) (sym (ap (entered es) is)) (Joins (start es h) (finish es h) (subst (IsJoined es r) same joined) (omega (arith, some))))

-- so all of them have
joined_root : (es : List (ℕ × ℕ)) (entrances : List Entrance) → AllFollow es entrances → (n i : ℕ) → i < n → i < length entrances →
    HasRoot es entrances (vertex_at es entrances i)
joined_root es entrances follow zero i low inside = absurd (omega (arith, low))
joined_root es entrances follow (suc n) i low inside =
    rooted es entrances i inside
    (λ j before. joined_root es entrances follow n j (omega (arith, before, low)) (omega (arith, before, inside)))
    (get_or entrances i (Root 0)) refl (follow i inside)

-- once all vertices were looked at, the roots are the least vertices of the components
pub walked_components : (es : List (ℕ × ℕ)) (n : ℕ) (seen : List Bool) (entrances : List Entrance) → AreWalked es n n seen entrances →
    HasComponents n es (length (roots_of entrances))
walked_components es n seen entrances w = record {
  least = roots_of entrances;
  as_many = refl;
  ascending = w.ascending;
  below = w.before;
  no_lesser = w.least;
  every = λ v low.
      let (i, inside, at) = place_of es entrances v (marked_entered es seen entrances v w.entered (w.done v low)) in
      let (r, listed, joined) = joined_root es entrances w.entered.follow (i + 1) i (omega arith) inside in
      (r, listed, subst (IsJoined es r) at joined);
}

-- so they are a spanning forest
pub spanning : (es : List (ℕ × ℕ)) (n : ℕ) (seen : List Bool) (entrances : List Entrance) → AreBelow n es → AreWalked es n n seen entrances →
    IsSpanningForest n es entrances
spanning es n seen entrances below w = record {
  below = λ k d low.
      let v = get_or (vertices_of es entrances) k d in
      omega (arith, marked_within seen v (entered_marked es seen entrances v w.entered (Contains-get_or (vertices_of es entrances) k d low)), w.full);
  once = λ v low. omega (arith, w.entered.once v, one_if-true (get_or seen v false) (w.done v low));
  follow = w.entered.follow;
  least = w.least;
  ascending = w.ascending;
  components = only n es (length (roots_of entrances)) below (walked_components es n seen entrances w);
}
