-- Records by the numbers of their lists: at the front, and in groups.
use Rattle.std.proofs.Common.{◌≡◌, ℕ, zero, suc, ◌+◌, ◌<◌, ◌≤◌, true, cond, ◌==◌, List, [], ◌∷◌, ◌++◌, map, filter}
use Rattle.std.proofs.Common.{take, drop, refl, sym, ap, ◌∙◌, arith, inl, inr}
use Rattle.std.specs.List.{All}
use Rattle.std.proofs.lemmas.Bool.{cases_eq, cond_both, eq-eqb, eqb-true, ne_eqb}
use Rattle.std.proofs.lemmas.List.{take-append-drop}
use Rattle.std.proofs.lemmas.List.Elements.{All-drop, All-head, All-tail, All-weaker, filter_passes}
use Rattle.chain_terms.specs.Sums.{up_from}
use Rattle.source_faces.specs.declared.lists.stands.Stand.{Stand}
use Rattle.source_faces.specs.Entries.{list_count}
use Rattle.source_faces.specs.ListParts.{front, groups, rest, with_stand}

-- the records of a list
abbrev pub of_list : ℕ → List Stand → List Stand
of_list l ss = filter (λ s. s.list == l) ss

-- the numbers of the lists do not fall, from k on
abbrev pub Steps : ℕ → List Stand → Type 0
Steps k [] = Unit {0}
Steps k (s ∷ ss) = (k ≤ s.list) × Steps s.list ss

pub steps_lower : (j k : ℕ) (ss : List Stand) → j ≤ k → Steps k ss → Steps j ss
steps_lower j k [] l h = tt
steps_lower j k (s ∷ ss) l h = let low = h.0 in (omega (arith, l, low), h.1)

-- one record more, of the list or of another
of_list_same : (l : ℕ) (s : Stand) (ss : List Stand) → s.list ≡ l → of_list l (s ∷ ss) ≡ s ∷ of_list l ss
of_list_same l s ss e = ap (λ b. cond b (s ∷ of_list l ss) (of_list l ss)) (eq-eqb s.list l e)

of_list_other : (l : ℕ) (s : Stand) (ss : List Stand) → (s.list ≡ l → ⊥) → of_list l (s ∷ ss) ≡ of_list l ss
of_list_other l s ss d = ap (λ b. cond b (s ∷ of_list l ss) (of_list l ss)) (ne_eqb s.list l d)

-- none are of a list before the first
of_list_none : (l k : ℕ) (ss : List Stand) → l < k → Steps k ss → of_list l ss ≡ []
of_list_none l k [] below h = refl
of_list_none l k (s ∷ ss) below h =
    let low = h.0 in of_list_other l s ss (λ e. omega (arith, below, low, e)) ∙ of_list_none l s.list ss (omega (arith, below, low)) h.1

-- what follows one record at the front
front_same : (l : ℕ) (s : Stand) (ss : List Stand) → s.list ≡ l → front (s ∷ ss) l ≡ s ∷ front ss l
front_same l s ss e = ap (λ b. take (cond b (suc (list_count ss l)) 0) (s ∷ ss)) (eq-eqb s.list l e)

front_other : (l : ℕ) (s : Stand) (ss : List Stand) → (s.list ≡ l → ⊥) → front (s ∷ ss) l ≡ []
front_other l s ss d = ap (λ b. take (cond b (suc (list_count ss l)) 0) (s ∷ ss)) (ne_eqb s.list l d)

rest_same : (l : ℕ) (s : Stand) (ss : List Stand) → s.list ≡ l → rest (s ∷ ss) l ≡ rest ss l
rest_same l s ss e = ap (λ b. drop (cond b (suc (list_count ss l)) 0) (s ∷ ss)) (eq-eqb s.list l e)

rest_other : (l : ℕ) (s : Stand) (ss : List Stand) → (s.list ≡ l → ⊥) → rest (s ∷ ss) l ≡ s ∷ ss
rest_other l s ss d = ap (λ b. drop (cond b (suc (list_count ss l)) 0) (s ∷ ss)) (ne_eqb s.list l d)

-- at the front of records from list l on stand those of list l
pub front_is : (l : ℕ) (ss : List Stand) → Steps l ss → front ss l ≡ of_list l ss
front_is l [] h = refl
front_is l (s ∷ ss) h = elim (cases_eq s.list l) as (λ _. front (s ∷ ss) l ≡ of_list l (s ∷ ss)) [
  | inl e ↦ front_same l s ss e ∙ ap (λ r. s ∷ r) (front_is l ss (steps_lower l s.list ss (omega (arith, e)) h.1)) ∙ sym (of_list_same l s ss e)
  | inr d ↦ let low = h.0 in front_other l s ss d ∙ sym (of_list_none l s.list (s ∷ ss) (omega (arith, low, d)) (omega arith, h.1))
]

-- what follows is of later lists
pub rest_steps : (l : ℕ) (ss : List Stand) → Steps l ss → Steps (suc l) (rest ss l)
rest_steps l [] h = tt
rest_steps l (s ∷ ss) h = elim (cases_eq s.list l) as (λ _. Steps (suc l) (rest (s ∷ ss) l)) [
  | inl e ↦ rw (rest_same l s ss e) (rest_steps l ss (steps_lower l s.list ss (omega (arith, e)) h.1))
  | inr d ↦ let low = h.0 in rw (rest_other l s ss d) (omega (arith, low, d), h.1)
]

-- and has all of those
pub rest_has : (l m : ℕ) (ss : List Stand) → l < m → of_list m (rest ss l) ≡ of_list m ss
rest_has l m [] below = refl
rest_has l m (s ∷ ss) below = elim (cases_eq s.list l) as (λ _. of_list m (rest (s ∷ ss) l) ≡ of_list m (s ∷ ss)) [
  | inl e ↦ ap (of_list m) (rest_same l s ss e) ∙ rest_has l m ss below ∙ sym (of_list_other m s ss (λ q. omega (arith, below, e, q)))
  | inr d ↦ ap (of_list m) (rest_other l s ss d)
]

-- a group in front of groups, where it has a record
abbrev pub some_group : List Stand → List (List Stand) → List (List Stand)
some_group [] gs = gs
some_group (s ∷ g) gs = (s ∷ g) ∷ gs

-- those groups that have records
abbrev pub nonempty : List (List Stand) → List (List Stand)
nonempty [] = []
nonempty (g ∷ gs) = some_group g (nonempty gs)

-- groups of which the first begins with this record
record StartWith (t : Stand) (gs : List (List Stand)) : Type 0 where
  group : List Stand
  later : List (List Stand)
  value : gs ≡ (t ∷ group) ∷ later

start_with : (t : Stand) (gs : List (List Stand)) → StartWith t (with_stand t gs)
start_with t [] = record { group = []; later = []; value = refl }
start_with t ([] ∷ gs) = record { group = []; later = gs; value = refl }
start_with t ((u ∷ g) ∷ gs) = cond_both (u.list == t.list) ((t ∷ u ∷ g) ∷ gs) ((t ∷ []) ∷ (u ∷ g) ∷ gs) (StartWith t)
    (λ y. record { group = u ∷ g; later = gs; value = refl })
    (λ n. record { group = []; later = (u ∷ g) ∷ gs; value = refl })

-- a record in front of a group of its list, and of groups of later ones
with_same : (s t : Stand) (g : List Stand) (gs : List (List Stand)) → t.list ≡ s.list → with_stand s ((t ∷ g) ∷ gs) ≡ (s ∷ t ∷ g) ∷ gs
with_same s t g gs e = ap (λ b. cond b ((s ∷ t ∷ g) ∷ gs) ((s ∷ []) ∷ (t ∷ g) ∷ gs)) (eq-eqb t.list s.list e)

with_other : (s t : Stand) (g : List Stand) (gs : List (List Stand)) → (t.list ≡ s.list → ⊥) → with_stand s ((t ∷ g) ∷ gs) ≡ (s ∷ []) ∷ (t ∷ g) ∷ gs
with_other s t g gs d = ap (λ b. cond b ((s ∷ t ∷ g) ∷ gs) ((s ∷ []) ∷ (t ∷ g) ∷ gs)) (ne_eqb t.list s.list d)

with_later : (s : Stand) (ss : List Stand) → Steps (suc s.list) ss → with_stand s (groups ss) ≡ (s ∷ []) ∷ groups ss
with_later s [] h = refl
with_later s (t ∷ ss) h =
    let low = h.0 in
    let r = start_with t (groups ss) in
    ap (with_stand s) r.value ∙ with_other s t r.group r.later (λ e. omega (arith, low, e)) ∙ ap (λ gs. (s ∷ []) ∷ gs) (sym r.value)

-- records of one list, and then of later ones
groups_front : (k : ℕ) (ss later : List Stand) → All (λ s. s.list ≡ k) ss → Steps (suc k) later → groups (ss ++ later) ≡ some_group ss (groups later)
groups_front k [] later same h = refl
groups_front k (s ∷ []) later same h =
    let e : s.list ≡ k =
    All-head (λ (t : Stand). t.list ≡ k) s [] same in with_later s later (steps_lower (suc s.list) (suc k) later (omega (arith, e)) h)
groups_front k (s ∷ t ∷ ss) later same h =
    let rest = All-tail (λ (u : Stand). u.list ≡ k) s (t ∷ ss) same in
    let e : s.list ≡ k = All-head (λ (u : Stand). u.list ≡ k) s (t ∷ ss) same in
    let f : t.list ≡ k =
    All-head (λ (u : Stand). u.list ≡ k) t ss rest in
    ap (with_stand s) (groups_front k (t ∷ ss) later rest h) ∙ with_same s t ss (groups later) (f ∙ sym e)

pub of_list_all : (k : ℕ) (ss : List Stand) → All (λ s. s.list ≡ k) (of_list k ss)
of_list_all k ss =
    All-weaker (λ (s : Stand). (s.list == k) ≡ true) (λ s. s.list ≡ k) (λ s y. eqb-true s.list k y) (of_list k ss)
    (filter_passes (λ (s : Stand). s.list == k) ss)

groups_step : (k : ℕ) (ss : List Stand) → Steps k ss → groups ss ≡ some_group (of_list k ss) (groups (rest ss k))
groups_step k ss h =
    ap groups (sym (take-append-drop (list_count ss k) ss) ∙ ap (λ f. f ++ rest ss k) (front_is k ss h))
    ∙ groups_front k (of_list k ss) (rest ss k) (of_list_all k ss) (rest_steps k ss h)

-- values that agree on the numbers from k on
pub map-up_from_same : {Y : Type 0} (f g : ℕ → Y) (k n : ℕ) → ((i : ℕ) → k ≤ i → i < k + n → f i ≡ g i) → map f (up_from k n) ≡ map g (up_from k n)
map-up_from_same f g k zero h = refl
map-up_from_same f g k (suc n) h =
    ap (λ y. y ∷ map f (up_from (suc k) n)) (h k (omega arith) (omega arith))
    ∙ ap (λ l. g k ∷ l) (map-up_from_same f g (suc k) n (λ i l m. h i (omega (arith, l)) (omega (arith, m))))

pub map-up_from_shift : {Y : Type 0} (f : ℕ → Y) (a k n : ℕ) → map f (up_from (a + k) n) ≡ map (λ i. f (a + i)) (up_from k n)
map-up_from_shift f a k zero = refl
map-up_from_shift f a k (suc n) =
    let shift : suc (a + k) ≡ a + suc k =
    omega arith in ap (λ j. f (a + k) ∷ map f (up_from j n)) shift ∙ ap (λ l. f (a + k) ∷ l) (map-up_from_shift f a (suc k) n)

-- the groups of records are those of the lists that have records
pub groups_are : (k n : ℕ) (ss : List Stand) → Steps k ss → All (λ s. s.list < k + n) ss →
    groups ss ≡ nonempty (map (λ l. of_list l ss) (up_from k n))
groups_are k zero [] h few = refl
groups_are k zero (s ∷ ss) h few = let low = h.0 in absurd (omega (arith, low, All-head (λ (t : Stand). t.list < k + 0) s ss few))
groups_are k (suc n) ss h few =
    let count = list_count ss k in
    let bound : All (λ s. s.list < suc k + n) ss =
    All-weaker (λ (s : Stand). s.list < k + suc n) (λ s. s.list < suc k + n) (λ s l. omega (arith, l)) ss few in
    let later = groups_are (suc k) n (rest ss k) (rest_steps k ss h) (All-drop (λ (s : Stand). s.list < suc k + n) count ss bound) in
    let same = map-up_from_same (λ l. of_list l (rest ss k)) (λ l. of_list l ss) (suc k) n (λ i l m. rest_has k i ss (omega (arith, l))) in
    groups_step k ss h ∙ ap (some_group (of_list k ss)) (later ∙ ap nonempty same)
