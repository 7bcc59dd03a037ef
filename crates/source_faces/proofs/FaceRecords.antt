-- The records of one source face: their lists and copies ascend, and they tell the copies of hits in each list.
use Rattle.std.proofs.Common.{◌≡◌, ℕ, suc, ◌+◌, ◌<◌, ◌≤◌, Bool, true, ◌==◌, List, [], ◌∷◌, map, length, get_or, refl}
use Rattle.std.proofs.Common.{sym, ap, subst, ◌∙◌, arith}
use Rattle.std.specs.List.{All, AllPairs, Contains}
use Rattle.std.proofs.lemmas.Bool.{eq-eqb, eqb-true}
use Rattle.std.proofs.lemmas.Bool.Decides.{nat_tests}
use Rattle.std.proofs.lemmas.List.{get_or_default}
use Rattle.std.proofs.lemmas.List.Elements.{Contains-get_or, All-filter, All-head, All-tail, All-weaker, filter_passes}
use Rattle.std.proofs.lemmas.List.Kept.{AllPairs-filter}
use Rattle.chain_terms.specs.Chains.{all_edges}
use Rattle.mb_base.specs.declared.results.Entry.{Entry}
use Rattle.side_terms.specs.Sides.{Side}
use Rattle.side_terms.specs.Lists.{Copy, ListName, no_copy, standing}
use Rattle.source_faces.specs.declared.lists.runs.CopyRange.{CopyRange}
use Rattle.source_faces.specs.declared.lists.stands.Stand.{Stand}
use Rattle.source_faces.specs.Agreement.{AreStandsOf, Ascend, HaveLists, IsHitCopy, StandsAs, list_name, no_stand, records_of}
use Rattle.source_faces.specs.Entries.{entry_of}
use Rattle.source_faces.specs.Stands.{stands_before}
use Rattle.source_faces.proofs.ListGroups.{Steps, of_list, of_list_all}
use Rattle.source_faces.proofs.Members.{comes_from, filter_contains, kept, map_contains}
use Rattle.source_faces.proofs.Rising.{Rises}
use Rattle.source_faces.proofs.Told.{entry}

-- of two records of one face the earlier one is of a lower list, or of a lower copy in the same list
pub record Precedes (s t : Stand) : Type 0 where
  pub lists : s.list ≤ t.list
  pub copies : s.list ≡ t.list → s.copy < t.copy

precedes : (s t : Stand) → s.face ≡ t.face → stands_before s t ≡ true → Precedes s t
precedes s t same before = record { lists = grind (arith, nat_tests, same, before); copies = λ e. grind (arith, nat_tests, same, before, e) }

-- of any two of a face's records
of_face : (stands : List Stand) (x : ℕ) → All (λ s. s.face ≡ x) (records_of stands x)
of_face stands x =
    All-weaker (λ (s : Stand). (s.face == x) ≡ true) (λ s. s.face ≡ x) (λ s y. eqb-true s.face x y) (records_of stands x)
    (filter_passes (λ (s : Stand). s.face == x) stands)

face_order : (stands : List Stand) (x : ℕ) → Ascend stands → AllPairs Precedes (records_of stands x)
face_order stands x up i j d less within =
    let R : Stand → Stand → Type 0 = λ s t. stands_before s t ≡ true in
    let ss = records_of stands x in
    let all : AllPairs R stands = λ a b c l m.
    subst (λ s. R s (get_or stands b c)) (get_or_default stands a no_stand c (omega (arith, l, m)))
    (subst (R (get_or stands a no_stand)) (get_or_default stands b no_stand c m) (up a b l m)) in
    let same = of_face stands x in
    precedes (get_or ss i d) (get_or ss j d) (same i d (omega (arith, less, within)) ∙ sym (same j d within))
    (AllPairs-filter R (λ (s : Stand). s.face == x) stands all i j d less within)

-- so their lists do not fall
face_steps : (k : ℕ) (ss : List Stand) → All (λ s. k ≤ s.list) ss → AllPairs Precedes ss → Steps k ss
face_steps k [] low up = tt
face_steps k (s ∷ ss) low up = (
  All-head (λ (t : Stand). k ≤ t.list) s ss low,
  face_steps s.list ss (λ i d l. (up 0 (suc i) d (omega arith) (omega (arith, l))).lists)
      (λ i j d l m. up (suc i) (suc j) d (omega (arith, l)) (omega (arith, m))),
)

-- and the copies of one list rise
list_rises : (l k n : ℕ) (ss : List Stand) → k ≤ n → All (λ s. s.list ≡ l) ss → All (λ s. k ≤ s.copy) ss → All (λ s. s.copy < n) ss →
    AllPairs Precedes ss → Rises k n (map (λ e. e.vertex) (map entry_of ss))
list_rises l k n [] room same low high up = room
list_rises l k n (s ∷ ss) room same low high up =
    let below : s.copy < n = All-head (λ (t : Stand). t.copy < n) s ss high in
    let here : s.list ≡ l = All-head (λ (t : Stand). t.list ≡ l) s ss same in
    let later = All-tail (λ (t : Stand). t.list ≡ l) s ss same in (
      All-head (λ (t : Stand). k ≤ t.copy) s ss low,
      list_rises l (suc s.copy) n ss (omega (arith, below)) later
          (λ i d m. let first = (up 0 (suc i) d (omega arith) (omega (arith, m))).copies (here ∙ sym (later i d m)) in omega (arith, first))
          (All-tail (λ (t : Stand). t.copy < n) s ss high) (λ i j d a b. up (suc i) (suc j) d (omega (arith, a)) (omega (arith, b))),
    )

-- entries that tell the copies of hits in a list, from number k on
pub record TellHits (P Q : List (ℕ × ℕ)) (cs : List Copy) (k : ℕ) (name : ListName) (entries : List Entry) : Type 0 where
  pub rise : Rises k (k + length cs) (map (λ e. e.vertex) entries)
  pub each : (v : ℕ) (start : Bool) → v < length cs → IsHitCopy (get_or cs v no_copy).origin →
      StandsAs start (standing P Q name (get_or cs v no_copy)) → Contains entries (entry v start)
  pub only : (v : ℕ) (start : Bool) → Contains entries (entry v start) → (v < length cs) × StandsAs start (standing P Q name (get_or cs v no_copy))

-- the records of a face in order, each list of which tells its copies of hits
pub record AreRecords (P Q : List (ℕ × ℕ)) (cs : List Copy) (k : ℕ) (name : ℕ → ListName) (ss : List Stand) : Type 0 where
  pub steps : Steps 0 ss
  pub lists : (l : ℕ) → TellHits P Q cs k (name l) (map entry_of (of_list l ss))

-- a record by its parts
abbrev stand : ℕ → ℕ → ℕ → Bool → Stand
stand x l v start = record { face = x; list = l; copy = v; start = start }

-- a copy that stands so in a list of a face
abbrev StandsIn : List (ℕ × ℕ) → List (ℕ × ℕ) → List Copy → (ℕ → ℕ → ListName) → ℕ → ℕ → ℕ → Bool → Type 0
StandsIn P Q cs name x l v start = (v < length cs) × StandsAs start (standing P Q (name x l) (get_or cs v no_copy))

-- what the entries of a list say
only_told : (P Q : List (ℕ × ℕ)) (m : ℕ) (cs : List Copy) (stands : List Stand) → AreStandsOf P Q m cs stands → (x l v : ℕ) (start : Bool) →
    Contains (map entry_of (of_list l (records_of stands x))) (entry v start) → StandsIn P Q cs (list_name m) x l v start
only_told P Q m cs stands known x l v start c =
    let Fact = StandsIn P Q cs (list_name m) in
    let ss = records_of stands x in
    let r = comes_from entry_of (of_list l ss) (entry v start) c in
    let in_list = kept (λ (s : Stand). s.list == l) ss r.from r.inside in
    let in_face = kept (λ (s : Stand). s.face == x) stands r.from in_list.inside in
    let s = r.from in
    let says = known.only s in_face.inside in
    let here : Fact s.face s.list s.copy s.start = (says.0, says.2) in
    let at_face : Fact x s.list s.copy s.start = subst (λ y. Fact y s.list s.copy s.start) (eqb-true s.face x in_face.passes) here in
    let at_list : Fact x l s.copy s.start = subst (λ j. Fact x j s.copy s.start) (eqb-true s.list l in_list.passes) at_face in
    let at_copy : Fact x l v s.start =
    subst (λ w. Fact x l w s.start) (ap (λ (e : Entry). e.vertex) r.value) at_list in
    subst (Fact x l v) (ap (λ (e : Entry). e.start) r.value) at_copy

-- and what they have
each_told : (P Q : List (ℕ × ℕ)) (m : ℕ) (cs : List Copy) (stands : List Stand) → AreStandsOf P Q m cs stands → (x l v : ℕ) (start : Bool) →
    v < length cs → IsHitCopy (get_or cs v no_copy).origin →
    StandsAs start (standing P Q (list_name m x l) (get_or cs v no_copy)) → Contains (map entry_of (of_list l (records_of stands x))) (entry v start)
each_told P Q m cs stands known x l v start low hit so =
    let ss = records_of stands x in
    let s = stand x l v start in
    map_contains entry_of (of_list l ss) s
    (filter_contains (λ (t : Stand). t.list == l) ss s (eq-eqb l l refl)
    (filter_contains (λ (t : Stand). t.face == x) stands s (eq-eqb x x refl) (known.each x l v start low hit so)))

-- the records of a list of a face rise
list_of_face : (k n : ℕ) (stands : List Stand) → Ascend stands → All (λ s. k ≤ s.copy) stands → All (λ s. s.copy < n) stands → (x l : ℕ) →
    Rises k (k + n) (map (λ e. e.vertex) (map entry_of (of_list l (records_of stands x))))
list_of_face k n stands up later below x l =
    let ss = records_of stands x in
    let in_face : Stand → Bool = λ s. s.face == x in
    let in_list : Stand → Bool = λ s. s.list == l in
    let Low : Stand → Type 0 = λ s. k ≤ s.copy in
    let High : Stand → Type 0 = λ s. s.copy < k + n in
    let high : All High stands = All-weaker (λ (s : Stand). s.copy < n) High (λ s h. omega (arith, h)) stands below in
    list_rises l k (k + n) (of_list l ss) (omega arith) (of_list_all l ss) (All-filter in_list Low ss (All-filter in_face Low stands later))
    (All-filter in_list High ss (All-filter in_face High stands high))
    (AllPairs-filter Precedes in_list ss (face_order stands x up))

-- so the records of each face tell its lists, where records tell all copies
pub face_records : (p q : Side) (cs : List Copy) (k : ℕ) (p_runs q_runs : List CopyRange) (stands : List Stand) →
    HaveLists p q cs k p_runs q_runs stands → (x : ℕ) →
    AreRecords (all_edges p.triples) (all_edges q.triples) cs k (list_name (length p.triples) x) (records_of stands x)
face_records p q cs k p_runs q_runs stands lists x =
    let P = all_edges p.triples in
    let Q = all_edges q.triples in
    let m = length p.triples in
    let ss = records_of stands x in
    let below : All (λ s. s.copy < length cs) stands = λ i d l. (lists.hit_copies.only (get_or stands i d) (Contains-get_or stands i d l)).0 in
    record {
      steps = face_steps 0 ss (λ i d l. omega arith) (face_order stands x lists.ascend);
      lists = λ l. record {
        rise = list_of_face k (length cs) stands lists.ascend lists.later below x l;
        each = each_told P Q m cs stands lists.hit_copies x l;
        only = only_told P Q m cs stands lists.hit_copies x l;
      };
    }
