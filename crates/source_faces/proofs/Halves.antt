-- The segments of a half-edge without records: each copy of its start with that copy of its end.
use Rattle.std.proofs.Common.{◌≡◌, ◌+◌, ◌<◌, ◌≤◌, ℕ, ℤ, zero, suc, true, false, Bool, not, cond, List, [], ◌∷◌, ◌++◌}
use Rattle.std.proofs.Common.{map, get_or, nat_lt, is_lt, append-nil, refl, sym, ap, ◌∙◌, subst, arith}
use Rattle.std.specs.Cmp.{int_cmp_is}
use Rattle.std.specs.List.{filter, zip}
use Rattle.std.specs.Ordering.{int_cmp, nat_cmp, ordering_then}
use Rattle.std.specs.declared.cmp.Ordering.TheVariants.{Equal}
use Rattle.std.proofs.lemmas.Bool.Decides.{nat_tests}
use Rattle.std.proofs.lemmas.List.{map-append}
use Rattle.std.proofs.lemmas.List.Elements.{filter-append}
use Rattle.chain_terms.specs.Chains.{all_edges}
use Rattle.chain_terms.specs.Ranks.{finish, start}
use Rattle.chain_terms.specs.Sums.{up_from}
use Rattle.chain_laws.specs.Sorting.{insert_by, sorted_by}
use Rattle.mb_base.specs.declared.results.Entry.{Entry}
use Rattle.side_terms.specs.Sides.{Side}
use Rattle.edge_pairing.specs.Entries.{chosen, ends_of, is_chosen, place_in, starts_of}
use Rattle.edge_pairing.specs.Pairing.{comes_before, pair_up, scalar_product, step}
use Rattle.source_face_terms.specs.Segments.{lower_half, vertex_point}
use Rattle.source_faces.specs.declared.lists.runs.CopyRange.{CopyRange}
use Rattle.source_faces.specs.Entries.{run_entries}
use Rattle.source_faces.specs.ListParts.{half_entries, half_segments, no_run}
use Rattle.source_faces.proofs.Copies.{block}

-- vertices as entries of one kind
abbrev pub entries_as : Bool → List ℕ → List Entry
entries_as start vs = map (λ v. record { vertex = v; start = start }) vs

-- all of them are chosen where those of their kind are asked
pub chosen-all : (start : Bool) (vs : List ℕ) → chosen start (entries_as start vs) ≡ vs
chosen-all true [] = refl
chosen-all true (v ∷ vs) = ap (λ l. v ∷ l) (chosen-all true vs)
chosen-all false [] = refl
chosen-all false (v ∷ vs) = ap (λ l. v ∷ l) (chosen-all false vs)

-- and none where the others are
pub chosen-none : (start : Bool) (vs : List ℕ) → chosen start (entries_as (not start) vs) ≡ []
chosen-none true [] = refl
chosen-none true (v ∷ vs) = chosen-none true vs
chosen-none false [] = refl
chosen-none false (v ∷ vs) = chosen-none false vs

-- what is chosen of two lists of entries
pub chosen-append : (start : Bool) (xs ys : List Entry) → chosen start (xs ++ ys) ≡ chosen start xs ++ chosen start ys
chosen-append start xs ys =
    ap (map (λ e. e.vertex)) (filter-append (is_chosen start) xs ys)
    ∙ map-append (λ (e : Entry). e.vertex) (filter (is_chosen start) xs) (filter (is_chosen start) ys)

-- a list of the asked kind in front of one of the other
chosen-first : (start : Bool) (xs ys : List Entry) (vs : List ℕ) → chosen start xs ≡ vs → chosen start ys ≡ [] → chosen start ((xs ++ ys) ++ []) ≡ vs
chosen-first start xs ys vs h k =
    ap (chosen start) (append-nil (xs ++ ys)) ∙ chosen-append start xs ys ∙ ap (λ l. l ++ chosen start ys) h ∙ ap (λ l. vs ++ l) k ∙ append-nil vs

-- and after one of the other kind
chosen-second : (start : Bool) (xs ys : List Entry) (vs : List ℕ) → chosen start xs ≡ [] → chosen start ys ≡ vs → chosen start ((xs ++ ys) ++ []) ≡ vs
chosen-second start xs ys vs h k = ap (chosen start) (append-nil (xs ++ ys)) ∙ chosen-append start xs ys ∙ ap (λ l. l ++ chosen start ys) h ∙ k

-- in either order, where the first list is of that kind
pub chosen-one : (start first : Bool) (xs ys : List Entry) (vs : List ℕ) → chosen start xs ≡ vs → chosen start ys ≡ [] →
    chosen start (cond first (xs ++ ys) (ys ++ xs) ++ []) ≡ vs
chosen-one start true xs ys vs h k = chosen-first start xs ys vs h k
chosen-one start false xs ys vs h k = chosen-second start ys xs vs k h

-- and where the second is
pub chosen-other : (start first : Bool) (xs ys : List Entry) (vs : List ℕ) → chosen start xs ≡ [] → chosen start ys ≡ vs →
    chosen start (cond first (xs ++ ys) (ys ++ xs) ++ []) ≡ vs
chosen-other start true xs ys vs h k = chosen-second start xs ys vs h k
chosen-other start false xs ys vs h k = chosen-first start ys xs vs k h

-- a run's entries where they are of the asked kind
pub chosen-run : (start at_start : Bool) (r : CopyRange) → cond at_start (not r.negative) r.negative ≡ start →
    chosen start (run_entries r at_start) ≡ up_from r.first r.count
chosen-run start at_start r e = ap (λ b. chosen start (entries_as b (up_from r.first r.count))) e ∙ chosen-all start (up_from r.first r.count)

-- and where they are not
pub chosen-no_run : (start at_start : Bool) (r : CopyRange) → cond at_start (not r.negative) r.negative ≡ not start →
    chosen start (run_entries r at_start) ≡ []
chosen-no_run start at_start r e = ap (λ b. chosen start (entries_as b (up_from r.first r.count))) e ∙ chosen-none start (up_from r.first r.count)

-- a number that equals another compares as equal
same_key : (x y : ℤ) → x ≡ y → int_cmp x y ≡ Equal
same_key x y e = sym (int_cmp_is x y Equal e)

-- a later vertex does not come before an earlier one at the same place
not_before : (key : ℕ → ℤ) (v w : ℕ) → key v ≡ key w → w ≤ v → comes_before key v w ≡ false
not_before key v w e h = ap (λ o. is_lt (ordering_then o (nat_cmp v w))) (same_key (key v) (key w) e) ∙ later
  where
    later : is_lt (nat_cmp v w) ≡ false
    later = grind (arith, nat_tests, h)

-- a vertex in front of later ones at the same place
in_front : (key : ℕ → ℤ) (a n : ℕ) (z : ℤ) → ((i : ℕ) → i < suc n → key (a + i) ≡ z) →
    insert_by (comes_before key) a (up_from (suc a) n) ≡ a ∷ up_from (suc a) n
in_front key a zero z h = refl
in_front key a (suc n) z h =
    let here : key a ≡ z = ap key (omega arith) ∙ h 0 (omega arith) in
    let next : key (suc a) ≡ z = ap key (omega arith) ∙ h 1 (omega arith) in
    ap (λ t. cond t (suc a ∷ insert_by (comes_before key) a (up_from (suc (suc a)) n)) (a ∷ suc a ∷ up_from (suc (suc a)) n))
    (not_before key (suc a) a (next ∙ sym here) (omega arith))

-- the copies of one vertex are sorted
pub sorted-run : (key : ℕ → ℤ) (a n : ℕ) (z : ℤ) → ((i : ℕ) → i < n → key (a + i) ≡ z) → sorted_by (comes_before key) (up_from a n) ≡ up_from a n
sorted-run key a zero z h = refl
sorted-run key a (suc n) z h =
    ap (insert_by (comes_before key) a) (sorted-run key (suc a) n z (λ i l. ap key (omega arith) ∙ h (suc i) (omega (arith, l))))
    ∙ in_front key a n z h

-- the copies of two vertices, each vertex's at one place, are paired in order
pub pair_up-runs : (key : ℕ → ℤ) (a b n : ℕ) (y z : ℤ) → ((i : ℕ) → i < n → key (a + i) ≡ y) → ((i : ℕ) → i < n → key (b + i) ≡ z) →
    pair_up key (up_from a n) (up_from b n) ≡ block a b n
pair_up-runs key a b n y z h k =
    ap (λ l. zip l (sorted_by (comes_before key) (up_from b n))) (sorted-run key a n y h) ∙ ap (zip (up_from a n)) (sorted-run key b n z k)

-- a run of n copies of this sign, which all lie at this point
pub record IsRunAt (points : List (List ℤ)) (n : ℕ) (negative : Bool) (p : List ℤ) (r : CopyRange) : Type 0 where
  pub counted : r.count ≡ n
  pub signed : r.negative ≡ negative
  pub lies : (i : ℕ) → i < n → get_or points (r.first + i) [] ≡ p

-- the key by which the entries of a half-edge are sorted
abbrev pub edge_key : Side → List (List ℤ) → ℕ → ℕ → ℤ
edge_key side points h v =
    let es = all_edges side.triples in
    let low = lower_half es h in scalar_product (step (vertex_point side (start es low)) (vertex_point side (finish es low))) (place_in points v)

-- a half-edge's segments from the copies that are its starts and from those that are its ends
half_from : (side : Side) (runs : List CopyRange) (points : List (List ℤ)) (h n : ℕ) (b : Bool) (r s : CopyRange) (p q : List ℤ) →
    IsRunAt points n b p r → IsRunAt points n b q s →
    starts_of (half_entries side runs h []) ≡ up_from r.first r.count → ends_of (half_entries side runs h []) ≡ up_from s.first s.count →
    half_segments side runs points h [] ≡ block r.first s.first n
half_from side runs points h n b r s p q at to from ends =
    let key = edge_key side points h in
    let es = all_edges side.triples in
    let low = lower_half es h in
    let d = step (vertex_point side (start es low)) (vertex_point side (finish es low)) in
    ap (λ l. pair_up key l (ends_of (half_entries side runs h []))) (from ∙ ap (up_from r.first) at.counted)
    ∙ ap (pair_up key (up_from r.first n)) (ends ∙ ap (up_from s.first) to.counted)
    ∙ pair_up-runs key r.first s.first n (scalar_product d p) (scalar_product d q) (λ i l. ap (scalar_product d) (at.lies i l))
    (λ i l. ap (scalar_product d) (to.lies i l))

-- the run of a vertex
abbrev pub run_of : List CopyRange → ℕ → CopyRange
run_of runs v = get_or runs v no_run

-- the run of a half-edge's start
abbrev start_run : Side → List CopyRange → ℕ → CopyRange
start_run side runs h = run_of runs (start (all_edges side.triples) h)

-- and that of its end
abbrev finish_run : Side → List CopyRange → ℕ → CopyRange
finish_run side runs h = run_of runs (finish (all_edges side.triples) h)

-- segments from the copies of one vertex to those of another, or back where the number is below 0
abbrev pub joined_as : Bool → ℕ → ℕ → ℕ → List (ℕ × ℕ)
joined_as negative a b n = cond negative (block b a n) (block a b n)

-- a half-edge joins the copies of its ends
half_joins : (side : Side) (runs : List CopyRange) (points : List (List ℤ)) (h n : ℕ) (b : Bool) (p q : List ℤ) →
    IsRunAt points n b p (start_run side runs h) → IsRunAt points n b q (finish_run side runs h) →
    half_segments side runs points h [] ≡ joined_as b (start_run side runs h).first (finish_run side runs h).first n
half_joins side runs points h n false p q at to =
    let r = start_run side runs h in
    let s = finish_run side runs h in
    let es = all_edges side.triples in
    let first = nat_lt (start es h) (finish es h) in
    half_from side runs points h n false r s p q at to
    (chosen-one true first (run_entries r true) (run_entries s false) (up_from r.first r.count) (chosen-run true true r (ap not at.signed))
    (chosen-no_run true false s to.signed))
    (chosen-other false first (run_entries r true) (run_entries s false) (up_from s.first s.count)
    (chosen-no_run false true r (ap not at.signed)) (chosen-run false false s to.signed))
half_joins side runs points h n true p q at to =
    let r = start_run side runs h in
    let s = finish_run side runs h in
    let es = all_edges side.triples in
    let first = nat_lt (start es h) (finish es h) in
    half_from side runs points h n true s r q p to at
    (chosen-other true first (run_entries r true) (run_entries s false) (up_from s.first s.count)
    (chosen-no_run true true r (ap not at.signed)) (chosen-run true false s to.signed))
    (chosen-one false first (run_entries r true) (run_entries s false) (up_from r.first r.count)
    (chosen-run false true r (ap not at.signed)) (chosen-no_run false false s to.signed))

-- the same of a half-edge that is known by its ends
pub half_of_ends : (side : Side) (runs : List CopyRange) (points : List (List ℤ)) (h n : ℕ) (b : Bool) (e : ℕ × ℕ) →
    get_or (all_edges side.triples) h (0, 0) ≡ e →
    IsRunAt points n b (vertex_point side e.0) (run_of runs e.0) → IsRunAt points n b (vertex_point side e.1) (run_of runs e.1) →
    half_segments side runs points h [] ≡ joined_as b (run_of runs e.0).first (run_of runs e.1).first n
half_of_ends side runs points h n b e is at to =
    let es = all_edges side.triples in
    let RunAt : ℕ → Type 0 = λ v. IsRunAt points n b (vertex_point side v) (run_of runs v) in
    half_joins side runs points h n b (vertex_point side (start es h)) (vertex_point side (finish es h))
    (subst (λ (d : ℕ × ℕ). RunAt d.0) (sym is) at) (subst (λ (d : ℕ × ℕ). RunAt d.1) (sym is) to)
    ∙ ap (λ (d : ℕ × ℕ). joined_as b (run_of runs d.0).first (run_of runs d.1).first n) is
