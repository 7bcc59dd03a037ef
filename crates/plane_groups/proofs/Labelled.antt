-- Labels numbered in the order in which they come first.
use Rattle.std.specs.Prelude.{◌≡◌, ◌↔◌, ℕ, ◌+◌, ◌<◌, ◌≤◌, List, [], ◌∷◌, ◌++◌, true, false, Bool, cond, not, ◌||◌, bytes_eq, get_or, length, map, take}
use Rattle.std.specs.List.{list_any, position_or_len}
use Rattle.std.proofs.Common.{Bor, arith, refl, sym, ap, subst, ◌∙◌}
use Rattle.std.specs.Cmp.Lexicographic.{bytes_decides}
use Rattle.std.proofs.lemmas.List.{get_or-map, length-map, map-append, take_more}
use Rattle.std.proofs.lemmas.List.Sums.{passes_at_first, prefix_len-le-length}
use Rattle.indexmap.specs.IndexSet.{insert_key}
use Rattle.mesh_terms.specs.Labels.{label_at}
use Rattle.sheet_terms.specs.Places.{firsts}
use Rattle.plane_groups.proofs.Grouping.{any_stands}
use Rattle.edge_cutting.proofs.Numbered.{IsLike, any_firsts, firsts_few, firsts_push, member_any, numbers, numbers_push}

-- equality of bytes
pub bytes_like : IsLike bytes_eq
bytes_like = record {
  self = λ x. (bytes_decides x x).1 refl;
  back = λ x y h. (bytes_decides y x).1 (sym ((bytes_decides x y).0 h));
  on = λ x y z h k. (bytes_decides x z).1 ((bytes_decides x y).0 h ∙ (bytes_decides y z).0 k);
}

-- the test of borrowed bytes
abbrev pub same_now : Bor (List ℕ) → Bor (List ℕ) → Bool
same_now x y = bytes_eq x.now y.now

abbrev pub nows : List (Bor (List ℕ)) → List (List ℕ)
nows ks = map (λ k. k.now) ks

any_now : (k : Bor (List ℕ)) (ks : List (Bor (List ℕ))) → list_any (same_now k) ks ≡ list_any (bytes_eq k.now) (nows ks)
any_now k [] = refl
any_now k (x ∷ ks) = ap (λ b. bytes_eq k.now x.now || b) (any_now k ks)

pub stands_now : (k : Bor (List ℕ)) (ks : List (Bor (List ℕ))) → position_or_len (same_now k) ks ≡ position_or_len (bytes_eq k.now) (nows ks)
stands_now k [] = refl
stands_now k (x ∷ ks) = ap (λ n. cond (not (bytes_eq k.now x.now)) (1 + n) 0) (stands_now k ks)

pub insert_now : (k : Bor (List ℕ)) (ks : List (Bor (List ℕ))) → nows (insert_key same_now ks k) ≡ insert_key bytes_eq (nows ks) k.now
insert_now k ks = by (list_any (same_now k) ks) ∙ ap (λ b. cond b (nows ks) (nows ks ++ k.now ∷ [])) (any_now k ks)
  where
    by : (b : Bool) → nows (cond b ks (ks ++ k ∷ [])) ≡ cond b (nows ks) (nows ks ++ k.now ∷ [])
    by true = refl
    by false = map-append (λ (x : Bor (List ℕ)). x.now) ks (k ∷ [])

-- the labels of triangles
abbrev pub labels_at : List (List ℕ) → List ℕ → List (List ℕ)
labels_at labels sources = map (label_at labels) sources

-- one more
pub labels_more : (labels : List (List ℕ)) (sources : List ℕ) (i t : ℕ) → i < length sources → t ≡ get_or sources i t →
    labels_at labels (take i sources) ++ label_at labels t ∷ [] ≡ labels_at labels (take (i + 1) sources)
labels_more labels sources i t low is =
    sym (ap (labels_at labels) (take_more sources i t low ∙ ap (λ x. take i sources ++ x ∷ []) (sym is)) ∙ map-append (label_at labels) (take i sources) (t ∷ []))

pub keys_more : (labels : List (List ℕ)) (sources : List ℕ) (i t : ℕ) (k : Bor (List ℕ)) (keys new : List (Bor (List ℕ))) → i < length sources → t ≡ get_or sources i t →
    k.now ≡ label_at labels t → nows keys ≡ firsts bytes_eq (labels_at labels (take i sources)) → new ≡ insert_key same_now keys k →
    nows new ≡ firsts bytes_eq (labels_at labels (take (i + 1) sources))
keys_more labels sources i t k keys new low is at e added =
    let xs = labels_at labels (take i sources) in
    ap nows added ∙ insert_now k keys ∙ ap (λ ks. insert_key bytes_eq ks k.now) e ∙ ap (insert_key bytes_eq (firsts bytes_eq xs)) at
    ∙ sym (firsts_push bytes_eq bytes_like xs (label_at labels t)) ∙ ap (firsts bytes_eq) (labels_more labels sources i t low is)

pub of_more : (labels : List (List ℕ)) (sources : List ℕ) (i t n : ℕ) (k : Bor (List ℕ)) (keys : List (Bor (List ℕ))) (of : List ℕ) → i < length sources → t ≡ get_or sources i t →
    k.now ≡ label_at labels t → nows keys ≡ firsts bytes_eq (labels_at labels (take i sources)) → n ≡ position_or_len (same_now k) keys →
    of ≡ numbers bytes_eq bytes_like (labels_at labels (take i sources)) → of ++ n ∷ [] ≡ numbers bytes_eq bytes_like (labels_at labels (take (i + 1) sources))
of_more labels sources i t n k keys of low is at e stands h =
    let xs = labels_at labels (take i sources) in
    ap (λ l. l ++ n ∷ []) h
    ∙ ap (λ m. numbers bytes_eq bytes_like xs ++ m ∷ [])
    (stands ∙ stands_now k keys ∙ ap (position_or_len (bytes_eq k.now)) e ∙ ap (λ x. position_or_len (bytes_eq x) (firsts bytes_eq xs)) at)
    ∙ sym (numbers_push bytes_eq bytes_like xs (label_at labels t)) ∙ ap (numbers bytes_eq bytes_like) (labels_more labels sources i t low is)

pub number_few : (labels : List (List ℕ)) (sources : List ℕ) (i n : ℕ) (k : Bor (List ℕ)) (keys : List (Bor (List ℕ))) →
    nows keys ≡ firsts bytes_eq (labels_at labels (take i sources)) → n ≡ position_or_len (same_now k) keys → n ≤ length (take i sources)
number_few labels sources i n k keys e stands =
    omega (
      arith,
      stands,
      prefix_len-le-length (λ x. not (same_now k x)) keys,
      ap length e,
      length-map keys (λ (x : Bor (List ℕ)). x.now),
      firsts_few bytes_eq [] (labels_at labels (take i sources)),
      length-map (take i sources) (label_at labels),
    )

-- two have one number where they have one label
pub numbers_tell : (labels : List (List ℕ)) (sources of : List ℕ) → of ≡ numbers bytes_eq bytes_like (labels_at labels sources) → (i j : ℕ) →
    i < length sources → j < length sources →
    (get_or of i 0 ≡ get_or of j 0) ↔ (label_at labels (get_or sources i 0) ≡ label_at labels (get_or sources j 0))
numbers_tell labels sources of e i j li lj =
    let xs = labels_at labels sources in
    let ks = firsts bytes_eq xs in
    let long : length xs ≡ length sources = length-map sources (label_at labels) in
    let label : (k : ℕ) → k < length sources → get_or xs k [] ≡ label_at labels (get_or sources k 0) = λ k l. get_or-map (label_at labels) sources k 0 [] l in
    let number : (k : ℕ) → k < length sources → get_or of k 0 ≡ position_or_len (bytes_eq (label_at labels (get_or sources k 0))) ks = λ k l.
    ap (λ v. get_or v k 0) e ∙ get_or-map (λ x. position_or_len (bytes_eq x) ks) xs k [] 0 (omega (arith, l, long)) ∙ ap (λ x. position_or_len (bytes_eq x) ks) (label k l) in
    let found : (k : ℕ) (l : k < length sources) → label_at labels (get_or sources k 0)
    ≡ get_or ks (position_or_len (bytes_eq (label_at labels (get_or sources k 0))) ks) [] = λ k l.
    let x = label_at labels (get_or sources k 0) in
    let some : list_any (bytes_eq x) ks ≡ true =
    any_firsts bytes_eq bytes_like x xs ∙ subst (λ y. list_any (bytes_eq y) xs ≡ true) (label k l) (member_any bytes_eq bytes_like xs k [] (omega (arith, l, long))) in
    (bytes_decides x (get_or ks (position_or_len (bytes_eq x) ks) [])).0 (passes_at_first (bytes_eq x) ks [] (any_stands (bytes_eq x) ks some)) in (
      (λ h. found i li ∙ ap (λ n. get_or ks n []) (sym (number i li) ∙ h ∙ number j lj) ∙ sym (found j lj)),
      (λ h. number i li ∙ ap (λ x. position_or_len (bytes_eq x) ks) h ∙ sym (number j lj)),
    )

-- the same by labels that are those
pub numbers_tell_of : (labels given : List (List ℕ)) (sources of : List ℕ) → ((t : ℕ) → label_at labels t ≡ label_at given t) →
    ((i j : ℕ) → i < length sources → j < length sources →
    (get_or of i 0 ≡ get_or of j 0) ↔ (label_at labels (get_or sources i 0) ≡ label_at labels (get_or sources j 0))) →
    (i j : ℕ) → i < length sources → j < length sources → (get_or of i 0 ≡ get_or of j 0) ↔ (label_at given (get_or sources i 0) ≡ label_at given (get_or sources j 0))
numbers_tell_of labels given sources of same told i j li lj =
    let s = get_or sources i 0 in
    let t = get_or sources j 0 in
    let both = told i j li lj in
    ((λ e. sym (same s) ∙ both.0 e ∙ same t), (λ e. both.1 (same s ∙ e ∙ sym (same t))))
