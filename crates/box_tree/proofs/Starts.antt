-- A tree when it is made, and a walk when it begins.
use Rattle.std.proofs.Common.{◌≡◌, ◌∙◌, ℕ, true, false, ◌*◌, ◌<◌, ◌^◌, List, [], ◌∷◌, length, get_or, refl, sym, ap, arith, subst, ◌⊎◌, inl, inr, append-nil}
use Rattle.std.specs.List.{All}
use Rattle.std.specs.List.Sorted.{IsPermutation}
use Rattle.std.proofs.lemmas.Bool.{both_ways, cases_lt, cases_Bool, false_from_ne_true}
use Rattle.std.proofs.lemmas.List.{take_all, nil_from_length}
use Rattle.std.proofs.lemmas.List.Elements.{All-head, All-tail}
use Rattle.std.proofs.lemmas.List.Sorted.{IsPermutation-refl}
use Rattle.arrayvec.specs.ArrayVec.{ArrayVec}
use Rattle.chain_terms.specs.Sums.{upto}
use Rattle.mb_base.specs.declared.point.Box3.{Box3}
use Rattle.box_tree.specs.declared.TheConstants.{BLOCK}
use Rattle.box_tree.specs.declared.nodes.Entry.{Entry}
use Rattle.box_tree.specs.declared.nodes.Node.{Node}
use Rattle.box_tree.specs.declared.walk.Question.{Question}
use Rattle.box_tree.specs.Coarse.{bounds_inside}
use Rattle.box_tree.specs.Touching.{IsBox, touches, box_at, touching_among, touching_numbers}
use Rattle.box_tree.specs.Nodes.{node_at, run_of, numbers_of, AreNodes, AreEntries, AreKept, IsRoot, IsTree}
use Rattle.box_tree.specs.Walks.{is_hit, hits, hits_below, hits_waiting, hits_left, IsStack, IsWalk}
use Rattle.box_tree.proofs.Exact.{touches_self}
use Rattle.box_tree.proofs.Orders.{filter_moved}
use Rattle.box_tree.proofs.Stacks.{IsSmall}
use Rattle.box_tree.proofs.Trees.{as_many, all_told, IsTold}

-- a tree of its parts; the nodes are made over entries that are the same
pub tree_made : (shift : ℕ) (stored boxes : List Box3) (entries same : List Entry) (nodes : List Node) → shift < 64 → All IsBox boxes →
    AreEntries shift boxes entries → AreKept shift stored boxes → same ≡ entries →
    AreNodes nodes same → length nodes < 2 ^ 32 → (0 < length same → IsRoot nodes same) → IsTree shift stored boxes entries nodes
tree_made shift stored boxes entries same nodes small solid listed kept e right short root =
    let N : List Entry → Type 0 = λ es. AreNodes nodes es in
    let R : List Entry → Type 0 = λ es. 0 < length es → IsRoot nodes es in
    record {
      small = small;
      short = short;
      listed = listed;
      solid = solid;
      kept = kept;
      right = subst N e right;
      root = λ some. subst R e root (omega (arith, some, as_many shift boxes entries listed));
    }

-- a tree seen through references to its parts
pub tree_seen : (shift : ℕ) (stored stored_seen boxes : List Box3) (entries entries_seen : List Entry) (nodes nodes_seen : List Node) → stored_seen ≡ stored →
    entries_seen ≡ entries →
    nodes_seen ≡ nodes → IsTree shift stored boxes entries nodes → IsTree shift stored_seen boxes entries_seen nodes_seen
tree_seen shift stored stored_seen boxes entries entries_seen nodes nodes_seen b e n tree =
    let B : List Box3 → Type 0 = λ x. IsTree shift x boxes entries nodes in
    let E : List Entry → Type 0 = λ x. IsTree shift stored_seen boxes x nodes in
    let N : List Node → Type 0 = λ x. IsTree shift stored_seen boxes entries_seen x in
    subst N (sym n) (subst E (sym e) (subst B (sym b) tree))

-- a stack before a walk
pub record IsFirst (entries : List Entry) (area : Box3) (stack : List ℕ) : Type 0 where
  pub some : 0 < length entries → touches area area ≡ true → stack ≡ 0 ∷ []
  pub none : (length entries ≡ 0) ⊎ (touches area area ≡ false) → stack ≡ []

-- nothing lies on an empty stack
empty_stack : (nodes : List Node) → IsStack nodes []
empty_stack nodes = record { there = λ i l. absurd (omega (arith, l)); small = λ i l. absurd (omega (arith, l)) }

-- the first node alone on a stack
root_stack : (nodes : List Node) (entries : List Entry) → IsRoot nodes entries → IsStack nodes (0 ∷ [])
root_stack nodes entries root =
    let T : ℕ → Type 0 = λ i. get_or (0 ∷ []) i 0 < length nodes in
    let S : ℕ → Type 0 = λ i. IsSmall nodes (get_or (0 ∷ []) i 0) i in
    let first : IsSmall nodes 0 0 = omega (arith, root.few) in
    record {
      there = λ i l. let e : 0 ≡ i = omega (arith, l) in subst T e root.there;
      small = λ i l. let e : 0 ≡ i = omega (arith, l) in subst S e first;
    }

-- the stack before a walk waits in order
first_stack : (shift : ℕ) (stored boxes : List Box3) (entries : List Entry) (nodes : List Node) (area : Box3) (stack : List ℕ) →
    IsTree shift stored boxes entries nodes → IsFirst entries area stack → IsStack nodes stack
first_stack shift stored boxes entries nodes area stack tree first =
    let S : List ℕ → Type 0 = λ l. IsStack nodes l in
    elim (cases_lt 0 (length entries)) as (λ _. IsStack nodes stack) [
      | inl some ↦ elim (cases_Bool (touches area area)) as (λ _. IsStack nodes stack) [
        | inl asked ↦ subst S (sym (first.some some asked)) (root_stack nodes entries (tree.root (omega (arith, some, as_many shift boxes entries tree.listed))))
        | inr empty ↦ subst S (sym (first.none (inr empty))) (empty_stack nodes)
      ]
      | inr none ↦ subst S (sym (first.none (inl (omega (arith, none))))) (empty_stack nodes)
    ]

-- a walk that begins is on its way
pub walk_begins : (shift : ℕ) (boxes : List Box3) (q : Question) (stack : ArrayVec ℕ) → IsTree shift q.boxes.now boxes q.entries.now q.nodes.now →
    IsFirst q.entries.now q.area stack.items →
    IsWalk (record { question = q; stack = stack; at = 0; end = 0 })
walk_begins shift boxes q stack tree first =
    record {
      question = record {
        few = omega (arith, as_many shift boxes q.entries.now tree.listed, tree.listed.few);
        short = tree.short;
        nodes = tree.right;
      };
      begins = omega arith;
      ends = omega arith;
      stack = first_stack shift q.boxes.now boxes q.entries.now q.nodes.now q.area stack.items tree first;
    }

-- the first node gives the numbers of all entries
root_gives : (q : Question) → IsRoot q.nodes.now q.entries.now → hits_below q 0 ≡ hits q q.entries.now
root_gives q root =
    let count = (node_at q.nodes.now 0).count in
    ap (λ f. hits q (run_of q.entries.now f count)) root.first ∙ ap (hits q) (take_all (BLOCK * count) q.entries.now root.all)

-- the stack before a walk gives the numbers of all entries
first_gives : (shift : ℕ) (boxes : List Box3) (q : Question) (stack : List ℕ) → IsTree shift q.boxes.now boxes q.entries.now q.nodes.now →
    IsFirst q.entries.now q.area stack → touches q.area q.area ≡ true →
    hits q q.entries.now ≡ hits_waiting q stack
first_gives shift boxes q stack tree first asked = elim (cases_lt 0 (length q.entries.now)) as (λ _. hits q q.entries.now ≡ hits_waiting q stack) [
  | inl some ↦
      let root = tree.root (omega (arith, some, as_many shift boxes q.entries.now tree.listed)) in
      sym (ap (hits_waiting q) (first.some some asked) ∙ append-nil (hits_below q 0) ∙ root_gives q root)
  | inr none ↦ ap (hits q) (nil_from_length q.entries.now (omega (arith, none))) ∙ sym (ap (hits_waiting q) (first.none (inl (omega (arith, none)))))
]

-- the numbers of the hits, by the boxes of their numbers
hits_by_number : (q : Question) (boxes : List Box3) (entries : List Entry) → All (IsTold q boxes) entries → hits q entries ≡ touching_among boxes q.area (numbers_of entries)
hits_by_number q boxes [] all = refl
hits_by_number q boxes (e ∷ es) all =
    let here = All-head (IsTold q boxes) e es all in
    let rest = hits_by_number q boxes es (All-tail (IsTold q boxes) e es all) in
    elim (cases_Bool (touches (box_at boxes e.number) q.area)) as (λ _. hits q (e ∷ es) ≡ touching_among boxes q.area (numbers_of (e ∷ es))) [
      | inl y ↦ let s : is_hit q e ≡ true = here ∙ y in rw (s, y) (ap (λ l. e.number ∷ l) rest)
      | inr n ↦ let s : is_hit q e ≡ false = here ∙ n in rw (s, n) rest
    ]

-- no box touches an area that is no box itself
none_touch : (boxes : List Box3) (area : Box3) (numbers : List ℕ) → touches area area ≡ false → touching_among boxes area numbers ≡ []
none_touch boxes area [] empty = refl
none_touch boxes area (k ∷ ks) empty =
    let b = box_at boxes k in
    let missed : touches b area ≡ false = false_from_ne_true (touches b area) (λ t. both_ways (touches area area) empty (touches_self b area t)) in
    rw missed (none_touch boxes area ks empty)

-- a walk that begins gives the numbers of all boxes that touch the area
pub walk_gives : (shift : ℕ) (boxes : List Box3) (q : Question) (stack : ArrayVec ℕ) → IsTree shift q.boxes.now boxes q.entries.now q.nodes.now →
    q.bounds ≡ bounds_inside shift q.area →
    IsFirst q.entries.now q.area stack.items → IsPermutation (touching_numbers boxes q.area) (hits_left (record { question = q; stack = stack; at = 0; end = 0 }))
walk_gives shift boxes q stack tree bounds first =
    let G : List ℕ → Type 0 = λ l. IsPermutation (touching_numbers boxes q.area) l in
    elim (cases_Bool (touches q.area q.area)) as (λ _. G (hits_left (record { question = q; stack = stack; at = 0; end = 0 }))) [
      | inl asked ↦
          let found = hits_by_number q boxes q.entries.now (all_told shift boxes q tree.listed tree.kept tree.solid bounds asked) in
          subst G (sym found ∙ first_gives shift boxes q stack.items tree first asked)
          (filter_moved (λ k. touches (box_at boxes k) q.area) (upto (length boxes)) (numbers_of q.entries.now) tree.listed.order)
      | inr empty ↦
          let nothing = none_touch boxes q.area (upto (length boxes)) empty in
          subst G (nothing ∙ ap (hits_waiting q) (sym (first.none (inr empty)))) (IsPermutation-refl (touching_numbers boxes q.area))
    ]
