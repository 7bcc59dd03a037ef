-- What the entries of a tree owe to a question.
use Rattle.std.proofs.Common.{◌≡◌, ◌∙◌, ℕ, ◌<◌, ◌≤◌, ◌&&◌, ◌||◌, Bool, true, false, List, [], ◌∷◌, length, map, inl, inr, refl, sym, ap, ap₂, arith, subst}
use Rattle.std.specs.Prelude.{nat_le}
use Rattle.std.specs.List.{All}
use Rattle.std.specs.List.Sorted.{IsPermutation}
use Rattle.std.proofs.lemmas.Bool.{cases_Bool, cases_lt}
use Rattle.std.proofs.lemmas.List.{length-map}
use Rattle.std.proofs.lemmas.List.Elements.{All-from_get_or, All-get_or, All-map, All-same, All-weaker}
use Rattle.std.proofs.lemmas.List.Sorted.{All-permutation, length_permutation, IsPermutation-append, IsPermutation-trans}
use Rattle.chain_terms.specs.Sums.{upto}
use Rattle.chain_laws.proofs.Places.{get_or-up_from, length-up_from}
use Rattle.mb_base.specs.declared.point.Box3.{Box3}
use Rattle.box_tree.specs.declared.TheConstants.{BLOCK, MOST_BOXES}
use Rattle.box_tree.specs.declared.nodes.Entry.{Entry}
use Rattle.box_tree.specs.declared.keys.Key.{Key}
use Rattle.box_tree.specs.declared.walk.Question.{Question}
use Rattle.box_tree.specs.Coarse.{IsExact, bounds_around, bounds_inside, bounds_meet}
use Rattle.box_tree.specs.Touching.{IsBox, touches, box_at, no_box}
use Rattle.box_tree.specs.Keys.{numbers_of_run, numbers_of_runs, numbers_of_keys}
use Rattle.box_tree.specs.Nodes.{AreEntries, AreKept, entry_of, numbers_of}
use Rattle.box_tree.specs.Walks.{is_hit}
use Rattle.box_tree.proofs.Orders.{flat_map_moved}
use Rattle.box_tree.proofs.Exact.{bounds_of_touching, bounds_tell}

-- the numbers below n are below n
below_upto : (n : ℕ) → All (λ k. k < n) (upto n)
below_upto n =
    let P : ℕ → ℕ → Type 0 = λ m k. k < m in
    All-from_get_or (λ k. k < n) (upto n) 0
    (λ i h. let low : i < n = omega (arith, h, length-up_from 0 n) in omega (arith, low, get_or-up_from 0 n i 0 low))

-- as many entries as boxes
pub as_many : (shift : ℕ) (boxes : List Box3) (entries : List Entry) → AreEntries shift boxes entries → length entries ≡ length boxes
as_many shift boxes entries h =
    sym (length-map entries (λ e. e.number)) ∙ length_permutation (upto (length boxes)) (numbers_of entries) h.order ∙ length-up_from 0 (length boxes)

-- what the entry of each box meets, all entries meet
each_entry : (shift : ℕ) (boxes : List Box3) (entries : List Entry) (P : Entry → Type 0) → AreEntries shift boxes entries →
    ((k : ℕ) → k < length boxes → P (entry_of shift boxes k)) → All P entries
each_entry shift boxes entries P h each =
    let numbers = All-permutation (λ k. k < length boxes) (upto (length boxes)) (numbers_of entries) h.order (below_upto (length boxes)) in
    All-same P entries (map (entry_of shift boxes) (numbers_of entries)) h.made
    (All-map P (entry_of shift boxes) (numbers_of entries) (All-weaker (λ k. k < length boxes) (λ k. P (entry_of shift boxes k)) each (numbers_of entries) numbers))

-- an entry is a hit where the box of its number touches the area
abbrev pub IsTold : Question → List Box3 → Entry → Type 0
IsTold q boxes e = is_hit q e ≡ touches (box_at boxes e.number) q.area

-- whether a number is past those that are stored
not_past : (n k : ℕ) → k < n → nat_le n k ≡ false
not_past n k low = grind (arith, low)

is_past : (n k : ℕ) → n ≤ k → nat_le n k ≡ true
is_past n k past = grind (arith, past)

-- a test beside one that holds
with_true : (b : Bool) → (b && true) ≡ b
with_true true = refl
with_true false = refl

-- so it is for a box that is stored, and for one that is not
stored_tells : (shift : ℕ) (boxes : List Box3) (q : Question) (k : ℕ) → q.bounds ≡ bounds_inside shift q.area → k < length q.boxes.now →
    box_at q.boxes.now k ≡ box_at boxes k → IsTold q boxes (entry_of shift boxes k)
stored_tells shift boxes q k bounds low same =
    let b = box_at boxes k in
    let meet = bounds_meet (bounds_around shift b) (bounds_inside shift q.area) in
    let there : nat_le (length q.boxes.now) k ≡ false = not_past (length q.boxes.now) k low in
    ap₂ (λ x y. bounds_meet (bounds_around shift b) x && (nat_le (length q.boxes.now) k || touches y q.area)) bounds same
    ∙ ap (λ x. meet && (x || touches b q.area)) there
    ∙ elim (cases_Bool (touches b q.area)) as (λ _. (meet && touches b q.area) ≡ touches b q.area) [
      | inl y ↦ rw (y, bounds_of_touching shift b q.area y) refl
      | inr n ↦ rw n (grind arith)
    ]

exact_tells : (shift : ℕ) (boxes : List Box3) (q : Question) (k : ℕ) → q.bounds ≡ bounds_inside shift q.area → length q.boxes.now ≤ k →
    IsExact shift (box_at boxes k) → IsBox (box_at boxes k) → touches q.area q.area ≡ true → IsTold q boxes (entry_of shift boxes k)
exact_tells shift boxes q k bounds past exact solid asked =
    let b = box_at boxes k in
    let meet = bounds_meet (bounds_around shift b) (bounds_inside shift q.area) in
    let none : nat_le (length q.boxes.now) k ≡ true = is_past (length q.boxes.now) k past in
    ap (λ x. bounds_meet (bounds_around shift b) x && (nat_le (length q.boxes.now) k || touches (box_at q.boxes.now k) q.area)) bounds
    ∙ ap (λ x. meet && (x || touches (box_at q.boxes.now k) q.area)) none ∙ with_true meet ∙ bounds_tell shift b q.area exact solid asked

-- and so for all entries
pub all_told : (shift : ℕ) (boxes : List Box3) (q : Question) → AreEntries shift boxes q.entries.now → AreKept shift q.boxes.now boxes → All IsBox boxes →
    q.bounds ≡ bounds_inside shift q.area → touches q.area q.area ≡ true →
    All (IsTold q boxes) q.entries.now
all_told shift boxes q h kept solid bounds asked =
    each_entry shift boxes q.entries.now (IsTold q boxes) h
    (λ k low. elim (cases_lt k (length q.boxes.now)) as (λ _. IsTold q boxes (entry_of shift boxes k)) [
      | inl stored ↦ stored_tells shift boxes q k bounds stored ((kept k low).same stored)
      | inr past ↦ exact_tells shift boxes q k bounds past ((kept k low).exact past) (All-get_or IsBox boxes k no_box low solid) asked
    ])

-- entries that are made of numbers have them
made_numbers : (shift : ℕ) (boxes : List Box3) (numbers : List ℕ) → numbers_of (map (entry_of shift boxes) numbers) ≡ numbers
made_numbers shift boxes [] = refl
made_numbers shift boxes (k ∷ ks) = ap (λ l. k ∷ l) (made_numbers shift boxes ks)

-- the entries that are made of the numbers of keys in another order
pub entries_made : (shift : ℕ) (boxes : List Box3) (runs singles runs' singles' : List Key) (entries : List Entry) → length boxes ≤ MOST_BOXES →
    IsPermutation (upto (length boxes)) (numbers_of_keys (length boxes) runs singles) →
    IsPermutation runs runs' → IsPermutation singles singles' → entries ≡ map (entry_of shift boxes) (numbers_of_keys (length boxes) runs' singles') →
    AreEntries shift boxes entries
entries_made shift boxes runs singles runs' singles' entries few all moved_runs moved_singles made =
    let n = length boxes in
    let now = numbers_of_keys n runs' singles' in
    let numbers : numbers_of entries ≡ now = ap numbers_of made ∙ made_numbers shift boxes now in
    let moved : IsPermutation (numbers_of_keys n runs singles) now =
    IsPermutation-append (numbers_of_runs n BLOCK runs) (numbers_of_runs n BLOCK runs') (numbers_of_runs n 1 singles) (numbers_of_runs n 1 singles')
    (flat_map_moved (λ k. numbers_of_run n BLOCK k.first) runs runs' moved_runs) (flat_map_moved (λ k. numbers_of_run n 1 k.first) singles singles' moved_singles) in
    let P : List ℕ → Type 0 = λ l. IsPermutation (upto n) l in
    record {
      few = few;
      order = subst P (sym numbers) (IsPermutation-trans (upto n) (numbers_of_keys n runs singles) now all moved);
      made = made ∙ ap (map (entry_of shift boxes)) (sym numbers);
    }
