-- Keys of runs and of single boxes.
use Rattle.std.specs.Prelude.{min}
use Rattle.std.specs.List.{flat_map}
use Rattle.std.specs.List.Sorted.{IsPermutation}
use Rattle.std.proofs.Common.{◌≡◌, ◌∙◌, ℕ, ◌+◌, ◌-◌, ◌<◌, ◌≤◌, List, [], ◌∷◌, ◌++◌, append-nil, length, map, zero-add, sym, ap, arith, subst}
use Rattle.std.proofs.lemmas.List.{append_assoc, map_push}
use Rattle.std.proofs.lemmas.List.Concat.{flat_map-append}
use Rattle.std.proofs.lemmas.List.Sorted.{IsPermutation-trans, IsPermutation-append_left, IsPermutation-append_right, IsPermutation-append_comm}
use Rattle.chain_terms.specs.Sums.{up_from, upto}
use Rattle.chain_laws.proofs.Places.{up_from-append}
use Rattle.box_tree.specs.declared.TheConstants.{BLOCK}
use Rattle.box_tree.specs.declared.keys.Key.{Key}
use Rattle.mb_base.specs.declared.point.Box3.{Box3}
use Rattle.box_tree.specs.declared.bounds.Bounds.{Bounds}
use Rattle.box_tree.specs.declared.nodes.Entry.{Entry}
use Rattle.box_tree.specs.Coarse.{bounds_around}
use Rattle.box_tree.specs.Touching.{box_at}
use Rattle.box_tree.specs.Keys.{numbers_of_run, numbers_of_runs, numbers_of_keys}
use Rattle.box_tree.specs.Nodes.{entry_of}

-- one key more
pub runs_push : (n run : ℕ) (keys : List Key) (key : Key) → numbers_of_runs n run (keys ++ key ∷ []) ≡ numbers_of_runs n run keys ++ numbers_of_run n run key.first
runs_push n run keys key =
    let numbers : Key → List ℕ = λ k. numbers_of_run n run k.first in
    flat_map-append numbers keys (key ∷ []) ∙ ap (λ l. flat_map numbers keys ++ l) (append-nil (numbers key))

-- the numbers of single boxes, with one box more
pub single_more : (n : ℕ) (keys more : List Key) (key : Key) (before : List ℕ) (first : ℕ) → more ≡ keys ++ key ∷ [] → key.first < n → first ≤ key.first →
    numbers_of_runs n 1 keys ≡ before ++ up_from first (key.first - first) →
    numbers_of_runs n 1 more ≡ before ++ up_from first (key.first + 1 - first)
single_more n keys more key before first push low from h =
    let many = key.first - first in
    let count = min 1 (n - key.first) in
    let at : first + many ≡ key.first = omega arith in
    let all : many + count ≡ key.first + 1 - first = omega arith in
    ap (numbers_of_runs n 1) push ∙ runs_push n 1 keys key ∙ ap (λ l. l ++ up_from key.first count) h ∙ append_assoc before (up_from first many) (up_from key.first count)
    ∙ ap (λ l. before ++ l) (ap (λ k. up_from first many ++ up_from k count) (sym at) ∙ sym (up_from-append first many count) ∙ ap (up_from first) all)

-- the numbers below that of a run, and then its own
upto_more : (first end : ℕ) → first ≤ end → upto first ++ up_from first (end - first) ≡ upto end
upto_more first end order =
    let to : first + (end - first) ≡ end = omega arith in
    ap (λ k. upto first ++ up_from k (end - first)) (sym (zero-add first)) ∙ sym (up_from-append 0 first (end - first)) ∙ ap upto to

-- the numbers up to the end of a run whose boxes have keys of their own
pub singles_keep : (n first end : ℕ) (runs singles more : List Key) → first ≤ end → IsPermutation (upto first) (numbers_of_keys n runs singles) →
    numbers_of_runs n 1 more ≡ numbers_of_runs n 1 singles ++ up_from first (end - first) →
    IsPermutation (upto end) (numbers_of_keys n runs more)
singles_keep n first end runs singles more order h added =
    let rs = numbers_of_runs n BLOCK runs in
    let ss = numbers_of_runs n 1 singles in
    let own = up_from first (end - first) in
    let P : List ℕ → Type 0 = λ l. IsPermutation l (rs ++ numbers_of_runs n 1 more) in
    let Q : List ℕ → Type 0 = λ l. IsPermutation (upto first ++ own) (rs ++ l) in
    let R : List ℕ → Type 0 = λ l. IsPermutation (upto first ++ own) l in
    subst P (upto_more first end order) (subst Q (sym added) (subst R (append_assoc rs ss own) (IsPermutation-append_left own (upto first) (rs ++ ss) h)))

-- the numbers up to the end of a run that has a key
pub run_keeps : (n first end : ℕ) (runs singles more : List Key) (key : Key) → end ≡ first + BLOCK → end ≤ n → key.first ≡ first → more ≡ runs ++ key ∷ [] →
    IsPermutation (upto first) (numbers_of_keys n runs singles) →
    IsPermutation (upto end) (numbers_of_keys n more singles)
run_keeps n first end runs singles more key last within here push h =
    let rs = numbers_of_runs n BLOCK runs in
    let ss = numbers_of_runs n 1 singles in
    let own = up_from first (end - first) in
    let size : min BLOCK (n - first) ≡ end - first = omega arith in
    let added : numbers_of_runs n BLOCK more ≡ rs ++ own = ap (numbers_of_runs n BLOCK) push ∙ runs_push n BLOCK runs key
    ∙ ap (λ l. rs ++ l) (ap (numbers_of_run n BLOCK) here ∙ ap (up_from first) size) in
    let moved : IsPermutation ((rs ++ ss) ++ own) ((rs ++ own) ++ ss) =
    let A : List ℕ → Type 0 = λ l. IsPermutation l ((rs ++ own) ++ ss) in
    let B : List ℕ → Type 0 = λ l. IsPermutation (rs ++ (ss ++ own)) l in
    subst A (sym (append_assoc rs ss own)) (subst B (sym (append_assoc rs own ss)) (IsPermutation-append_right rs (ss ++ own) (own ++ ss) (IsPermutation-append_comm ss own))) in
    let P : List ℕ → Type 0 = λ l. IsPermutation l (numbers_of_keys n more singles) in
    let Q : List ℕ → Type 0 = λ l. IsPermutation (upto first ++ own) (l ++ ss) in
    subst P (upto_more first end (omega (arith, last))) (subst Q (sym added)
    (IsPermutation-trans (upto first ++ own) ((rs ++ ss) ++ own) ((rs ++ own) ++ ss) (IsPermutation-append_left own (upto first) (rs ++ ss) h) moved))

-- the entries of a run, with one box more
pub entry_pushed : (shift : ℕ) (boxes : List Box3) (front : List Entry) (first number : ℕ) (entries pushed : List Entry) (bounds : Bounds) → first ≤ number →
    entries ≡ front ++ map (entry_of shift boxes) (up_from first (number - first)) → pushed ≡ entries ++ (record { bounds = bounds; number = number }) ∷ [] →
    bounds ≡ bounds_around shift (box_at boxes number) →
    pushed ≡ front ++ map (entry_of shift boxes) (up_from first (number + 1 - first))
entry_pushed shift boxes front first number entries pushed bounds from before push here =
    let many = number - first in
    let entry : Bounds → Entry = λ b. record { bounds = b; number = number } in
    let at : first + many ≡ number = omega arith in
    let more : many + 1 ≡ number + 1 - first = omega arith in
    let one : map (entry_of shift boxes) (up_from first many) ++ entry_of shift boxes number ∷ [] ≡ map (entry_of shift boxes) (up_from first (number + 1 - first)) =
    sym (map_push (entry_of shift boxes) (up_from first many) number)
    ∙ ap (map (entry_of shift boxes)) (ap (λ k. up_from first many ++ k ∷ []) (sym at) ∙ sym (up_from-append first many 1) ∙ ap (up_from first) more) in
    push ∙ ap (λ b. entries ++ entry b ∷ []) here ∙ ap (λ l. l ++ entry_of shift boxes number ∷ []) before
    ∙ append_assoc front (map (entry_of shift boxes) (up_from first many)) (entry_of shift boxes number ∷ []) ∙ ap (λ l. front ++ l) one

-- the entries of a run, once its last box is there
pub entries_of_run : (shift : ℕ) (boxes : List Box3) (run : ℕ) (front : List Entry) (first number : ℕ) (entries : List Entry) →
    entries ≡ front ++ map (entry_of shift boxes) (up_from first (number - first)) →
    number - first ≡ min run (length boxes - first) → entries ≡ front ++ map (entry_of shift boxes) (numbers_of_run (length boxes) run first)
entries_of_run shift boxes run front first number entries before all = before ∙ ap (λ n. front ++ map (entry_of shift boxes) (up_from first n)) all
