-- The numbers that entries, nodes and a stack of nodes give.
use Rattle.std.proofs.Common.{◌≡◌, ◌∙◌, ℕ, ◌+◌, ◌-◌, ◌*◌, ◌<◌, ◌≤◌, true, false, List, [], ◌∷◌, ◌++◌, length, get_or, refl, sym, ap, arith}
use Rattle.std.specs.Prelude.{slice_range}
use Rattle.std.specs.List.{filter, flat_map}
use Rattle.std.proofs.lemmas.Bool.{false_from_ne_true, both_ways}
use Rattle.std.proofs.lemmas.List.{map-append, reverse-append, append_assoc}
use Rattle.std.proofs.lemmas.List.Elements.{All-head, All-tail, filter-append}
use Rattle.box_tree.specs.declared.bounds.Bounds.{Bounds}
use Rattle.box_tree.specs.declared.nodes.Entry.{Entry}
use Rattle.box_tree.specs.declared.walk.Question.{Question}
use Rattle.box_tree.specs.Coarse.{IsBoundsIn, bounds_meet}
use Rattle.box_tree.specs.Nodes.{IsRound, HasRun, IsNode, run_of, node_at, numbers_of, half}
use Rattle.box_tree.specs.Walks.{is_hit, hits, hits_below, hits_waiting}
use Rattle.box_tree.proofs.Rounds.{bounds_meets}
use Rattle.box_tree.proofs.Runs.{range_front, run_split}

-- what two lists give, one after the other
pub hits_append : (q : Question) (xs ys : List Entry) → hits q (xs ++ ys) ≡ hits q xs ++ hits q ys
hits_append q xs ys =
    ap numbers_of (filter-append (is_hit q) xs ys) ∙ map-append (λ e. e.number) (filter (is_hit q) xs) (filter (is_hit q) ys)

-- the first entry gives nothing
pub hits_missed : (q : Question) (i j : ℕ) (d : Entry) → i < j → j ≤ length q.entries.now → is_hit q (get_or q.entries.now i d) ≡ false →
    hits q (slice_range q.entries.now i j) ≡ hits q (slice_range q.entries.now (i + 1) j)
hits_missed q i j d before within missed = ap (hits q) (range_front q.entries.now i j d before within) ∙ rw missed

-- the first entry gives its number
pub hits_found : (q : Question) (i j : ℕ) (d : Entry) → i < j → j ≤ length q.entries.now → is_hit q (get_or q.entries.now i d) ≡ true →
    hits q (slice_range q.entries.now i j) ≡ (get_or q.entries.now i d).number ∷ hits q (slice_range q.entries.now (i + 1) j)
hits_found q i j d before within found = ap (hits q) (range_front q.entries.now i j d before within) ∙ rw found

-- an entry whose bounds lie in others that do not meet those of the area gives nothing
missed_with_bounds : (q : Question) (bounds : Bounds) (e : Entry) → IsBoundsIn e.bounds bounds → bounds_meet bounds q.bounds ≡ false → is_hit q e ≡ false
missed_with_bounds q bounds e within missed =
    let none : bounds_meet e.bounds q.bounds ≡ false = false_from_ne_true (bounds_meet e.bounds q.bounds)
    (λ t. both_ways (bounds_meet bounds q.bounds) missed (bounds_meets e.bounds bounds q.bounds within t)) in
    rw none refl

-- and so for all of them
pub hits_pruned : (q : Question) (bounds : Bounds) (entries : List Entry) → IsRound bounds entries → bounds_meet bounds q.bounds ≡ false → hits q entries ≡ []
hits_pruned q bounds [] round missed = refl
hits_pruned q bounds (e ∷ es) round missed =
    let head = missed_with_bounds q bounds e (All-head (λ x. IsBoundsIn x.bounds bounds) e es round) missed in
    let rest = hits_pruned q bounds es (All-tail (λ x. IsBoundsIn x.bounds bounds) e es round) missed in
    rw head rest

-- a run of blocks gives what its first blocks give and then what the others give
pub hits_split : (q : Question) (first count part : ℕ) → part ≤ count →
    hits q (run_of q.entries.now first count) ≡ hits q (run_of q.entries.now first part) ++ hits q (run_of q.entries.now (first + part) (count - part))
hits_split q first count part few =
    ap (hits q) (run_split q.entries.now first count part few) ∙ hits_append q (run_of q.entries.now first part) (run_of q.entries.now (first + part) (count - part))

-- the last node on the stack gives its numbers first
pub waiting_push : (q : Question) (stack : List ℕ) (place : ℕ) → hits_waiting q (stack ++ place ∷ []) ≡ hits_below q place ++ hits_waiting q stack
waiting_push q stack place = ap (flat_map (hits_below q)) (reverse-append stack (place ∷ []))

-- what a node gives by its run of blocks
hits_of_run : (q : Question) (place first count : ℕ) → HasRun (node_at q.nodes.now place) first count → hits_below q place ≡ hits q (run_of q.entries.now first count)
hits_of_run q place first count run =
    ap (λ f. hits q (run_of q.entries.now f (node_at q.nodes.now place).count)) run.begins ∙ ap (λ n. hits q (run_of q.entries.now first n)) run.blocks

-- the two halves of a node on the stack give what the node gives
pub waiting_halves : (q : Question) (stack pushed : List ℕ) (place left right : ℕ) → IsNode (length q.nodes.now) q.nodes.now q.entries.now place →
    1 < (node_at q.nodes.now place).count →
    left ≡ place + 1 → right ≡ place + 2 * half (node_at q.nodes.now place).count → pushed ≡ (stack ++ right ∷ []) ++ left ∷ [] →
    hits_waiting q pushed ≡ hits_below q place ++ hits_waiting q stack
waiting_halves q stack pushed place left right node some l r p =
    let first = (node_at q.nodes.now place).first in
    let count = (node_at q.nodes.now place).count in
    let a : hits_below q left ≡ hits q (run_of q.entries.now first (half count)) = ap (hits_below q) l ∙ hits_of_run q (place + 1) first (half count) (node.left some) in
    let b : hits_below q right ≡ hits q (run_of q.entries.now (first + half count) (count - half count)) =
    ap (hits_below q) r ∙ hits_of_run q (place + 2 * half count) (first + half count) (count - half count) (node.right some) in
    let both : hits_below q left ++ hits_below q right ≡ hits_below q place =
    ap (λ x. x ++ hits_below q right) a ∙ ap (λ x. hits q (run_of q.entries.now first (half count)) ++ x) b ∙ sym (hits_split q first count (half count) (omega arith)) in
    ap (hits_waiting q) p ∙ waiting_push q (stack ++ right ∷ []) left ∙ ap (λ x. hits_below q left ++ x) (waiting_push q stack right)
    ∙ sym (append_assoc (hits_below q left) (hits_below q right) (hits_waiting q stack)) ∙ ap (λ x. x ++ hits_waiting q stack) both
