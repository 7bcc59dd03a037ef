-- Runs of blocks, and entries from one place to another.
use Rattle.std.proofs.Common.{◌≡◌, ◌∙◌, ℕ, suc, ◌+◌, ◌-◌, ◌*◌, ◌<◌, ◌≤◌, List, [], ◌∷◌, ◌++◌, length, get_or, take, drop, ap, arith}
use Rattle.std.specs.Prelude.{slice_range, min}
use Rattle.std.proofs.lemmas.List.{drop_more, take_min, length-drop, drop-drop}
use Rattle.std.proofs.Math.Seq.{take-add}
use Rattle.box_tree.specs.declared.TheConstants.{BLOCK}
use Rattle.box_tree.specs.declared.nodes.Entry.{Entry}
use Rattle.box_tree.specs.Nodes.{run_of}

-- a run of blocks is its first blocks and then the others
pub run_split : (entries : List Entry) (first count part : ℕ) → part ≤ count →
    run_of entries first count ≡ run_of entries first part ++ run_of entries (first + part) (count - part)
run_split entries first count part few =
    let parts : BLOCK * count ≡ BLOCK * part + BLOCK * (count - part) = omega arith in
    let on : BLOCK * first + BLOCK * part ≡ BLOCK * (first + part) = omega arith in
    ap (λ n. take n (drop (BLOCK * first) entries)) parts
    ∙ take-add (BLOCK * part) (BLOCK * (count - part)) (drop (BLOCK * first) entries)
    ∙ ap (λ l. take (BLOCK * part) (drop (BLOCK * first) entries) ++ take (BLOCK * (count - part)) l)
    (drop-drop (BLOCK * part) (BLOCK * first) entries ∙ ap (λ n. drop n entries) on)

-- the first of the entries from i to j
pub range_front : {X : Type 0} (xs : List X) (i j : ℕ) (d : X) → i < j → j ≤ length xs → slice_range xs i j ≡ get_or xs i d ∷ slice_range xs (i + 1) j
range_front xs i j d before within =
    let more : j - i ≡ suc (j - (i + 1)) = omega arith in
    ap (λ n. take n (drop i xs)) more ∙ ap (λ l. take (suc (j - (i + 1))) l) (drop_more xs i d (omega arith))

-- a range that is cut off at the end of the list
pub range_cut : {X : Type 0} (xs : List X) (i n : ℕ) → i ≤ length xs → slice_range xs i (min (length xs) (i + n)) ≡ take n (drop i xs)
range_cut xs i n within =
    let e : min (length xs) (i + n) - i ≡ min n (length (drop i xs)) = omega (arith, length-drop i xs) in
    ap (λ k. take k (drop i xs)) e ∙ take_min n (drop i xs)

-- nothing lies from i to i
pub range_none : {X : Type 0} (xs : List X) (i : ℕ) → slice_range xs i i ≡ []
range_none xs i = let e : i - i ≡ 0 = omega arith in ap (λ k. take k (drop i xs)) e
