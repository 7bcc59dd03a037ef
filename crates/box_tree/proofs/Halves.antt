-- Nodes in the order of the walk: what is written after a node is right stays right.
use Rattle.std.proofs.Common.{◌≡◌, ◌≢◌, ◌∙◌, ℕ, ◌+◌, ◌-◌, ◌*◌, ◌<◌, ◌≤◌, List, ◌++◌, length, set, sym, arith, subst, inl, inr}
use Rattle.std.specs.Prelude.{◌⊎◌}
use Rattle.std.proofs.lemmas.Bool.{cases_lt}
use Rattle.std.proofs.lemmas.List.{get_or-set_same, get_or-set_other}
use Rattle.std.proofs.lemmas.List.Elements.{All-append, All-same}
use Rattle.box_tree.specs.declared.TheConstants.{BLOCK}
use Rattle.box_tree.specs.declared.bounds.Bounds.{Bounds}
use Rattle.box_tree.specs.declared.nodes.Entry.{Entry}
use Rattle.box_tree.specs.declared.nodes.Node.{Node}
use Rattle.box_tree.specs.Coarse.{IsBoundsIn}
use Rattle.box_tree.specs.Nodes.{no_bounds, node_at, run_of, half, IsRound, HasRun, IsNode, IsNodeOf}
use Rattle.box_tree.proofs.Rounds.{round_wider}
use Rattle.box_tree.proofs.Runs.{run_split}

-- nodes agree from one place to another
abbrev pub AgreeOn : ℕ → ℕ → List Node → List Node → Type 0
AgreeOn from to old new = (q : ℕ) → from ≤ q → q < to → node_at new q ≡ node_at old q

-- a node that has a run has it elsewhere too
run_kept : (old new : List Node) (q first count : ℕ) → node_at new q ≡ node_at old q → HasRun (node_at old q) first count → HasRun (node_at new q) first count
run_kept old new q first count same run = let P : Node → Type 0 = λ n. HasRun n first count in subst P (sym same) run

-- a right node stays right where all up to its end stays
pub node_kept : (end later : ℕ) (old new : List Node) (entries : List Entry) (place : ℕ) → end ≤ later → AgreeOn place end old new →
    IsNode end old entries place → IsNode later new entries place
node_kept end later old new entries place after agree node =
    let first = (node_at old place).first in
    let count = (node_at old place).count in
    let some : 0 < count = node.some in
    let room : place + 2 * count ≤ end + 1 = node.room in
    let P : Node → Type 0 = λ n. IsNodeOf later new entries place n in
    subst P (sym (agree place (omega arith) (omega (arith, some, room)))) (record {
      some = some;
      room = omega (arith, room, after);
      within = node.within;
      round = node.round;
      left = λ more. run_kept old new (place + 1) first (half count) (agree (place + 1) (omega arith) (omega (arith, more, room))) (node.left more);
      right = λ more. run_kept old new (place + 2 * half count) (first + half count) (count - half count)
          (agree (place + 2 * half count) (omega arith) (omega (arith, more, room))) (node.right more);
    })

-- a node of one block, written at its place
pub leaf_written : (nodes : List Node) (entries : List Entry) (place first : ℕ) (bounds : Bounds) → place < length nodes →
    BLOCK * (first + 1) < length entries + BLOCK → IsRound bounds (run_of entries first 1) →
    (q : ℕ) → place ≤ q → q + 1 < place + 2 → IsNode (place + 2 - 1) (set nodes place (record { bounds = bounds; first = first; count = 1 })) entries q
leaf_written nodes entries place first bounds there within round q low high =
    let node : Node = record { bounds = bounds; first = first; count = 1 } in
    let Q : ℕ → Type 0 = λ p. IsNode (place + 2 - 1) (set nodes place node) entries p in
    let P : Node → Type 0 = λ n. IsNodeOf (place + 2 - 1) (set nodes place node) entries place n in
    let here : place ≡ q = omega (arith, low, high) in
    let written : node_at (set nodes place node) place ≡ node = get_or-set_same nodes place node (record { bounds = no_bounds; first = 0; count = 0 }) there in
    subst Q here (subst P (sym written) (record {
      some = omega arith;
      room = omega arith;
      within = within;
      round = round;
      left = λ more. absurd (omega (arith, more));
      right = λ more. absurd (omega (arith, more));
    }))

-- what the two halves and the node above them owe
pub record AreHalves (one two : List Node) (entries : List Entry) (place first count : ℕ) (bounds : Bounds) : Type 0 where
  pub some : 1 < count
  pub room : place + 2 * count ≤ length two + 1
  pub within : BLOCK * (first + count) < length entries + BLOCK
  pub kept : (q : ℕ) → (q < place + 2 * half count) ⊎ (place + 2 * half count + 2 * (count - half count) ≤ q + 1) → node_at two q ≡ node_at one q
  pub left_run : HasRun (node_at one (place + 1)) first (half count)
  pub right_run : HasRun (node_at two (place + 2 * half count)) (first + half count) (count - half count)
  pub left_nodes : (q : ℕ) → place + 1 ≤ q → q + 1 < place + 1 + 2 * half count → IsNode (place + 1 + 2 * half count - 1) one entries q
  pub right_nodes : (q : ℕ) → place + 2 * half count ≤ q → q + 1 < place + 2 * half count + 2 * (count - half count) →
      IsNode (place + 2 * half count + 2 * (count - half count) - 1) two entries q
  pub left_bounds : IsBoundsIn (node_at two (place + 1)).bounds bounds
  pub right_bounds : IsBoundsIn (node_at two (place + 2 * half count)).bounds bounds

-- bounds of a node with a run are round that run
round_of_run : (end : ℕ) (nodes : List Node) (entries : List Entry) (q first count : ℕ) (bounds : Bounds) → IsNode end nodes entries q → HasRun (node_at nodes q) first count →
    IsBoundsIn (node_at nodes q).bounds bounds → IsRound bounds (run_of entries first count)
round_of_run end nodes entries q first count bounds node run within =
    let wide = round_wider (node_at nodes q).bounds bounds (run_of entries (node_at nodes q).first (node_at nodes q).count) within node.round in
    let F : ℕ → Type 0 = λ f. IsRound bounds (run_of entries f (node_at nodes q).count) in
    let C : ℕ → Type 0 = λ n. IsRound bounds (run_of entries first n) in
    subst C run.blocks (subst F run.begins wide)

-- bounds round both halves are round the whole run
round_of_halves : (one two : List Node) (entries : List Entry) (place first count : ℕ) (bounds : Bounds) → AreHalves one two entries place first count bounds →
    IsRound bounds (run_of entries first count)
round_of_halves one two entries place first count bounds h =
    let more : 1 < count = h.some in
    let e : node_at two (place + 1) ≡ node_at one (place + 1) = h.kept (place + 1) (inl (omega (arith, more))) in
    let B : Node → Type 0 = λ n. IsBoundsIn n.bounds bounds in
    let front = round_of_run (place + 1 + 2 * half count - 1) one entries (place + 1) first (half count) bounds
    (h.left_nodes (place + 1) (omega arith) (omega (arith, more))) h.left_run (subst B e h.left_bounds) in
    let back = round_of_run (place + 2 * half count + 2 * (count - half count) - 1) two entries (place + 2 * half count) (first + half count) (count - half count) bounds
    (h.right_nodes (place + 2 * half count) (omega arith) (omega (arith, more))) h.right_run h.right_bounds in
    All-same (λ e. IsBoundsIn e.bounds bounds) (run_of entries first count) (run_of entries first (half count) ++ run_of entries (first + half count) (count - half count))
    (run_split entries first count (half count) (omega arith))
    (All-append (λ e. IsBoundsIn e.bounds bounds) (run_of entries first (half count)) (run_of entries (first + half count) (count - half count)) front back)

-- a node over two halves, written before them
pub halves_written : (one two : List Node) (entries : List Entry) (place first count : ℕ) (bounds : Bounds) → AreHalves one two entries place first count bounds →
    (q : ℕ) → place ≤ q → q + 1 < place + 2 * count → IsNode (place + 2 * count - 1) (set two place (record { bounds = bounds; first = first; count = count })) entries q
halves_written one two entries place first count bounds h q low high =
    let node : Node = record { bounds = bounds; first = first; count = count } in
    let new = set two place node in
    let end = place + 2 * count - 1 in
    let more : 1 < count = h.some in
    let room : place + 2 * count ≤ length two + 1 = h.room in
    let blank : Node = record { bounds = no_bounds; first = 0; count = 0 } in
    let written : node_at new place ≡ node = get_or-set_same two place node blank (omega (arith, more, room)) in
    let others : (p : ℕ) → p ≢ place → node_at new p ≡ node_at two p = λ p other. get_or-set_other two place p node blank other in
    let P : Node → Type 0 = λ n. IsNodeOf end new entries place n in
    let Q : ℕ → Type 0 = λ p. IsNode end new entries p in
    let here : IsNode end new entries place =
    subst P (sym written) (record {
      some = omega (arith, more);
      room = omega (arith, more);
      within = h.within;
      round = round_of_halves one two entries place first count bounds h;
      left = λ _. run_kept one new (place + 1) first (half count) (others (place + 1) (omega arith) ∙ h.kept (place + 1) (inl (omega (arith, more)))) h.left_run;
      right = λ _. run_kept two new (place + 2 * half count) (first + half count) (count - half count) (others (place + 2 * half count) (omega (arith, more))) h.right_run;
    }) in
    elim (cases_lt place q) as (λ _. IsNode end new entries q) [
      | inl above ↦ elim (cases_lt q (place + 2 * half count)) as (λ _. IsNode end new entries q) [
        | inl front ↦ node_kept (place + 1 + 2 * half count - 1) end one new entries q (omega (arith, more))
            (λ p from to. others p (omega (arith, from, above)) ∙ h.kept p (inl (omega (arith, to)))) (h.left_nodes q (omega (arith, above)) (omega (arith, front)))
        | inr back ↦ node_kept (place + 2 * half count + 2 * (count - half count) - 1) end two new entries q (omega (arith, more))
            (λ p from to. others p (omega (arith, from, above))) (h.right_nodes q back (omega (arith, high, more)))
      ]
      | inr below ↦ let e : place ≡ q = omega (arith, low, below) in subst Q e here
    ]
