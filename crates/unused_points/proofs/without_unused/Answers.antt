use Rattle.std.proofs.Common.{◌≡◌, ◌<◌, ◌-◌, ℕ, ℤ, true, false, Bool, List, [], length, replicate, sym, ◌∙◌, ap, subst, arith, rules}
use Rattle.std.specs.List.{All}
use Rattle.std.proofs.lemmas.List.{length-map}
use Rattle.mesh_terms.specs.Labels.{no_labels}
use Rattle.mesh_terms.specs.Meshes.{Triple, Soup, IsBelow, IsMesh, triples_of, is_used, new_number, used_from, renumbered, soup_of}
use Rattle.unused_points.specs.Used.{MarksUsed, NumbersUsed}
use Rattle.unused_points.proofs.AllUsed.{soup_of-all}
use Rattle.unused_points.proofs.KeptMesh.{few_kept, kept_mesh}
use Rattle.unused_points.proofs.without_unused.Goals as goal

-- where each mark is set, each point is used
marked_used : (n : ℕ) (ts : List Triple) (marks : List Bool) → MarksUsed n ts marks → All (λ mark. mark ≡ true) marks → (v : ℕ) → v < n → is_used ts v ≡ true
marked_used n ts marks known set v low = sym (known.used v low) ∙ set v false (omega (arith, low, known.each))

-- a soup by its parts
soup_is : (points : List (List ℤ)) (ts : List Triple) (s : Soup) → s.points ≡ used_from ts 0 points → s.triples ≡ renumbered ts →
    s.labels ≡ no_labels s.triples → s.unused ≡ length points - length (used_from ts 0 points)
    → s ≡ soup_of points ts (no_labels ts)
soup_is points ts s first second third fourth =
    let count : length (renumbered ts) ≡ length ts = length-map {B = Triple} ts (λ t. (new_number ts t.0, new_number ts t.1, new_number ts t.2)) in
    let labels : s.labels ≡ no_labels ts = third ∙ ap no_labels second ∙ ap (λ (n : ℕ). replicate n []) count in
    λ i. record { points = first i; triples = second i; labels = labels i; unused = fourth i }

-- marks, as they are read later
marks_as : (n m : ℕ) (us ts : List Triple) (marks now : List Bool) → n ≡ m → us ≡ ts → now ≡ marks → MarksUsed n us marks → MarksUsed m ts now
marks_as n m us ts marks now count same read known =
    subst (λ k. MarksUsed k ts now) count (subst (λ l. MarksUsed n l now) same (subst (MarksUsed n us) (sym read) known))

-- numbers, as they are read later
numbers_as : (n m : ℕ) (ts : List Triple) (numbers now : List ℕ) → n ≡ m → now ≡ numbers → NumbersUsed n ts numbers → NumbersUsed m ts now
numbers_as n m ts numbers now count read known = subst (λ k. NumbersUsed k ts now) count (subst (NumbersUsed n ts) (sym read) known)

pub returns-then-are_set : goal.returns-then-are_set
returns-then-are_set c =
    let points = c.args.points.items in
    let ts = triples_of c.args.triples.items in
    let marks = marks_as c.len.result (length points) (triples_of c.deref.result.now) ts c.in_ok-marks.marks.items c.deref-2.result.now
    (c.len.ensures ∙ c.args.points.ok.0) (ap triples_of c.deref.ensures.value) c.deref-2.ensures.value c.in_ok-marks.ensures in
    let set : All (λ mark. mark ≡ true) c.deref-2.result.now = search rules in
    let same = soup_of-all points ts (no_labels ts) c.requires.below (marked_used (length points) ts c.deref-2.result.now marks set) in
    (λ i. record { points = c.of.ensures.points i; triples = c.of.ensures.triples i; labels = c.of.ensures.labels i; unused = c.of.ensures.unused i }) ∙ sym same

pub overflow_sub-unused : goal.overflow_sub-unused
overflow_sub-unused c =
    let points = c.args.points.items in
    let ts = triples_of c.args.triples.items in
    let marks = marks_as c.len.result (length c.deref-3.result.now) (triples_of c.deref.result.now) ts c.in_ok-marks.marks.items c.deref-4.result.now
    (c.len.ensures ∙ c.args.points.ok.0 ∙ sym (ap length c.deref-3.ensures.value)) (ap triples_of c.deref.ensures.value) c.deref-4.ensures.value c.in_ok-marks.ensures in
    let kept : c.in_ok-kept.kept.items ≡ used_from ts 0 points = c.in_ok-kept.ensures.kept ts marks ∙ ap (used_from ts 0) c.deref-3.ensures.value in
    omega (arith, c.len-2.ensures ∙ c.args.points.ok.0, c.len-3.ensures ∙ c.in_ok-kept.kept.ok.0, ap length kept, few_kept ts 0 points)

pub renumbered-requires : goal.renumbered-requires
renumbered-requires c =
    let points = c.args.points.items in
    let ts = triples_of c.args.triples.items in
    let marks = marks_as c.len.result (length c.deref-3.result.now) (triples_of c.deref.result.now) ts c.in_ok-marks.marks.items c.deref-4.result.now
    (c.len.ensures ∙ c.args.points.ok.0 ∙ sym (ap length c.deref-3.ensures.value)) (ap triples_of c.deref.ensures.value) c.deref-4.ensures.value c.in_ok-marks.ensures in
    let count : length c.deref-5.result.now ≡ length points = ap length c.deref-5.ensures.value ∙ (c.in_ok-kept.ensures.numbers ts marks).each
    ∙ ap length c.deref-3.ensures.value in
    subst (λ n. All (IsBelow n) ts) (sym count) c.requires.below

pub of-requires-2 : goal.of-requires-2
of-requires-2 c =
    let points = c.args.points.items in
    let ts = triples_of c.args.triples.items in
    let marks = marks_as c.len.result (length c.deref-3.result.now) (triples_of c.deref.result.now) ts c.in_ok-marks.marks.items c.deref-4.result.now
    (c.len.ensures ∙ c.args.points.ok.0 ∙ sym (ap length c.deref-3.ensures.value)) (ap triples_of c.deref.ensures.value) c.deref-4.ensures.value c.in_ok-marks.ensures in
    let kept : c.in_ok-kept.kept.items ≡ used_from ts 0 points = c.in_ok-kept.ensures.kept ts marks ∙ ap (used_from ts 0) c.deref-3.ensures.value in
    let numbers = c.in_ok-kept.ensures.numbers ts marks in
    let after : triples_of c.renumbered.result.items ≡ renumbered ts =
    c.renumbered.ensures ts (numbers_as (length c.deref-3.result.now) (length c.deref-5.result.now) ts c.in_ok-kept.numbers.items c.deref-5.result.now
    (sym (ap length c.deref-5.ensures.value ∙ numbers.each)) c.deref-5.ensures.value numbers) in
    subst (λ l. IsMesh (length l) (triples_of c.renumbered.result.items)) (sym kept)
    (subst (λ l. IsMesh (length (used_from ts 0 points)) l) (sym after) (kept_mesh ts points c.requires))

pub returns : goal.returns
returns c =
    let points = c.args.points.items in
    let ts = triples_of c.args.triples.items in
    let marks = marks_as c.len.result (length c.deref-3.result.now) (triples_of c.deref.result.now) ts c.in_ok-marks.marks.items c.deref-4.result.now
    (c.len.ensures ∙ c.args.points.ok.0 ∙ sym (ap length c.deref-3.ensures.value)) (ap triples_of c.deref.ensures.value) c.deref-4.ensures.value c.in_ok-marks.ensures in
    let kept : c.in_ok-kept.kept.items ≡ used_from ts 0 points = c.in_ok-kept.ensures.kept ts marks ∙ ap (used_from ts 0) c.deref-3.ensures.value in
    let numbers = c.in_ok-kept.ensures.numbers ts marks in
    let after : triples_of c.renumbered.result.items ≡ renumbered ts =
    c.renumbered.ensures ts (numbers_as (length c.deref-3.result.now) (length c.deref-5.result.now) ts c.in_ok-kept.numbers.items c.deref-5.result.now
    (sym (ap length c.deref-5.ensures.value ∙ numbers.each)) c.deref-5.ensures.value numbers) in
    let unused : c.of-2.result.unused ≡ length points - length (used_from ts 0 points) =
    omega (arith, c.of-2.ensures.unused, c.len-2.ensures ∙ c.args.points.ok.0, c.len-3.ensures ∙ c.in_ok-kept.kept.ok.0, ap length kept) in
    soup_is points ts c.of-2.result (c.of-2.ensures.points ∙ kept) (c.of-2.ensures.triples ∙ after) (c.of-2.ensures.labels ∙ sym (ap no_labels c.of-2.ensures.triples)) unused
