-- The copies of the vertices of a side are told by the runs that their numbers give.
use Rattle.std.proofs.Common.{◌≡◌, ℕ, ◌+◌, ◌-◌, ◌<◌, ℤ, List, [], ◌++◌, map, length, get_or, sym, ap, ◌∙◌, subst, arith, inl, inr}
use Rattle.std.specs.List.{All}
use Rattle.std.proofs.lemmas.Bool.{cases_lt}
use Rattle.std.proofs.lemmas.List.{get_or-append-add, get_or_append_left, length-append}
use Rattle.mb_base.specs.declared.results.Origin.{Origin}
use Rattle.side_terms.specs.Prescribed.{Prescription, prescribed_vertices}
use Rattle.source_faces.specs.Agreement.{IsRunOf}
use Rattle.source_faces.specs.ListParts.{no_run}
use Rattle.source_faces.specs.Runs.{runs_from}
use Rattle.source_faces.proofs.Blocks.{all_copies, before, no_prescription}
use Rattle.source_faces.proofs.Middle.{at_middle, before_middle}
use Rattle.source_faces.proofs.RunBlocks.{IsAlone, block_is_run, block_run}
use Rattle.source_faces.proofs.VertexRuns.{length-vertices, run_at, run_of, vertex_as, vertex_at, vertex_numbers}

-- what is prescribed is no vertex of these
abbrev pub IsOther : (ℕ → Origin) → Prescription → Type 0
IsOther origin i = (v : ℕ) → i.origin ≡ origin v → ⊥

-- vertices of different origins among others
module _ (xs ys : List Prescription) (origin : ℕ → Origin) (number : ℤ → ℤ) (ws : List ℤ) (points : List (List ℤ)) (n : ℕ)
    (apart : (u v : ℕ) → origin u ≡ origin v → u ≡ v) (no_earlier : All (IsOther origin) xs) (no_later : All (IsOther origin) ys) where
  abbrev vs : List Prescription
  vs = prescribed_vertices origin number ws points n

  abbrev is : List Prescription
  is = xs ++ (vs ++ ys)

  size : length vs ≡ n
  size = length-vertices origin number ws points n

  -- vertex v
  item_at : (v : ℕ) → v < n → get_or is (length xs + v) no_prescription ≡ vertex_as origin number ws points v
  item_at v l = at_middle xs vs ys v (omega (arith, l, size)) ∙ vertex_at origin number ws points n v l

  -- what stands behind the first others is a vertex, or one of the last
  later_alone : (v : ℕ) → v < n → (w : ℕ) → length xs + w < length is → (get_or (vs ++ ys) w no_prescription).origin ≡ origin v → w ≡ v
  later_alone v l w below same = elim (cases_lt w (length vs)) as (λ _. w ≡ v) [
    | inl middle ↦
        let item = get_or_append_left vs ys no_prescription w middle ∙ vertex_at origin number ws points n w (omega (arith, middle, size)) in
        apart w v (sym (ap (λ i. i.origin) item) ∙ same)
    | inr last ↦
        let u = w - length vs in
        let place : length vs + u ≡ w = omega (arith, last) in
        let item = ap (λ j. get_or (vs ++ ys) j no_prescription) (sym place) ∙ get_or-append-add vs ys u no_prescription in
        let listed : u < length ys = omega (arith, below, place, length-append xs (vs ++ ys), length-append vs ys) in
        absurd (no_later u no_prescription listed v (sym (ap (λ i. i.origin) item) ∙ same))
  ]

  -- each vertex stands alone
  alone : (v : ℕ) → v < n → IsAlone is (length xs + v)
  alone v l k below same =
      let here : (get_or is k no_prescription).origin ≡ origin v = same ∙ ap (λ i. i.origin) (item_at v l) in
      elim (cases_lt k (length xs)) as (λ _. k ≡ length xs + v) [
        | inl first ↦
            absurd (no_earlier k no_prescription first v (sym (ap (λ i. i.origin) (get_or_append_left xs (vs ++ ys) no_prescription k first)) ∙ here))
        | inr past ↦
            let w = k - length xs in
            let at : length xs + w ≡ k = omega (arith, past) in
            let item = ap (λ j. get_or is j no_prescription) (sym at) ∙ get_or-append-add xs (vs ++ ys) w no_prescription in
            let one = later_alone v l w (omega (arith, below, at)) (sym (ap (λ i. i.origin) item) ∙ here) in omega (arith, one, at)
      ]

  -- so its run tells its copies
  pub vertex_run : length ws ≡ n → (v : ℕ) → v < n →
      IsRunOf (all_copies is) (origin v) (get_or points v []) (get_or (runs_from (length (all_copies xs)) (map number ws)) v no_run)
  vertex_run long v l =
      let j = length xs + v in
      let k = length (all_copies xs) in
      let inside : v < length vs = omega (arith, l, size) in
      let within : j < length is = omega (arith, inside, length-append xs (vs ++ ys), length-append vs ys) in
      let known = block_is_run is j within (alone v l) in
      let run : block_run is j ≡ get_or (runs_from k (map number ws)) v no_run =
      ap (λ f. run_of f (get_or is j no_prescription)) (before_middle xs vs ys v (omega (arith, inside)))
      ∙ ap (run_of (k + before vs v)) (at_middle xs vs ys v inside)
      ∙ sym (run_at vs k v inside)
      ∙ ap (λ ns. get_or (runs_from k ns) v no_run) (vertex_numbers origin number ws points n long) in
      subst (IsRunOf (all_copies is) (origin v) (get_or points v [])) run
      (subst (λ i. IsRunOf (all_copies is) i.origin i.point (block_run is j)) (item_at v l) known)
