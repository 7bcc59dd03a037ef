-- The runs that numbers give are the blocks of what is prescribed so often, and follow one another.
use Rattle.std.proofs.Common.{◌≡◌, ℕ, zero, suc, ◌+◌, ◌<◌, ◌≤◌, ℤ, pos, List, [], ◌∷◌, map, length, get_or, nat_abs}
use Rattle.std.proofs.Common.{int_lt, refl, sym, ap, ◌∙◌, arith}
use Rattle.std.specs.List.{All}
use Rattle.std.proofs.lemmas.List.{get_or-map, length-append, length-map, same_lists}
use Rattle.std.proofs.lemmas.List.Elements.{All-cons, All-nil, All-weaker}
use Rattle.std.proofs.lemmas.List.Sums.{sum_by-cons}
use Rattle.chain_terms.specs.Sums.{upto}
use Rattle.chain_laws.proofs.Places.{get_or-up_from, length-up_from}
use Rattle.mb_base.specs.declared.results.Origin.{Origin}
use Rattle.side_terms.specs.Prescribed.{Prescription, copies_of, prescribed_vertices, vertex_count}
use Rattle.source_faces.specs.Agreement.{AreInOrder}
use Rattle.source_faces.specs.ListParts.{no_run}
use Rattle.source_faces.specs.Runs.{runs_from}
use Rattle.source_faces.specs.declared.lists.runs.CopyRange.{CopyRange}
use Rattle.source_faces.proofs.Blocks.{all_copies, before, length-copies_of, no_prescription}

-- how often each is prescribed
abbrev pub numbers_of : List Prescription → List ℤ
numbers_of is = map (λ i. i.number) is

-- the run of what is prescribed, from number f on
abbrev pub run_of : ℕ → Prescription → CopyRange
run_of f i = record { first = f; count = nat_abs i.number; negative = int_lt i.number (pos 0) }

-- run j begins behind the copies before it
pub run_at : (is : List Prescription) (k j : ℕ) → j < length is →
    get_or (runs_from k (numbers_of is)) j no_run ≡ run_of (k + before is j) (get_or is j no_prescription)
run_at [] k j l = absurd (omega (arith, l))
run_at (i ∷ is) k zero l = let here : k ≡ k + 0 = omega arith in ap (λ f. run_of f i) here
run_at (i ∷ is) k (suc j) l =
    let n = get_or is j no_prescription in
    let shift : k + nat_abs i.number + before is j ≡ k + (nat_abs i.number + before is j) =
    omega arith in run_at is (k + nat_abs i.number) j (omega (arith, l)) ∙ ap (λ f. run_of f n) shift

-- what a vertex is prescribed as
abbrev pub vertex_as : (ℕ → Origin) → (ℤ → ℤ) → List ℤ → List (List ℤ) → ℕ → Prescription
vertex_as origin number ws points v = record { origin = origin v; number = number (get_or ws v (pos 0)); point = get_or points v [] }

module _ (origin : ℕ → Origin) (number : ℤ → ℤ) (ws : List ℤ) (points : List (List ℤ)) (n : ℕ) where
  pub length-vertices : length (prescribed_vertices origin number ws points n) ≡ n
  length-vertices = length-map (upto n) (vertex_as origin number ws points) ∙ length-up_from 0 n

  -- vertex v stands at place v
  pub vertex_at : (v : ℕ) → v < n → get_or (prescribed_vertices origin number ws points n) v no_prescription ≡ vertex_as origin number ws points v
  vertex_at v l =
      let place : get_or (upto n) v 0 ≡ v = omega (arith, get_or-up_from 0 n v 0 l) in
      get_or-map (vertex_as origin number ws points) (upto n) v 0 no_prescription (omega (arith, l, length-up_from 0 n))
      ∙ ap (vertex_as origin number ws points) place

  -- vertices are prescribed by their winding numbers, in order
  pub vertex_numbers : length ws ≡ n → numbers_of (prescribed_vertices origin number ws points n) ≡ map number ws
  vertex_numbers long =
      let vs = prescribed_vertices origin number ws points n in
      same_lists (numbers_of vs) (map number ws) (omega (arith, length-map vs (λ i. i.number), length-vertices, length-map ws number, long))
      (λ k d l.
      let below : k < n = omega (arith, l, length-map vs (λ i. i.number), length-vertices) in
      get_or-map (λ i. i.number) vs k no_prescription d (omega (arith, below, length-vertices)) ∙ ap (λ i. i.number) (vertex_at k below)
      ∙ sym (get_or-map number ws k (pos 0) d (omega (arith, below, long))))

-- copies are as many as the sizes of the numbers
pub length-all_copies : (is : List Prescription) (number : ℤ → ℤ) (ws : List ℤ) → numbers_of is ≡ map number ws →
    length (all_copies is) ≡ vertex_count number ws
length-all_copies [] number [] e = refl
length-all_copies [] number (w ∷ ws) e = absurd (omega (arith, ap length e))
length-all_copies (i ∷ is) number [] e = absurd (omega (arith, ap length e))
length-all_copies (i ∷ is) number (w ∷ ws) e =
    let one : i.number ≡ number w = ap (λ l. get_or l 0 (pos 0)) e in
    let size : nat_abs i.number ≡ nat_abs (number w) = ap nat_abs one in
    let more : numbers_of is ≡ map number ws = ap (λ l. tail l) e in
    omega (
      arith,
      length-append (copies_of i) (all_copies is),
      length-copies_of i,
      size,
      length-all_copies is number ws more,
      sum_by-cons (λ v. nat_abs (number v)) w ws,
    )
  where
    tail : List ℤ → List ℤ
    tail [] = []
    tail (x ∷ xs) = xs

-- runs begin at number k or later
runs_start : (k : ℕ) (ns : List ℤ) (j : ℕ) → j < length (runs_from k ns) → k ≤ (get_or (runs_from k ns) j no_run).first
runs_start k [] j l = absurd (omega (arith, l))
runs_start k (n ∷ ns) zero l = omega arith
runs_start k (n ∷ ns) (suc j) l = omega (arith, runs_start (k + nat_abs n) ns j (omega (arith, l)))

-- each ends before the next
runs_follow : (k : ℕ) (ns : List ℤ) (v w : ℕ) → v < w → w < length (runs_from k ns) →
    (get_or (runs_from k ns) v no_run).first + (get_or (runs_from k ns) v no_run).count ≤ (get_or (runs_from k ns) w no_run).first
runs_follow k [] v w l m = absurd (omega (arith, m))
runs_follow k (n ∷ ns) v zero l m = absurd (omega (arith, l))
runs_follow k (n ∷ ns) zero (suc w) l m = omega (arith, runs_start (k + nat_abs n) ns w (omega (arith, m)))
runs_follow k (n ∷ ns) (suc v) (suc w) l m = runs_follow (k + nat_abs n) ns v w (omega (arith, l)) (omega (arith, m))

-- the run ends by that number
abbrev EndsBy : ℕ → CopyRange → Type 0
EndsBy last r = r.first + r.count ≤ last

-- all end by the number of the copies
runs_end : (number : ℤ → ℤ) (k : ℕ) (ws : List ℤ) → All (EndsBy (k + vertex_count number ws)) (runs_from k (map number ws))
runs_end number k [] = All-nil (EndsBy (k + vertex_count number []))
runs_end number k (w ∷ ws) =
    let size = nat_abs (number w) in
    let more = sum_by-cons (λ v. nat_abs (number v)) w ws in
    let Ends : CopyRange → Type 0 = EndsBy (k + vertex_count number (w ∷ ws)) in
    let rest = runs_from (k + size) (map number ws) in
    let later : All Ends rest =
    All-weaker (EndsBy (k + size + vertex_count number ws)) Ends (λ r l. omega (arith, l, more)) rest (runs_end number (k + size) ws) in
    All-cons Ends (record { first = k; count = size; negative = int_lt (number w) (pos 0) }) rest (omega (arith, more)) later

-- so they are in order
pub runs_in_order : (number : ℤ → ℤ) (k last : ℕ) (ws : List ℤ) → k + vertex_count number ws ≤ last → AreInOrder last (runs_from k (map number ws))
runs_in_order number k last ws below = record {
  each = runs_follow k (map number ws);
  last =
      All-weaker (EndsBy (k + vertex_count number ws)) (EndsBy last) (λ r l. omega (arith, l, below)) (runs_from k (map number ws))
      (runs_end number k ws);
}

-- one for each number
pub length-runs : (k : ℕ) (ns : List ℤ) → length (runs_from k ns) ≡ length ns
length-runs k [] = refl
length-runs k (n ∷ ns) = omega (arith, length-runs (k + nat_abs n) ns)
