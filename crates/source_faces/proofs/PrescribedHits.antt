-- Which of the prescribed copies are those of hits, and their numbers.
use Rattle.std.proofs.Common.{◌≡◌, ℕ, ◌+◌, ◌-◌, ◌<◌, ℤ, List, [], ◌∷◌, ◌++◌, length, get_or, nat_abs, ◌⊎◌, inl, inr}
use Rattle.std.proofs.Common.{refl, sym, ap, ◌∙◌, subst, arith}
use Rattle.std.specs.List.{All}
use Rattle.std.proofs.lemmas.Bool.{cases_lt}
use Rattle.std.proofs.lemmas.List.{get_or-append-add, get_or-map, get_or_append_left, length-append, length-map}
use Rattle.std.proofs.lemmas.List.Elements.{All-from_get_or}
use Rattle.std.proofs.lemmas.List.Sums.{sum_by-cons}
use Rattle.mb_base.specs.declared.op.Op.{Op}
use Rattle.mb_base.specs.declared.results.Hit.{Hit}
use Rattle.mb_base.specs.declared.results.Origin.{Origin}
use Rattle.mb_base.specs.declared.results.Origin.TheVariants.{PEdge, QEdge}
use Rattle.side_terms.specs.Lists.{Copy, no_copy}
use Rattle.side_terms.specs.Prescribed.{Prescription, copies_of, copy_of, hit_count, hit_number_of, prescribed_hits, prescribed_vertices}
use Rattle.source_faces.specs.Agreement.{IsHitCopy}
use Rattle.source_faces.proofs.Blocks.{all_copies, before, copy_in, length-copies_of, lies_in, no_prescription}
use Rattle.source_faces.proofs.HitCopies.{copy_as, copy_number, hit_as, is_copy_as}
use Rattle.source_faces.proofs.Listed.{no_hit, times_of}
use Rattle.source_faces.proofs.Middle.{before_middle, before_right, copy_middle}
use Rattle.source_faces.proofs.VertexRuns.{length-vertices, vertex_at}

module _ (op : Op) (origin : ℕ → ℕ → Origin) where
  -- what is prescribed for hits
  abbrev pub hit_prescriptions : List Hit → List Prescription
  hit_prescriptions hs = prescribed_hits origin (hit_number_of op) hs

  pub hit_at : (hs : List Hit) (j : ℕ) → j < length hs → get_or (hit_prescriptions hs) j no_prescription ≡ hit_as op origin (get_or hs j no_hit)
  hit_at hs j l = get_or-map (hit_as op origin) hs j no_hit no_prescription l

  pub length-hits : (hs : List Hit) → length (hit_prescriptions hs) ≡ length hs
  length-hits hs = length-map hs (hit_as op origin)

  pub length-hit_copies : (hs : List Hit) → length (all_copies (hit_prescriptions hs)) ≡ hit_count op hs
  length-hit_copies [] = refl
  length-hit_copies (h ∷ hs) =
      let i = hit_as op origin h in
      omega (
        arith,
        length-append (copies_of i) (all_copies (hit_prescriptions hs)),
        length-copies_of i,
        length-hit_copies hs,
        sum_by-cons (λ g. nat_abs (hit_number_of op g.number)) h hs,
      )

  -- a copy of a hit
  pub record HasCopy (cs : List Copy) (h : Hit) (v : ℕ) : Type 0 where
    pub within : v < length cs
    pub copy : get_or cs v no_copy ≡ copy_as op origin h

  -- the copies of hits in the middle of what is prescribed
  pub has_copy : (xs ys : List Prescription) (hs : List Hit) (k : ℕ) → length (all_copies xs) ≡ k → (j i : ℕ) → j < length hs →
      i < times_of op (get_or hs j no_hit) →
      HasCopy (all_copies (xs ++ (hit_prescriptions hs ++ ys))) (get_or hs j no_hit) (copy_number op origin k hs j i)
  has_copy xs ys hs k size j i l m =
      let h = get_or hs j no_hit in
      let ms = hit_prescriptions hs in
      let cs = all_copies (xs ++ (ms ++ ys)) in
      let item = hit_at hs j l in
      let number = ap (λ d. nat_abs d.number) item in
      let r = copy_middle xs ms ys j i (omega (arith, l, length-hits hs)) (omega (arith, m, number)) in
      let whole : HasCopy cs h (length (all_copies xs) + (before ms j + i)) =
      record { within = r.within; copy = r.copy ∙ ap copy_of item ∙ is_copy_as op origin h (omega (arith, m)) } in
      subst (λ b. HasCopy cs h (b + (before ms j + i))) size whole

  -- what holds of the origins of hits
  pub all_hits : (hs : List Hit) (P : Origin → Type 0) → ((e f : ℕ) → P (origin e f)) → All (λ i. P i.origin) (hit_prescriptions hs)
  all_hits hs P holds =
      All-from_get_or (λ i. P i.origin) (hit_prescriptions hs) no_prescription
      (λ j l. let h = get_or hs j no_hit in subst (λ i. P i.origin) (sym (hit_at hs j (omega (arith, l, length-hits hs)))) (holds h.edge h.face))

-- and of vertices
pub all_vertices : (origin : ℕ → Origin) (number : ℤ → ℤ) (ws : List ℤ) (points : List (List ℤ)) (n : ℕ) (P : Origin → Type 0) →
    ((v : ℕ) → P (origin v)) →
    All (λ i. P i.origin) (prescribed_vertices origin number ws points n)
all_vertices origin number ws points n P holds =
    All-from_get_or (λ i. P i.origin) (prescribed_vertices origin number ws points n) no_prescription
    (λ v l. subst (λ i. P i.origin)
    (sym (vertex_at origin number ws points n v (omega (arith, l, length-vertices origin number ws points n)))) (holds v))

-- copy i of hit j, where the copies of hits are numbered from k
pub record IsNumbered (op : Op) (origin : ℕ → ℕ → Origin) (k : ℕ) (hs : List Hit) (v : ℕ) : Type 0 where
  pub hit : ℕ
  pub turn : ℕ
  pub within : hit < length hs
  pub inside : turn < times_of op (get_or hs hit no_hit)
  pub at : v ≡ copy_number op origin k hs hit turn

-- copies of vertices, then those of the hits of the first mesh's edges and of the second's
module _ (op : Op) (vs : List Prescription) (first second : List Hit) where
  abbrev hs : List Prescription
  hs = hit_prescriptions op PEdge first

  abbrev ks : List Prescription
  ks = hit_prescriptions op QEdge second

  abbrev is : List Prescription
  is = vs ++ (hs ++ ks)

  abbrev k : ℕ
  k = length (all_copies vs)

  abbrev pub IsEither : ℕ → Type 0
  IsEither v = IsNumbered op PEdge k first v ⊎ IsNumbered op QEdge (k + hit_count op first) second v

  -- a copy in a block behind those of vertices
  behind : (j i v : ℕ) → length vs + j < length is → i < nat_abs (get_or is (length vs + j) no_prescription).number →
      v ≡ before is (length vs + j) + i → IsEither v
  behind j i v below inside at =
      let there = get_or-append-add vs (hs ++ ks) j no_prescription in
      elim (cases_lt j (length hs)) as (λ _. IsEither v) [
        | inl middle ↦
            let within : j < length first = omega (arith, middle, length-hits op PEdge first) in
            let size =
            ap (λ (c : Prescription). nat_abs c.number) (there ∙ get_or_append_left hs ks no_prescription j middle ∙ hit_at op PEdge first j within) in
            inl (record {
              hit = j;
              turn = i;
              within = within;
              inside = omega (arith, inside, size);
              at =
                  omega (arith, at, before_middle vs hs ks j (omega (arith, middle)));
            })
        | inr last ↦
            let m = j - length hs in
            let place : length hs + m ≡ j = omega (arith, last) in
            let moved = ap (before (hs ++ ks)) (sym place) in
            let within : m < length second =
            omega (arith, below, place, length-append vs (hs ++ ks), length-append hs ks, length-hits op QEdge second) in
            let item =
            there ∙ ap (λ b. get_or (hs ++ ks) b no_prescription) (sym place) ∙ get_or-append-add hs ks m no_prescription
            ∙ hit_at op QEdge second m within in
            let size = ap (λ (c : Prescription). nat_abs c.number) item in
            inr (record {
              hit = m;
              turn = i;
              within = within;
              inside = omega (arith, inside, size);
              at = omega (arith, at, moved, before_right vs (hs ++ ks) j, before_right hs ks m, length-hit_copies op PEdge first);
            })
      ]

  -- a copy of a hit is one of the first hits or of the second
  pub numbered : All (λ i. IsHitCopy i.origin → ⊥) vs → (v : ℕ) → v < length (all_copies is) →
      IsHitCopy (get_or (all_copies is) v no_copy).origin → IsEither v
  numbered none v l hit =
      let r = lies_in is v l in
      let copy : get_or (all_copies is) v no_copy ≡ copy_of (get_or is r.block no_prescription) =
      ap (λ w. get_or (all_copies is) w no_copy) r.at ∙ copy_in is r.block r.place r.within r.inside in
      let item : IsHitCopy (get_or is r.block no_prescription).origin = subst (λ (c : Copy). IsHitCopy c.origin) copy hit in
      elim (cases_lt r.block (length vs)) as (λ _. IsEither v) [
        | inl low ↦
            absurd (none r.block no_prescription low
            (subst (λ (i : Prescription). IsHitCopy i.origin) (get_or_append_left vs (hs ++ ks) no_prescription r.block low) item))
        | inr past ↦
            let block : r.block ≡ length vs + (r.block - length vs) = omega (arith, past) in
            let size = ap (λ b. nat_abs (get_or is b no_prescription).number) block in
            behind (r.block - length vs) r.place v (omega (arith, r.within, block)) (omega (arith, r.inside, size))
            (omega (arith, r.at, ap (before is) block))
      ]
