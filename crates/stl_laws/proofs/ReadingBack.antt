-- What is read of the STL text of a mesh is the mesh welded.
use Rattle.std.proofs.Common.{◌≡◌, ◌≤◌, ◌<◌, Decides, ℕ, suc, Bool, true, false, List, [], ◌∷◌, ◌++◌, length, get_or, map, ℤ, refl, sym, ap, subst, ◌∙◌, cond, if◌then◌else◌, inl, inr, Some, Result, Ok, Err}
use Rattle.std.specs.Prelude.{◌&&◌, ◌==◌, filter, not}
use Rattle.std.specs.Cmp.Lexicographic.{pointwise_decides}
use Rattle.std.specs.List.{All, AllByRecursion, IsDistinct, position_or_len}
use Rattle.std.proofs.lemmas.Bool.{both_ways, cases_Bool, eq-eqb, le-ltb, ne_eqb}
use Rattle.std.proofs.lemmas.Bool.Decides.{Decides-int_eq}
use Rattle.std.proofs.lemmas.List.Elements.{All-filter, All-head, All-map, All-tail}
use Rattle.std.proofs.lemmas.List.Sums.{passes_at_first}
use Rattle.chain_terms.specs.Chains.{IsClosed, all_edges}
use Rattle.chain_laws.specs.Chains.{closed_same}
use Rattle.chain_laws.specs.Triples.{closed-renamed_triples, renamed_triple}
use Rattle.mesh_terms.specs.Faults.{FileBytes}
use Rattle.mesh_terms.specs.Limits.{IsLawful, Limits}
use Rattle.mesh_terms.specs.Meshes.{IsBelow, Mesh, Soup, Triple, is_used, new_number, used_from}
use Rattle.halfedge.proofs.OpenPair.{open_pair_closed}
use Rattle.stl_laws.proofs.Dropping.{has_three, kept_chain}
use Rattle.tidy_laws.proofs.KeptPoints.{kept_point}
use Rattle.unused_points.proofs.Numbers.{AreUsed, all_used}
use Rattle.format_terms.specs.Stl.{same_point}
use Rattle.format_terms.specs.StlWritten.{is_stl, stl_text}
use Rattle.format_laws.specs.Welding.{welded_mesh}
use Rattle.format_laws.specs.Within.{IsWithin}
use Rattle.format_laws.proofs.StlSavedMeshes.{meshes_read_welded}
use Rattle.run_terms.specs.Files.{Bytes, Files}
use Rattle.run_terms.specs.Runs.{Ask}
use Rattle.run_terms.specs.Tasks.{PastLimit, Refusal, give, joined}
use Rattle.mb_base.specs.declared.kernel_kind.KernelKind.{KernelKind}
use Rattle.play_laws.proofs.Readable.{within_of_readable}
use Rattle.play_laws.specs.ScriptsReadingBack.{KeepsMeshes, MeshReadable}
use Rattle.play_terms.specs.Commands.{ask_mesh, bytes_in, checked, if_closed}
use Rattle.play_terms.specs.Plays.{Meanings, mesh_at}
use Rattle.play_terms.specs.ReadingBack.{GivesReadable}
use Rattle.play_terms.specs.Formats.{mesh_soup, soup_in}
use Rattle.play_terms.specs.declared.format.Format.TheVariants.{Obj, Stl}
use Rattle.stl_laws.specs.ReadingBack.{CopiesStl, GivesStl, IsReadOfStl, IsWeldedOf, StlTextsReadBack, are_apart, corner_points, read_of_stl}
use Rattle.stl_laws.proofs.Welded.{is_whole, number, over}

-- points are the same exactly where they are equal
equal_points : (p q : List ℤ) → Decides (same_point p q) (p ≡ q)
equal_points p q = pointwise_decides Decides-int_eq p q

module _ (ps : List (List ℤ)) (ts : List Triple) where
  -- the welded points and triangles
  abbrev qs : List (List ℤ)
  qs = (welded_mesh ps ts).points

  abbrev us : List Triple
  us = (welded_mesh ps ts).triples

  abbrev r : ℕ → ℕ
  r = number ps qs

  -- the corner at each vertex lies where it lay
  there : (v : ℕ) → r v < length qs → get_or qs (r v) [] ≡ get_or ps v []
  there v low = sym ((equal_points (get_or ps v []) (get_or qs (r v) [])).0 (passes_at_first (same_point (get_or ps v [])) qs [] low))

  -- two vertices have one number exactly where they have one point
  same_numbers : (v w : ℕ) → r v < length qs → r w < length qs → (r v == r w) ≡ same_point (get_or ps v []) (get_or ps w [])
  same_numbers v w v_low w_low = elim (cases_Bool (same_point (get_or ps v []) (get_or ps w []))) as (λ _. (r v == r w) ≡ same_point (get_or ps v []) (get_or ps w [])) [
    | inl y ↦ eq-eqb (r v) (r w) (ap (λ p. position_or_len (same_point p) qs) ((equal_points (get_or ps v []) (get_or ps w [])).0 y)) ∙ sym y
    | inr n ↦ ne_eqb (r v) (r w) (λ e. both_ways (same_point (get_or ps v []) (get_or ps w [])) n
        ((equal_points (get_or ps v []) (get_or ps w [])).1 (sym (there v v_low) ∙ ap (λ k. get_or qs k []) e ∙ there w w_low))) ∙ sym n
  ]

  -- so a triangle has three different numbers exactly where it has three different points
  same_three : (t : Triple) → IsBelow (length qs) (renamed_triple r t) → has_three (renamed_triple r t) ≡ are_apart (corner_points ps t)
  same_three t low = λ i. not (same_numbers t.0 t.1 low.a low.b i) && not (same_numbers t.1 t.2 low.b low.c i) && not (same_numbers t.2 t.0 low.c low.a i)

  same_corners : (t : Triple) → IsBelow (length qs) (renamed_triple r t) → corner_points qs (renamed_triple r t) ≡ corner_points ps t
  same_corners t low = λ i. (there t.0 low.a i, there t.1 low.b i, there t.2 low.c i)

  -- the triangles over numbers that have three lie where those with three points lie
  corners_over : (vs : List Triple) → All (λ t. IsBelow (length qs) (renamed_triple r t)) vs →
      map (corner_points qs) (over ps qs vs) ≡ filter are_apart (map (corner_points ps) vs)
  corners_over [] low = refl
  corners_over (v ∷ vs) low =
      let head = All-head (λ t. IsBelow (length qs) (renamed_triple r t)) v vs low in
      let rest = corners_over vs (All-tail (λ t. IsBelow (length qs) (renamed_triple r t)) v vs low) in
      let u = renamed_triple r v in
      by (has_three u) (are_apart (corner_points ps v)) (same_three v head) rest where
        by : (a b : Bool) → a ≡ b → map (corner_points qs) (over ps qs vs) ≡ filter are_apart (map (corner_points ps) vs)
            → map (corner_points qs) (cond a (renamed_triple r v ∷ over ps qs vs) (over ps qs vs))
            ≡ cond b (corner_points ps v ∷ filter are_apart (map (corner_points ps) vs)) (filter are_apart (map (corner_points ps) vs))
        by true true e rest = λ i. same_corners v (All-head (λ t. IsBelow (length qs) (renamed_triple r t)) v vs low) i ∷ rest i
        by true false e rest = absurd (cc)
        by false true e rest = absurd (cc)
        by false false e rest = rest

  -- each welded triangle is over welded points
  us_below : All (IsBelow (length qs)) us
  us_below =
      let whole = is_whole ps ts in
      subst (All (IsBelow (length qs))) (sym whole.triples)
      (All-filter has_three (IsBelow (length qs)) (map (renamed_triple r) ts) (All-map (IsBelow (length qs)) (renamed_triple r) ts whole.below))

  -- where those with three points lie
  corners_welded : map (corner_points qs) us ≡ filter are_apart (map (corner_points ps) ts)
  corners_welded = let whole = is_whole ps ts in ap (map (corner_points qs)) whole.triples ∙ corners_over ts whole.below

  -- closed triangles stay so
  us_closed : IsClosed (all_edges ts) → IsClosed (all_edges us)
  us_closed closed =
      let all = map (renamed_triple r) ts in
      subst (λ vs. IsClosed (all_edges vs)) (sym (is_whole ps ts).triples)
      (closed_same (all_edges (filter has_three all)) (all_edges all) (kept_chain all) (closed-renamed_triples r ts closed))

-- under their new numbers triangles lie where they lay
corners_kept : (points : List (List ℤ)) (ts vs : List Triple) → All (AreUsed ts) vs → All (IsBelow (length points)) vs →
    map (corner_points (used_from ts 0 points)) (map (renamed_triple (new_number ts)) vs) ≡ map (corner_points points) vs
corners_kept points ts [] used low = refl
corners_kept points ts (v ∷ vs) used low =
    let u = All-head (AreUsed ts) v vs used in
    let l = All-head (IsBelow (length points)) v vs low in
    let a = kept_point ts points v.0 [] l.a u.a in
    let b = kept_point ts points v.1 [] l.b u.b in
    let c = kept_point ts points v.2 [] l.c u.c in
    let rest = corners_kept points ts vs (All-tail (AreUsed ts) v vs used) (All-tail (IsBelow (length points)) v vs low) in
    λ i. (a i, b i, c i) ∷ rest i

-- what holds of all points holds of the used ones
used_all : (P : List ℤ → Type 0) (ts : List Triple) (k : ℕ) (ps : List (List ℤ)) → AllByRecursion P ps → AllByRecursion P (used_from ts k ps)
used_all P ts k [] all = all
used_all P ts k (p ∷ ps) all = by (is_used ts k) (used_all P ts (suc k) ps all.1) where
  by : (b : Bool) → AllByRecursion P (used_from ts (suc k) ps) → AllByRecursion P (cond b (p ∷ []) [] ++ used_from ts (suc k) ps)
  by true rest = (all.0, rest)
  by false rest = rest

with_first : (p : List ℤ) (rest : List (List ℤ)) (b : Bool) → AllByRecursion (λ q. same_point p q ≡ false) rest →
    IsDistinct same_point rest → IsDistinct same_point (cond b (p ∷ []) [] ++ rest)
unfolding IsDistinct
with_first p rest true apart distinct = (apart, distinct)
with_first p rest false apart distinct = distinct

used_distinct : (ts : List Triple) (k : ℕ) (ps : List (List ℤ)) → IsDistinct same_point ps → IsDistinct same_point (used_from ts k ps)
unfolding IsDistinct
used_distinct ts k [] distinct = distinct
used_distinct ts k (p ∷ ps) distinct =
    with_first p (used_from ts (suc k) ps) (is_used ts k) (used_all (λ q. same_point p q ≡ false) ts (suc k) ps distinct.0) (used_distinct ts (suc k) ps distinct.1)

-- the mesh welded
is_welded : (m : Mesh) → IsClosed (all_edges m.triples) → IsWeldedOf m (read_of_stl m)
is_welded m closed =
    let w = welded_mesh m.points m.triples in
    record {
      distinct = used_distinct w.triples 0 w.points (is_whole m.points m.triples).distinct;
      corners = corners_kept w.points w.triples w.triples (all_used w.triples) (us_below m.points m.triples) ∙ corners_welded m.points m.triples;
      closed = closed-renamed_triples (new_number w.triples) w.triples (us_closed m.points m.triples closed);
    }

-- is what is read of its text
pub stl_texts_read_back : StlTextsReadBack
stl_texts_read_back k limits m few lawful given = record { welded = welded; read = read } where
  welded : IsWeldedOf m (read_of_stl m)
  welded = is_welded m given.given.accepted.closed

  text : Bytes
  text = stl_text k m.points m.triples

  read : (name : Bytes) (files : Files) → is_stl name ≡ true → files name ≡ Some text → length text ≤ limits.file_bytes →
      (ask_mesh k limits name files).result ≡ Ok (read_of_stl m)
  read name files stl is short =
      let within : IsWithin limits m.points m.triples =
      record { on_grid = given.given.on_grid; mesh = given.given.accepted.mesh; few_points = given.few_points; few_triples = given.few_triples } in
      let taken : Result Bytes Refusal → Result Soup Refusal = λ r. (joined (Ask name ∷ []) r (λ bytes. give (checked name (mesh_soup k limits name bytes)) files)).result in
      let reads : mesh_soup k limits name text ≡ Ok (read_of_stl m) =
      ap (λ b. soup_in (if b then Stl else Obj) k limits text) stl ∙ meshes_read_welded k few limits lawful m.points m.triples within in
      ap (λ file. taken (bytes_in limits name file)) is
      ∙ ap (λ b. taken (cond b (Err (PastLimit FileBytes (length text))) (Ok text))) (le-ltb limits.file_bytes (length text) short)
      ∙ ap (checked name) reads
      ∙ ap (if_closed name (read_of_stl m)) (open_pair_closed (all_edges (read_of_stl m).triples) welded.closed)

-- so it is of a mesh that is read of its own OBJ text
of_readable : (k : ℕ) (limits : Limits) (m : Mesh) → k ≤ 6 → IsLawful limits → MeshReadable k limits m → IsReadOfStl k limits m
of_readable k limits m few lawful readable = stl_texts_read_back k limits m few lawful (within_of_readable k limits m lawful readable)

-- of the mesh of each name of a script
pub gives_stl : (means : KernelKind → Meanings) (k : ℕ) (limits : Limits) (script : Bytes) → k ≤ 6 → IsLawful limits → KeepsMeshes means k limits script →
    GivesStl means k limits script
gives_stl means k limits script few lawful keeps files lines state places done name =
    of_readable k limits (mesh_at state.named name) few lawful (keeps.names files lines state places done name).obj

-- and of one that is copied
pub copies_stl : (k : ℕ) (limits : Limits) (name : Bytes) → k ≤ 6 → IsLawful limits → GivesReadable k limits name → CopiesStl k limits name
copies_stl k limits name few lawful gives files m read =
    of_readable k limits (record { points = m.points; triples = m.triples; labels = m.labels }) few lawful (gives files m read)
