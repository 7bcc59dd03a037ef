-- The lines of triangles with labels are those of each place.
use Rattle.std.proofs.Common.{◌≡◌, ℕ, suc, ◌+◌, ◌<◌, List, [], ◌∷◌, ◌++◌, length, get_or, refl, sym, ap, ◌∙◌, subst}
use Rattle.std.proofs.Common.{arith, append_assoc, length-append, add-one}
use Rattle.std.specs.List.{flat_map}
use Rattle.std.proofs.Math.Seq.{get_or-append_seam}
use Rattle.chain_terms.specs.Sums.{up_from, upto}
use Rattle.mesh_terms.specs.Labels.{label_at, no_labels}
use Rattle.std.proofs.lemmas.List.{length-map, get_or-map}
use Rattle.mesh_terms.specs.Meshes.{Triple, triple_of, triples_of}
use Rattle.format_terms.specs.ObjLabels.{label_change}
use Rattle.format_terms.specs.ObjWritten.{face_line, face_lines}
use Rattle.mesh_writer.specs.Faces.{label_before, lines_at}

some_line : (t : Triple) → 0 < length (face_line t)
some_line t = omega arith

-- the rest from some place on
faces_from : (labels : List (List ℕ)) (ts : List Triple) (front : List (List ℕ)) (before : List Triple) (ls : List (List ℕ)) (us : List Triple) →
    labels ≡ front ++ ls → ts ≡ before ++ us → length front ≡ length before → length ls ≡ length us →
    face_lines (label_before labels (length front)) ls us ≡ flat_map (lines_at labels ts) (up_from (length front) (length us))
faces_from labels ts front before [] [] same again count rest = refl
faces_from labels ts front before [] (u ∷ us) same again count rest = absurd (omega (arith, rest))
faces_from labels ts front before (l ∷ ls) [] same again count rest = absurd (omega (arith, rest))
faces_from labels ts front before (l ∷ ls) (u ∷ us) same again count rest =
    let here : label_at labels (length front) ≡ l = ap (λ (xs : List (List ℕ)). label_at xs (length front)) same ∙ get_or-append_seam front l ls [] in
    let there : get_or ts (length front) (0, 0, 0) ≡ u =
    ap (λ (n : ℕ). get_or ts n (0, 0, 0)) count ∙ ap (λ (xs : List Triple). get_or xs (length before) (0, 0, 0)) again ∙ get_or-append_seam before u us (0, 0, 0) in
    let longer : length (front ++ l ∷ []) ≡ suc (length front) = omega (arith, length-append front (l ∷ [])) in
    let more : length (front ++ l ∷ []) ≡ length (before ++ u ∷ []) = omega (arith, length-append front (l ∷ []), length-append before (u ∷ []), count) in
    let later : face_lines (label_before labels (suc (length front))) ls us ≡ flat_map (lines_at labels ts) (up_from (suc (length front)) (length us)) =
    subst (λ (n : ℕ). face_lines (label_before labels n) ls us ≡ flat_map (lines_at labels ts) (up_from n (length us))) longer
    (faces_from labels ts (front ++ l ∷ []) (before ++ u ∷ []) ls us (same ∙ sym (append_assoc front (l ∷ []) ls))
    (again ∙ sym (append_assoc before (u ∷ []) us)) more (omega (arith, rest))) in
    (λ i. label_change (label_before labels (length front)) (sym here i) ++ (face_line (sym there i) ++ face_lines (sym here i) ls us))
    ∙ sym (append_assoc (label_change (label_before labels (length front)) (label_at labels (length front)))
    (face_line (get_or ts (length front) (0, 0, 0))) (face_lines (label_at labels (length front)) ls us))
    ∙ ap (λ (rest : List ℕ). lines_at labels ts (length front) ++ rest) later

-- all of them
pub faces_at : (labels : List (List ℕ)) (ts : List Triple) → length labels ≡ length ts → face_lines [] labels ts ≡ flat_map (lines_at labels ts) (upto (length ts))
faces_at labels ts count = faces_from labels ts [] [] labels ts refl refl refl count

-- without labels there are no lines of them
pub faces_plain : (ts : List Triple) → face_lines [] (no_labels ts) ts ≡ flat_map face_line ts
faces_plain [] = refl
faces_plain (t ∷ ts) = ap (λ (rest : List ℕ). face_line t ++ rest) (faces_plain ts)

-- two lines put on a page, one behind the other, are those of the place
pub put_both : (labels : List (List ℕ)) (ts : List Triple) (place : ℕ) (page one two before label : List ℕ) (t : Triple) →
    one ≡ page ++ label_change before label → two ≡ one ++ face_line t →
    before ≡ label_before labels place → label ≡ label_at labels place → t ≡ get_or ts place (0, 0, 0) → two ≡ page ++ lines_at labels ts place
put_both labels ts place page one two before label t first second was is here =
    second
    ∙ ap (λ (bs : List ℕ). bs ++ face_line t) first
    ∙ append_assoc page (label_change before label) (face_line t)
    ∙ λ i. page ++ (label_change (was i) (is i) ++ face_line (here i))

-- the label of a triangle is that before the next
pub next_before : (labels : List (List ℕ)) (place : ℕ) (label : List ℕ) → label ≡ label_at labels place → label ≡ label_before labels (place + 1)
next_before labels place label is = is ∙ ap (label_before labels) (sym (add-one place))

-- a mesh of some triangles has some lines
pub no_faces : (before : List ℕ) (labels : List (List ℕ)) (ts : List Triple) → face_lines before labels ts ≡ [] → ts ≡ []
no_faces before labels [] none = refl
no_faces before [] (t ∷ ts) none =
    absurd (omega
    (arith, ap length none, length-append (label_change before []) (face_line t ++ face_lines [] [] ts), length-append (face_line t) (face_lines [] [] ts), some_line t))
no_faces before (l ∷ ls) (t ∷ ts) none =
    absurd (omega
    (arith, ap length none, length-append (label_change before l) (face_line t ++ face_lines l ls ts), length-append (face_line t) (face_lines l ls ts), some_line t))

-- a stored triangle, and how many there are
pub as_many : (triples : List (List ℕ)) (ts : List Triple) → triples_of triples ≡ ts → length triples ≡ length ts
as_many triples ts stored = sym (length-map triples triple_of) ∙ ap length stored

pub stored_triple : (triples : List (List ℕ)) (ts : List Triple) (place : ℕ) → triples_of triples ≡ ts → place < length triples →
    triple_of (get_or triples place []) ≡ get_or ts place (0, 0, 0)
stored_triple triples ts place stored within = sym (get_or-map triple_of triples place [] (0, 0, 0) within) ∙ ap (λ (us : List Triple). get_or us place (0, 0, 0)) stored
