-- Starts and ends among the entries.
use Rattle.std.proofs.Common.{◌≡◌, ◌+◌, ◌-◌, ◌<◌, ℕ, ℤ, true, false, Bool, cond, not, List, [], ◌∷◌, ◌++◌, length, map, take, get_or, append-nil, refl, ap, ◌∙◌, subst, arith}
use Rattle.std.specs.Prelude.{count_by}
use Rattle.std.specs.List.{filter}
use Rattle.std.specs.List.Sorted.{IsPermutation}
use Rattle.std.proofs.lemmas.List.{length-append, length-map, map-append}
use Rattle.std.proofs.lemmas.List.Elements.{filter_more}
use Rattle.std.proofs.lemmas.List.Sorted.{IsPermutation-map, IsPermutation-filter_both, length_permutation}
use Rattle.std.proofs.lemmas.List.Sums.{length-filter}
use Rattle.std.proofs.lemmas.Simd.{map-map}
use Rattle.mb_base.specs.declared.results.Entry.{Entry}
use mathlib.Core.Bool.{beq}
use Rattle.edge_pairing.specs.Entries.{is_chosen, chosen, starts_of, ends_of, place_in, places_of}

-- the entries' vertices are the starts and the ends
vertices_moved : (entries : List Entry) → IsPermutation (map (λ e. e.vertex) entries) (starts_of entries ++ ends_of entries)
vertices_moved entries =
    let split = IsPermutation-filter_both (is_chosen true) (is_chosen false) (λ x. refl) entries in
    subst (IsPermutation (map (λ e. e.vertex) entries)) (map-append (λ (e : Entry). e.vertex) (filter (is_chosen true) entries) (filter (is_chosen false) entries))
    (IsPermutation-map (λ (e : Entry). e.vertex) entries (filter (is_chosen true) entries ++ filter (is_chosen false) entries) split)

-- and so are their places
pub places_moved : (entries : List Entry) (points : List (List ℤ)) → IsPermutation (places_of entries points) (map (place_in points) (starts_of entries ++ ends_of entries))
places_moved entries points =
    subst (λ l. IsPermutation l (map (place_in points) (starts_of entries ++ ends_of entries))) (map-map (place_in points) (λ (e : Entry). e.vertex) entries)
    (IsPermutation-map (place_in points) (map (λ e. e.vertex) entries) (starts_of entries ++ ends_of entries) (vertices_moved entries))

-- each entry is a start or an end
pub both_counted : (entries : List Entry) → length (starts_of entries) + length (ends_of entries) ≡ length entries
both_counted entries =
    omega (
      arith,
      length_permutation (map (λ e. e.vertex) entries) (starts_of entries ++ ends_of entries) (vertices_moved entries),
      length-append (starts_of entries) (ends_of entries),
      length-map entries (λ (e : Entry). e.vertex),
    )

-- a comparison with a constant
as_true : (b : Bool) → b ≡ beq b true
as_true true = refl
as_true false = refl

as_false : (b : Bool) → not b ≡ beq b false
as_false true = refl
as_false false = refl

-- whether an entry is a start, or an end, as is asked
pub chosen_as : (start : Bool) (e : Entry) → is_chosen start e ≡ beq e.start start
chosen_as true e = as_true e.start
chosen_as false e = as_false e.start

-- the entry that is read where there is none
abbrev pub no_entry : Entry
no_entry = record { vertex = 0; start = false }

-- one entry more, where it is chosen
pub chosen_more : (start : Bool) (entries : List Entry) (i : ℕ) → i < length entries → is_chosen start (get_or entries i no_entry) ≡ true →
    chosen start (take (i + 1) entries) ≡ chosen start (take i entries) ++ (get_or entries i no_entry).vertex ∷ []
chosen_more start entries i below in_it =
    ap (map (λ e. e.vertex)) (filter_more (is_chosen start) entries i no_entry below
    ∙ ap (λ b. filter (is_chosen start) (take i entries) ++ cond b (get_or entries i no_entry ∷ []) []) in_it)
    ∙ map-append (λ (e : Entry). e.vertex) (filter (is_chosen start) (take i entries)) (get_or entries i no_entry ∷ [])

-- and where it is not
pub chosen_same : (start : Bool) (entries : List Entry) (i : ℕ) → i < length entries → is_chosen start (get_or entries i no_entry) ≡ false →
    chosen start (take (i + 1) entries) ≡ chosen start (take i entries)
chosen_same start entries i below out_of_it =
    ap (map (λ e. e.vertex)) (filter_more (is_chosen start) entries i no_entry below
    ∙ ap (λ b. filter (is_chosen start) (take i entries) ++ cond b (get_or entries i no_entry ∷ []) []) out_of_it ∙ append-nil (filter (is_chosen start) (take i entries)))

-- as many starts as ends, where the starts are as many as the other entries
pub balanced_from_count : (entries : List Entry) (count : ℕ) → count ≡ count_by (λ e. e.start) entries → length entries - count ≡ count →
    length (starts_of entries) ≡ length (ends_of entries)
balanced_from_count entries count is half =
    omega (arith, is, half, both_counted entries, length-map (filter (is_chosen true) entries) (λ (e : Entry). e.vertex), length-filter (λ (e : Entry). e.start) entries)
