-- Vertices of entries with their keys, entry by entry.
use Rattle.std.proofs.Common.{◌≡◌, ◌+◌, ◌<◌, ℕ, ℤ, true, false, Bool, List, [], ◌∷◌, ◌++◌, length, map, take, get_or, sym, ap, ◌∙◌}
use Rattle.std.proofs.lemmas.List.{map-append}
use mathlib.Core.Bool.{beq}
use Rattle.mb_base.specs.declared.results.Entry.{Entry}
use Rattle.edge_pairing.specs.Entries.{chosen}
use Rattle.edge_pairing.specs.Keys.{keyed_by}
use Rattle.edge_pairing.specs.declared.pairs.Keyed.{Keyed}
use Rattle.edge_pairing.proofs.Listed.{no_entry, chosen_as, chosen_more, chosen_same}

-- one entry more, where it is chosen
pub keyed_more : (key : ℕ → ℤ) (start : Bool) (entries : List Entry) (i : ℕ) (keyed : List Keyed) → i < length entries → beq (get_or entries i no_entry).start start ≡ true →
    keyed ≡ map (keyed_by key) (chosen start (take i entries)) → keyed ++ keyed_by key (get_or entries i no_entry).vertex ∷ []
    ≡ map (keyed_by key) (chosen start (take (i + 1) entries))
keyed_more key start entries i keyed below here so =
    let v = (get_or entries i no_entry).vertex in
    ap (λ l. l ++ keyed_by key v ∷ []) so ∙ sym (map-append (keyed_by key) (chosen start (take i entries)) (v ∷ []))
    ∙ ap (map (keyed_by key)) (sym (chosen_more start entries i below (chosen_as start (get_or entries i no_entry) ∙ here)))

-- and where it is not
pub keyed_same : (key : ℕ → ℤ) (start : Bool) (entries : List Entry) (i : ℕ) → i < length entries → beq (get_or entries i no_entry).start start ≡ false →
    map (keyed_by key) (chosen start (take i entries)) ≡ map (keyed_by key) (chosen start (take (i + 1) entries))
keyed_same key start entries i below other = ap (map (keyed_by key)) (sym (chosen_same start entries i below (chosen_as start (get_or entries i no_entry) ∙ other)))
