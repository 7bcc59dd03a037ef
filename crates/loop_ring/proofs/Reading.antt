-- A ring whose cursor goes from place to place: what is read, and what the next step leaves.
use Rattle.std.proofs.Common.{◌≡◌, ℕ, ◌+◌, ◌-◌, ◌<◌, List, [], ◌∷◌, ◌++◌, length, take, drop, get_or, sym, ap, ◌∙◌}
use Rattle.std.proofs.lemmas.List.{append_assoc, drop_more, take_more}
use Rattle.loop_ring.specs.Turning.{turned_to}
use Rattle.loop_ring.proofs.Turning.{length-turned_to, back_after_step}

-- the value at the cursor
pub read_turned : (k : ℕ) (xs : List ℕ) → k < length xs → get_or (turned_to k xs) 0 0 ≡ get_or xs k 0
read_turned k xs within = ap (λ l. get_or (l ++ take k xs) 0 0) (drop_more xs k 0 within)

-- a step more
pub turned_more : (k : ℕ) (xs : List ℕ) → k < length xs → turned_to 1 (turned_to k xs) ≡ turned_to (k + 1) xs
turned_more k xs within =
    ap (λ l. turned_to 1 (l ++ take k xs)) (drop_more xs k 0 within) ∙ append_assoc (drop (k + 1) xs) (take k xs) (get_or xs k 0 ∷ [])
    ∙ ap (λ l. drop (k + 1) xs ++ l) (sym (take_more xs k 0 within))

-- and a step less
pub turned_less : (n k : ℕ) (xs : List ℕ) → n ≡ length xs → k < length xs → turned_to (n - 1) (turned_to (k + 1) xs) ≡ turned_to k xs
turned_less n k xs count within = ap (turned_to (n - 1)) (sym (turned_more k xs within)) ∙ back_after_step n (turned_to k xs) (count ∙ sym (length-turned_to k xs))
