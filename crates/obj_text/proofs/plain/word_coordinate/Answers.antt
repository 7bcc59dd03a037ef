use Rattle.std.proofs.Common.{◌≡◌, ◌<◌, ℕ, ℤ, List, ◌++◌, length, take, drop, not, Ok, refl, rules, sym, ap, ◌∙◌, to_z, of_z}
use Rattle.std.specs.Int.{w32}
use Rattle.std.specs.List.{position_or_len}
use Rattle.std.proofs.lemmas.List.{take-append-drop}
use Rattle.text_terms.specs.Coordinates.{coordinate}
use Rattle.grid_number.proofs.Positions.{position_or_len-le}
use Rattle.obj_text.specs.Plain.{is_plain, all_plain, BeginsWord}
use Rattle.obj_text.proofs.Fronts.{all-front}
use Rattle.obj_text.proofs.plain.word_coordinate.Goals as goal

-- the plain bytes at the front are a word that reads
begins_so : (k n : ℕ) (text word rest : List ℕ) (v w : ℤ) → w ≡ v → n ≡ position_or_len (λ c. not (is_plain c)) text → word ≡ take n text → rest ≡ drop n text →
    0 < length word → coordinate k word ≡ Ok v → BeginsWord k text w rest
begins_so k n text word rest v w same place front back some reads = rw same (record {
  word = word;
  split = sym (take-append-drop n text) ∙ ap (λ (t : List ℕ). t ++ drop n text) (sym front) ∙ ap (λ (t : List ℕ). word ++ t) (sym back);
  plain = record { some = some; plain = ap all_plain (front ∙ ap (λ (m : ℕ). take m text) place) ∙ all-front is_plain all_plain refl (λ c cs. refl) text };
  reads = reads;
})

pub split_at-requires : goal.split_at-requires
split_at-requires c = rw c.plain_len.ensures (position_or_len-le (λ x. not (is_plain x)) c.args.text.now)

pub returns-in-Ok : goal.returns-in-Ok
returns-in-Ok c =
    let same : to_z w32 (of_z w32 c.in-Ok.value) ≡ c.in-Ok.value = search rules in
    let some : 0 < length c.split_at.result.0.now = search rules in
    begins_so c.args.digits c.plain_len.result c.args.text.now c.split_at.result.0.now c.split_at.result.1.now c.in-Ok.value (to_z w32 (of_z w32 c.in-Ok.value))
    same c.plain_len.ensures c.split_at.ensures.front c.split_at.ensures.back some c.in-Ok.ensures.value
