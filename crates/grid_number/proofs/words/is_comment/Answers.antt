use Rattle.std.proofs.Common.{◌≡◌, ℕ, List, [], ◌∷◌, nat_eq, slice_index_or, refl}
use Rattle.text_terms.specs.Lines.{is_comment}
use Rattle.grid_number.proofs.words.is_comment.Goals as goal

-- the first byte tells, and there is none in an empty word
by_first : (word : List ℕ) → nat_eq (slice_index_or word 0 0) 35 ≡ is_comment word
by_first [] = refl
by_first (c ∷ cs) = refl

pub returns-then-not-is_empty : goal.returns-then-not-is_empty
returns-then-not-is_empty c = by_first c.args.word.now
