-- The words of a line up to a comment.
use Rattle.std.specs.Prelude.{◌≡◌, ℕ, ◌<◌, List, false, length}
use Rattle.text_terms.specs.Lines.{is_comment}

-- some bytes, of which the first is no #
pub record IsReadWord (word : List ℕ) : Type 0 where
  pub some : 0 < length word
  pub no_comment : is_comment word ≡ false
