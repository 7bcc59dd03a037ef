-- Parts of a text, and what is expected of the bytes of a file.
use Rattle.std.proofs.Common.{◌≡◌, ℕ, ◌+◌, ◌≤◌, ◌++◌, length, take, drop, ap, sym, ◌∙◌, refl, arith, Option, Some, None, Ok, Err, ◌<◌}
use Rattle.std.proofs.Math.Seq.{take-add}
use Rattle.std.proofs.lemmas.Bool.{le-ltb, lt-ltb}
use Rattle.std.proofs.lemmas.Grind.{common_steps}
use Rattle.mesh_terms.specs.Faults.{FileBytes}
use Rattle.mesh_terms.specs.Limits.{Limits}
use Rattle.run_terms.specs.Files.{Bytes, text_of, length_of}
use Rattle.play_terms.specs.Commands.{bytes_in}
use Rattle.run_terms.specs.Tasks.{NoFile, PastLimit}
use Rattle.mesh_files.specs.ReadPieces.{ReadsOn}

-- a whole text was read
pub all_of : (text bytes : Bytes) (have size : ℕ) → length bytes ≡ size → length text ≡ size → size ≤ have → take have bytes ≡ take have text → text ≡ bytes
all_of text bytes have size long_bytes long_text full same = grind (arith, common_steps)

-- one piece more was read
pub reads_on : (text old new : Bytes) (have n : ℕ) → ReadsOn text have n old new → take have old ≡ take have text → take (have + n) new ≡ take (have + n) text
reads_on text old new have n is was = is ∙ ap (λ x. x ++ take n (drop have text)) was ∙ sym (take-add have n text)

-- a file that is not there is refused
pub bytes_of_none : (limits : Limits) (name : Bytes) (file : Option Bytes) → length_of file ≡ None → bytes_in limits name file ≡ Err (NoFile name)
bytes_of_none limits name None none = refl
bytes_of_none limits name (Some text) none = cc

-- a file that is too long is refused
pub bytes_of_long : (limits : Limits) (name : Bytes) (file : Option Bytes) (most size : ℕ)
    → length_of file ≡ Some size → most ≡ limits.file_bytes → most < size → bytes_in limits name file ≡ Err (PastLimit FileBytes size)
bytes_of_long limits name None most size is same long = cc
bytes_of_long limits name (Some text) most size is same long =
    let seen : length text ≡ size = cc in
    let past : limits.file_bytes < length text = omega (arith, seen, same, long) in
    rw (lt-ltb limits.file_bytes (length text) past, seen) refl

-- the bytes of a file that is there and within the limit
pub bytes_of_whole : (limits : Limits) (name bytes : Bytes) (file : Option Bytes) (size : ℕ)
    → length_of file ≡ Some size → size ≤ limits.file_bytes → text_of file ≡ bytes → bytes_in limits name file ≡ Ok bytes
bytes_of_whole limits name bytes None size is within same = cc
bytes_of_whole limits name bytes (Some text) size is within same =
    let long : length text ≡ size = cc in
    let fits : length text ≤ limits.file_bytes = omega (arith, long, within) in
    rw (le-ltb limits.file_bytes (length text) fits, same) refl
