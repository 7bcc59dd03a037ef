-- Files by name, what the calls of a shelf and of a sink do to them, and counts of faults.
use Rattle.std.specs.Prelude.{◌≡◌, ℕ, List, [], ◌++◌, ◌⊎◌, ◌≤◌, ◌<◌, ◌^◌, ◌-◌, ◌+◌, min, if◌then◌else◌, bytes_eq, length, take, drop, Option, Some, None, Result, IsOk, IsErr}

abbrev pub Bytes : Type 0
Bytes = List ℕ

-- the bytes of each file; a name that is not there gives None
abbrev pub Files : Type 0
Files = Bytes → Option Bytes

-- a name that is not there counts as an empty file
abbrev pub text_of : Option Bytes → Bytes
text_of None = []
text_of (Some text) = text

abbrev pub length_of : Option Bytes → Option ℕ
length_of None = None
length_of (Some text) = Some (length text)

-- the file of that name holds these bytes; all others stay
abbrev pub put : Bytes → Bytes → Files → Files
put name bytes files = λ n. if bytes_eq n name then Some bytes else files n

-- all files but this one stay
abbrev pub OthersStay : Bytes → Files → Files → Type 0
OthersStay name old new = (n : Bytes) → (n ≡ name → ⊥) → new n ≡ old n

-- the count rose, or stood at its last value
abbrev pub Rose : ℕ → ℕ → Type 0
Rose before after = min (before + 1) (2 ^ 64 - 1) ≤ after

-- the count rose, or stood at its last value, and did not fall
pub record Grew (before after : ℕ) : Type 0 where
  pub later : before ≤ after
  pub rose : Rose before after

-- a refusal comes only where the count rose, and an Ok leaves the count
pub record Counts {T E : Type 0} (before after : ℕ) (result : Result T E) : Type 0 where
  pub later : before ≤ after
  pub ok : IsOk result → after ≡ before
  pub failed : IsErr result → Rose before after

-- a first part of the whole
abbrev pub IsPrefix : Bytes → Bytes → Type 0
IsPrefix part whole = (rest : Bytes) × (part ++ rest ≡ whole)

-- what a read at a place of the text puts into the first places of a buffer
pub record ReadsAt (text : Bytes) (at : ℕ) (old new : Bytes) (count : ℕ) : Type 0 where
  pub there : count ≤ length (drop at text)
  pub bytes : new ≡ take count (drop at text) ++ drop count old
  pub end : count ≡ 0 → (length old ≡ 0) ⊎ (length text ≤ at)

-- the size that an answer states; none counts as 0
abbrev pub size_in : Option ℕ → ℕ
size_in None = 0
size_in (Some size) = size

-- a read into some space gave nothing, at a place below the size that was stated
pub record IsShort (stated at : ℕ) (into : Bytes) (count : ℕ) : Type 0 where
  pub nothing : count ≡ 0
  pub space : 0 < length into
  pub below : at < stated

-- such a read makes the count rise, and any other leaves it
pub record CountsShort (stated at : ℕ) (into : Bytes) (count before after : ℕ) : Type 0 where
  pub short : IsShort stated at into count → Grew before after
  pub other : (IsShort stated at into count → ⊥) → after ≡ before

-- as before or empty
abbrev pub IsKeptOrEmpty : Option Bytes → Option Bytes → Type 0
IsKeptOrEmpty old new = (new ≡ old) ⊎ (new ≡ Some [])

-- the spare is told, and is this file's
abbrev pub IsSpareOf : Option (Bytes × ℕ) → Bytes → Type 0
IsSpareOf None name = ⊥
IsSpareOf (Some p) name = p.0 ≡ name
