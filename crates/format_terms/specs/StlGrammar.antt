-- The grammar of ASCII STL: what each word may be, and what comes after it.
use Rattle.std.specs.Prelude.{ℕ, List, if◌then◌else◌, codes, Option, Some, None}
use Rattle.std.specs.Str.{str_eq_ignore_ascii_case}

-- what the next word of the file has to be
pub data Place : Type 0 where
  -- solid; no solid was read so far
  BeforeSolid : Place
  -- facet or endsolid
  InSolid : Place
  -- normal, and any three words
  Normal : Place
  NormalX : Place
  NormalY : Place
  NormalZ : Place
  -- outer loop
  Outer : Place
  Loop : Place
  -- vertex, and a number
  Vertex : Place
  Number : Place
  -- endloop endfacet
  EndLoop : Place
  EndFacet : Place
  -- solid, or the file ends
  AfterSolid : Place

-- the place after a keyword, ASCII case ignored
abbrev pub after_key : List ℕ → Place → List ℕ → Option Place
after_key key place word = if str_eq_ignore_ascii_case word key then Some place else None

-- solid and endsolid, the rest of whose line is passed over
abbrev pub after_turn : Place → List ℕ → Option Place
after_turn BeforeSolid word = after_key (codes "solid") InSolid word
after_turn AfterSolid word = after_key (codes "solid") InSolid word
after_turn InSolid word = after_key (codes "endsolid") AfterSolid word
after_turn _ word = None

-- the other words but the numbers
abbrev pub after_word : Place → List ℕ → Option Place
after_word InSolid word = after_key (codes "facet") Normal word
after_word Normal word = after_key (codes "normal") NormalX word
after_word NormalX word = Some NormalY
after_word NormalY word = Some NormalZ
after_word NormalZ word = Some Outer
after_word Outer word = after_key (codes "outer") Loop word
after_word Loop word = after_key (codes "loop") Vertex word
after_word Vertex word = after_key (codes "vertex") Number word
after_word EndLoop word = after_key (codes "endloop") EndFacet word
after_word EndFacet word = after_key (codes "endfacet") InSolid word
after_word _ word = None
