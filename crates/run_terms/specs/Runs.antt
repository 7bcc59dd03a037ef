-- What a run does to the files and the output, and what stands after a part of it.
use Rattle.std.specs.Prelude.{◌≡◌, List, [], ◌∷◌, ◌++◌, ◌⊎◌, Option}
use Rattle.std.specs.Option.{option_map}
use Rattle.run_terms.specs.Files.{Bytes, Files, put, IsPrefix}

-- asking for a file, writing a whole file, saying a line
pub data Action : Type 0 where
  Ask : (name : Bytes) → Action
  Write : (name bytes : Bytes) → Action
  Say : (line : Bytes) → Action

-- the files, and the bytes that the output holds where it tells them
pub record World : Type 0 where
  pub files : Files
  pub out : Option Bytes

-- what an action does
abbrev pub done : Action → World → World
done (Ask name) w = w
done (Write name bytes) w = record { files = put name bytes w.files; out = w.out }
done (Say line) w = record { files = w.files; out = option_map (λ held. held ++ line) w.out }

abbrev pub done_all : List Action → World → World
done_all [] w = w
done_all (a ∷ xs) w = done_all xs (done a w)

-- what may stand after an action that was begun and not done: of a file a prefix of its bytes or what it held, of a line a prefix
abbrev pub Partial : Action → World → World → Type 0
Partial (Ask name) w v = v ≡ w
Partial (Write name bytes) w v = (v ≡ w) ⊎ ((part : Bytes) × IsPrefix part bytes × (v ≡ record { files = put name part w.files; out = w.out }))
Partial (Say line) w v = (part : Bytes) × IsPrefix part line × (v ≡ record { files = w.files; out = option_map (λ held. held ++ part) w.out })

-- some first actions were done whole, and the next, which is this one, in part or not at all
pub record StopsAt (all : List Action) (a : Action) (w v : World) : Type 0 where
  pub whole : List Action
  pub later : List Action
  pub split : whole ++ (a ∷ later) ≡ all
  pub part : Partial a (done_all whole w) v

-- some first actions were done whole, and nothing else
pub record StopsBefore (all : List Action) (w v : World) : Type 0 where
  pub whole : List Action
  pub later : List Action
  pub split : whole ++ later ≡ all
  pub same : v ≡ done_all whole w
