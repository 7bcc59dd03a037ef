-- What is seen of a shelf and of an output, whatever their types.
use Rattle.std.specs.Prelude.{ℕ, Bool, Option, Result}
use Rattle.run_terms.specs.Files.{Bytes, Files}
use Rattle.run_terms.specs.Meets.{Why, Seen, Meets}
use Rattle.run_terms.specs.Tasks.{Task}
use Rattle.mb_outside.specs.declared.shelf.Shelf.{Ghosts as OfShelf}
use Rattle.mb_outside.specs.declared.sink.Sink.{Ghosts as OfSink}

-- whether the files are told, the files, and the counts of faults in reading, of short reads and of faults in writing
pub record OnShelf : Type 0 where
  pub tells : Bool
  pub files : Files
  pub read : ℕ
  pub short : ℕ
  pub write : ℕ

abbrev pub on_shelf : {S : Type 0} → OfShelf S → S → OnShelf
on_shelf s shelf =
    record { tells = s.tells shelf; files = s.files shelf; read = s.read_faults shelf; short = s.short_reads shelf; write = s.write_faults shelf }

-- a shelf, with an output that holds these bytes and failed so often
abbrev pub seen : OnShelf → Option Bytes → ℕ → Seen
seen on told outs = record {
  tells = on.tells;
  world = record { files = on.files; out = told };
  faults = record { read = on.read; short = on.short; write = on.write; out = outs };
}

abbrev pub seen_of : {S O : Type 0} → OfShelf S → OfSink O → S → O → Seen
seen_of s o shelf out = seen (on_shelf s shelf) (o.told out) (o.faults out)

-- a call that touches a shelf alone meets its task, whatever the output
abbrev pub ShelfMeets : {A : Type 0} → Task A → OnShelf → OnShelf → Result A Why → Type 0
ShelfMeets t before now ended = (told : Option Bytes) (outs : ℕ) → Meets t (seen before told outs) (seen now told outs) ended

-- what an output holds where it tells that, and how often it failed
pub record OnOutput : Type 0 where
  pub told : Option Bytes
  pub faults : ℕ

abbrev pub on_output : {O : Type 0} → OfSink O → O → OnOutput
on_output o out = record { told = o.told out; faults = o.faults out }

-- a call that touches an output alone meets its task, whatever the shelf
abbrev pub OutputMeets : {A : Type 0} → Task A → OnOutput → OnOutput → Result A Why → Type 0
OutputMeets t before now ended = (on : OnShelf) → Meets t (seen on before.told before.faults) (seen on now.told now.faults) ended

-- the same of a shelf of any type
abbrev pub MeetsOnShelf : {S A : Type 0} → OfShelf S → Task A → S → S → Result A Why → Type 0
MeetsOnShelf s t old new ended = ShelfMeets t (on_shelf s old) (on_shelf s new) ended

-- the same of an output of any type
abbrev pub MeetsOnOutput : {O A : Type 0} → OfSink O → Task A → O → O → Result A Why → Type 0
MeetsOnOutput o t old new ended = OutputMeets t (on_output o old) (on_output o new) ended

-- a call that touches a shelf and an output meets its task
abbrev pub MeetsOn : {S O A : Type 0} → OfShelf S → OfSink O → Task A → S × O → S × O → Result A Why → Type 0
MeetsOn s o t old new ended = Meets t (seen_of s o old.0 old.1) (seen_of s o new.0 new.1) ended
