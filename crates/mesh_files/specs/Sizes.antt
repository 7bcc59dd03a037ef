-- The sizes at which a file is not read.
use Rattle.std.specs.Prelude.{◌≡◌, ℕ, ◌<◌, Option, Some, None}
use Rattle.mb_base.specs.declared.fault.Counted.TheVariants.{FileBytes}
use Rattle.mesh_files.specs.declared.stop.Stop.{Stop}
use Rattle.mesh_files.specs.declared.stop.Stop.TheVariants.{Missing, Over}

-- there is no file, or one that is longer than the most bytes
abbrev pub IsSizeStop : ℕ → Option ℕ → Stop → Type 0
IsSizeStop most None stop = stop ≡ Missing
IsSizeStop most (Some size) stop = (stop ≡ Over FileBytes size) × (most < size)
