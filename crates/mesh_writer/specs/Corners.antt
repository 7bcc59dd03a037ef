-- The lines of the corners of a facet.
use Rattle.std.specs.Prelude.{ℕ, ℤ, List, ◌++◌}
use Rattle.mesh_terms.specs.Meshes.{Triple}
use Rattle.format_terms.specs.StlWritten.{corner_line}

abbrev pub corner_lines : ℕ → List (List ℤ) → Triple → List ℕ
corner_lines k points t = corner_line k points t.0 ++ corner_line k points t.1 ++ corner_line k points t.2
