-- The lines that the steps of a script say, and the names of the faults of a script.
use Rattle.std.specs.Prelude.{ℕ, ◌++◌, ◌==◌, if◌then◌else◌, length, codes, decimal}
use Rattle.std.specs.Fmt.{signed_decimal}
use Rattle.chain_terms.specs.Chains.{all_edges}
use Rattle.component_terms.specs.Counts.{component_count}
use Rattle.inspection_terms.specs.Inspected.{doubled_count, flat_count, high_corner, low_corner, touching_count}
use Rattle.mesh_terms.specs.Euler.{euler_of}
use Rattle.mesh_terms.specs.Meshes.{Mesh, Soup}
use Rattle.mesh_terms.specs.Volume.{volume6_of}
use Rattle.text_terms.specs.Written.{line_of, three_numbers}
use Rattle.run_terms.specs.Files.{Bytes}
use Rattle.play_terms.specs.Lines.{counts_text}
use Rattle.mb_base.specs.declared.op.Op.{Op}
use Rattle.play_terms.specs.Combined.{Combined, Combined2}
use Rattle.play_terms.specs.ScriptCommands.{op_word, op2_word}

-- load NAME FILE: points P, triangles T, unused U
abbrev pub load_line : Bytes → Bytes → Soup → Bytes
load_line name file m = line_of (codes "load " ++ name ++ codes " " ++ file ++ counts_text (length m.points) (length m.triples) m.unused)

-- : points P, triangles T
abbrev pub size_text : Mesh → Bytes
size_text m = codes ": points " ++ decimal (length m.points) ++ codes ", triangles " ++ decimal (length m.triples)

-- save NAME FILE: points P, triangles T
abbrev pub save_line : Bytes → Bytes → Mesh → Bytes
save_line name file m = line_of (codes "save " ++ name ++ codes " " ++ file ++ size_text m)

-- , components C, euler E, volume6 V
abbrev pub measures_text : Mesh → Bytes
measures_text m =
    codes ", components " ++ decimal (component_count (length m.points) (all_edges m.triples)) ++ codes ", euler "
    ++ signed_decimal (euler_of (length m.points) (length m.triples)) ++
    codes ", volume6 " ++ signed_decimal (volume6_of m.points m.triples)

-- NAME: points P, triangles T, components C, euler E, volume6 V
abbrev pub measure_line : Bytes → Mesh → Bytes
measure_line name m = line_of (name ++ size_text m ++ measures_text m)

-- : low X Y Z, high X Y Z
abbrev pub corners_text : ℕ → Mesh → Bytes
corners_text k m = codes ": low " ++ three_numbers k (low_corner m.points) ++ codes ", high " ++ three_numbers k (high_corner m.points)

-- , flat F, doubled D, touching E, cuts C
abbrev pub inspected_text : Mesh → ℕ → Bytes
inspected_text m cuts =
    codes ", flat " ++ decimal (flat_count m) ++ codes ", doubled " ++ decimal (doubled_count m.points) ++ codes ", touching " ++ decimal (touching_count m)
    ++ codes ", cuts " ++ decimal cuts

-- NAME: low X Y Z, high X Y Z, flat F, doubled D, touching E, cuts C
abbrev pub inspect_line : ℕ → Bytes → Mesh → ℕ → Bytes
inspect_line k name m cuts = line_of (name ++ corners_text k m ++ inspected_text m cuts)

-- OP LEFT RIGHT
abbrev pub operation_text : Op → Bytes → Bytes → Bytes
operation_text op left right = op_word op ++ codes " " ++ left ++ codes " " ++ right

-- : kept N M, crossings X, forced F
abbrev pub combined_text : Combined → Bytes
combined_text o =
    codes ": kept " ++ decimal o.p_kept ++ codes " " ++ decimal o.q_kept ++ codes ", crossings " ++ decimal o.crossings ++ codes ", forced " ++ decimal o.forced

-- NAME = OP LEFT RIGHT: kept N M, crossings X, forced F
abbrev pub combine_line : Op → Bytes → Bytes → Bytes → Combined → Bytes
combine_line op name left right o = line_of (name ++ codes " = " ++ operation_text op left right ++ combined_text o)

-- : collapsed N
abbrev pub collapsed_text : ℕ → Bytes
collapsed_text collapses = codes ": collapsed " ++ decimal collapses

-- NAME = tidy OLD: collapsed N
abbrev pub tidy_line : Bytes → Bytes → ℕ → Bytes
tidy_line name old collapses = line_of (name ++ codes " = tidy " ++ old ++ collapsed_text collapses)

-- : planes P, kept K
abbrev pub remeshed_text : ℕ → ℕ → Bytes
remeshed_text planes kept = codes ": planes " ++ decimal planes ++ codes ", kept " ++ decimal kept

-- NAME = remesh OLD: planes P, kept K
abbrev pub remesh_line : Bytes → Bytes → ℕ → ℕ → Bytes
remesh_line name old planes kept = line_of (name ++ codes " = remesh " ++ old ++ remeshed_text planes kept)

-- : kept N M, crossings X
abbrev pub combined2_text : Combined2 → Bytes
combined2_text o = codes ": kept " ++ decimal o.p_kept ++ codes " " ++ decimal o.q_kept ++ codes ", crossings " ++ decimal o.crossings

-- OP LEFT RIGHT
abbrev pub operation2_text : Op → Bytes → Bytes → Bytes
operation2_text op left right = op2_word op ++ codes " " ++ left ++ codes " " ++ right

-- NAME = OP LEFT RIGHT: kept N M, crossings X
abbrev pub combine2_line : Op → Bytes → Bytes → Bytes → Combined2 → Bytes
combine2_line op name left right o = line_of (name ++ codes " = " ++ operation2_text op left right ++ combined2_text o)

-- : forced F
abbrev pub forced_text : ℕ → Bytes
forced_text forced = codes ": forced " ++ decimal forced

-- NAME = extrude OLD: forced F
abbrev pub extrude_line : Bytes → Bytes → ℕ → Bytes
extrude_line name old forced = line_of (name ++ codes " = extrude " ++ old ++ forced_text forced)

-- the name of a kind of fault of a script by its number
abbrev pub script_kind_name : ℕ → Bytes
script_kind_name kind =
    if kind == 20 then codes "BadWord"
    else if kind == 21 then codes "WrongCount"
    else if kind == 22 then codes "BadName"
    else if kind == 23 then codes "NameNotDefined"
    else if kind == 24 then codes "BadNumber"
    else codes "BadSuffix"

-- the name of a kind of fault of a mesh that a line makes by its number
abbrev pub step_kind_name : ℕ → Bytes
step_kind_name kind = if kind == 15 then codes "OutOfGrid" else codes "FlatSolid"
