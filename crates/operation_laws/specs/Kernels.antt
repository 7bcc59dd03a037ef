-- Operations under the kernels that a script may choose, remeshing, and how many pairs of triangles cut one another.
use Rattle.edge_face.specs.Crossings.{Settle, edge_face_crossing, face_edge_crossing}
use Rattle.exact_kernels.specs.Exact.{exact}
use Rattle.inspection_laws.specs.Counts.{cuts_of}
use Rattle.mb_base.specs.declared.kernel_kind.KernelKind.{KernelKind}
use Rattle.mb_base.specs.declared.kernel_kind.KernelKind.TheVariants.{Exact, Grid}
use Rattle.mesh_boolean.specs.Operation.{Outcome, Tests, operation}
use Rattle.rounding.specs.Nearest.{nearest, settle_nearest}
use Rattle.cross_section.specs.Outcome.{Outcome as Flat, outcome_of}
use Rattle.cross_section.specs.Extruded.{extruded, filling_of}
use Rattle.outline_pair_terms.specs.Numbers.{FlatNumbers, FlatTests, flat_numbers, p_flat, q_flat}
use Rattle.outline_terms.specs.Outlines.{Outline}
use Rattle.mb_base.specs.declared.op.Op.{Op}
use Rattle.mesh_terms.specs.Meshes.{Mesh}
use Rattle.sheet_terms.specs.Remesh.{remeshed}
use Rattle.play_terms.specs.Combined.{Combined, Combined2}
use Rattle.play_terms.specs.Combined as told
use Rattle.play_terms.specs.Plays.{Meanings}
use Rattle.shadow_kernels.specs.Rules.{Rule, grid}
use Rattle.shadow_kernels.specs.Shadows.{edge_edge, edge_vertex, face_vertex, vertex_edge, vertex_face}
use Rattle.shadow_kernels.specs.Spots.{Between}

-- the tests under a rule, with a rounding
abbrev pub tests_of : Rule → Between → Settle → Tests
tests_of k w settle =
    record { vertex_face = vertex_face k w; face_vertex = face_vertex k w; edge_face = edge_face_crossing k w settle; face_edge = face_edge_crossing k w settle }

-- the values at spots and the marks of P decide, or exact signs do
abbrev pub rule_under : KernelKind → Rule
rule_under Grid = grid
rule_under Exact = exact

-- both with rounding to the nearest
abbrev pub tests_under : KernelKind → Tests
tests_under kernels = tests_of (rule_under kernels) nearest settle_nearest

-- what an operation gives, as far as a script tells it
abbrev pub told_of : Outcome → Combined
told_of o =
    record {
      mesh = record { points = o.points; triples = o.triples; labels = o.labels };
      p_kept = o.p_kept;
      q_kept = o.q_kept;
      crossings =
          o.crossings;
      forced = o.forced;
      halfedges = o.halfedges;
    }

-- what remeshing gives of a mesh, as a script tells it
abbrev pub told_remeshed : Mesh → told.Remeshed
told_remeshed m = let r = remeshed m in record { mesh = r.mesh; planes = r.planes; kept = r.kept }

-- the tests of outlines under a rule, with a rounding
abbrev pub flat_tests_of : Rule → Between → FlatTests
flat_tests_of k w = record { vertex_edge = vertex_edge k w; edge_vertex = edge_vertex k w; edge_edge = edge_edge k w }

-- the winding numbers and crossings of two outlines under these kernels, with rounding to the nearest
abbrev pub flat_numbers_under : KernelKind → Op → Outline → Outline → FlatNumbers
flat_numbers_under kernels op p q = flat_numbers (flat_tests_of (rule_under kernels) nearest) settle_nearest (p_flat op p) (q_flat q)

-- what an operation on outlines gives, as far as a script tells it
abbrev pub told2_of : Flat → Combined2
told2_of f = record { outline = f.outline; p_kept = f.p_kept; q_kept = f.q_kept; crossings = f.crossings }

-- what the steps of a script mean under these kernels
abbrev pub meanings_under : KernelKind → Meanings
meanings_under kernels =
    record {
      operation = λ op p q. told_of (operation (tests_under kernels) op p q);
      remeshing = told_remeshed;
      cuts = cuts_of;
      outlines = λ op p q. told2_of (outcome_of op p q (flat_numbers_under kernels op p q));
      extrusion = λ o low high. record { mesh = extruded o low high; forced = (filling_of o).forced };
    }
