-- The lines of scripts on outlines and on the solid over one, done in order under the kernels of the grid, computed.
use Rattle.std.specs.Prelude.{◌≡◌, ℕ, ℤ, pos, List, [], ◌∷◌, codes, None, Result, Ok, Err, replicate}
use Rattle.std.proofs.Common.{refl}
use Rattle.mb_base.specs.declared.op.Op.TheVariants.{Subtract}
use Rattle.mesh_terms.specs.Limits.{Limits}
use Rattle.play_terms.specs.Plays.{Named, State, at_first, mesh_at, no_names, outline_at, steps_task}
use Rattle.play_terms.specs.Steps.{Combine2, Extrude, Line, Polygon, Remesh}
use Rattle.run_terms.specs.Tasks.{Refusal}
use Rattle.shadow_kernels.specs.Counts.{by_ends, joined, lifted, met}
use Rattle.shadow_kernels.specs.Shadows.{meet01, meet10, meet11}
use Rattle.shadow_kernels.specs.Spots.{spot01, spot10, spot_between}
use Rattle.operation_laws.specs.Kernels.{meanings_under}

abbrev at : ℕ → ℕ → List ℤ
at x y = pos x ∷ pos y ∷ pos 0 ∷ []

abbrev at_height : ℕ → ℕ → ℕ → List ℤ
at_height x y z = pos x ∷ pos y ∷ pos z ∷ []

abbrev limits : Limits
limits = record { file_bytes = 1000; points = 100; triangles = 100; halfedges = 100 }

-- the names after lines that were done, where there are no files before them
abbrev named_by : Result State Refusal → Named
named_by (Ok state) = state.named
named_by (Err why) = no_names

abbrev named_after : List Line → Named
named_after lines = named_by (steps_task meanings_under 0 limits (codes "s") lines at_first (λ n. None)).result

-- a triangle less a square at its corner
abbrev cut : List Line
cut =
    (1, Polygon (codes "a") (at 0 0 ∷ at 4 0 ∷ at 0 4 ∷ []))
    ∷ (2, Polygon (codes "b") (at 0 0 ∷ at 1 0 ∷ at 1 1 ∷ at 0 1 ∷ []))
    ∷ (3, Combine2 Subtract (codes "c") (codes "a") (codes "b"))
    ∷ []

-- the corner lies on two sides of the triangle: there the outline has a step of width 0
outline : outline_at (named_after cut) (codes "c") ≡
    record { points = at 4 0 ∷ at 0 4 ∷ at 1 0 ∷ at 1 1 ∷ at 1 0 ∷ at 0 1 ∷ []; loops = (4 ∷ 0 ∷ 1 ∷ 5 ∷ 3 ∷ 2 ∷ []) ∷ [] }
unfolding meet01 meet10 meet11 lifted joined by_ends met spot01 spot10 spot_between
outline = refl

-- the solid over a triangle, one of whose corners stands twice, and that remeshed
abbrev solids : List Line
solids =
    (1, Polygon (codes "a") (at 0 0 ∷ at 4 0 ∷ at 0 4 ∷ at 0 0 ∷ []))
    ∷ (2, Extrude (codes "b") (codes "a") (pos 0) (pos 1))
    ∷ (3, Remesh (codes "c") (codes "b"))
    ∷ []

extruded : mesh_at (named_after solids) (codes "b") ≡
    record {
      points =
          at_height 0 0 0 ∷ at_height 4 0 0 ∷ at_height 0 4 0 ∷ at_height 0 0 0 ∷ at_height 0 0 1 ∷ at_height 4 0 1 ∷ at_height 0 4 1 ∷ at_height 0 0 1 ∷ [];
      triples =
          (3, 1, 0) ∷ (1, 3, 2) ∷ (7, 4, 5) ∷ (5, 6, 7) ∷ (0, 1, 5) ∷ (0, 5, 4) ∷ (1, 2, 6) ∷ (1, 6, 5) ∷ (2, 3, 7) ∷ (2, 7, 6) ∷ (3, 0, 4) ∷ (3, 4, 7) ∷ [];
      labels = replicate 12 [];
    }
extruded = refl

-- points at one place are one then, and no triangle is flat
remeshed : mesh_at (named_after solids) (codes "c") ≡
    record {
      points = at_height 0 0 0 ∷ at_height 4 0 0 ∷ at_height 0 4 0 ∷ at_height 0 0 1 ∷ at_height 4 0 1 ∷ at_height 0 4 1 ∷ [];
      triples = (0, 2, 1) ∷ (3, 4, 5) ∷ (3, 0, 1) ∷ (1, 4, 3) ∷ (4, 1, 2) ∷ (2, 5, 4) ∷ (2, 0, 3) ∷ (3, 5, 2) ∷ [];
      labels = replicate 8 [];
    }
remeshed = refl
