-- The plays of small scripts, computed.
use Rattle.std.specs.Prelude.{◌≡◌, ℕ, pos, List, [], ◌∷◌, ◌++◌, ◌&&◌, if◌then◌else◌, length, map, replicate, codes, bytes_eq, None, Ok}
use Rattle.std.proofs.Common.{refl}
use Rattle.std.specs.Fmt.{digits}
use Rattle.std.specs.Char.{encode_utf8}
use Rattle.std.specs.Str.{chars, is_utf8}
use Rattle.mesh_terms.specs.Limits.{Limits}
use Rattle.mesh_terms.specs.Meshes.{Mesh}
use Rattle.format_terms.specs.ObjWritten.{obj_text}
use Rattle.text_terms.specs.Written.{line_of}
use Rattle.outline_terms.specs.Extrusion.{extruded_points}
use Rattle.run_terms.specs.Files.{Bytes, Files, put}
use Rattle.run_terms.specs.Runs.{Action, Ask, Write, Say}
use Rattle.run_terms.specs.Tasks.{Part}
use Rattle.mb_base.specs.declared.kernel_kind.KernelKind.{KernelKind}
use Rattle.mb_base.specs.declared.kernel_kind.KernelKind.TheVariants.{Exact, Grid}
use Rattle.play_terms.specs.Combined.{Combined}
use Rattle.play_terms.specs.Operands.{number_of, number_fault}
use Rattle.play_terms.specs.Plays.{Meanings, script_task}
use Rattle.play_terms.proofs.Endings.{ending, refused_with}

abbrev program : Limits
program = record { file_bytes = 2147483648; points = 15000000; triangles = 10000000; halfedges = 6000000 }

-- limits of so many bytes of a file and so many prescribed half-edges
abbrev small : Limits
small = record { file_bytes = 400; points = 210; triangles = 140; halfedges = 83 }

-- the cube from 0 to 10
abbrev cube : Bytes
cube =
    codes "v 0 0 0\nv 10 0 0\nv 0 10 0\nv 10 10 0\nv 0 0 10\nv 10 0 10\nv 0 10 10\nv 10 10 10\nf 1 4 2\nf 1 3 4\nf 5 6 8\nf 5 8 7\nf 1 2 5\nf 2 6 5\nf 2 4 8\nf 2 8 6\nf 4 3 7\nf 4 7 8\nf 1 5 7\nf 1 7 3\n"

-- a box that stands through its top
abbrev box : Bytes
box =
    codes "v 3 4 5\nv 6 4 5\nv 3 7 5\nv 6 7 5\nv 3 4 20\nv 6 4 20\nv 3 7 20\nv 6 7 20\nf 1 4 2\nf 1 3 4\nf 5 6 8\nf 5 8 7\nf 1 2 5\nf 2 6 5\nf 2 4 8\nf 2 8 6\nf 4 3 7\nf 4 7 8\nf 1 5 7\nf 1 7 3\n"

-- the two in one, as a program that was written apart from this one gives it
abbrev union_text : Bytes
union_text =
    codes "v 0 0 0\nv 10 0 0\nv 0 10 0\nv 10 10 0\nv 0 0 10\nv 10 0 10\nv 0 10 10\nv 10 10 10\nv 3 4 20\nv 6 4 20\nv 3 7 20\nv 6 7 20\nv 4 4 10\nv 6 6 10\nv 5 4 10\nv 3 4 10\n"
    ++ codes "v 6 4 10\nv 6 7 10\nv 6 5 10\nv 3 7 10\nv 5 7 10\nv 3 5 10\nf 1 4 2\nf 1 3 4\nf 13 5 6\nf 6 8 14\nf 6 14 19\nf 6 19 17\nf 6 17 15\nf 6 15 13\nf 18 14 8\nf 18 8 7\n"
    ++ codes "f 5 13 16\nf 7 5 16\nf 7 16 22\nf 7 22 20\nf 7 20 21\nf 7 21 18\nf 1 2 5\nf 2 6 5\nf 2 4 8\nf 2 8 6\nf 4 3 7\nf 4 7 8\nf 1 5 7\nf 1 7 3\nf 9 10 12\nf 9 12 11\n"
    ++ codes "f 13 15 9\nf 9 16 13\nf 15 17 10\nf 10 9 15\nf 14 18 12\nf 12 19 14\nf 17 19 12\nf 12 10 17\nf 20 11 21\nf 18 21 11\nf 11 12 18\nf 22 16 9\nf 9 11 22\nf 22 11 20\n"

abbrev united : Mesh
united = record {
  points =
      (pos 0 ∷ pos 0 ∷ pos 0 ∷ []) ∷ (pos 10 ∷ pos 0 ∷ pos 0 ∷ []) ∷ (pos 0 ∷ pos 10 ∷ pos 0 ∷ []) ∷ (pos 10 ∷ pos 10 ∷ pos 0 ∷ []) ∷
      (pos 0 ∷ pos 0 ∷ pos 10 ∷ []) ∷ (pos 10 ∷ pos 0 ∷ pos 10 ∷ []) ∷ (pos 0 ∷ pos 10 ∷ pos 10 ∷ []) ∷ (pos 10 ∷ pos 10 ∷ pos 10 ∷ []) ∷
      (pos 3 ∷ pos 4 ∷ pos 20 ∷ []) ∷ (pos 6 ∷ pos 4 ∷ pos 20 ∷ []) ∷ (pos 3 ∷ pos 7 ∷ pos 20 ∷ []) ∷ (pos 6 ∷ pos 7 ∷ pos 20 ∷ []) ∷
      (pos 4 ∷ pos 4 ∷ pos 10 ∷ []) ∷ (pos 6 ∷ pos 6 ∷ pos 10 ∷ []) ∷ (pos 5 ∷ pos 4 ∷ pos 10 ∷ []) ∷ (pos 3 ∷ pos 4 ∷ pos 10 ∷ []) ∷
      (pos 6 ∷ pos 4 ∷ pos 10 ∷ []) ∷ (pos 6 ∷ pos 7 ∷ pos 10 ∷ []) ∷ (pos 6 ∷ pos 5 ∷ pos 10 ∷ []) ∷ (pos 3 ∷ pos 7 ∷ pos 10 ∷ []) ∷
      (pos 5 ∷ pos 7 ∷ pos 10 ∷ []) ∷ (pos 3 ∷ pos 5 ∷ pos 10 ∷ []) ∷ [];
  triples =
      (0, 3, 1) ∷ (0, 2, 3) ∷ (12, 4, 5) ∷ (5, 7, 13) ∷ (5, 13, 18) ∷ (5, 18, 16) ∷ (5, 16, 14) ∷ (5, 14, 12) ∷ (17, 13, 7) ∷ (17, 7, 6) ∷
      (4, 12, 15) ∷ (6, 4, 15) ∷ (6, 15, 21) ∷ (6, 21, 19) ∷ (6, 19, 20) ∷ (6, 20, 17) ∷ (0, 1, 4) ∷ (1, 5, 4) ∷ (1, 3, 7) ∷ (1, 7, 5) ∷
      (3, 2, 6) ∷ (3, 6, 7) ∷ (0, 4, 6) ∷ (0, 6, 2) ∷ (8, 9, 11) ∷ (8, 11, 10) ∷ (12, 14, 8) ∷ (8, 15, 12) ∷ (14, 16, 9) ∷ (9, 8, 14) ∷
      (13, 17, 11) ∷ (11, 18, 13) ∷ (16, 18, 11) ∷ (11, 9, 16) ∷ (19, 10, 20) ∷ (17, 20, 10) ∷ (10, 11, 17) ∷ (21, 15, 8) ∷ (8, 10, 21) ∷ (21, 10, 19) ∷ [];
  labels = replicate 40 [];
}

-- an operation of which a table knows the union of the cube and the box alone
abbrev tabled : Mesh → Mesh → Combined
tabled p q =
    if bytes_eq (obj_text 0 p.points p.triples p.labels) cube && bytes_eq (obj_text 0 q.points q.triples q.labels) box
    then record { mesh = united; p_kept = 8; q_kept = 4; crossings = 10; forced = 0; halfedges = 84 }
    else record { mesh = record { points = []; triples = []; labels = [] }; p_kept = 0; q_kept = 0; crossings = 0; forced = 0; halfedges = 0 }

abbrev table : KernelKind → Meanings
table kernels = record {
  operation = λ op p q. tabled p q;
  remeshing = λ m. record { mesh = m; planes = 0; kept = 0 };
  cuts = λ m. 0;
  outlines = λ op p q. record { outline = p; p_kept = 0; q_kept = 0; crossings = 0 };
  extrusion = λ o low high. record { mesh = record { points = []; triples = []; labels = [] }; forced = 0 };
}

-- a script beside the cube and the box
abbrev beside : Bytes → Files
beside text = put (codes "s.txt") text (put (codes "cube.obj") cube (put (codes "b.obj") box (λ n. None)))

abbrev play : Limits → Bytes → Part (Unit {0})
play limits text = script_task table 0 limits (codes "s.txt") (beside text)

-- the script alone is asked for, and its fault is told by this line
abbrev refused : Bytes → List Action × ℕ × Bytes
refused text = refused_with 2 (Ask (codes "s.txt") ∷ []) text

abbrev uniting : Bytes
uniting = codes "load a cube.obj\nload b b.obj\nunion u a b\nsave u u.obj\n"

-- what is done up to the union
abbrev loading : List Action
loading =
    Ask (codes "s.txt") ∷ Ask (codes "cube.obj") ∷ Say (line_of (codes "load a cube.obj: points 8, triangles 12, unused 0")) ∷
    Ask (codes "b.obj") ∷ Say (line_of (codes "load b b.obj: points 8, triangles 12, unused 0")) ∷ []

unites_and_saves : play program uniting
    ≡ record {
      actions = loading ++ Say (line_of (codes "u = union a b: kept 8 4, crossings 10, forced 0")) ∷ Write (codes "u.obj") union_text ∷
          Say (line_of (codes "save u u.obj: points 22, triangles 40")) ∷ [];
      result = Ok tt;
    }
unfolding digits chars is_utf8 encode_utf8
unites_and_saves = refl

-- more half-edges than the limit
stops_at_the_limit : ending (play small uniting)
    ≡ refused_with 5 loading (codes "limit halfedges 84")
unfolding digits chars is_utf8 encode_utf8
stops_at_the_limit = refl

-- a mesh that was saved is there for a later line, and a name that is given again has the later mesh
loads_what_was_saved : play program (codes "load a b.obj\nsave a cube.obj\nload a cube.obj\nsave a c.obj\n")
    ≡ record {
      actions =
          Ask (codes "s.txt") ∷ Ask (codes "b.obj") ∷ Say (line_of (codes "load a b.obj: points 8, triangles 12, unused 0")) ∷
          Write (codes "cube.obj") box ∷ Say (line_of (codes "save a cube.obj: points 8, triangles 12")) ∷
          Ask (codes "cube.obj") ∷ Say (line_of (codes "load a cube.obj: points 8, triangles 12, unused 0")) ∷
          Write (codes "c.obj") box ∷ Say (line_of (codes "save a c.obj: points 8, triangles 12")) ∷ [];
      result = Ok tt;
    }
unfolding digits chars is_utf8 encode_utf8
loads_what_was_saved = refl

-- the lines before a file that is not there were done
stops_at_a_missing_file : ending (play program (codes "load a cube.obj\nload b none.obj\nload c b.obj\n"))
    ≡ refused_with 3
    (Ask (codes "s.txt") ∷ Ask (codes "cube.obj") ∷ Say (line_of (codes "load a cube.obj: points 8, triangles 12, unused 0")) ∷ Ask (codes "none.obj") ∷ [])
    (codes "none.obj: missing")
unfolding digits chars is_utf8 encode_utf8
stops_at_a_missing_file = refl

-- no file is asked for where a later line is faulty
reads_the_whole_script_first : ending (play program (codes "load a cube.obj\nunion c a b\n")) ≡ refused (codes "s.txt:2: 23 NameNotDefined")
unfolding digits chars is_utf8 encode_utf8
reads_the_whole_script_first = refl

-- a fault of each kind is told
record FaultsAreTold : Type 0 where
  word : ending (play program (codes "cut a b\n")) ≡ refused (codes "s.txt:1: 20 BadWord")
  count : ending (play program (codes "load a\n")) ≡ refused (codes "s.txt:1: 21 WrongCount")
  name : ending (play program (codes "load 1a cube.obj\n")) ≡ refused (codes "s.txt:1: 22 BadName")
  old : ending (play program (codes "save a a.obj\n")) ≡ refused (codes "s.txt:1: 23 NameNotDefined")
  number : ending (play program (codes "lattice l 61 0\n")) ≡ refused (codes "s.txt:1: 24 BadNumber")
  suffix : ending (play program (codes "load a cube.ply\n")) ≡ refused (codes "s.txt:1: 25 BadSuffix")

tells_each_kind : FaultsAreTold
unfolding digits chars is_utf8 encode_utf8
tells_each_kind = record { word = refl; count = refl; name = refl; old = refl; number = refl; suffix = refl }

refuses_a_missing_script : ending (script_task table 0 program (codes "s.txt") (λ n. None))
    ≡ refused_with 3 (Ask (codes "s.txt") ∷ []) (codes "s.txt: missing")
refuses_a_missing_script = refl

-- a script is no longer than the limit on files
refuses_a_long_script : ending (play (record { file_bytes = 15; points = 210; triangles = 140; halfedges = 83 }) (codes "load a cube.obj\n"))
    ≡ refused_with 5 (Ask (codes "s.txt") ∷ []) (codes "limit file_bytes 16")
unfolding digits
refuses_a_long_script = refl

says_nothing_for_no_line : play program (codes "# nothing\n") ≡ record { actions = Ask (codes "s.txt") ∷ []; result = Ok tt }
says_nothing_for_no_line = refl

-- how many are said to be kept of n vertices: all under the kernels of the grid, none under exact ones
abbrev told_kept : KernelKind → ℕ → ℕ
told_kept Grid n = n
told_kept Exact n = 0

-- an operation that gives its first mesh, and remeshing that gives the mesh, and tells its points as planes and its triangles as kept ones, as cuts are told too
abbrev first : KernelKind → Meanings
first kernels = record {
  operation = λ op p q. record { mesh = p; p_kept = told_kept kernels (length p.points); q_kept = 0; crossings = 0; forced = 0; halfedges = 36 };
  remeshing = λ m. record { mesh = m; planes = length m.points; kept = length m.triples };
  cuts = λ m. length m.triples;
  outlines = λ op p q. record { outline = p; p_kept = told_kept kernels (length p.points); q_kept = 1; crossings = 2 };
  extrusion
      = λ o low high. record { mesh = record { points = extruded_points low high o.points; triples = []; labels = [] }; forced = 3 };
}

-- a script that asks for no file
abbrev alone : Limits → Bytes → Part (Unit {0})
alone limits text = script_task first 0 limits (codes "s.txt") (beside text)

-- it says these lines
abbrev says : List Bytes → Part (Unit {0})
says lines = record { actions = Ask (codes "s.txt") ∷ map (λ l. Say (line_of l)) lines; result = Ok tt }

-- or says nothing and is refused
abbrev refuses : ℕ → Bytes → List Action × ℕ × Bytes
refuses status text = refused_with status (Ask (codes "s.txt") ∷ []) text

measures_a_union : alone program (codes "box a 0 0 0 10 10 10\nunion u a a\nmeasure u\n")
    ≡ says (codes "u = union a a: kept 8 0, crossings 0, forced 0" ∷ codes "u: points 8, triangles 12, components 1, euler 2, volume6 6000" ∷ [])
unfolding digits chars is_utf8 encode_utf8 number_of number_fault
measures_a_union = refl

-- operations before the choice of exact kernels, and after it
chooses_kernels : alone program (codes "box a 0 0 0 10 10 10\nunion u a a\nexact\nunion v a a\nexact\nunion w u a\n")
    ≡ says (codes "u = union a a: kept 8 0, crossings 0, forced 0" ∷ codes "v = union a a: kept 0 0, crossings 0, forced 0" ∷ codes
    "w = union u a: kept 0 0, crossings 0, forced 0" ∷ [])
unfolding digits chars is_utf8 encode_utf8 number_of number_fault
chooses_kernels = refl

measures_moved_solids : alone program (codes "tetra t 0 0 0 6\nmeasure t\nprism p 0 0 0 4 5\nscale q p 2\nmirror m q x\nturn r m z\nshift w r 1 2 3\nmeasure w\n")
    ≡ says (codes "t: points 4, triangles 4, components 1, euler 2, volume6 216" ∷ codes "w: points 6, triangles 8, components 1, euler 2, volume6 1920" ∷ [])
unfolding digits chars is_utf8 encode_utf8 number_of number_fault
measures_moved_solids = refl

measures_a_lattice : alone program (codes "lattice l 2 7\nmeasure l\n") ≡ says (codes "l: points 64, triangles 96, components 8, euler 16, volume6 1200000" ∷ [])
unfolding digits chars is_utf8 encode_utf8 number_of number_fault
measures_a_lattice = refl

-- a tetrahedron whose last corner stands twice, and without that
abbrev split_tetra : Bytes
split_tetra = codes "v 0 0 0\nv 1 0 0\nv 0 1 0\nv 0 0 1\nv 0 0 1\nf 1 3 2\nf 1 2 4\nf 2 3 5\nf 3 1 5\nf 4 2 5\nf 1 4 5\n"

abbrev whole_tetra : Bytes
whole_tetra = codes "v 0 0 0\nv 1 0 0\nv 0 1 0\nv 0 0 1\nf 1 3 2\nf 1 2 4\nf 2 3 4\nf 3 1 4\n"

tidies : script_task first 0 program (codes "s.txt") (put (codes "t.obj") split_tetra (beside (codes "load a t.obj\ntidy b a\nsave b b.obj\ntidy a b\n")))
    ≡ record {
      actions =
          Ask (codes "s.txt") ∷ Ask (codes "t.obj") ∷ Say (line_of (codes "load a t.obj: points 5, triangles 6, unused 0")) ∷ Say (line_of (codes "b = tidy a: collapsed 1")) ∷
          Write (codes "b.obj") whole_tetra ∷ Say (line_of (codes "save b b.obj: points 4, triangles 4")) ∷ Say (line_of (codes "a = tidy b: collapsed 0")) ∷ [];
      result = Ok tt;
    }
unfolding digits chars is_utf8 encode_utf8
tidies = refl

remeshes : alone program (codes "tetra t 0 0 0 6\nremesh u t\n") ≡ says (codes "u = remesh t: planes 4, kept 4" ∷ [])
unfolding digits chars is_utf8 encode_utf8 number_of number_fault
remeshes = refl

-- a tetrahedron with two flat triangles whose last corner stands twice, and one beyond an edge of it, with points of its own
abbrev touching_tetras : Bytes
touching_tetras =
    split_tetra ++ codes "v 0 0 0\nv 1 0 0\nv 0 -1.5 0\nv 0 0 -1\nf 6 8 7\nf 6 7 9\nf 7 8 9\nf 8 6 9\n"

-- at one digit after the point
inspects : script_task first 1 program (codes "s.txt") (put (codes "t.obj") touching_tetras (beside (codes "load a t.obj\ninspect a\n")))
    ≡ record {
      actions =
          Ask (codes "s.txt") ∷ Ask (codes "t.obj") ∷ Say (line_of (codes "load a t.obj: points 9, triangles 10, unused 0")) ∷ Say
          (line_of (codes "a: low 0 -1.5 -1, high 1 1 1, flat 2, doubled 3, touching 1, cuts 10")) ∷ [];
      result = Ok tt;
    }
unfolding digits chars is_utf8 encode_utf8
inspects = refl

-- where the coordinates go is seen in what is saved
saves_moved_points : (alone program (codes "tetra t 1 2 3 6\nmirror m t y\nturn a m x\nturn b a y\nsave b b.obj\n")).actions
    ≡ Ask (codes "s.txt") ∷ Write (codes "b.obj") (codes "v -2 -3 -1\nv -2 -3 -7\nv -8 -3 -1\nv -2 -9 -1\nf 1 2 3\nf 1 4 2\nf 2 4 3\nf 3 4 1\n") ∷
    Say (line_of (codes "save b b.obj: points 4, triangles 4")) ∷ []
unfolding digits chars is_utf8 encode_utf8 number_of number_fault
saves_moved_points = refl

-- a mesh that can't be made is refused by its line
record MeshesAreRefused : Type 0 where
  flat_box : ending (alone program (codes "box b 0 0 0 0 1 1")) ≡ refuses 4 (codes "s.txt:1: 16 FlatSolid")
  turned_box : ending (alone program (codes "box b 0 0 5 1 1 -5")) ≡ refuses 4 (codes "s.txt:1: 16 FlatSolid")
  flat_tetra : ending (alone program (codes "\ntetra t 0 0 0 0")) ≡ refuses 4 (codes "s.txt:2: 16 FlatSolid")
  flat_prism : ending (alone program (codes "prism p 0 0 0 4 -1")) ≡ refuses 4 (codes "s.txt:1: 16 FlatSolid")
  outside : ending (alone program (codes "tetra t 1073741824 0 0 1")) ≡ refuses 4 (codes "s.txt:1: 15 OutOfGrid")
  shifted : ending (alone program (codes "box b 0 0 0 1 1 1\nshift c b 1073741824 0 0")) ≡ refuses 4 (codes "s.txt:2: 15 OutOfGrid")
  scaled : ending (alone program (codes "box b 0 0 0 1 1 2000\nscale c b 1000000")) ≡ refuses 4 (codes "s.txt:2: 15 OutOfGrid")
  points : ending (alone small (codes "lattice l 3 0")) ≡ refuses 5 (codes "limit points 216")
  triangles : ending (alone (record { file_bytes = 400; points = 64; triangles = 95; halfedges = 83 }) (codes "lattice l 2 0"))
      ≡ refuses 5 (codes "limit triangles 96")

meshes_are_refused : MeshesAreRefused
unfolding digits chars is_utf8 encode_utf8 number_of number_fault
meshes_are_refused =
    record { flat_box = refl; turned_box = refl; flat_tetra = refl; flat_prism = refl; outside = refl; shifted = refl; scaled = refl; points = refl; triangles = refl }
