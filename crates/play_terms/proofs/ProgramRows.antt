-- The plays of small command lines over one file, computed.
use Rattle.std.specs.Prelude.{◌≡◌, ℕ, pos, get_or, List, [], ◌∷◌, ◌++◌, if◌then◌else◌, codes, bytes_eq, Some, None, Ok}
use Rattle.std.proofs.Common.{refl}
use Rattle.std.specs.Char.{encode_utf8}
use Rattle.std.specs.Fmt.{digits}
use Rattle.std.specs.Str.{chars, is_utf8}
use Rattle.mesh_terms.specs.Limits.{Limits}
use Rattle.text_terms.specs.Written.{line_of}
use Rattle.run_terms.specs.Files.{Bytes, Files}
use Rattle.run_terms.specs.Runs.{Action, Ask, Write, Say}
use Rattle.run_terms.specs.Tasks.{Part}
use Rattle.play_terms.specs.Program.{Meanings, play}
use Rattle.play_terms.proofs.Endings.{ending, refused_with}

abbrev program : Limits
program = record { file_bytes = 2147483648; points = 15000000; triangles = 10000000; halfedges = 6000000 }

-- one file of that name
abbrev only : Bytes → Bytes → Files
only name bytes = λ n. if bytes_eq n name then Some bytes else None

-- the words copy t.obj u.obj
abbrev copying : List Bytes
copying = codes "copy" ∷ codes "t.obj" ∷ codes "u.obj" ∷ []

abbrev corners : Bytes
corners = line_of (codes "v 0 0 0") ++ line_of (codes "v 1 0 0") ++ line_of (codes "v 0 1 0") ++ line_of (codes "v 0 0 1")

abbrev three_faces : Bytes
three_faces = line_of (codes "f 1 3 2") ++ line_of (codes "f 1 2 4") ++ line_of (codes "f 2 3 4")

abbrev tetrahedron : Bytes
tetrahedron = corners ++ three_faces ++ line_of (codes "f 3 1 4")

-- a cube as a modelling program writes it
abbrev modelled_cube : Bytes
modelled_cube =
    codes "# made by a modeller\nmtllib cube.mtl\no Cube\nv 0.000000 0.000000 0.000000\nv 10.000000 0.000000 0.000000\nv 0.000000 10.000000 0.000000\nv 10.000000 10.000000 0.000000\nv 0.000000 0.000000 10.000000\nv 10.000000 0.000000 10.000000\nv 0.000000 10.000000 10.000000\nv 10.000000 10.000000 10.000000\nvn 0.0000 0.0000 -1.0000\nvt 0.000000 0.000000\nusemtl Material\ns off\nf 1/1/1 3/1/1 4/1/1 2/1/1\nf 5//1 6//1 8//1 7//1\nf 1 2 6 5\nf 2/1 4/1 8/1 6/1\nf -5 -6 -2 \\\n-1\nf 1 5 7 3\n"

-- its copy
abbrev plain_cube : Bytes
plain_cube =
    codes "v 0 0 0\nv 10 0 0\nv 0 10 0\nv 10 10 0\nv 0 0 10\nv 10 0 10\nv 0 10 10\nv 10 10 10\nf 1 3 4\nf 1 4 2\nf 5 6 8\nf 5 8 7\nf 1 2 6\nf 1 6 5\nf 2 4 8\nf 2 8 6\nf 4 3 7\nf 4 7 8\nf 1 5 7\nf 1 7 3\n"

-- a winding number that is told by the first coordinate alone, and operations that give nothing
abbrev told : Meanings
told = record {
  points = record { winding = λ p m. get_or p 0 (pos 0) };
  scripts = λ kernels. record {
    operation = λ op p q. record { mesh = record { points = []; triples = []; labels = [] }; p_kept = 0; q_kept = 0; crossings = 0; forced = 0; halfedges = 0 };
    remeshing = λ m. record { mesh = m; planes = 0; kept = 0 };
    cuts = λ m. 0;
    outlines = λ op p q. record { outline = p; p_kept = 0; q_kept = 0; crossings = 0 };
    extrusion = λ o low high. record { mesh = record { points = []; triples = []; labels = [] }; forced = 0 };
  };
}

abbrev play_on : Bytes → Part (Unit {0})
play_on bytes = play told program copying (only (codes "t.obj") bytes)

-- it ends with this status and line after the file was asked for
abbrev stopped : ℕ → Bytes → List Action × ℕ × Bytes
stopped status text = refused_with status (Ask (codes "t.obj") ∷ []) text

-- a file that is refused with this line
abbrev faulty : Bytes → List Action × ℕ × Bytes
faulty text = stopped 4 text

-- a line of each kind of fault after the tetrahedron, whose file has eight lines
record FaultsAreTold : Type 0 where
  unknown : ending (play_on (tetrahedron ++ line_of (codes "curv 0 1"))) ≡ faulty (codes "t.obj:9: 1 UnknownLine")
  vertex : ending (play_on (tetrahedron ++ line_of (codes "v 1 2"))) ≡ faulty (codes "t.obj:9: 2 BadVertex")
  number : ending (play_on (tetrahedron ++ line_of (codes "v 1 2 3,5"))) ≡ faulty (codes "t.obj:9: 3 BadNumber")
  off_grid : ending (play_on (tetrahedron ++ line_of (codes "v 1 2 -107374.18245"))) ≡ faulty (codes "t.obj:9: 4 OutOfGrid")
  face : ending (play_on (tetrahedron ++ line_of (codes "f 1 2"))) ≡ faulty (codes "t.obj:9: 5 BadFace")
  index : ending (play_on (tetrahedron ++ line_of (codes "f 1 2 5"))) ≡ faulty (codes "t.obj:9: 6 BadIndex")
  repeated : ending (play_on (tetrahedron ++ line_of (codes "f 1 2 -4"))) ≡ faulty (codes "t.obj:9: 7 FaceRepeatsVertex")

copies_the_tetrahedron : play_on tetrahedron
    ≡ record {
      actions = Ask (codes "t.obj") ∷ Write (codes "u.obj") tetrahedron ∷ Say (line_of (codes "copied u.obj: points 4, triangles 4, unused 0")) ∷ [];
      result = Ok tt;
    }
unfolding digits
copies_the_tetrahedron = refl

-- the group of each triangle, where it is not the one before
copies_groups : play_on (corners ++ codes "g red  blue\nf 1 3 2\nf 1 2 4\ng\nf 2 3 4\nf 3 1 4\n")
    ≡ record {
      actions = Ask (codes "t.obj") ∷ Write (codes "u.obj") (corners ++ codes "g red blue\nf 1 3 2\nf 1 2 4\ng\nf 2 3 4\nf 3 1 4\n") ∷ Say
          (line_of (codes "copied u.obj: points 4, triangles 4, unused 0")) ∷ [];
      result = Ok tt;
    }
unfolding digits
copies_groups = refl

copies_an_empty_file : play_on []
    ≡ record { actions = Ask (codes "t.obj") ∷ Write (codes "u.obj") [] ∷ Say (line_of (codes "copied u.obj: points 0, triangles 0, unused 0")) ∷ []; result = Ok tt }
unfolding digits
copies_an_empty_file = refl

refuses_an_open_mesh : ending (play_on (corners ++ three_faces))
    ≡ stopped 4 (codes "t.obj: 11 OpenEdge 1 3")
unfolding digits
refuses_an_open_mesh = refl

drops_an_unused_point : play_on (corners ++ line_of (codes "v 5 5 5") ++ three_faces ++ line_of (codes "f 3 1 4"))
    ≡ record {
      actions = Ask (codes "t.obj") ∷ Write (codes "u.obj") tetrahedron ∷ Say (line_of (codes "copied u.obj: points 4, triangles 4, unused 1")) ∷ [];
      result = Ok tt;
    }
unfolding digits
drops_an_unused_point = refl

copies_a_modelled_cube : play_on modelled_cube
    ≡ record {
      actions = Ask (codes "t.obj") ∷ Write (codes "u.obj") plain_cube ∷ Say (line_of (codes "copied u.obj: points 8, triangles 12, unused 0")) ∷ [];
      result = Ok tt;
    }
unfolding digits
copies_a_modelled_cube = refl

refuses_each_kind_of_line : FaultsAreTold
unfolding digits
refuses_each_kind_of_line = record { unknown = refl; vertex = refl; number = refl; off_grid = refl; face = refl; index = refl; repeated = refl }

refuses_a_cut_file : ending (play_on (corners ++ three_faces ++ codes "f 3 1")) ≡ faulty (codes "t.obj:8: 5 BadFace")
unfolding digits
refuses_a_cut_file = refl

refuses_a_missing_file : ending (play told program copying (λ n. None))
    ≡ stopped 3 (codes "t.obj: missing")
refuses_a_missing_file = refl

refuses_other_words : ending (play told program (codes "copy" ∷ codes "t.obj" ∷ []) (λ n. None))
    ≡ refused_with 1 [] (codes "usage: manifold_tool copy IN OUT, inside FILE X Y Z or run SCRIPT, each with --digits K")
refuses_other_words = refl

says_a_winding_number : play told program (codes "inside" ∷ codes "t.obj" ∷ codes "2" ∷ codes "07" ∷ codes "0" ∷ []) (only (codes "t.obj") tetrahedron)
    ≡ record { actions = Ask (codes "t.obj") ∷ Say (line_of (codes "winding 20000")) ∷ []; result = Ok tt }
unfolding digits
says_a_winding_number = refl

-- the first three facets of the tetrahedron
abbrev three_facets : Bytes
three_facets =
    codes "facet normal 0 0 0\nouter loop\nvertex 0 0 0\nvertex 0 1 0\nvertex 1 0 0\nendloop\nendfacet\nfacet normal 0 0 0\nouter loop\nvertex 0 0 0\nvertex 1 0 0\nvertex 0 0 1\nendloop\nendfacet\nfacet normal 0 0 0\nouter loop\nvertex 1 0 0\nvertex 0 1 0\nvertex 0 0 1\nendloop\nendfacet\n"

-- and a last one with a corner of its own
abbrev with_last : Bytes → Bytes
with_last e = codes "solid manifold\n" ++ three_facets ++ codes "facet normal 0 0 0\nouter loop\nvertex 0 1 0\nvertex 0 0 0\nvertex 0 0 " ++ e ++ codes "\nendloop\nendfacet\n"

-- its text
abbrev solid : Bytes
solid = with_last (codes "1") ++ codes "endsolid manifold\n"

-- and what that gives in OBJ
abbrev welded : Bytes
welded = codes "v 0 0 0\nv 0 1 0\nv 1 0 0\nv 0 0 1\nf 1 2 3\nf 1 3 4\nf 3 2 4\nf 2 1 4\n"

-- a copy from a file with these bytes to a file of these names
abbrev copied : Bytes → Bytes → Bytes → Part (Unit {0})
copied from to bytes = play told program (codes "copy" ∷ from ∷ to ∷ []) (only from bytes)

writes_stl : copied (codes "t.obj") (codes "t.stl") tetrahedron
    ≡ record { actions = Ask (codes "t.obj") ∷ Write (codes "t.stl") solid ∷ Say (line_of (codes "copied t.stl: points 4, triangles 4, unused 0")) ∷ []; result = Ok tt }
unfolding digits
writes_stl = refl

reads_stl : copied (codes "t.StL") (codes "u.obj") solid
    ≡ record { actions = Ask (codes "t.StL") ∷ Write (codes "u.obj") welded ∷ Say (line_of (codes "copied u.obj: points 4, triangles 4, unused 0")) ∷ []; result = Ok tt }
unfolding digits
reads_stl = refl

welds_corners_after_rounding : copied (codes "c.stl") (codes "u.obj") (with_last (codes "1.00001") ++ codes "endsolid")
    ≡ record { actions = Ask (codes "c.stl") ∷ Write (codes "u.obj") welded ∷ Say (line_of (codes "copied u.obj: points 4, triangles 4, unused 0")) ∷ []; result = Ok tt }
unfolding digits
welds_corners_after_rounding = refl

refuses_corners_a_step_apart : ending (copied (codes "c.stl") (codes "u.obj") (with_last (codes "1.0001") ++ codes "endsolid"))
    ≡ refused_with 4 (Ask (codes "c.stl") ∷ []) (codes "c.stl: 11 OpenEdge 1 5")
unfolding digits
refuses_corners_a_step_apart = refl

refuses_a_cut_solid : ending
    (copied (codes "t.stl") (codes "u.obj") (codes "solid manifold\nfacet normal 0 0 0\nouter loop\nvertex 0 0 0\nvertex 0 1 0\nvertex 1 0 0\nendloop\nendfacet\n"))
    ≡ refused_with 4 (Ask (codes "t.stl") ∷ []) (codes "t.stl:9: 10 NotStl")
unfolding digits
refuses_a_cut_solid = refl

-- a script that copies the tetrahedron
abbrev scripted : Bytes → Part (Unit {0})
scripted text = play told program (codes "run" ∷ codes "s.txt" ∷ []) (λ n. if bytes_eq n (codes "s.txt") then Some text else only (codes "t.obj") tetrahedron n)

runs_a_script : scripted (codes "load t t.obj\nsave t u.obj\n")
    ≡ record {
      actions =
          Ask (codes "s.txt") ∷ Ask (codes "t.obj") ∷ Say (line_of (codes "load t t.obj: points 4, triangles 4, unused 0")) ∷
          Write (codes "u.obj") tetrahedron ∷ Say (line_of (codes "save t u.obj: points 4, triangles 4")) ∷ [];
      result = Ok tt;
    }
unfolding digits chars is_utf8 encode_utf8
runs_a_script = refl

refuses_a_faulty_script : ending (scripted (codes "load t t.obj\nsave u u.obj\n"))
    ≡ refused_with 2 (Ask (codes "s.txt") ∷ []) (codes "s.txt:2: 23 NameNotDefined")
unfolding digits chars is_utf8 encode_utf8
refuses_a_faulty_script = refl
