-- Files of the OBJ profile, spelled out, and what they give.
use Rattle.std.specs.Prelude.{◌≡◌, ℕ, ◌^◌, pos, neg_ℤ, List, [], ◌∷◌, ◌++◌, replicate, Ok, Err, codes}
use Rattle.mesh_terms.specs.Faults.{Points, Triangles, Bad, Over}
use Rattle.mesh_terms.specs.Limits.{Limits, IsLawful, most_halfedges, most_points, most_triangles}
use Rattle.mesh_terms.specs.Meshes.{Soup}
use Rattle.format_terms.specs.ObjLabels.{label_of}
use Rattle.format_terms.specs.Obj.{obj}

-- limits of an ordinary run
abbrev pub wide_limits : Limits
wide_limits = record { file_bytes = 2 ^ 40; points = most_points; triangles = most_triangles; halfedges = most_halfedges }

-- a cube as a modelling program writes it
abbrev pub modelled_text : List ℕ
modelled_text =
    codes "# made by a modeller\nmtllib cube.mtl\no Cube\nv 0.000000 0.000000 0.000000\nv 10.000000 0.000000 0.000000\nv 0.000000 10.000000 0.000000\nv 10.000000 10.000000 0.000000\nv 0.000000 0.000000 10.000000\nv 10.000000 0.000000 10.000000\nv 0.000000 10.000000 10.000000\nv 10.000000 10.000000 10.000000\nvn 0.0000 0.0000 -1.0000\nvt 0.000000 0.000000\nusemtl Material\ns off\nf 1/1/1 3/1/1 4/1/1 2/1/1\nf 5//1 6//1 8//1 7//1\nf 1 2 6 5\nf 2/1 4/1 8/1 6/1\nf -5 -6 -2 \\\n-1\nf 1 5 7 3\n"

abbrev pub modelled_cube : Soup
modelled_cube =
    record {
      points = (pos 0 ∷ pos 0 ∷ pos 0 ∷ []) ∷ (pos 100000 ∷ pos 0 ∷ pos 0 ∷ []) ∷ (pos 0 ∷ pos 100000 ∷ pos 0 ∷ []) ∷ (pos 100000 ∷ pos 100000 ∷ pos
          0 ∷ []) ∷ (pos 0 ∷ pos 0 ∷ pos 100000 ∷ []) ∷ (pos 100000 ∷ pos 0 ∷ pos 100000 ∷ []) ∷ (pos 0 ∷ pos 100000 ∷ pos 100000 ∷ []) ∷
          (pos 100000 ∷ pos 100000 ∷ pos 100000 ∷ []) ∷ [];
      triples = (0, 2, 3) ∷ (0, 3, 1) ∷ (4, 5, 7) ∷ (4, 7, 6) ∷ (0, 1, 5) ∷ (0, 5, 4) ∷ (1, 3, 7) ∷ (1, 7, 5) ∷ (3, 2, 6) ∷ (3, 6, 7) ∷ (0, 4, 6) ∷ (
        0,
        6,
        2,
      ) ∷ [];
      labels = replicate 12 [];
      unused = 0;
    }

-- two faces of a square with a corner on line 5
abbrev pub square_text : List ℕ
square_text = codes "v 0 0 0\nv 1 0 0\nv 1 1 0\nf 1 2 3\nv 0 1 0\nf 1 2 3 4 \n"

-- room for so many points and triangles
abbrev pub room_for : ℕ → ℕ → Limits
room_for points triangles = record { file_bytes = 1000; points = points; triangles = triangles; halfedges = 1 }

pub record FilesRead : Type 0 where
  -- under lawful limits
  pub lawful : IsLawful wide_limits
  -- normals, names and comments are passed over, items have several numbers, a polygon goes on in the next line
  pub modelled : obj 4 wide_limits modelled_text ≡ Ok modelled_cube
  -- a mark at the start, CR LF, a comment in a line, no end of the last line
  pub marked : obj 2 wide_limits (239 ∷ 187 ∷ 191 ∷ codes "v 0 0 0\r\nv 1 0 0 # right\r\nv 0 1 0 \r\nf 1 2 3")
      ≡ Ok (record {
        points = (pos 0 ∷ pos 0 ∷ pos 0 ∷ []) ∷ (pos 100 ∷ pos 0 ∷ pos 0 ∷ []) ∷ (pos 0 ∷ pos 100 ∷ pos 0 ∷ []) ∷ [];
        triples = (0, 1, 2) ∷ [];
        labels = replicate 1 [];
        unused = 0;
      })
  -- lines go on after a \, which is a blank
  pub joined : obj 0 wide_limits (codes "v 0 0 \\\n0\nv 1 0\\\r\n0 \\\n\\\n1 1 1\nv 0 1 0\nf 1 2\\\n3")
      ≡ Ok (record {
        points = (pos 0 ∷ pos 0 ∷ pos 0 ∷ []) ∷ (pos 1 ∷ pos 0 ∷ pos 0 ∷ []) ∷ (pos 0 ∷ pos 1 ∷ pos 0 ∷ []) ∷ [];
        triples = (0, 1, 2) ∷ [];
        labels = replicate 1 [];
        unused = 0;
      })
  -- but not those whose first word begins a comment
  pub alone : obj 0 wide_limits (codes "v 1 2 3 \\\n# c \\\nv 4 5 6\nv 0 0 0\nf 1 2 3\n")
      ≡ Ok (record {
        points = (pos 1 ∷ pos 2 ∷ pos 3 ∷ []) ∷ (pos 4 ∷ pos 5 ∷ pos 6 ∷ []) ∷ (pos 0 ∷ pos 0 ∷ pos 0 ∷ []) ∷ [];
        triples = (0, 1, 2) ∷ [];
        labels = replicate 1 [];
        unused = 0;
      })
  -- a polygon, by numbers back from the last point; a point that no triangle uses
  pub polygon : obj 0 wide_limits (codes "v 9 9 9\nv 0 0 0\nv 1 0 0\nv 1 1 0\nv 0 1 0\nf -4 -3 -2 -1\n")
      ≡ Ok (record {
        points = (pos 0 ∷ pos 0 ∷ pos 0 ∷ []) ∷ (pos 1 ∷ pos 0 ∷ pos 0 ∷ []) ∷ (pos 1 ∷ pos 1 ∷ pos 0 ∷ []) ∷ (pos 0 ∷ pos 1 ∷ pos 0 ∷ []) ∷ [];
        triples = (0, 1, 2) ∷ (0, 2, 3) ∷ [];
        labels = replicate 2 [];
        unused = 1;
      })
  -- the label of a group for the faces after it: words joined by one blank
  pub grouped : obj 0 wide_limits (codes "v 0 0 0\nv 1 0 0\nv 0 1 0\nf 1 2 3\ng red  \tblue # two words\nf 1 2 3\nf 3 2 1\ng\nf 1 2 3\n")
      ≡ Ok (record {
        points = (pos 0 ∷ pos 0 ∷ pos 0 ∷ []) ∷ (pos 1 ∷ pos 0 ∷ pos 0 ∷ []) ∷ (pos 0 ∷ pos 1 ∷ pos 0 ∷ []) ∷ [];
        triples = (0, 1, 2) ∷ (0, 1, 2) ∷ (2, 1, 0) ∷ (0, 1, 2) ∷ [];
        labels = [] ∷ codes "red blue" ∷ codes "red blue" ∷ [] ∷ [];
        unused = 0;
      })
  -- 64 bytes of it, without a blank at their end, and _ for a byte that none may have
  pub cut : label_of (replicate 63 97 ∷ codes "b" ∷ []) ≡ replicate 63 97
  pub replaced : label_of ((99 ∷ 92 ∷ 7 ∷ []) ∷ (127 ∷ []) ∷ (195 ∷ 164 ∷ []) ∷ []) ≡ codes "c__ _ " ++ 195 ∷ 164 ∷ []
  -- three to seven words after v; decimal numbers, rounded
  pub weighted : obj 1 wide_limits (codes "v 1.5 0 0 1 255 0 0\nv 1e1 +.5 0 x\nv 0 1 -1.25\nf 3//1 1/2 2/-1/7\n")
      ≡ Ok (record {
        points = (pos 15 ∷ pos 0 ∷ pos 0 ∷ []) ∷ (pos 100 ∷ pos 5 ∷ pos 0 ∷ []) ∷ (pos 0 ∷ pos 10 ∷ neg_ℤ (pos 13) ∷ []) ∷ [];
        triples = (2, 0, 1) ∷ [];
        labels = replicate 1 [];
        unused = 0;
      })
  -- the first fault decides, line after line
  pub unknown : obj 0 wide_limits (codes "v 0 0 0\nvp 1\n") ≡ Err (Bad 2 1)
  -- the number of words stands before what they say
  pub few : obj 0 wide_limits (codes "v 1 x\n") ≡ Err (Bad 1 2)
  pub many : obj 0 wide_limits (codes "v 1 2 3 4 5 6 7 8\n") ≡ Err (Bad 1 2)
  -- words from left to right, each first its form
  pub no_number : obj 0 wide_limits (codes "v 1 x 9999999999\n") ≡ Err (Bad 1 3)
  pub off_grid : obj 0 wide_limits (codes "v 1 1073741825 x\n") ≡ Err (Bad 1 4)
  -- and likewise the items of a face
  pub no_face : obj 0 wide_limits (codes "f 0 x\n") ≡ Err (Bad 1 5)
  pub no_item : obj 0 wide_limits (codes "v 0 0 0\nv 1 0 0\nv 0 1 0\nf 1 2 3/\n") ≡ Err (Bad 4 5)
  pub no_index : obj 0 wide_limits (codes "v 0 0 0\nv 1 0 0\nv 0 1 0\nf 1 -4 x\n") ≡ Err (Bad 4 6)
  pub no_vertex : obj 0 wide_limits (codes "v 0 0 0\nv 1 0 0\nv 0 1 0\nf -0 1 x\n") ≡ Err (Bad 4 6)
  -- then the vertices of a face
  pub repeated : obj 0 wide_limits (codes "v 0 0 0\nv 1 0 0\nv 0 1 0\nf 1 2 -2\n") ≡ Err (Bad 4 7)
  -- a fault is on the first part of its line
  pub first_part : obj 0 wide_limits (codes "o \\\nq\nv 1 2 \\\n\\\n\n") ≡ Err (Bad 3 2)
  -- last the limits, with the counts as they are passed
  pub over_points : obj 0 (room_for 3 2) square_text ≡ Err (Over Points 4)
  pub over_triangles : obj 0 (room_for 4 2) square_text ≡ Err (Over Triangles 3)
  pub within : obj 0 (room_for 4 3) square_text
      ≡ Ok (record {
        points = (pos 0 ∷ pos 0 ∷ pos 0 ∷ []) ∷ (pos 1 ∷ pos 0 ∷ pos 0 ∷ []) ∷ (pos 1 ∷ pos 1 ∷ pos 0 ∷ []) ∷ (pos 0 ∷ pos 1 ∷ pos 0 ∷ []) ∷ [];
        triples = (0, 1, 2) ∷ (0, 1, 2) ∷ (0, 2, 3) ∷ [];
        labels = replicate 3 [];
        unused = 0;
      })
