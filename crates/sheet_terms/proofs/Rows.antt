-- Small meshes remeshed, computed: their values come from a program that was written apart from these definitions.
use Rattle.std.specs.Prelude.{◌≡◌, ℕ, pos, negsuc, List, [], ◌∷◌, replicate}
use Rattle.std.proofs.Common.{refl}
use Rattle.mesh_terms.specs.Meshes.{Mesh}
use Rattle.sheet_terms.specs.Remesh.{remeshed}

-- two labels
abbrev a : List ℕ
a = 97 ∷ []

abbrev b : List ℕ
b = 98 ∷ []

-- a cube
abbrev cube : Mesh
cube = record {
  points =
      (pos 0 ∷ pos 0 ∷ pos 0 ∷ []) ∷ (pos 1 ∷ pos 0 ∷ pos 0 ∷ []) ∷ (pos 0 ∷ pos 1 ∷ pos 0 ∷ []) ∷ (pos 1 ∷ pos 1 ∷ pos 0 ∷ []) ∷ (pos 0 ∷ pos 0 ∷ pos 1 ∷ []) ∷
      (pos 1 ∷ pos 0 ∷ pos 1 ∷ []) ∷ (pos 0 ∷ pos 1 ∷ pos 1 ∷ []) ∷ (pos 1 ∷ pos 1 ∷ pos 1 ∷ []) ∷ [];
  triples =
      (0, 3, 1) ∷ (0, 2, 3) ∷ (4, 5, 7) ∷ (4, 7, 6) ∷ (0, 1, 4) ∷ (1, 5, 4) ∷ (1, 3, 7) ∷ (1, 7, 5) ∷ (3, 2, 6) ∷ (3, 6, 7) ∷
      (0, 4, 6) ∷ (0, 6, 2) ∷ [];
  labels = replicate 12 [];
}

-- its faces filled anew
abbrev cube_after : Mesh
cube_after = record {
  points =
      (pos 0 ∷ pos 0 ∷ pos 0 ∷ []) ∷ (pos 1 ∷ pos 0 ∷ pos 0 ∷ []) ∷ (pos 0 ∷ pos 1 ∷ pos 0 ∷ []) ∷ (pos 1 ∷ pos 1 ∷ pos 0 ∷ []) ∷ (pos 0 ∷ pos 0 ∷ pos 1 ∷ []) ∷
      (pos 1 ∷ pos 0 ∷ pos 1 ∷ []) ∷ (pos 0 ∷ pos 1 ∷ pos 1 ∷ []) ∷ (pos 1 ∷ pos 1 ∷ pos 1 ∷ []) ∷ [];
  triples =
      (1, 0, 2) ∷ (2, 3, 1) ∷ (6, 4, 5) ∷ (5, 7, 6) ∷ (4, 0, 1) ∷ (1, 5, 4) ∷ (5, 1, 3) ∷ (3, 7, 5) ∷ (3, 2, 6) ∷ (6, 7, 3) ∷
      (2, 0, 4) ∷ (4, 6, 2) ∷ [];
  labels = replicate 12 [];
}

cube-row : remeshed cube ≡ record { mesh = cube_after; planes = 6; kept = 0 }
cube-row = refl

-- two flush cubes united: steps of width 0 between them
abbrev flush : Mesh
flush = record {
  points =
      (pos 0 ∷ pos 0 ∷ pos 0 ∷ []) ∷ (pos 1 ∷ pos 0 ∷ pos 0 ∷ []) ∷ (pos 0 ∷ pos 1 ∷ pos 0 ∷ []) ∷ (pos 1 ∷ pos 1 ∷ pos 0 ∷ []) ∷ (pos 0 ∷ pos 0 ∷ pos 1 ∷ []) ∷
      (pos 1 ∷ pos 0 ∷ pos 1 ∷ []) ∷ (pos 0 ∷ pos 1 ∷ pos 1 ∷ []) ∷ (pos 1 ∷ pos 1 ∷ pos 1 ∷ []) ∷ (pos 2 ∷ pos 0 ∷ pos 0 ∷ []) ∷ (pos 2 ∷ pos 1 ∷ pos 0 ∷ []) ∷
      (pos 2 ∷ pos 0 ∷ pos 1 ∷ []) ∷ (pos 2 ∷ pos 1 ∷ pos 1 ∷ []) ∷ (pos 1 ∷ pos 0 ∷ pos 0 ∷ []) ∷ (pos 1 ∷ pos 1 ∷ pos 1 ∷ []) ∷ (pos 1 ∷ pos 0 ∷ pos 0 ∷ []) ∷
      (pos 1 ∷ pos 0 ∷ pos 0 ∷ []) ∷ (pos 1 ∷ pos 1 ∷ pos 0 ∷ []) ∷ (pos 1 ∷ pos 0 ∷ pos 1 ∷ []) ∷ (pos 1 ∷ pos 0 ∷ pos 1 ∷ []) ∷ (pos 1 ∷ pos 1 ∷ pos 1 ∷ []) ∷
      (pos 1 ∷ pos 0 ∷ pos 1 ∷ []) ∷ (pos 1 ∷ pos 1 ∷ pos 1 ∷ []) ∷ [];
  triples =
      (0, 3, 1) ∷ (0, 2, 3) ∷ (4, 5, 7) ∷ (4, 7, 6) ∷ (0, 1, 4) ∷ (1, 5, 4) ∷ (12, 1, 3) ∷ (12, 3, 7) ∷ (12, 7, 13) ∷ (12, 13, 19) ∷
      (12, 19, 21) ∷ (21, 16, 12) ∷ (18, 13, 7) ∷ (18, 7, 5) ∷ (18, 5, 1) ∷ (18, 1, 12) ∷ (18, 12, 14) ∷ (18, 14, 15) ∷ (18, 15, 20) ∷ (20, 17, 18) ∷
      (3, 2, 6) ∷ (3, 6, 7) ∷ (0, 4, 6) ∷ (0, 6, 2) ∷ (15, 14, 9) ∷ (9, 8, 15) ∷ (12, 16, 9) ∷ (9, 14, 12) ∷ (18, 17, 10) ∷ (10, 11, 18) ∷
      (13, 18, 11) ∷ (11, 19, 13) ∷ (15, 8, 20) ∷ (20, 8, 10) ∷ (10, 17, 20) ∷ (8, 9, 11) ∷ (8, 11, 10) ∷ (9, 16, 21) ∷ (11, 9, 21) ∷ (21, 19, 11) ∷ [];
  labels = replicate 40 [];
}

-- a box
abbrev flush_after : Mesh
flush_after = record {
  points =
      (pos 0 ∷ pos 0 ∷ pos 0 ∷ []) ∷ (pos 0 ∷ pos 1 ∷ pos 0 ∷ []) ∷ (pos 0 ∷ pos 0 ∷ pos 1 ∷ []) ∷ (pos 0 ∷ pos 1 ∷ pos 1 ∷ []) ∷ (pos 2 ∷ pos 0 ∷ pos 0 ∷ []) ∷
      (pos 2 ∷ pos 1 ∷ pos 0 ∷ []) ∷ (pos 2 ∷ pos 0 ∷ pos 1 ∷ []) ∷ (pos 2 ∷ pos 1 ∷ pos 1 ∷ []) ∷ [];
  triples =
      (4, 0, 1) ∷ (1, 5, 4) ∷ (3, 2, 6) ∷ (6, 7, 3) ∷ (2, 0, 4) ∷ (4, 6, 2) ∷ (5, 1, 3) ∷ (3, 7, 5) ∷ (1, 0, 2) ∷ (2, 3, 1) ∷
      (6, 4, 5) ∷ (5, 7, 6) ∷ [];
  labels = replicate 12 [];
}

flush-row : remeshed flush ≡ record { mesh = flush_after; planes = 7; kept = 0 }
flush-row = refl

-- two cubes that are apart and share a face: two sheets there face each other
abbrev apart : Mesh
apart = record {
  points =
      (pos 0 ∷ pos 0 ∷ pos 0 ∷ []) ∷ (pos 1 ∷ pos 0 ∷ pos 0 ∷ []) ∷ (pos 0 ∷ pos 1 ∷ pos 0 ∷ []) ∷ (pos 1 ∷ pos 1 ∷ pos 0 ∷ []) ∷ (pos 0 ∷ pos 0 ∷ pos 1 ∷ []) ∷
      (pos 1 ∷ pos 0 ∷ pos 1 ∷ []) ∷ (pos 0 ∷ pos 1 ∷ pos 1 ∷ []) ∷ (pos 1 ∷ pos 1 ∷ pos 1 ∷ []) ∷ (pos 1 ∷ pos 0 ∷ pos 0 ∷ []) ∷ (pos 2 ∷ pos 0 ∷ pos 0 ∷ []) ∷
      (pos 1 ∷ pos 1 ∷ pos 0 ∷ []) ∷ (pos 2 ∷ pos 1 ∷ pos 0 ∷ []) ∷ (pos 1 ∷ pos 0 ∷ pos 1 ∷ []) ∷ (pos 2 ∷ pos 0 ∷ pos 1 ∷ []) ∷ (pos 1 ∷ pos 1 ∷ pos 1 ∷ []) ∷
      (pos 2 ∷ pos 1 ∷ pos 1 ∷ []) ∷ [];
  triples =
      (0, 3, 1) ∷ (0, 2, 3) ∷ (4, 5, 7) ∷ (4, 7, 6) ∷ (0, 1, 4) ∷ (1, 5, 4) ∷ (1, 3, 7) ∷ (1, 7, 5) ∷ (3, 2, 6) ∷ (3, 6, 7) ∷
      (0, 4, 6) ∷ (0, 6, 2) ∷ (8, 11, 9) ∷ (8, 10, 11) ∷ (12, 13, 15) ∷ (12, 15, 14) ∷ (8, 9, 12) ∷ (9, 13, 12) ∷ (9, 11, 15) ∷ (9, 15, 13) ∷
      (11, 10, 14) ∷ (11, 14, 15) ∷ (8, 12, 14) ∷ (8, 14, 10) ∷ [];
  labels = replicate 24 [];
}

-- a box
abbrev apart_after : Mesh
apart_after = record {
  points =
      (pos 0 ∷ pos 0 ∷ pos 0 ∷ []) ∷ (pos 0 ∷ pos 1 ∷ pos 0 ∷ []) ∷ (pos 0 ∷ pos 0 ∷ pos 1 ∷ []) ∷ (pos 0 ∷ pos 1 ∷ pos 1 ∷ []) ∷ (pos 2 ∷ pos 0 ∷ pos 0 ∷ []) ∷
      (pos 2 ∷ pos 1 ∷ pos 0 ∷ []) ∷ (pos 2 ∷ pos 0 ∷ pos 1 ∷ []) ∷ (pos 2 ∷ pos 1 ∷ pos 1 ∷ []) ∷ [];
  triples =
      (4, 0, 1) ∷ (1, 5, 4) ∷ (3, 2, 6) ∷ (6, 7, 3) ∷ (2, 0, 4) ∷ (4, 6, 2) ∷ (5, 1, 3) ∷ (3, 7, 5) ∷ (1, 0, 2) ∷ (2, 3, 1) ∷
      (6, 4, 5) ∷ (5, 7, 6) ∷ [];
  labels = replicate 12 [];
}

apart-row : remeshed apart ≡ record { mesh = apart_after; planes = 7; kept = 0 }
apart-row = refl

-- the same, with a label for each cube
abbrev labelled : Mesh
labelled = record {
  points =
      (pos 0 ∷ pos 0 ∷ pos 0 ∷ []) ∷ (pos 1 ∷ pos 0 ∷ pos 0 ∷ []) ∷ (pos 0 ∷ pos 1 ∷ pos 0 ∷ []) ∷ (pos 1 ∷ pos 1 ∷ pos 0 ∷ []) ∷ (pos 0 ∷ pos 0 ∷ pos 1 ∷ []) ∷
      (pos 1 ∷ pos 0 ∷ pos 1 ∷ []) ∷ (pos 0 ∷ pos 1 ∷ pos 1 ∷ []) ∷ (pos 1 ∷ pos 1 ∷ pos 1 ∷ []) ∷ (pos 1 ∷ pos 0 ∷ pos 0 ∷ []) ∷ (pos 2 ∷ pos 0 ∷ pos 0 ∷ []) ∷
      (pos 1 ∷ pos 1 ∷ pos 0 ∷ []) ∷ (pos 2 ∷ pos 1 ∷ pos 0 ∷ []) ∷ (pos 1 ∷ pos 0 ∷ pos 1 ∷ []) ∷ (pos 2 ∷ pos 0 ∷ pos 1 ∷ []) ∷ (pos 1 ∷ pos 1 ∷ pos 1 ∷ []) ∷
      (pos 2 ∷ pos 1 ∷ pos 1 ∷ []) ∷ [];
  triples =
      (0, 3, 1) ∷ (0, 2, 3) ∷ (4, 5, 7) ∷ (4, 7, 6) ∷ (0, 1, 4) ∷ (1, 5, 4) ∷ (1, 3, 7) ∷ (1, 7, 5) ∷ (3, 2, 6) ∷ (3, 6, 7) ∷
      (0, 4, 6) ∷ (0, 6, 2) ∷ (8, 11, 9) ∷ (8, 10, 11) ∷ (12, 13, 15) ∷ (12, 15, 14) ∷ (8, 9, 12) ∷ (9, 13, 12) ∷ (9, 11, 15) ∷ (9, 15, 13) ∷
      (11, 10, 14) ∷ (11, 14, 15) ∷ (8, 12, 14) ∷ (8, 14, 10) ∷ [];
  labels = a ∷ a ∷ a ∷ a ∷ a ∷ a ∷ a ∷ a ∷ a ∷ a ∷ a ∷ a ∷ b ∷ b ∷ b ∷ b ∷ b ∷ b ∷ b ∷ b ∷ b ∷ b ∷ b ∷ b ∷ [];
}

-- each face has the labels that it had
abbrev labelled_after : Mesh
labelled_after = record {
  points =
      (pos 0 ∷ pos 0 ∷ pos 0 ∷ []) ∷ (pos 1 ∷ pos 0 ∷ pos 0 ∷ []) ∷ (pos 0 ∷ pos 1 ∷ pos 0 ∷ []) ∷ (pos 1 ∷ pos 1 ∷ pos 0 ∷ []) ∷ (pos 0 ∷ pos 0 ∷ pos 1 ∷ []) ∷
      (pos 1 ∷ pos 0 ∷ pos 1 ∷ []) ∷ (pos 0 ∷ pos 1 ∷ pos 1 ∷ []) ∷ (pos 1 ∷ pos 1 ∷ pos 1 ∷ []) ∷ (pos 2 ∷ pos 0 ∷ pos 0 ∷ []) ∷ (pos 2 ∷ pos 1 ∷ pos 0 ∷ []) ∷
      (pos 2 ∷ pos 0 ∷ pos 1 ∷ []) ∷ (pos 2 ∷ pos 1 ∷ pos 1 ∷ []) ∷ [];
  triples =
      (1, 0, 2) ∷ (2, 3, 1) ∷ (8, 1, 3) ∷ (3, 9, 8) ∷ (6, 4, 5) ∷ (5, 7, 6) ∷ (7, 5, 10) ∷ (10, 11, 7) ∷ (4, 0, 1) ∷ (1, 5, 4) ∷
      (5, 1, 8) ∷ (8, 10, 5) ∷ (3, 2, 6) ∷ (6, 7, 3) ∷ (9, 3, 7) ∷ (7, 11, 9) ∷ (2, 0, 4) ∷ (4, 6, 2) ∷ (10, 8, 9) ∷ (9, 11, 10) ∷ [];
  labels = a ∷ a ∷ b ∷ b ∷ a ∷ a ∷ b ∷ b ∷ a ∷ a ∷ b ∷ b ∷ a ∷ a ∷ b ∷ b ∷ a ∷ a ∷ b ∷ b ∷ [];
}

labelled-row : remeshed labelled ≡ record { mesh = labelled_after; planes = 7; kept = 0 }
labelled-row = refl

-- a cube with a triangle beside a face, folded back
abbrev folded : Mesh
folded = record {
  points =
      (pos 0 ∷ pos 0 ∷ pos 0 ∷ []) ∷ (pos 2 ∷ pos 0 ∷ pos 0 ∷ []) ∷ (pos 0 ∷ pos 2 ∷ pos 0 ∷ []) ∷ (pos 2 ∷ pos 2 ∷ pos 0 ∷ []) ∷ (pos 0 ∷ pos 0 ∷ pos 2 ∷ []) ∷
      (pos 2 ∷ pos 0 ∷ pos 2 ∷ []) ∷ (pos 0 ∷ pos 2 ∷ pos 2 ∷ []) ∷ (pos 2 ∷ pos 2 ∷ pos 2 ∷ []) ∷ (pos 5 ∷ pos 1 ∷ pos 0 ∷ []) ∷ [];
  triples =
      (0, 3, 1) ∷ (0, 2, 3) ∷ (4, 5, 7) ∷ (4, 7, 6) ∷ (0, 1, 4) ∷ (1, 5, 4) ∷ (1, 3, 7) ∷ (1, 7, 5) ∷ (3, 2, 6) ∷ (3, 6, 7) ∷
      (0, 4, 6) ∷ (0, 6, 2) ∷ (0, 1, 8) ∷ (0, 8, 1) ∷ [];
  labels = replicate 14 [];
}

-- the cube
abbrev folded_after : Mesh
folded_after = record {
  points =
      (pos 0 ∷ pos 0 ∷ pos 0 ∷ []) ∷ (pos 2 ∷ pos 0 ∷ pos 0 ∷ []) ∷ (pos 0 ∷ pos 2 ∷ pos 0 ∷ []) ∷ (pos 2 ∷ pos 2 ∷ pos 0 ∷ []) ∷ (pos 0 ∷ pos 0 ∷ pos 2 ∷ []) ∷
      (pos 2 ∷ pos 0 ∷ pos 2 ∷ []) ∷ (pos 0 ∷ pos 2 ∷ pos 2 ∷ []) ∷ (pos 2 ∷ pos 2 ∷ pos 2 ∷ []) ∷ [];
  triples =
      (1, 0, 2) ∷ (2, 3, 1) ∷ (6, 4, 5) ∷ (5, 7, 6) ∷ (4, 0, 1) ∷ (1, 5, 4) ∷ (5, 1, 3) ∷ (3, 7, 5) ∷ (3, 2, 6) ∷ (6, 7, 3) ∷
      (2, 0, 4) ∷ (4, 6, 2) ∷ [];
  labels = replicate 12 [];
}

folded-row : remeshed folded ≡ record { mesh = folded_after; planes = 6; kept = 0 }
folded-row = refl

-- two tetrahedra whose bases overlap: their edges cross beside the grid
abbrev kept_one : Mesh
kept_one = record {
  points =
      (pos 0 ∷ pos 0 ∷ pos 0 ∷ []) ∷ (pos 5 ∷ pos 0 ∷ pos 0 ∷ []) ∷ (pos 0 ∷ pos 5 ∷ pos 0 ∷ []) ∷ (pos 1 ∷ pos 1 ∷ pos 3 ∷ []) ∷ (negsuc 0 ∷ pos 2 ∷ pos 0 ∷ []) ∷
      (pos 4 ∷ pos 3 ∷ pos 0 ∷ []) ∷ (pos 1 ∷ pos 4 ∷ pos 0 ∷ []) ∷ (pos 2 ∷ pos 3 ∷ negsuc 2 ∷ []) ∷ [];
  triples =
      (0, 2, 1) ∷ (0, 1, 3) ∷ (1, 2, 3) ∷ (2, 0, 3) ∷ (4, 6, 5) ∷ (4, 5, 7) ∷ (5, 6, 7) ∷ (6, 4, 7) ∷ [];
  labels = replicate 8 [];
}

-- two triangles are kept
abbrev kept_one_after : Mesh
kept_one_after = record {
  points =
      (pos 0 ∷ pos 0 ∷ pos 0 ∷ []) ∷ (pos 5 ∷ pos 0 ∷ pos 0 ∷ []) ∷ (pos 0 ∷ pos 5 ∷ pos 0 ∷ []) ∷ (pos 1 ∷ pos 1 ∷ pos 3 ∷ []) ∷ (negsuc 0 ∷ pos 2 ∷ pos 0 ∷ []) ∷
      (pos 4 ∷ pos 3 ∷ pos 0 ∷ []) ∷ (pos 1 ∷ pos 4 ∷ pos 0 ∷ []) ∷ (pos 1 ∷ pos 4 ∷ pos 0 ∷ []) ∷ (pos 2 ∷ pos 3 ∷ negsuc 2 ∷ []) ∷ (pos 0 ∷ pos 3 ∷ pos 0 ∷ []) ∷
      (pos 0 ∷ pos 3 ∷ pos 0 ∷ []) ∷ [];
  triples =
      (1, 0, 9) ∷ (9, 2, 6) ∷ (9, 6, 1) ∷ (5, 4, 10) ∷ (10, 7, 5) ∷ (0, 1, 3) ∷ (3, 1, 6) ∷ (6, 2, 3) ∷ (9, 0, 3) ∷ (3, 2, 9) ∷
      (4, 5, 8) ∷ (5, 7, 8) ∷ (10, 4, 8) ∷ (8, 7, 10) ∷ [];
  labels = replicate 14 [];
}

kept_one-row : remeshed kept_one ≡ record { mesh = kept_one_after; planes = 7; kept = 2 }
kept_one-row = refl

-- two tetrahedra whose bases cross in points of the grid
abbrev crossed : Mesh
crossed = record {
  points =
      (pos 0 ∷ pos 0 ∷ pos 0 ∷ []) ∷ (pos 6 ∷ pos 0 ∷ pos 0 ∷ []) ∷ (pos 0 ∷ pos 6 ∷ pos 0 ∷ []) ∷ (pos 1 ∷ pos 1 ∷ pos 3 ∷ []) ∷ (pos 4 ∷ pos 4 ∷ pos 0 ∷ []) ∷
      (negsuc 1 ∷ pos 4 ∷ pos 0 ∷ []) ∷ (pos 4 ∷ negsuc 1 ∷ pos 0 ∷ []) ∷ (pos 3 ∷ pos 3 ∷ pos 4 ∷ []) ∷ [];
  triples =
      (0, 2, 1) ∷ (0, 1, 3) ∷ (1, 2, 3) ∷ (2, 0, 3) ∷ (4, 6, 5) ∷ (4, 5, 7) ∷ (5, 6, 7) ∷ (6, 4, 7) ∷ [];
  labels = replicate 8 [];
}

-- points more
abbrev crossed_after : Mesh
crossed_after = record {
  points =
      (pos 0 ∷ pos 0 ∷ pos 0 ∷ []) ∷ (pos 6 ∷ pos 0 ∷ pos 0 ∷ []) ∷ (pos 0 ∷ pos 6 ∷ pos 0 ∷ []) ∷ (pos 1 ∷ pos 1 ∷ pos 3 ∷ []) ∷ (pos 4 ∷ pos 4 ∷ pos 0 ∷ []) ∷
      (negsuc 1 ∷ pos 4 ∷ pos 0 ∷ []) ∷ (pos 4 ∷ negsuc 1 ∷ pos 0 ∷ []) ∷ (pos 3 ∷ pos 3 ∷ pos 4 ∷ []) ∷ (pos 0 ∷ pos 2 ∷ pos 0 ∷ []) ∷ (pos 0 ∷ pos 2 ∷ pos 0 ∷ []) ∷
      (pos 0 ∷ pos 4 ∷ pos 0 ∷ []) ∷ (pos 2 ∷ pos 0 ∷ pos 0 ∷ []) ∷ (pos 2 ∷ pos 0 ∷ pos 0 ∷ []) ∷ (pos 2 ∷ pos 4 ∷ pos 0 ∷ []) ∷ (pos 2 ∷ pos 4 ∷ pos 0 ∷ []) ∷
      (pos 4 ∷ pos 0 ∷ pos 0 ∷ []) ∷ (pos 4 ∷ pos 2 ∷ pos 0 ∷ []) ∷ (pos 4 ∷ pos 2 ∷ pos 0 ∷ []) ∷ [];
  triples =
      (11, 0, 8) ∷ (9, 5, 10) ∷ (11, 8, 10) ∷ (12, 10, 2) ∷ (12, 2, 13) ∷ (11, 14, 4) ∷ (11, 4, 16) ∷ (17, 1, 15) ∷ (12, 17, 15) ∷ (15, 6, 12) ∷
      (12, 9, 10) ∷ (11, 10, 14) ∷ (12, 13, 17) ∷ (16, 15, 11) ∷ (3, 0, 11) ∷ (3, 11, 15) ∷ (15, 1, 3) ∷ (3, 1, 17) ∷ (3, 17, 13) ∷ (13, 2, 3) ∷
      (8, 0, 3) ∷ (3, 2, 10) ∷ (3, 10, 8) ∷ (7, 4, 14) ∷ (7, 14, 10) ∷ (10, 5, 7) ∷ (7, 5, 9) ∷ (7, 9, 12) ∷ (12, 6, 7) ∷ (16, 4, 7) ∷
      (7, 6, 15) ∷ (7, 15, 16) ∷ [];
  labels = replicate 32 [];
}

crossed-row : remeshed crossed ≡ record { mesh = crossed_after; planes = 7; kept = 0 }
crossed-row = refl

-- two cubes that touch in an edge
abbrev touching : Mesh
touching = record {
  points =
      (pos 0 ∷ pos 0 ∷ pos 0 ∷ []) ∷ (pos 1 ∷ pos 0 ∷ pos 0 ∷ []) ∷ (pos 0 ∷ pos 1 ∷ pos 0 ∷ []) ∷ (pos 1 ∷ pos 1 ∷ pos 0 ∷ []) ∷ (pos 0 ∷ pos 0 ∷ pos 1 ∷ []) ∷
      (pos 1 ∷ pos 0 ∷ pos 1 ∷ []) ∷ (pos 0 ∷ pos 1 ∷ pos 1 ∷ []) ∷ (pos 1 ∷ pos 1 ∷ pos 1 ∷ []) ∷ (pos 1 ∷ pos 1 ∷ pos 0 ∷ []) ∷ (pos 2 ∷ pos 1 ∷ pos 0 ∷ []) ∷
      (pos 1 ∷ pos 2 ∷ pos 0 ∷ []) ∷ (pos 2 ∷ pos 2 ∷ pos 0 ∷ []) ∷ (pos 1 ∷ pos 1 ∷ pos 1 ∷ []) ∷ (pos 2 ∷ pos 1 ∷ pos 1 ∷ []) ∷ (pos 1 ∷ pos 2 ∷ pos 1 ∷ []) ∷
      (pos 2 ∷ pos 2 ∷ pos 1 ∷ []) ∷ [];
  triples =
      (0, 3, 1) ∷ (0, 2, 3) ∷ (4, 5, 7) ∷ (4, 7, 6) ∷ (0, 1, 4) ∷ (1, 5, 4) ∷ (1, 3, 7) ∷ (1, 7, 5) ∷ (3, 2, 6) ∷ (3, 6, 7) ∷
      (0, 4, 6) ∷ (0, 6, 2) ∷ (8, 11, 9) ∷ (8, 10, 11) ∷ (12, 13, 15) ∷ (12, 15, 14) ∷ (8, 9, 12) ∷ (9, 13, 12) ∷ (9, 11, 15) ∷ (9, 15, 13) ∷
      (11, 10, 14) ∷ (11, 14, 15) ∷ (8, 12, 14) ∷ (8, 14, 10) ∷ [];
  labels = replicate 24 [];
}

-- their vertices there are parted
abbrev touching_after : Mesh
touching_after = record {
  points =
      (pos 0 ∷ pos 0 ∷ pos 0 ∷ []) ∷ (pos 1 ∷ pos 0 ∷ pos 0 ∷ []) ∷ (pos 0 ∷ pos 1 ∷ pos 0 ∷ []) ∷ (pos 1 ∷ pos 1 ∷ pos 0 ∷ []) ∷ (pos 1 ∷ pos 1 ∷ pos 0 ∷ []) ∷
      (pos 0 ∷ pos 0 ∷ pos 1 ∷ []) ∷ (pos 1 ∷ pos 0 ∷ pos 1 ∷ []) ∷ (pos 0 ∷ pos 1 ∷ pos 1 ∷ []) ∷ (pos 1 ∷ pos 1 ∷ pos 1 ∷ []) ∷ (pos 1 ∷ pos 1 ∷ pos 1 ∷ []) ∷
      (pos 2 ∷ pos 1 ∷ pos 0 ∷ []) ∷ (pos 1 ∷ pos 2 ∷ pos 0 ∷ []) ∷ (pos 2 ∷ pos 2 ∷ pos 0 ∷ []) ∷ (pos 2 ∷ pos 1 ∷ pos 1 ∷ []) ∷ (pos 1 ∷ pos 2 ∷ pos 1 ∷ []) ∷
      (pos 2 ∷ pos 2 ∷ pos 1 ∷ []) ∷ [];
  triples =
      (1, 0, 2) ∷ (2, 3, 1) ∷ (10, 4, 11) ∷ (11, 12, 10) ∷ (7, 5, 6) ∷ (6, 8, 7) ∷ (14, 9, 13) ∷ (13, 15, 14) ∷ (5, 0, 1) ∷ (1, 6, 5) ∷
      (6, 1, 3) ∷ (3, 8, 6) ∷ (3, 2, 7) ∷ (7, 8, 3) ∷ (2, 0, 5) ∷ (5, 7, 2) ∷ (9, 4, 10) ∷ (10, 13, 9) ∷ (13, 10, 12) ∷ (12, 15, 13) ∷
      (12, 11, 14) ∷ (14, 15, 12) ∷ (11, 4, 9) ∷ (9, 14, 11) ∷ [];
  labels = replicate 24 [];
}

touching-row : remeshed touching ≡ record { mesh = touching_after; planes = 8; kept = 0 }
touching-row = refl

-- two columns that touch in an edge, between two plates
abbrev columns : Mesh
columns = record {
  points =
      (pos 0 ∷ pos 0 ∷ pos 0 ∷ []) ∷ (pos 2 ∷ pos 0 ∷ pos 0 ∷ []) ∷ (pos 0 ∷ pos 2 ∷ pos 0 ∷ []) ∷ (pos 2 ∷ pos 2 ∷ pos 0 ∷ []) ∷ (pos 0 ∷ pos 0 ∷ pos 1 ∷ []) ∷
      (pos 2 ∷ pos 0 ∷ pos 1 ∷ []) ∷ (pos 0 ∷ pos 2 ∷ pos 1 ∷ []) ∷ (pos 2 ∷ pos 2 ∷ pos 1 ∷ []) ∷ (pos 0 ∷ pos 0 ∷ pos 1 ∷ []) ∷ (pos 1 ∷ pos 0 ∷ pos 1 ∷ []) ∷
      (pos 0 ∷ pos 1 ∷ pos 1 ∷ []) ∷ (pos 1 ∷ pos 1 ∷ pos 1 ∷ []) ∷ (pos 0 ∷ pos 0 ∷ pos 2 ∷ []) ∷ (pos 1 ∷ pos 0 ∷ pos 2 ∷ []) ∷ (pos 0 ∷ pos 1 ∷ pos 2 ∷ []) ∷
      (pos 1 ∷ pos 1 ∷ pos 2 ∷ []) ∷ (pos 1 ∷ pos 1 ∷ pos 1 ∷ []) ∷ (pos 2 ∷ pos 1 ∷ pos 1 ∷ []) ∷ (pos 1 ∷ pos 2 ∷ pos 1 ∷ []) ∷ (pos 2 ∷ pos 2 ∷ pos 1 ∷ []) ∷
      (pos 1 ∷ pos 1 ∷ pos 2 ∷ []) ∷ (pos 2 ∷ pos 1 ∷ pos 2 ∷ []) ∷ (pos 1 ∷ pos 2 ∷ pos 2 ∷ []) ∷ (pos 2 ∷ pos 2 ∷ pos 2 ∷ []) ∷ (pos 0 ∷ pos 0 ∷ pos 2 ∷ []) ∷
      (pos 2 ∷ pos 0 ∷ pos 2 ∷ []) ∷ (pos 0 ∷ pos 2 ∷ pos 2 ∷ []) ∷ (pos 2 ∷ pos 2 ∷ pos 2 ∷ []) ∷ (pos 0 ∷ pos 0 ∷ pos 3 ∷ []) ∷ (pos 2 ∷ pos 0 ∷ pos 3 ∷ []) ∷
      (pos 0 ∷ pos 2 ∷ pos 3 ∷ []) ∷ (pos 2 ∷ pos 2 ∷ pos 3 ∷ []) ∷ [];
  triples =
      (0, 3, 1) ∷ (0, 2, 3) ∷ (4, 5, 7) ∷ (4, 7, 6) ∷ (0, 1, 4) ∷ (1, 5, 4) ∷ (1, 3, 7) ∷ (1, 7, 5) ∷ (3, 2, 6) ∷ (3, 6, 7) ∷
      (0, 4, 6) ∷ (0, 6, 2) ∷ (8, 11, 9) ∷ (8, 10, 11) ∷ (12, 13, 15) ∷ (12, 15, 14) ∷ (8, 9, 12) ∷ (9, 13, 12) ∷ (9, 11, 15) ∷ (9, 15, 13) ∷
      (11, 10, 14) ∷ (11, 14, 15) ∷ (8, 12, 14) ∷ (8, 14, 10) ∷ (16, 19, 17) ∷ (16, 18, 19) ∷ (20, 21, 23) ∷ (20, 23, 22) ∷ (16, 17, 20) ∷ (17, 21, 20) ∷
      (17, 19, 23) ∷ (17, 23, 21) ∷ (19, 18, 22) ∷ (19, 22, 23) ∷ (16, 20, 22) ∷ (16, 22, 18) ∷ (24, 27, 25) ∷ (24, 26, 27) ∷ (28, 29, 31) ∷ (28, 31, 30) ∷
      (24, 25, 28) ∷ (25, 29, 28) ∷ (25, 27, 31) ∷ (25, 31, 29) ∷ (27, 26, 30) ∷ (27, 30, 31) ∷ (24, 28, 30) ∷ (24, 30, 26) ∷ [];
  labels = replicate 48 [];
}

-- one body
abbrev columns_after : Mesh
columns_after = record {
  points =
      (pos 0 ∷ pos 0 ∷ pos 0 ∷ []) ∷ (pos 2 ∷ pos 0 ∷ pos 0 ∷ []) ∷ (pos 0 ∷ pos 2 ∷ pos 0 ∷ []) ∷ (pos 2 ∷ pos 2 ∷ pos 0 ∷ []) ∷ (pos 2 ∷ pos 0 ∷ pos 1 ∷ []) ∷
      (pos 0 ∷ pos 2 ∷ pos 1 ∷ []) ∷ (pos 1 ∷ pos 0 ∷ pos 1 ∷ []) ∷ (pos 0 ∷ pos 1 ∷ pos 1 ∷ []) ∷ (pos 1 ∷ pos 1 ∷ pos 1 ∷ []) ∷ (pos 1 ∷ pos 1 ∷ pos 1 ∷ []) ∷
      (pos 1 ∷ pos 0 ∷ pos 2 ∷ []) ∷ (pos 0 ∷ pos 1 ∷ pos 2 ∷ []) ∷ (pos 1 ∷ pos 1 ∷ pos 2 ∷ []) ∷ (pos 1 ∷ pos 1 ∷ pos 2 ∷ []) ∷ (pos 2 ∷ pos 1 ∷ pos 1 ∷ []) ∷
      (pos 1 ∷ pos 2 ∷ pos 1 ∷ []) ∷ (pos 2 ∷ pos 1 ∷ pos 2 ∷ []) ∷ (pos 1 ∷ pos 2 ∷ pos 2 ∷ []) ∷ (pos 2 ∷ pos 0 ∷ pos 2 ∷ []) ∷ (pos 0 ∷ pos 2 ∷ pos 2 ∷ []) ∷
      (pos 0 ∷ pos 0 ∷ pos 3 ∷ []) ∷ (pos 2 ∷ pos 0 ∷ pos 3 ∷ []) ∷ (pos 0 ∷ pos 2 ∷ pos 3 ∷ []) ∷ (pos 2 ∷ pos 2 ∷ pos 3 ∷ []) ∷ [];
  triples =
      (1, 0, 2) ∷ (2, 3, 1) ∷ (6, 4, 14) ∷ (14, 8, 6) ∷ (15, 5, 7) ∷ (7, 9, 15) ∷ (0, 1, 4) ∷ (0, 4, 6) ∷ (20, 0, 6) ∷ (20, 6, 10) ∷
      (20, 10, 18) ∷ (18, 21, 20) ∷ (4, 1, 3) ∷ (23, 21, 18) ∷ (23, 18, 16) ∷ (3, 23, 16) ∷ (3, 16, 14) ∷ (3, 14, 4) ∷ (3, 2, 5) ∷ (3, 5, 15) ∷
      (3, 15, 17) ∷ (17, 19, 22) ∷ (17, 22, 23) ∷ (17, 23, 3) ∷ (20, 22, 19) ∷ (20, 19, 11) ∷ (0, 20, 11) ∷ (0, 11, 7) ∷ (2, 0, 7) ∷ (7, 5, 2) ∷
      (10, 6, 8) ∷ (8, 12, 10) ∷ (9, 7, 11) ∷ (11, 13, 9) ∷ (12, 8, 14) ∷ (14, 16, 12) ∷ (15, 9, 13) ∷ (13, 17, 15) ∷ (18, 10, 12) ∷ (12, 16, 18) ∷
      (13, 11, 19) ∷ (19, 17, 13) ∷ (22, 20, 21) ∷ (21, 23, 22) ∷ [];
  labels = replicate 44 [];
}

columns-row : remeshed columns ≡ record { mesh = columns_after; planes = 10; kept = 0 }
columns-row = refl
