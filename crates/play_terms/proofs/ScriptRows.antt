-- The steps of small scripts, and their first faults, computed.
use Rattle.std.specs.Prelude.{◌≡◌, ℕ, pos, neg_ℤ, List, [], ◌∷◌, ◌++◌, codes, replicate, map, Ok, Err}
use Rattle.std.proofs.Common.{refl}
use Rattle.std.specs.Char.{encode_utf8}
use Rattle.std.specs.Str.{chars, is_utf8}
use Rattle.mb_base.specs.declared.op.Op.TheVariants.{Union, Intersect, Subtract}
use Rattle.mesh_terms.specs.Faults.{Bad}
use Rattle.made_terms.specs.Solids.{point}
use Rattle.run_terms.specs.Files.{Bytes}
use Rattle.made_terms.specs.declared.motion.Motion.TheVariants.{Shift, Scale, Mirror, Turn}
use Rattle.made_terms.specs.declared.solid.Solid.TheVariants.{Box, Tetra, Prism, Lattice}
use Rattle.play_terms.specs.Operands.{number_of, number_fault}
use Rattle.play_terms.specs.Scripts.{script}
use Rattle.play_terms.specs.Steps.{Line, Load, Save, Measure, Inspect, Combine, Make, Move, Tidy, Remesh, Exact}

-- each of the scripts is refused on line n with this kind
abbrev AreBad : ℕ → ℕ → List Bytes → Type 0
AreBad n kind texts = map (script 0) texts ≡ map (λ text. Err (Bad n kind)) texts

abbrev Gives : List Line → Bytes → Type 0
Gives lines text = script 0 text ≡ Ok lines

-- two meshes, before what else stands in a script
abbrev two : Bytes → Bytes
two rest = codes "load a c.obj\nload b_2 d.obj\n" ++ rest

-- lines after the two
abbrev after_two : List Line → List Line
after_two lines = (1, Load (codes "a") (codes "c.obj")) ∷ (2, Load (codes "b_2") (codes "d.obj")) ∷ lines

record AreRead : Type 0 where
  none : Gives [] []
  blank : Gives [] (codes "\n \t\n\r\n#\n # load\n")
  union : Gives (after_two ((3, Combine Union (codes "u") (codes "a") (codes "b_2")) ∷ [])) (two (codes "union u a b_2"))
  intersect : Gives (after_two ((3, Combine Intersect (codes "u") (codes "a") (codes "a")) ∷ [])) (two (codes "intersect u a a\n"))
  subtract : Gives (after_two ((4, Combine Subtract (codes "a") (codes "b_2") (codes "a")) ∷ [])) (two (codes "\nsubtract a b_2 a # the rest\n"))
  save : Gives (after_two ((3, Save (codes "a") (codes "C.ObJ")) ∷ [])) (two (codes "\tsave  a \tC.ObJ\t"))
  mark : Gives ((1, Load (codes "a") (codes ".obj")) ∷ []) (239 ∷ 187 ∷ 191 ∷ codes "load a .obj\r\n\r\n")
  cr : Gives ((1, Load (codes "a") (codes "c.obj")) ∷ (3, Save (codes "a") (codes "c.obj")) ∷ []) (codes "load a c.obj\r\n\r\nsave a c.obj\r")
  hash : Gives ((1, Load (codes "a") (codes "c#.obj")) ∷ []) (codes "load a c#.obj #d e")
  long : Gives ((1, Load (replicate 32 65) (codes "c.obj")) ∷ []) (codes "load " ++ replicate 32 65 ++ codes " c.obj")
  command : Gives ((1, Load (codes "load") (codes "c.obj")) ∷ (2, Save (codes "load") (codes "load.obj")) ∷ []) (codes "load load c.obj\nsave load load.obj")

are_read : AreRead
unfolding chars is_utf8 encode_utf8
are_read = record { none = refl; blank = refl; union = refl; intersect = refl; subtract = refl; save = refl; mark = refl; cr = refl; hash = refl; long = refl; command = refl }

-- a name before what else stands in a script
abbrev one : Bytes → Bytes
one rest = codes "tetra t 0 0 0 6\n" ++ rest

-- lines after the one
abbrev after_one : List Line → List Line
after_one lines = (1, Make (codes "t") (Tetra (point (pos 0) (pos 0) (pos 0)) (pos 6))) ∷ lines

-- solids, motions, measures and inspections under no digits, and numbers under four
record AreMade : Type 0 where
  measure : Gives (after_one ((2, Measure (codes "t")) ∷ [])) (one (codes "measure t"))
  inspect : Gives (after_one ((2, Inspect (codes "t")) ∷ (3, Inspect (codes "t")) ∷ [])) (one (codes "inspect t\ninspect t"))
  box : Gives ((1, Make (codes "a") (Box (point (neg_ℤ (pos 1)) (pos 2) (pos 3)) (point (pos 40) (pos 5) (pos 6)))) ∷ []) (codes "box a -1 2. 3.4 +4e1 05 5.5")
  tetra : Gives (after_one []) (one [])
  exact : Gives ((1, Exact) ∷ (2, Make (codes "t") (Tetra (point (pos 0) (pos 0) (pos 0)) (pos 6))) ∷ (4, Exact) ∷ []) (codes "exact # kernels\ntetra t 0 0 0 6\n\nexact\n")
  prism : Gives ((1, Make (codes "p") (Prism (point (pos 1) (pos 2) (pos 3)) (pos 4) (neg_ℤ (pos 5)))) ∷ []) (codes "prism p 1 2 3 4 -5")
  lattice : Gives ((1, Make (codes "l") (Lattice 60 999999)) ∷ []) (codes "lattice l 60 999999")
  least : Gives ((1, Make (codes "l") (Lattice 1 0)) ∷ []) (codes "lattice l 0000001 0000000")
  shift : Gives (after_one ((2, Move (codes "s") (codes "t") (Shift (point (pos 1) (neg_ℤ (pos 2)) (pos 1073741824)))) ∷ [])) (one (codes "shift s t 1 -2 1073741824"))
  scale : Gives (after_one ((2, Move (codes "t") (codes "t") (Scale 1000000)) ∷ [])) (one (codes "scale t t 1000000"))
  mirror : Gives (after_one ((2, Move (codes "m") (codes "t") (Mirror 0)) ∷ (3, Move (codes "n") (codes "m") (Mirror 1)) ∷ [])) (one (codes "mirror m t x\nmirror n m y"))
  turn : Gives (after_one ((2, Move (codes "m") (codes "t") (Turn 2)) ∷ [])) (one (codes "turn m t z"))
  tidy : Gives (after_one ((2, Tidy (codes "u") (codes "t")) ∷ (3, Tidy (codes "t") (codes "u")) ∷ [])) (one (codes "tidy u t\ntidy t u"))
  remesh : Gives (after_one ((2, Remesh (codes "u") (codes "t")) ∷ (3, Remesh (codes "u") (codes "u")) ∷ [])) (one (codes "remesh u t\nremesh u u"))
  digits : script 4 (codes "tetra t 1 .00005 -107374.1824 6e-4")
      ≡ Ok ((1, Make (codes "t") (Tetra (point (pos 10000) (pos 1) (neg_ℤ (pos 1073741824))) (pos 6))) ∷ [])

are_made : AreMade
unfolding chars is_utf8 encode_utf8 number_of number_fault
are_made = record {
  measure = refl;
  inspect = refl;
  box = refl;
  tetra = refl;
  exact = refl;
  prism = refl;
  lattice = refl;
  least
      = refl;
  shift = refl;
  scale = refl;
  mirror = refl;
  turn = refl;
  tidy = refl;
  remesh = refl;
  digits = refl;
}

-- operands that have no value, and what is asked before them: numbers, whole numbers, a factor, an axis
record HaveNoValue : Type 0 where
  numbers : AreBad 1 24 (codes "box a 0 0 0 1 1 1e" ∷ codes "tetra t nan 0 0 6" ∷ (codes "tetra t 0 0 0 " ++ 255 ∷ []) ∷ codes "prism p 1073741825 0 0 4 5" ∷ [])
  below : AreBad 2 24 (one (codes "shift s t 0 -1073741825 0") ∷ [])
  whole : AreBad 1 24 (codes "lattice l 0 0" ∷ codes "lattice l 61 0" ∷ codes "lattice l +1 0" ∷ codes "lattice l 1. 0" ∷ codes "lattice l 00000001 0" ∷ codes
      "lattice l 1 1000000" ∷ [])
  factors : AreBad 2 24 (one (codes "scale s t 0") ∷ one (codes "scale s t 1000001") ∷ [])
  axes : AreBad 2 24 (one (codes "mirror m t X") ∷ one (codes "turn m t w") ∷ one (codes "turn m t xy") ∷ [])
  counts : AreBad 1 21 (codes "box a 0 0 0 1 1" ∷ codes "tetra t 0 0 0 6 6" ∷ codes "measure" ∷ codes "inspect" ∷ codes "inspect a a" ∷ codes "exact a" ∷ codes "tidy a" ∷ codes "tidy a b c" ∷ codes "remesh a" ∷ [])
  name_first : AreBad 1 22 (codes "lattice 1 0 0" ∷ [])
  old_first : AreBad 1 23 (codes "scale s t 0" ∷ codes "tidy t t" ∷ codes "remesh t t" ∷ [])
  old_name_first : AreBad 2 22 (one (codes "mirror m 1 w") ∷ [])
  measured : AreBad 2 23 (one (codes "measure T") ∷ one (codes "inspect T") ∷ [])

have_no_value : HaveNoValue
unfolding chars is_utf8 encode_utf8 number_of number_fault
have_no_value =
    record {
      numbers = refl;
      below = refl;
      whole = refl;
      factors = refl;
      axes = refl;
      counts = refl;
      name_first = refl;
      old_first = refl;
      old_name_first = refl;
      measured = refl;
    }

-- no command; too few words or too many; no name; a name that no line before gave a mesh; no file of a known kind
record AreRefused : Type 0 where
  words : AreBad 1 20
      (codes "Load a c.obj" ∷ codes "loads a c.obj" ∷ codes "measures a" ∷ codes "exactly" ∷ (239 ∷ 187 ∷ 191 ∷ 239 ∷ 187 ∷ 191 ∷ codes "load a c.obj") ∷ codes
      "load\r a c.obj" ∷ codes "cut" ∷ [])
  counts : AreBad 3 21 (two (codes "union u a") ∷ two (codes "union u a b_2 a") ∷ [])
  counts_first : AreBad 1 21 (codes "load a #c.obj" ∷ codes "load 1 c.ply d" ∷ [])
  names : AreBad 1 22 (codes "load 1a c.obj" ∷ codes "load _a c.obj" ∷ codes "load a-b c.obj" ∷ (codes "load " ++ replicate 33 65 ++ codes " c.obj") ∷ [])
  names_first : AreBad 1 22 (codes "load a- c.ply" ∷ codes "save 1 c.ply" ∷ [])
  right : AreBad 3 22 (two (codes "union u a 1") ∷ [])
  left_first : AreBad 3 23 (two (codes "union u c 1") ∷ [])
  never : AreBad 3 23 (two (codes "union u a A") ∷ two (codes "union u a u") ∷ two (codes "save c c.obj\nload c c.obj") ∷ [])
  saved : AreBad 4 23 (two (codes "save a c.obj\nsave c a.obj") ∷ [])
  old_first : AreBad 1 23 (codes "save c c.ply" ∷ [])
  files : AreBad 1 25 (codes "load a c.off" ∷ codes "load a obj" ∷ (codes "load a " ++ 255 ∷ codes ".obj") ∷ [])
  first_line : AreBad 2 25 (codes "load a c.obj\nsave a c.ply\ncut" ∷ [])

are_refused : AreRefused
unfolding chars is_utf8 encode_utf8
are_refused = record {
  words = refl;
  counts = refl;
  counts_first = refl;
  names = refl;
  names_first = refl;
  right = refl;
  left_first = refl;
  never = refl;
  saved = refl;
  old_first = refl;
  files = refl;
  first_line = refl;
}
