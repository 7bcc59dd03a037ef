-- The format of a file by the suffix of its name: OBJ, or ASCII STL where it ends with .stl.
use Rattle.std.specs.Prelude.{ℕ, ℤ, List, Bool, ◌||◌, if◌then◌else◌, Result}
use Rattle.mesh_terms.specs.Faults.{Fault}
use Rattle.mesh_terms.specs.Limits.{Limits}
use Rattle.mesh_terms.specs.Meshes.{Triple, Soup}
use Rattle.format_terms.specs.Obj.{obj}
use Rattle.format_terms.specs.ObjWritten.{is_obj, obj_text}
use Rattle.format_terms.specs.Stl.{stl}
use Rattle.format_terms.specs.StlWritten.{is_stl, stl_text}
use Rattle.run_terms.specs.Files.{Bytes}
use Rattle.play_terms.specs.declared.format.Format.{Format}
use Rattle.play_terms.specs.declared.format.Format.TheVariants.{Obj, Stl}

-- the name has one of the two suffixes
abbrev pub is_mesh_name : Bytes → Bool
is_mesh_name name = is_obj name || is_stl name

-- a name without either is taken as that of an OBJ file
abbrev pub format_of : Bytes → Format
format_of name = if is_stl name then Stl else Obj

-- what the bytes of a file give in a format under k digits
abbrev pub soup_in : Format → ℕ → Limits → Bytes → Result Soup Fault
soup_in Obj k limits bytes = obj k limits bytes
soup_in Stl k limits bytes = stl k limits bytes

-- what a file of this name gives under k digits
abbrev pub mesh_soup : ℕ → Limits → Bytes → Bytes → Result Soup Fault
mesh_soup k limits name bytes = soup_in (format_of name) k limits bytes

-- the text of a mesh in a format
abbrev pub text_as : Format → ℕ → List (List ℤ) → List Triple → List Bytes → Bytes
text_as Obj k points ts labels = obj_text k points ts labels
text_as Stl k points ts labels = stl_text k points ts

-- the text of a mesh for a file of this name; an STL text has no labels
abbrev pub mesh_text : ℕ → Bytes → List (List ℤ) → List Triple → List Bytes → Bytes
mesh_text k name points ts labels = text_as (format_of name) k points ts labels
