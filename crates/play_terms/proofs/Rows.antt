-- The commands of small command lines, computed.
use Rattle.std.specs.Prelude.{◌≡◌, pos, negsuc, [], ◌∷◌, codes, Some, None}
use Rattle.std.proofs.Common.{refl}
use Rattle.play_terms.specs.Words.{CopyFile, InsideFile, RunScript, given, command}

takes_digits_after_the_names : command (codes "copy" ∷ codes "a.obj" ∷ codes "b.OBJ" ∷ codes "--digits" ∷ codes "0" ∷ []) ≡ Some (CopyFile 0 (codes "a.obj") (codes "b.OBJ"))
takes_digits_after_the_names = refl

takes_digits_in_one_word : command (codes "copy" ∷ codes "--digits=6" ∷ codes "a.obj" ∷ codes "b.obj" ∷ []) ≡ Some (CopyFile 6 (codes "a.obj") (codes "b.obj"))
takes_digits_in_one_word = refl

takes_any_operand_after_the_end : command (codes "inside" ∷ codes "cube.obj" ∷ codes "--" ∷ codes "-5" ∷ codes "4" ∷ codes "3" ∷ [])
    ≡ Some (InsideFile 4 (codes "cube.obj") (negsuc 49999 ∷ pos 40000 ∷ pos 30000 ∷ []))
takes_any_operand_after_the_end = refl

takes_a_second_end_as_an_operand : command (codes "copy" ∷ codes "--" ∷ codes "a.obj" ∷ codes "--" ∷ codes "b.obj" ∷ []) ≡ None
takes_a_second_end_as_an_operand = refl

takes_a_dash_as_an_operand : given (codes "-" ∷ []) ≡ Some (record { operands = codes "-" ∷ []; digits = [] })
takes_a_dash_as_an_operand = refl

refuses_a_sign_before_the_end : command (codes "inside" ∷ codes "cube.obj" ∷ codes "-5" ∷ codes "4" ∷ codes "3" ∷ []) ≡ None
refuses_a_sign_before_the_end = refl

refuses_digits_before_the_command : command (codes "--digits" ∷ codes "3" ∷ codes "copy" ∷ codes "a.obj" ∷ codes "b.obj" ∷ []) ≡ None
refuses_digits_before_the_command = refl

refuses_seven_digits : command (codes "copy" ∷ codes "--digits=7" ∷ codes "a.obj" ∷ codes "b.obj" ∷ []) ≡ None
refuses_seven_digits = refl

refuses_digits_without_a_value : command (codes "copy" ∷ codes "--digits" ∷ codes "--" ∷ codes "4" ∷ codes "a.obj" ∷ codes "b.obj" ∷ []) ≡ None
refuses_digits_without_a_value = refl

refuses_digits_twice : command (codes "copy" ∷ codes "--digits=3" ∷ codes "--digits" ∷ codes "3" ∷ codes "a.obj" ∷ codes "b.obj" ∷ []) ≡ None
refuses_digits_twice = refl

refuses_another_suffix : command (codes "copy" ∷ codes "a.obj" ∷ codes "b.ply" ∷ []) ≡ None
refuses_another_suffix = refl

takes_any_name_of_a_script : command (codes "run" ∷ codes "a part" ∷ codes "--digits=2" ∷ []) ≡ Some (RunScript 2 (codes "a part"))
takes_any_name_of_a_script = refl

refuses_an_empty_name_of_a_script : command (codes "run" ∷ [] ∷ []) ≡ None
refuses_an_empty_name_of_a_script = refl

refuses_two_scripts : command (codes "run" ∷ codes "a.txt" ∷ codes "b.txt" ∷ []) ≡ None
refuses_two_scripts = refl
