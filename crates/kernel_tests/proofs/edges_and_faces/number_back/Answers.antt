use Rattle.std.proofs.Common.{rules, arith, ◌≡◌, FitsSigned, refl, [], ◌∷◌, sym, ap, ◌∙◌}
use Rattle.std.proofs.lemmas.Int.{ints}
use Rattle.std.specs.Int.{w8}
use Rattle.shadow_kernels.specs.FinePairs.{fine_two}
use Rattle.edge_face.specs.Crossings.{number_of}
use Rattle.shadow_kernels.proofs.Values.{seen}
use Rattle.kernel_tests.proofs.edges_and_faces.number_back.Goals as goal

pub returns-in-None : goal.returns-in-None
returns-in-None g c =
    let turn = (g.met.K.Crosses-1.laws c.args.kernels.now).turn_p (c.args.b.now ∷ c.args.a.now ∷ []) c.args.q.now refl refl c.told-q
    (fine_two c.args.b.now c.args.a.now c.requires.b_fine c.requires.a_fine) c.requires.q_fine in
    let none = ap number_of (sym c.cross.ensures ∙ c.in-None.is) in
    omega (arith, ints, turn, none)

pub returns-in-Some : goal.returns-in-Some
returns-in-Some g c =
    let turn = (g.met.K.Crosses-1.laws c.args.kernels.now).turn_p (c.args.b.now ∷ c.args.a.now ∷ []) c.args.q.now refl refl c.told-q
    (fine_two c.args.b.now c.args.a.now c.requires.b_fine c.requires.a_fine) c.requires.q_fine in
    let some = ap number_of (sym c.cross.ensures ∙ c.in-Some.is) in
    let fits : FitsSigned w8 c.in-Some.c.number = search rules in
    let kept : seen w8 c.in-Some.c.number ≡ c.in-Some.c.number = omega (arith, ints) in
    omega (arith, ints, turn, some, kept)
