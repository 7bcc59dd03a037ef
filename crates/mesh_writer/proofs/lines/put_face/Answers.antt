use Rattle.std.proofs.Common.{◌≡◌, ◌≤◌, ◌-◌, ◌∙◌, ℕ, ◌+◌, List, [], ◌∷◌, ◌++◌, append_assoc, take_all, length, length-drop, drop, arith, codes, decimal, ap}
use Rattle.mesh_terms.specs.Meshes.{triple_of}
use Rattle.mesh_writer.proofs.lines.put_face.Goals as goal

-- six texts, each put before the others
six : (a b c d e f p0 p1 p2 p3 p4 p5 p6 : List ℕ) → p1 ≡ f ++ p0 → p2 ≡ e ++ p1 → p3 ≡ d ++ p2
    → p4 ≡ c ++ p3 → p5 ≡ b ++ p4 → p6 ≡ a ++ p5 → p6 ≡ (a ++ b ++ c ++ d ++ e ++ f) ++ p0
six a b c d e f p0 p1 p2 p3 p4 p5 p6 h1 h2 h3 h4 h5 h6 =
    let all : p6 ≡ a ++ (b ++ (c ++ (d ++ (e ++ (f ++ p0))))) = cc in
    let same : a ++ (b ++ (c ++ (d ++ (e ++ (f ++ p0))))) ≡ (a ++ b ++ c ++ d ++ e ++ f) ++ p0 = simp append_assoc in
    cc

pub returns : goal.returns
returns c =
    let t = triple_of c.args.triple.now in
    let number = λ (v : ℕ). decimal (v + 1) in
    let start = c.word_before-start.result in
    let line = c.word_before-start.new.line in
    let full : length line ≤ 128 = omega arith in
    let whole = take_all (128 - start) (drop start line) (omega (arith, length-drop start line, full)) in
    c.put_text.ensures.text
    ∙ ap (λ (text : List ℕ). c.args.page.now.items ++ text)
    (whole ∙ six (codes "f ") (number t.0) (codes " ") (number t.1) (codes " ") (number t.2) (10 ∷ []) _ _ _ _ _ _
    c.vertex_before-end.ensures.text c.word_before-end.ensures.text c.vertex_before-end-2.ensures.text
    c.word_before-end-2.ensures.text c.vertex_before-end-3.ensures.text c.word_before-start.ensures.text)
