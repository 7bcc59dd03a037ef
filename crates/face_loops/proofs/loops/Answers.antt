use Rattle.std.proofs.Common.{◌≡◌, ◌<◌, ℕ, List, length, ap, sym, subst, ◌∙◌}
use Rattle.std.specs.List.{All, concat, flat_map}
use Rattle.std.proofs.lemmas.Result.{IfOk-weaker}
use Rattle.chain_terms.specs.Chains.{dir}
use Rattle.chain_terms.specs.Cycles.{cycles}
use Rattle.chain_terms.specs.Paths.{round_edges}
use Rattle.face_loops.specs.Segments.{edges_of, AreDifferent}
use Rattle.face_loops.proofs.Vertices.{same_edges, different_vertices, not_empty}
use Rattle.face_loops.proofs.loops.Goals as goal

pub returns-clause-edges : goal.returns-clause-edges
returns-clause-edges c =
    let es = edges_of c.args.segments.now in
    IfOk-weaker c.all_loops.result (λ loops. loops.items ≡ cycles es) (λ loops. (a b : ℕ) → dir (flat_map round_edges loops.items) a b ≡ dir es a b)
    (λ loops e a b. ap (λ l. dir (flat_map round_edges l) a b) e ∙ same_edges es c.requires a b) c.all_loops.ensures.value

pub returns-clause-different : goal.returns-clause-different
returns-clause-different c =
    let es = edges_of c.args.segments.now in
    IfOk-weaker c.all_loops.result (λ loops. loops.items ≡ cycles es) (λ loops. AreDifferent (concat loops.items))
    (λ loops e. subst (λ l. AreDifferent (concat l)) (sym e) (different_vertices es c.requires)) c.all_loops.ensures.value

pub returns-clause-not_empty : goal.returns-clause-not_empty
returns-clause-not_empty c =
    let es = edges_of c.args.segments.now in
    IfOk-weaker c.all_loops.result (λ loops. loops.items ≡ cycles es) (λ loops. All (λ (vertices : List ℕ). 0 < length vertices) loops.items)
    (λ loops e. subst (λ l. All (λ (vertices : List ℕ). 0 < length vertices) l) (sym e) (not_empty es)) c.all_loops.ensures.value
