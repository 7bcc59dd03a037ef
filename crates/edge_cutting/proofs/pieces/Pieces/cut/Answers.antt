use Rattle.std.proofs.Common.{◌∙◌, [], ◌∷◌, ◌++◌, ap, cond, inl, map, sym}
use Rattle.edge_cutting.proofs.Pieced.{gathered_more, gathered_same, key_there}
use Rattle.edge_cutting.proofs.pieces.Pieces.cut.Goals as goal

pub returns-then-contains : goal.returns-then-contains
returns-then-contains c = λ seen h.
    gathered_same c.args.points.now seen c.args.a c.args.b c.args.self.now (inl (key_there c.args.self.now.edges.keys (c.args.a ∷ c.args.b ∷ []) (sym c.if-contains.ensures))) h

pub returns : goal.returns
returns c = λ seen h.
    let keys = c.args.self.now.edges.keys in
    let key = c.args.a ∷ c.args.b ∷ [] in
    gathered_more c.args.points.now seen c.args.a c.args.b (map (λ f. f.1) c.deref.result.now) c.args.self.now c.add.new.self
    (c.in_ok-add.ensures.edges ∙ ap (λ t. cond t keys (keys ++ key ∷ [])) (sym c.if-contains.ensures)) c.in_ok-add.ensures.inside c.in_ok-add.ensures.ends
    (ap (map (λ f. f.1)) c.deref.ensures.value ∙ c.in_ok-found.ensures) h
