use Rattle.std.proofs.Common.{◌≡◌, List, Option, subst}
use Rattle.std.specs.Prelude.{IfSome}
use Rattle.mb_base.specs.declared.point.Box3.{Box3}
use Rattle.plane_sheets.specs.Boxed.{shadows_of}
use Rattle.plane_sheets.proofs.Kept.{kept}
use Rattle.plane_sheets.proofs.NearEdges.{all_crossing, found_crossing}
use Rattle.plane_sheets.proofs.Outcomes.{on_ok}
use Rattle.plane_sheets.proofs.passing.Passing.find.Goals as goal

pub returns-in-None-clause-edges : goal.returns-in-None-clause-edges
returns-in-None-clause-edges c at es edges = record {
  tree = edges.tree;
  all = edges.all;
  last = λ e same. all_crossing at es e c.args.self.now.near.items (edges.all c.in-None.is);
}

pub returns-in-Some-clause-edges : goal.returns-in-Some-clause-edges
returns-in-Some-clause-edges c =
    on_ok c.find_all.result _ _
    (λ moved at es edges.
    let over : c.in-Some.tree ≡ shadows_of at es = subst (λ (o : Option (List Box3)). IfSome o (λ t. t ≡ shadows_of at es)) c.in-Some.is edges.tree in
    record {
      tree = edges.tree;
      all = λ none. let some = c.in-Some.is in cc;
      last = λ e same. found_crossing at es e c.in-Some.tree c.at_height.result (kept c.args.height) c.find_all.new.near.items over same c.at_height.ensures moved;
    })
    c.find_all.ensures
