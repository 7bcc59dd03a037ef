use Rattle.std.proofs.Common.{◌≡◌, ◌∙◌, ◌+◌, ◌∷◌, ◌++◌, [], ap, cond, false, sym}
use Rattle.std.specs.List.{position_or_len}
use Rattle.indexmap.specs.IndexSet.{insert_key}
use Rattle.mesh_terms.specs.Meshes.{triple_of}
use Rattle.sheet_terms.specs.Faces.{is_flat}
use Rattle.plane_groups.specs.Keys.{key_at, same_key}
use Rattle.plane_groups.proofs.planes.ByPlane.add.Goals as goal

pub returns-in_ok-push-in-Some-2-clause-keys : goal.returns-in_ok-push-in-Some-2-clause-keys
returns-in_ok-push-in-Some-2-clause-keys c =
    let points = c.args.points.now in
    let keys = c.args.self.now.seen.keys in
    let t = triple_of c.args.triple in
    let bent : is_flat points t ≡ false = c.in-Some.ensures.bent in
    c.in_ok-plane-in-Some.ensures.keys ∙ ap (λ k. insert_key same_key keys k) c.in-Some.ensures.plane
    ∙ sym (ap (λ b. cond b keys (insert_key same_key keys (key_at points t))) bent)

pub returns-in_ok-push-in-Some-2-clause-of : goal.returns-in_ok-push-in-Some-2-clause-of
returns-in_ok-push-in-Some-2-clause-of c =
    let points = c.args.points.now in
    let keys = c.args.self.now.seen.keys in
    let of = c.args.self.now.of.items in
    let t = triple_of c.args.triple in
    let bent : is_flat points t ≡ false = c.in-Some.ensures.bent in
    c.in_ok-push-in-Some.ensures.items
    ∙ ap (λ n. of ++ (n + 1) ∷ []) (c.in_ok-plane-in-Some.ensures.index ∙ ap (λ k. position_or_len (same_key k) keys) c.in-Some.ensures.plane)
    ∙ sym (ap (λ b. of ++ cond b 0 (position_or_len (same_key (key_at points t)) keys + 1) ∷ []) bent)
