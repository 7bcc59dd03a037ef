-- Hits in order, one by one.
use Rattle.std.proofs.Common.{◌≡◌, ℕ, ◌+◌, ◌<◌, List, [], ◌∷◌, ◌++◌, length, take, get_or, subst, sym}
use Rattle.std.specs.List.{All}
use Rattle.std.proofs.lemmas.List.{take_more}
use Rattle.std.proofs.lemmas.List.Elements.{All-push}
use Rattle.std.proofs.lemmas.List.Quantifiers.{all_pairs_push}
use Rattle.chain_terms.specs.Ranks.{twin}
use Rattle.mb_base.specs.declared.results.Hit.{Hit}
use Rattle.side_terms.specs.Hits.{AreHits, IsBefore, IsNumber}

-- one more, after all before it
pub hits_more : (es : List (ℕ × ℕ)) (faces : ℕ) (hs : List Hit) (i : ℕ) (h : Hit) → i < length hs → get_or hs i h ≡ h → AreHits es faces (take i hs) →
    h.edge < length es → h.edge < twin es h.edge → h.face < faces → IsNumber h.number → All (λ k. IsBefore k h) (take i hs) → AreHits es faces (take (i + 1) hs)
hits_more es faces hs i h below is known inside lower face number before =
    let so_far = take i hs in
    let step : take (i + 1) hs ≡ so_far ++ h ∷ [] = rw is at (take_more hs i h below) in
    subst (AreHits es faces) (sym step) (record {
      on_edges = All-push (λ k. (k.edge < length es) × (k.edge < twin es k.edge)) so_far h known.on_edges (inside, lower);
      on_faces = All-push (λ k. k.face < faces) so_far h known.on_faces face;
      numbers = All-push (λ k. IsNumber k.number) so_far h known.numbers number;
      ascending = all_pairs_push IsBefore so_far h known.ascending before;
    })
