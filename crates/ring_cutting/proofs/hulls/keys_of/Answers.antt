use Rattle.std.proofs.Common.{ℕ, ◌∷◌, ◌++◌, [], map, sym, ap, ◌∙◌}
use Rattle.std.proofs.lemmas.List.{map_push}
use Rattle.chain_laws.proofs.Places.{upto_more}
use Rattle.ring_cutting.proofs.hulls.keys_of.Goals as goal

pub loop-i-preserved : goal.loop-i-preserved
loop-i-preserved c =
    ap (map (λ (k : ℕ × ℕ). k.1)) c.in_ok-push.ensures.items ∙ map_push (λ (k : ℕ × ℕ). k.1) c.loop-i.keys.items (c.bits_in_turn.result, c.loop-i.i)
    ∙ ap (λ l. l ++ c.loop-i.i ∷ []) c.loop-i.invariant ∙ sym (upto_more c.loop-i.i)
