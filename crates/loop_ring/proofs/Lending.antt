-- What is lent of the nodes while they are borrowed. Assumes `Logic`.
use Rattle.std.proofs.Common.{ℕ, zero, suc, ◌<◌, List, [], ◌∷◌, length, get_or, arith}
use seplogic.Ra.Ura.{Ura}
use base.Fml.{Lft, ftrue}
use base.Fraction.{full_share}
use base.Logic.{ent, via, fst∗, snd∗}
use types.Logic.{Logic, sem}
use denote.Sharing.{ShrLaws}
use denote.SharingLaws.{beside_shr_laws, nothing_shr_laws}
use denote.Shares.{Shares-less}
use denote.RawPtr.{lies_at}
use denote.Struct.Lending.{lent_at, lent_at_shr_laws, Lends, Lends-lies, Lends-first, Lends-both, Lends-nothing}
use Rattle.loop_ring.specs.contracts.nodes.Node.{the_row}
use Rattle.loop_ring.proofs.nodes.Node.TheLaws.{the_row_laws, the_within}
use Rattle.loop_ring.specs.Located.{Located, nowhere, may_free, owns_node, owns_nodes, lends_nodes}

-- it can be copied, and lent for less long
pub lends_nodes-laws : (ns : List Located) → ShrLaws (lends_nodes ns)
lends_nodes-laws [] = nothing_shr_laws
lends_nodes-laws (n ∷ ns) = beside_shr_laws _ _ (lent_at_shr_laws the_row the_row_laws.shr_laws n.0 n.1) (lends_nodes-laws ns)

module _ {M : Type 1} {𝓤 : Ura M} (𝓛 : Logic 𝓤) (κ : Lft) where
  -- a borrow of all nodes lends each
  pub lends_nodes-Lends : (ns : List Located) → Lends 𝓛 (owns_nodes ns) (lends_nodes ns) κ
  lends_nodes-Lends [] = Lends-nothing 𝓛 ftrue κ
  lends_nodes-Lends (n ∷ ns) =
      let node = Lends-lies 𝓛 the_row κ n.0 n.1 (Shares-less 𝓛 the_row (the_row).lives κ (the_within κ) (the_row_laws.shares 𝓛) n.1) in
      let first = Lends-first 𝓛 (lies_at the_row full_share n.0 n.1) (may_free n.0) (lent_at the_row n.0 n.1) κ node in
      Lends-both 𝓛 (owns_node n) (owns_nodes ns) (lent_at the_row n.0 n.1) (lends_nodes ns) κ first (lends_nodes-Lends ns)

  -- one of those that are lent
  pub lends_one : (ns : List Located) (i : ℕ) → i < length ns → ent 𝓤 (sem 𝓛 (lends_nodes ns κ)) (sem 𝓛 (lent_at the_row (get_or ns i nowhere).0 (get_or ns i nowhere).1 κ))
  lends_one [] i within = absurd (omega arith)
  lends_one (n ∷ ns) zero within = fst∗ 𝓤 _ (sem 𝓛 (lends_nodes ns κ))
  lends_one (n ∷ ns) (suc i) within = via 𝓤 _ (snd∗ 𝓤 (sem 𝓛 (lent_at the_row n.0 n.1 κ)) _) (lends_one ns i (omega arith))
