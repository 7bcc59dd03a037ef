-- The nodes taken out of a `&mut` to their owner, and put back. Assumes `Logic`.
use Rattle.loop_ring.proofs.Walking.{List, [], ◌∷◌, MutBor, Ura, full_share, Lft, Share, flft, fobs, fauth, fobor, named, Val, Logic, Item, Goal, Seq, Step, Soaks, step, ‵, ◌⊛◌, ◌$◌, move, split, fsplit, fsplit3, fjoin, group, Body, RattleType, cell_at, mem, MutRef, mut_at, opens, closes, Struct, shape}
use Rattle.loop_ring.specs.contracts.nodes.Nodes as C
use Rattle.loop_ring.specs.Located.{Located, owns_nodes}

abbrev R : RattleType
R = C.the_row

-- what the owner has in its fields
abbrev Bare : RattleType
Bare = Struct (shape C.the_type)

abbrev pub Self : Lft → RattleType
Self κ = MutRef (named 0) κ R

module _ {M : Type 1} {𝓤 : Ura M} where
  -- what is left of the `&mut` meanwhile
  abbrev pub rest : Lft → Share → MutBor R.Denot → List Val → List Val → Item 𝓤
  rest κ q self vs us =
      let b = self.ref_ptr.0 in let o = self.ref_ptr.1 in let γ = self.ghost_name in let code = R.coded.code self.now in
      ‵ (mut_at self vs) ⊛ ‵ (Bare.own_val (tt, tt) us) ⊛ ‵ (cell_at full_share R.mir us b o) ⊛ ‵ (fobor κ q (Body (mem R) b o γ)) ⊛ ‵ (fobs γ code) ⊛ ‵ (fauth γ code)

module _ {M : Type 1} {𝓤 : Ura M} {𝓛 : Logic 𝓤} {K : Type 0} {Γ : List (Item 𝓤)} {G : Goal 𝓤 𝓛.H} (self : MutBor R.Denot) (vs : List Val) where
  -- [the nodes; the rest]
  pub nodes_out : K → Soaks G → {κ : Lft} {q : Share} → ((us : List Val) → Seq K 𝓛 (‵ (owns_nodes self.now.list) ∷ rest κ q self vs us ∷ Γ) G)
      → Seq K 𝓛 (‵ ((Self κ).own_val self vs) ∷ ‵ (flft κ q) ∷ Γ) G
  nodes_out t z k = fsplit3 t $ move t (1 ∷ 2 ∷ 3 ∷ []) $ opens t z R self.ref_ptr.0 self.ref_ptr.1 (λ us.
      -- [the owner's memory; what it owns; the open borrow, in three; its address]
      move t (1 ∷ []) $ fsplit t $ move t (6 ∷ 0 ∷ 2 ∷ 3 ∷ 4 ∷ 5 ∷ []) $ group t 6 $ move t (1 ∷ []) $ k us)

  -- the same `&mut` over other nodes
  pub nodes_in : K → Soaks G → {κ : Lft} {q : Share} (us : List Val) (ns : List Located)
      → Step K 𝓛 (‵ ((Self κ).own_val (record self { now = record self.now { list = ns } }) vs) ∷ ‵ (flft κ q) ∷ Γ) G (‵ (owns_nodes ns) ∷ rest κ q self vs us ∷ Γ) G
  nodes_in t z us ns = step (λ s. move t (1 ∷ []) $ split t $ move t (1 ∷ []) $ split t $ move t (1 ∷ []) $ split t $ move t (1 ∷ []) $ split t $ move t (1 ∷ []) $ split t $
      -- [the open borrow, in two and one; the owner's memory; its fields; its address; the nodes]
      move t (4 ∷ 6 ∷ []) $ fjoin t $ move t (4 ∷ 0 ∷ 3 ∷ 1 ∷ 2 ∷ []) $ closes t z R (record self.now { list = ns }) us self.ref_ptr.0 self.ref_ptr.1 $
      fjoin t $ move t (2 ∷ 0 ∷ []) $ fjoin t $ s)
