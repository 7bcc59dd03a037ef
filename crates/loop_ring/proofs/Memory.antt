-- What nodes own in memory, taken apart and put together. Assumes `Logic`.
use Rattle.loop_ring.proofs.Walking.{◌≡◌, ℕ, ◌<◌, suc, List, [], ◌∷◌, ◌++◌, length, take, drop, set, get_or, refl, sym, ap, ◌∙◌, Ura, full_share, ent, sep, fst∗, never, ftrue, fat, Ty, Val, Logic, sem, Item, Goal, Seq, Step, step, ‵, ◌⊛◌, some, ◌$◌, ◌∵◌, !, qed, done, move, leave, use1, use2, split, fsplit, fjoin, pick, rewrite, Is, shows, part_at, lone, Ptr, block_ptr, null_ptr, in_a_block, nothing, peeks, only}
use borrow.Table.OneValue.{part_in, part_out}
use Rattle.loop_ring.specs.declared.nodes.Node.{Node}
use Rattle.loop_ring.specs.contracts.nodes.Node.{the_row as R}
use Rattle.loop_ring.proofs.nodes.Node.TheLaws.{lowered, lowers}
use Rattle.loop_ring.specs.Located.{Located, nowhere, address_at, may_free, owns_node, owns_nodes}
use Rattle.loop_ring.proofs.Lists.{address_at-is, cut_at, cut_at-set}

-- how a node is stored
abbrev pub node_type : Ty
node_type = lone R.mir

module _ {M : Type 1} {𝓤 : Ura M} (𝓛 : Logic 𝓤) where
  -- two lists of nodes are owned side by side
  pub owns_apart : (ns ms : List Located) → ent 𝓤 (sem 𝓛 (owns_nodes (ns ++ ms))) (sep 𝓤 (sem 𝓛 (owns_nodes ns)) (sem 𝓛 (owns_nodes ms)))
  owns_apart [] ms = qed 𝓛 (‵ (owns_nodes ms) ∷ []) ∵ nothing ! $ done !
  owns_apart (n ∷ ns) ms = qed 𝓛 (‵ (owns_nodes (n ∷ ns ++ ms)) ∷ []) ∵ fsplit ! $ move ! (1 ∷ []) $
      use1 𝓛 (‵ (owns_nodes ns) ⊛ ‵ (owns_nodes ms)) (owns_apart ns ms) $ split ! $ move ! (2 ∷ 0 ∷ []) $ fjoin ! $ done !

  pub owns_together : (ns ms : List Located) → ent 𝓤 (sep 𝓤 (sem 𝓛 (owns_nodes ns)) (sem 𝓛 (owns_nodes ms))) (sem 𝓛 (owns_nodes (ns ++ ms)))
  owns_together [] ms = qed 𝓛 (‵ ftrue ∷ ‵ (owns_nodes ms) ∷ []) ∵ leave ! $ done !
  owns_together (n ∷ ns) ms = qed 𝓛 (‵ (owns_nodes (n ∷ ns)) ∷ ‵ (owns_nodes ms) ∷ []) ∵ fsplit ! $ move ! (1 ∷ 2 ∷ []) $
      use2 𝓛 (‵ (owns_nodes (ns ++ ms))) (owns_together ns ms) $ move ! (1 ∷ 0 ∷ []) $ fjoin ! $ done !

module _ {M : Type 1} {𝓤 : Ura M} {𝓛 : Logic 𝓤} {K : Type 0} {Γ : List (Item 𝓤)} {G : Goal 𝓤 𝓛.H} where
  -- a node that is owned lies in a block: [the memory, which holds it; the right to free the block]
  node_out : K → (n : Located) → ((b o : ℕ) → n.0 ≡ block_ptr b o → Seq K 𝓛 (‵ (fat full_share node_type b o (lowered n.1)) ∷ ‵ (may_free (block_ptr b o)) ∷ Γ) G)
      → Seq K 𝓛 (‵ (owns_node n) ∷ Γ) G
  node_out t n k =
      in_a_block t n.0 (λ at. owns_node (at, n.1)) (fst∗ 𝓤 (never 𝓤) (sem 𝓛 (may_free null_ptr))) (λ b o is. fsplit t $
      use1 𝓛 (some (λ (v : Val). ‵ (fat full_share node_type b o v) ⊛ ‵ (R.own_val n.1 (v ∷ [])))) (part_out 𝓛 R refl full_share n.1 b o) $ pick t (λ v. split t $ move t (1 ∷ []) $
      peeks t R (Is R) (shows 𝓛 R) n.1 (v ∷ [])
      (λ stored. leave t $ rewrite t 0 (λ (w : Val). ‵ (fat full_share node_type b o w)) (ap only (lowers.val_is n.1 (v ∷ []) stored)) refl $ k b o is)))

  -- [the memory, which holds the node; what the node owns of its fields; the right to free the block] make it
  pub node_in : K → (x : Node) (b o : ℕ)
      → Step K 𝓛 (‵ (owns_node (block_ptr b o, x)) ∷ Γ) G (‵ (fat full_share node_type b o (lowered x)) ∷ ‵ (R.own_val x (lowered x ∷ [])) ∷ ‵ (may_free (block_ptr b o)) ∷ Γ) G
  node_in t x b o = step (λ s. use2 𝓛 (‵ (part_at R full_share x b o)) (part_in 𝓛 R refl full_share x b o (lowered x)) $ fjoin t $ s)

-- The i-th of the nodes, whose address is `at`.
module _ {M : Type 1} {𝓤 : Ura M} {𝓛 : Logic 𝓤} {K : Type 0} {Γ : List (Item 𝓤)} {G : Goal 𝓤 𝓛.H} (ns : List Located) (i : ℕ) (at : Ptr) (within : i < length ns) where
  -- [its memory; the right to free its block; the nodes before; the nodes after]
  pub one_out : K → at ≡ address_at ns i
      → ((b o : ℕ) → at ≡ block_ptr b o →
      Seq K 𝓛 (‵ (fat full_share node_type b o (lowered (get_or ns i nowhere).1)) ∷ ‵ (may_free (block_ptr b o)) ∷ ‵ (owns_nodes (take i ns)) ∷ ‵
      (owns_nodes (drop (suc i) ns)) ∷ Γ) G)
      → Seq K 𝓛 (‵ (owns_nodes ns) ∷ Γ) G
  one_out t is k =
      let n = get_or ns i nowhere in let before = take i ns in let behind = drop (suc i) ns in
      rewrite t 0 (λ (ms : List Located). ‵ (owns_nodes ms)) (cut_at ns i within) refl $
      use1 𝓛 (‵ (owns_nodes before) ⊛ ‵ (owns_nodes (n ∷ behind))) (owns_apart 𝓛 before (n ∷ behind)) $ split t $ move t (1 ∷ []) $ fsplit t $
      node_out t n (λ b o there. move t (0 ∷ 1 ∷ 3 ∷ 2 ∷ []) $ k b o (is ∙ address_at-is ns i ∙ there))

  -- the node x put in its place: [its memory; what x owns of its fields; the right to free its block; the nodes before; the nodes after]
  pub one_in : K → (x : Node) (b o : ℕ) → at ≡ block_ptr b o → Step K 𝓛 (‵ (owns_nodes (set ns i (at, x))) ∷ Γ) G
      (‵ (fat full_share node_type b o (lowered x)) ∷ ‵ (R.own_val x (lowered x ∷ [])) ∷ ‵ (may_free (block_ptr b o)) ∷ ‵ (owns_nodes (take i ns)) ∷ ‵
      (owns_nodes (drop (suc i) ns)) ∷ Γ) G
  one_in t x b o is =
      let before = take i ns in let behind = drop (suc i) ns in
      step (λ s. node_in t x b o $ move t (0 ∷ 2 ∷ []) $ fjoin t $ move t (1 ∷ 0 ∷ []) $
      use2 𝓛 (‵ (owns_nodes (before ++ (block_ptr b o, x) ∷ behind))) (owns_together 𝓛 before ((block_ptr b o, x) ∷ behind)) $
      rewrite t 0 (λ (ms : List Located). ‵ (owns_nodes ms)) (ap (λ (p : Ptr). before ++ (p, x) ∷ behind) (sym is) ∙ sym (cut_at-set ns i (at, x) within)) refl $ s)
