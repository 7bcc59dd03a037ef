-- A block that holds no node, and what a node owns of its fields. Assumes `Logic`.
use Rattle.loop_ring.proofs.Walking.{◌≡◌, ℕ, ◌<◌, ◌^◌, List, [], ◌∷◌, ◌++◌, Ura, refl, ap, ◌∙◌, fst∗, never, froom, Val, vptr, vstruct, vcons, vnil, Logic, sem, Item, Goal, Seq, Step, step, ‵, ◌$◌, move, leave, fsplit, fjoin, fpick, fpack, feq_l, feq_i, rewrite, RattleType, Valss, Is, shows, Ptr, RawPtr, block_ptr, null_ptr, ptr_val, in_a_block, nothing, owned, peeks, within, shape}
use mir.Val.{of_list}
use denote.Struct.Laws.{makes, owes}
use Rattle.std_alloc.specs.Vacant.{vacant}
use Rattle.std_alloc.specs.contracts.room.vacant.Vacant as V
use Rattle.std.specs.declared.alloc.Global.{Global}
use Rattle.std.specs.contracts.alloc.Global.{the_row as G}
use Rattle.std.specs.contracts.impls.GlobalAllocator.TheImpl.{ghosts}
use Rattle.std.proofs.alloc.Global.TheLaws as global
use Rattle.loop_ring.specs.declared.nodes.Node.{Node}
use Rattle.loop_ring.specs.contracts.nodes.Node.{the_row as N, the_type}
use Rattle.loop_ring.proofs.nodes.Node.TheLaws.{lowered, the_laws, the_plain}
use Rattle.loop_ring.specs.Located.{block_type, may_free}

abbrev pub Room : RattleType
Room = V.the_row N G ghosts

-- how it is stored
abbrev pub room_val : ℕ → ℕ → G.Denot → Val
room_val b o handle = vstruct (vcons (vptr b o) (vcons (global.lowered handle) vnil))

module _ {M : Type 1} {𝓤 : Ura M} {𝓛 : Logic 𝓤} {K : Type 0} {Γ : List (Item 𝓤)} {H : Goal 𝓤 𝓛.H} where
  -- a room is taken apart: [memory for a node; the right to free it; the handle]
  pub room_out : K → (room : Room.Denot) (vs : List Val) → ((b o : ℕ) → room.ptr ≡ block_ptr b o → vs ≡ room_val b o room.alloc ∷ []
      → Seq K 𝓛 (‵ (froom block_type b o) ∷ ‵ (may_free (block_ptr b o)) ∷ ‵ (G.own_val room.alloc (global.lowered room.alloc ∷ [])) ∷ Γ) H) →
      Seq K 𝓛 (‵ (Room.own_val room vs) ∷ Γ) H
  room_out t room vs k =
      let token = ghosts.dealloc_token in
      -- [the fields, as parts of one value; the block]
      fsplit t $ move t (1 ∷ []) $ in_a_block t room.ptr (vacant (token room.alloc) N) (fst∗ 𝓤 (never 𝓤) (sem 𝓛 (token room.alloc block_type null_ptr))) (λ b o there. fsplit t $
      move t (1 ∷ []) $ fpack t Global (λ handle. token handle block_type (block_ptr b o)) room.alloc $ move t (2 ∷ []) $
      -- [the fields; the right to free; the memory]
      fpick t (λ parts. fsplit t $ feq_l t (λ whole. fsplit t $ feq_l t (λ pointer. fsplit t $ peeks t G (Is G) (shows 𝓛 G) room.alloc parts.1.0 (λ stored.
      let handle = global.lowers.val_is room.alloc parts.1.0 stored in let address = pointer ∙ ap (λ (p : Ptr). ptr_val p ∷ []) there in
      rewrite t 0 (λ (us : List Val). ‵ (G.own_val room.alloc us)) handle refl $ move t (1 ∷ []) $ leave t $ move t (2 ∷ 1 ∷ 0 ∷ []) $
      k b o there (whole ∙ (λ i. vstruct (of_list (address i ++ (handle i ++ []))) ∷ [])))))))

  -- and made
  pub room_in : K → (handle : G.Denot) (b o : ℕ) → Step K 𝓛 (‵ (Room.own_val (record { ptr = block_ptr b o; alloc = handle }) (room_val b o handle ∷ [])) ∷ Γ) H
      (‵ (froom block_type b o) ∷ ‵ (may_free (block_ptr b o)) ∷ ‵ (G.own_val handle (global.lowered handle ∷ [])) ∷ Γ) H
  room_in t handle b o = step (λ s. let stored : List Val = room_val b o handle ∷ [] in let us : List Val = global.lowered handle ∷ [] in
      move t (1 ∷ []) $ fpick t (λ taker. move t (1 ∷ []) $ fjoin t $ nothing t $ move t (2 ∷ 0 ∷ []) $ fjoin t $
      feq_i t (List Val) (vptr b o ∷ []) (vptr b o ∷ []) refl $ fjoin t $ feq_i t (List Val) stored stored refl $ fjoin t $
      fpack t (Valss (RawPtr ∷ G ∷ [])) (within (shape (V.the_type N G ghosts)) (block_ptr b o, (handle, tt)) stored) (vptr b o ∷ [], (us, tt)) $ fjoin t $ s))

  -- the fields of a node
  pub fields_in : K → (x : Node) → x.value < 2 ^ 32 → Step K 𝓛 (‵ (N.own_val x (lowered x ∷ [])) ∷ Γ) H Γ H
  fields_in t x small = step (λ s. owned t N (Is N) (makes the_type the_plain 𝓛) x (lowered x ∷ []) (owes the_type the_laws x (refl, (refl, ((refl, small), tt)))) $ s)
