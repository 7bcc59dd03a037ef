-- The records of a face, as they are found one face after the other.
use Rattle.std.proofs.Common.{◌≡◌, ℕ, ◌+◌, ◌-◌, ◌≤◌, List, drop, take, length, arith, ap, subst, sym, ◌∙◌}
use Rattle.source_faces.specs.Agreement.{Ascend, records_of}
use Rattle.source_faces.specs.Groups.{earlier}
use Rattle.source_faces.specs.Stands.{group_end}
use Rattle.source_faces.specs.declared.lists.stands.Stand.{Stand}
use Rattle.source_faces.proofs.RecordGroups.{ascend_faces, earlier_none, group_ends, group_slice, group_within}

-- none is of a face before the first
pub none_first : (ss : List Stand) → earlier ss 0 ≡ 0
none_first ss = earlier_none ss 0 (λ i d below. omega arith)

-- where those of earlier faces end, those of face x begin
pub group_there : (ss : List Stand) (x begin end : ℕ) → Ascend ss → begin ≡ earlier ss x → end ≡ group_end ss begin x →
    take (end - begin) (drop begin ss) ≡ records_of ss x
group_there ss x begin end up at to =
    let last : end ≡ group_end ss (earlier ss x) x = to ∙ ap (λ n. group_end ss n x) at in
    ap (λ n. take (n - begin) (drop begin ss)) last ∙ ap (λ n. take (group_end ss (earlier ss x) x - n) (drop n ss)) at
    ∙ group_slice ss x (ascend_faces ss up)

-- those of the next face follow
pub next_there : (ss : List Stand) (x begin end : ℕ) → Ascend ss → begin ≡ earlier ss x → end ≡ group_end ss begin x → end ≡ earlier ss (x + 1)
next_there ss x begin end up at to = to ∙ ap (λ n. group_end ss n x) at ∙ group_ends ss x (ascend_faces ss up)

-- and they end among the records
pub end_there : (ss : List Stand) (x begin end : ℕ) → Ascend ss → begin ≡ earlier ss x → end ≡ group_end ss begin x → end ≤ length ss
end_there ss x begin end up at to = subst (λ n. n ≤ length ss) (sym (to ∙ ap (λ n. group_end ss n x) at)) (group_within ss x (ascend_faces ss up))
