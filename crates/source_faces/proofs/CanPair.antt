-- Entries that tell a list with as many starts as ends can be paired.
use Rattle.std.proofs.Common.{◌≡◌, ℕ, ◌+◌, ◌*◌, ◌<◌, true, false, List, map, length, get_or, sym, ap, subst, ◌∙◌, arith}
use Rattle.std.specs.List.{All}
use Rattle.std.proofs.lemmas.List.{length-map}
use Rattle.std.proofs.lemmas.List.Elements.{All-map, Contains-get_or}
use Rattle.chain_terms.specs.Chains.{all_edges}
use Rattle.chain_terms.specs.Sums.{upto}
use Rattle.chain_laws.proofs.Places.{get_or-up_from, length-up_from}
use Rattle.mb_base.specs.declared.results.Entry.{Entry}
use Rattle.side_terms.specs.Lists.{Copy, ListName, ends, starts}
use Rattle.side_terms.specs.Standing.{IsBalanced}
use Rattle.source_faces.specs.declared.lists.stands.Stand.{Stand}
use Rattle.source_faces.specs.Entries.{entry_of}
use Rattle.source_faces.specs.ListParts.{CanBePaired, CanBeSegments, half_entries, half_part}
use Rattle.source_faces.proofs.FaceSegments.{KnownFace, half_list, half_told, number_in, pair_list, pair_records, pair_told, points_of}
use Rattle.source_faces.proofs.Parts.{All-nonempty, pairs_are}
use Rattle.source_faces.proofs.Told.{Tell, told}

-- such entries of a list
can_be_paired : (k : KnownFace) (name : ListName) (entries : List Entry) → Tell (length k.of.copies) (number_in k name) entries →
    length (starts (all_edges k.of.p.triples) (all_edges k.of.q.triples) k.of.copies name) ≡
    length (ends (all_edges k.of.p.triples) (all_edges k.of.q.triples) k.of.copies name) → CanBePaired (points_of k) entries
can_be_paired k name entries tell even = record {
  below =
      λ i d l. let e = get_or entries i d in let low = (tell.only e.vertex e.start (Contains-get_or entries i d l)).0 in
      omega (arith, low, length-map k.of.copies (λ (c : Copy). c.point));
  balanced =
      ap length (told (length k.of.copies) (number_in k name) entries true tell) ∙ even
      ∙ sym (ap length (told (length k.of.copies) (number_in k name) entries false tell));
}

-- those of a half-edge, and of a pair
half_can : (k : KnownFace) → IsBalanced k.of.p k.of.q k.of.copies → (l : ℕ) → l < 3 → CanBePaired (points_of k) (half_list k l)
half_can k balance l low =
    can_be_paired k (k.name l) (half_list k l) (half_told k l low) (balance.even (k.name l) (k.face.listed l (omega (arith, low))))

pair_can : (k : KnownFace) → IsBalanced k.of.p k.of.q k.of.copies → (j : ℕ) → j < k.others → CanBePaired (points_of k) (pair_list k j)
pair_can k balance j low =
    can_be_paired k (k.name (3 + j)) (pair_list k j) (pair_told k j) (balance.even (k.name (3 + j)) (k.face.listed (3 + j) (omega (arith, low))))

-- what holds of each number below n
each_below : (P : ℕ → Type 0) (n : ℕ) → ((i : ℕ) → i < n → P i) → All P (upto n)
each_below P n h i d l =
    let low : i < n = omega (arith, l, length-up_from 0 n) in
    let at : i ≡ get_or (upto n) i d = omega (arith, get_or-up_from 0 n i d low) in subst P at (h i low)

-- so the lists of a face can be paired
pub face_can : (k : KnownFace) → IsBalanced k.of.p k.of.q k.of.copies → CanBeSegments k.of.side k.of.runs (points_of k) k.number k.stands
face_can k balance =
    let Paired : List Stand → Type 0 = λ g. CanBePaired (points_of k) (map entry_of g) in
    let all = upto k.others in
    let zeroth : 3 * k.number + 0 ≡ 3 * k.number = omega arith in
    record {
      first = subst (λ h. CanBePaired (points_of k) (half_entries k.of.side k.of.runs h (half_part 0 k.stands))) zeroth
          (half_can k balance 0 (omega arith));
      second = half_can k balance 1 (omega arith);
      third = half_can k balance 2 (omega arith);
      pairs = subst (All Paired) (sym (pairs_are k.others k.stands k.records.steps k.few))
          (All-nonempty Paired (map (pair_records k) all)
          (All-map Paired (pair_records k) all (each_below (λ j. Paired (pair_records k j)) k.others (pair_can k balance))));
    }
