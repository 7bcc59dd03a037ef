-- The twins, the fans and the mesh one after the other.
use Rattle.std.proofs.Common.{◌≡◌, ◌<◌, ◌≤◌, ◌*◌, ℕ, ℤ, List, length, get_or, map, refl, sym, ◌∙◌, ap, subst, arith}
use Rattle.std.specs.List.{All}
use Rattle.std.proofs.lemmas.List.{length-map}
use Rattle.chain_terms.specs.Chains.{all_edges, dir}
use Rattle.chain_terms.specs.Ranks.{start}
use Rattle.face_plane.specs.Planes.{point_at}
use Rattle.halfedge.specs.Clean.{IsClean}
use Rattle.halfedge.proofs.Edges.{length-all_edges}
use Rattle.mesh_terms.specs.Meshes.{IsAccepted, IsBelow, Triple, triple_of, triples_of}
use Rattle.pinch_split.proofs.Whole.{start_below}
use Rattle.sheet_terms.specs.Twins.{twins_by_angle}
use Rattle.sheet_terms.specs.Vertices.{fans_by, over_fans, settled}
use Rattle.fan_laws.specs.Laws.{IsParted, parted}
use Rattle.fan_laws.specs.Pairs.{ArePaired}
use Rattle.fan_laws.proofs.Numbers.{are_numbers}
use Rattle.fan_laws.proofs.Parted.{can_part, fans_part}
use Rattle.fan_laws.proofs.RoundEdges.{twins_by_angle_are_paired}
use Rattle.fan_laws.proofs.Settling.{changes_settle}
use Rattle.angle_pairing.proofs.Numbering.{firsts_below}

module _ (points : List (List ℤ)) (ts : List Triple) (accepted : IsAccepted (length points) ts) where
  abbrev n : ℕ
  n = length points

  abbrev es : List (ℕ × ℕ)
  es = all_edges ts

  pub angle_paired : (twins : List ℕ) → twins ≡ twins_by_angle points ts → ArePaired (all_edges ts) twins
  angle_paired twins is = subst (ArePaired (all_edges ts)) (sym is) (twins_by_angle_are_paired points ts accepted.mesh.three accepted.closed)

  module _ (given twins : List ℕ) (given_is : given ≡ twins_by_angle points ts) (is : twins ≡ settled (length points) ts given) where
    whole_is : twins ≡ settled (length points) ts (twins_by_angle points ts)
    whole_is = is ∙ ap (settled (length points) ts) given_is

    pub settled_paired : ArePaired (all_edges ts) twins
    settled_paired =
        subst (ArePaired (all_edges ts)) (sym is)
        (changes_settle (length points) ts given accepted.mesh.three accepted.mesh.below (angle_paired given given_is)).paired

    pub firsts_low : (firsts : List ℕ) → firsts ≡ (fans_by (length points) ts twins).first → All (λ h. h < 3 * length ts) firsts
    firsts_low firsts firsts_is k d low =
        let at : get_or firsts k d ≡ get_or (fans_by (length points) ts twins).first k d = ap (λ l. get_or l k d) firsts_is in
        omega (
          arith,
          at,
          firsts_below (length points) ts accepted.mesh.below twins settled_paired k d (omega (arith, low, ap length firsts_is)),
          settled_paired.full,
          length-all_edges ts,
        )

    pub of_many : (of : List ℕ) → of ≡ (fans_by (length points) ts twins).of → length of ≡ 3 * length ts
    of_many of of_is =
        ap length of_is
        ∙ (are_numbers (length points) (all_edges ts) twins settled_paired.are settled_paired.full
        (λ h low. start_below (length points) ts accepted.mesh.below h low)).one_each
        ∙ settled_paired.full ∙ length-all_edges ts

    pub triples_are : (of : List ℕ) → of ≡ (fans_by (length points) ts twins).of → over_fans of (length ts) ≡ (parted points ts).triples
    triples_are of of_is = ap (λ l. over_fans l (length ts)) (of_is ∙ ap (λ t. (fans_by (length points) ts t).of) whole_is)

    pub from_are : (firsts from : List ℕ) → firsts ≡ (fans_by (length points) ts twins).first → from ≡ map (start (all_edges ts)) firsts → from ≡ (parted points ts).from
    from_are firsts from firsts_is from_is =
        from_is ∙ ap (map (start (all_edges ts))) (firsts_is ∙ ap (λ t. (fans_by (length points) ts t).first) whole_is)

  is_parted : IsParted (length points) ts (parted points ts)
  is_parted = fans_part points ts (can_part (length points) ts accepted)

  pub from_low : (from : List ℕ) → from ≡ (parted points ts).from → All (λ v. v < length points) from
  from_low from is = subst (All (λ v. v < length points)) (sym is) is_parted.from

  pub parted_accepted : (at : List (List ℤ)) (made : List Triple) → at ≡ map (point_at points) (parted points ts).from → made ≡ (parted points ts).triples →
      IsAccepted (length at) made
  parted_accepted at made at_is made_is =
      subst (IsAccepted (length at)) (sym made_is)
      (subst (λ k. IsAccepted k (parted points ts).triples) (sym (ap length at_is ∙ length-map (parted points ts).from (point_at points))) is_parted.accepted)

  pub parted_clean : (made : List Triple) → made ≡ (parted points ts).triples → IsClean (all_edges made)
  parted_clean made is = subst (λ t. IsClean (all_edges t)) (sym is) is_parted.clean

  pub parted_once : (made : List Triple) → made ≡ (parted points ts).triples → (a b : ℕ) → dir (all_edges made) a b ≤ 1
  parted_once made is = subst (λ t. (a b : ℕ) → dir (all_edges t) a b ≤ 1) (sym is) is_parted.once

-- what was read and made one after the other
pub record AreSteps (points : List (List ℤ)) (triples : List (List ℕ)) (twins read of firsts firsts_read from from_read of_read : List ℕ) : Type 0 where
  pub settles : (n : ℕ) → All (IsBelow n) (triples_of triples) → twins ≡ settled n (triples_of triples) (twins_by_angle points (triples_of triples))
  pub read_is : read ≡ twins
  pub of_is : of ≡ (fans_by (length points) (triples_of triples) read).of
  pub firsts_is : firsts ≡ (fans_by (length points) (triples_of triples) read).first
  pub firsts_read_is : firsts_read ≡ firsts

module _ (points : List (List ℤ)) (triples : List (List ℕ)) (accepted : IsAccepted (length points) (triples_of triples))
    (twins read of firsts firsts_read from from_read of_read : List ℕ)
    (are : AreSteps points triples twins read of firsts firsts_read from from_read of_read) where
  abbrev ts : List Triple
  ts = triples_of triples

  abbrev angles : List ℕ
  angles = twins_by_angle points (triples_of triples)

  many : length ts ≡ length triples
  many = length-map triples triple_of

  settles_here : twins ≡ settled (length points) (triples_of triples) (twins_by_angle points (triples_of triples))
  settles_here = are.settles (length points) accepted.mesh.below

  pub step_paired : ArePaired (all_edges (triples_of triples)) read
  step_paired = subst (ArePaired (all_edges (triples_of triples))) (sym are.read_is) (settled_paired points (triples_of triples) accepted angles twins refl settles_here)

  of_here : of ≡ (fans_by (length points) (triples_of triples) twins).of
  of_here = are.of_is ∙ ap (λ t. (fans_by (length points) (triples_of triples) t).of) are.read_is

  firsts_here : firsts_read ≡ (fans_by (length points) (triples_of triples) twins).first
  firsts_here = are.firsts_read_is ∙ are.firsts_is ∙ ap (λ t. (fans_by (length points) (triples_of triples) t).first) are.read_is

  pub step_firsts : All (λ h. h < 3 * length triples) firsts_read
  step_firsts =
      subst (λ m. All (λ h. h < 3 * m) firsts_read) many (firsts_low points (triples_of triples) accepted angles twins refl settles_here firsts_read firsts_here)

  pub step_of : of_read ≡ of → length of_read ≡ 3 * length triples
  step_of is = ap length is ∙ of_many points (triples_of triples) accepted angles twins refl settles_here of of_here ∙ ap (λ m. 3 * m) many

  from_here : from ≡ map (start (all_edges (triples_of triples))) firsts_read → from ≡ (parted points (triples_of triples)).from
  from_here is = from_are points (triples_of triples) accepted angles twins refl settles_here firsts_read from firsts_here is

  pub step_from : from ≡ map (start (all_edges (triples_of triples))) firsts_read → from_read ≡ from → All (λ v. v < length points) from_read
  step_from is read_too = from_low points (triples_of triples) accepted from_read (read_too ∙ from_here is)

  pub step_points : from ≡ map (start (all_edges (triples_of triples))) firsts_read → from_read ≡ from → (at : List (List ℤ)) → at ≡ map (point_at points) from_read →
      at ≡ map (point_at points) (parted points (triples_of triples)).from
  step_points is read_too at at_is = at_is ∙ ap (map (point_at points)) (read_too ∙ from_here is)

  pub step_triples : of_read ≡ of → (made : List Triple) → made ≡ over_fans of_read (length triples) → made ≡ (parted points (triples_of triples)).triples
  step_triples is made made_is =
      made_is ∙ ap (over_fans of_read) (sym many) ∙ ap (λ l. over_fans l (length (triples_of triples))) is
      ∙ triples_are points (triples_of triples) accepted angles twins refl settles_here of of_here
