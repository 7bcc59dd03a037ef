-- Labels that are not in a list are empty.
use Rattle.std.proofs.Common.{◌≡◌, ◌≤◌, ◌-◌, inl, inr, ℕ, List, [], ◌++◌, length, replicate, refl, sym, ◌∙◌, arith, length-append}
use Rattle.std.specs.List.{All}
use Rattle.std.proofs.Math.ListN.{get_or-eq_default}
use Rattle.std.proofs.Math.Seq.{get_or-append_right}
use Rattle.std.proofs.lemmas.Bool.{cases_lt}
use Rattle.std.proofs.lemmas.List.{get_or-replicate, get_or_append_left, length-replicate}
use Rattle.std.proofs.lemmas.List.Elements.{All-nil, All-append, All-replicate}
use Rattle.mesh_terms.specs.Labels.{IsLabelWord, IsLabel, AreLabels, label_at, labels_for, no_labels}
use Rattle.mesh_terms.specs.Meshes.{Triple}

pub IsLabel-empty : IsLabel []
IsLabel-empty = record { words = []; joined = refl; each = All-nil IsLabelWord; short = omega arith }

-- an empty label for each triple
pub no_labels-are : (ts : List Triple) → AreLabels (length ts) (no_labels ts)
no_labels-are ts = record { one_each = length-replicate (length ts) []; each = All-replicate IsLabel (length ts) [] IsLabel-empty }

-- labels with empty ones behind them
pub labels_for-are : (ts : List Triple) (labels : List (List ℕ)) → length labels ≤ length ts → All IsLabel labels → AreLabels (length ts) (labels_for ts labels)
labels_for-are ts labels few all =
    let behind : List (List ℕ) = replicate (length ts - length labels) [] in
    record {
      one_each = omega (arith, few, length-append labels behind, length-replicate {A = List ℕ} (length ts - length labels) []);
      each = All-append IsLabel labels behind all (All-replicate IsLabel (length ts - length labels) [] IsLabel-empty);
    }

-- the label at any place
label_at-empty : (n t : ℕ) → label_at (replicate n []) t ≡ []
label_at-empty n t = elim (cases_lt t n) as (λ _. label_at (replicate n []) t ≡ []) [
  | inl within ↦ get_or-replicate n t [] [] within
  | inr past ↦ get_or-eq_default (replicate n []) [] (omega (arith, past, length-replicate {A = List ℕ} n []))
]

pub label_at-none : (ts : List Triple) (t : ℕ) → label_at (no_labels ts) t ≡ []
label_at-none ts t = label_at-empty (length ts) t

pub label_at-for : (ts : List Triple) (labels : List (List ℕ)) (t : ℕ) → label_at (labels_for ts labels) t ≡ label_at labels t
label_at-for ts labels t =
    let behind : List (List ℕ) = replicate (length ts - length labels) [] in
    elim (cases_lt t (length labels)) as (λ _. label_at (labels ++ behind) t ≡ label_at labels t) [
      | inl within ↦ get_or_append_left labels behind [] t within
      | inr past ↦ get_or-append_right labels behind t [] past ∙ label_at-empty (length ts - length labels) (t - length labels) ∙ sym (get_or-eq_default labels [] past)
    ]
