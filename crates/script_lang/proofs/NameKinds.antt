-- What stands beside names, from a map of references to names.
use Rattle.std.proofs.Common.{◌≡◌, Bool, true, false, List, [], ◌∷◌, map, Option, Some, refl, ap, sym, ◌∙◌, Bor}
use Rattle.std.specs.Option.{option_map}
use Rattle.std.specs.Prelude.{if◌then◌else◌, bytes_eq}
use Rattle.std.proofs.lemmas.Slice.Eq.{bytes_eq-Decides}
use Rattle.std.proofs.Math.Path.{fun_ext}
use Rattle.std.specs.Map.{lookup}
use Rattle.indexmap.specs.IndexMap.{insert_entry}
use Rattle.run_terms.specs.Files.{Bytes}
use Rattle.script_lang.specs.Names.{beside, with_more}

-- two references to the same bytes
abbrev pub same : Bor Bytes → Bor Bytes → Bool
same x y = bytes_eq x.now y.now

-- the names themselves, each with what is seen of what stands beside it
abbrev pub listed : {X Y : Type 0} → (X → Y) → List (Bor Bytes × X) → List (Bytes × Y)
listed f es = map (λ e. (e.0.now, f e.1)) es

module _ {X Y : Type 0} (f : X → Y) where
  -- a name that is there takes the new
  taken : (n : Bytes) (k : Bor Bytes) (e : Bor Bytes × X) (y : Y) (rest : Option Y) → same k e.0 ≡ true
      → (if bytes_eq n e.0.now then Some y else rest) ≡ (if bytes_eq n k.now then Some y else (if bytes_eq n e.0.now then Some (f e.1) else rest))
  taken n k e y rest is =
      let equal : k.now ≡ e.0.now = (bytes_eq-Decides k.now e.0.now).0 is in
      by (bytes_eq n e.0.now) ∙ ap (λ (w : Bytes). if bytes_eq n w then Some y else (if bytes_eq n e.0.now then Some (f e.1) else rest)) (sym equal)
    where
      by : (b : Bool) → (if b then Some y else rest) ≡ (if b then Some y else (if b then Some (f e.1) else rest))
      by true = refl
      by false = refl

  -- another keeps what it has
  kept : (n : Bytes) (k : Bor Bytes) (e : Bor Bytes × X) (y : Y) (rest : Option Y) → same k e.0 ≡ false
      → (if bytes_eq n e.0.now then Some (f e.1) else (if bytes_eq n k.now then Some y else rest))
      ≡ (if bytes_eq n k.now then Some y else (if bytes_eq n e.0.now then Some (f e.1) else rest))
  kept n k e y rest other = by (bytes_eq n e.0.now) (bytes_eq n k.now) refl refl
    where
      by : (b c : Bool) → bytes_eq n e.0.now ≡ b → bytes_eq n k.now ≡ c
          → (if b then Some (f e.1) else (if c then Some y else rest)) ≡ (if c then Some y else (if b then Some (f e.1) else rest))
      by false c is_e is_k = refl
      by true false is_e is_k = refl
      by true true is_e is_k =
          let both : k.now ≡ e.0.now = sym ((bytes_eq-Decides n k.now).0 is_k) ∙ (bytes_eq-Decides n e.0.now).0 is_e in
          let there = (bytes_eq-Decides k.now e.0.now).1 both in
          absurd (cc)

  -- what stands beside each name once another has this
  more_at : (es : List (Bor Bytes × X)) (k : Bor Bytes) (x : X) (n : Bytes) → beside (listed f (insert_entry same es k x)) n ≡ with_more k.now (f x) (beside (listed f es)) n
  more_at [] k x n = refl
  more_at (e ∷ es) k x n = by (same k e.0) refl (more_at es k x n)
    where
      by : (b : Bool) → same k e.0 ≡ b → beside (listed f (insert_entry same es k x)) n ≡ with_more k.now (f x) (beside (listed f es)) n
          → beside (listed f (if b then (e.0, x) ∷ es else e ∷ insert_entry same es k x)) n ≡ with_more k.now (f x) (beside (listed f (e ∷ es))) n
      by true is rest = taken n k e (f x) (beside (listed f es) n) is
      by false other rest = ap (λ (r : Option Y). if bytes_eq n e.0.now then Some (f e.1) else r) rest ∙ kept n k e (f x) (beside (listed f es) n) other

  -- the same of all names
  pub more_all : (es fs : List (Bor Bytes × X)) (k : Bor Bytes) (x : X) → fs ≡ insert_entry same es k x → beside (listed f fs) ≡ with_more k.now (f x) (beside (listed f es))
  more_all es fs k x is = ap (λ es. beside (listed f es)) is ∙ fun_ext (λ n. more_at es k x n)

  -- what is looked up at a name stands beside it
  pub found : (es : List (Bor Bytes × X)) (k : Bor Bytes) → option_map f (lookup (same k) es) ≡ beside (listed f es) k.now
  found [] k = refl
  found (e ∷ es) k = by (bytes_eq k.now e.0.now) (found es k)
    where
      by : (b : Bool) → option_map f (lookup (same k) es) ≡ beside (listed f es) k.now
          → option_map f (if b then Some e.1 else lookup (same k) es) ≡ (if b then Some (f e.1) else beside (listed f es) k.now)
      by true rest = refl
      by false rest = rest
