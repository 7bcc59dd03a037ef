-- What it says that two values compare as equal.
use Rattle.std.proofs.Common.{is_lt, ◌≡◌, ℕ, false, refl, arith}
use Rattle.std.specs.Ordering.{nat_cmp, ordering_reverse, ordering_then}
use Rattle.std.specs.declared.cmp.Ordering.{Ordering}
use Rattle.std.specs.declared.cmp.Ordering.TheVariants.{Less, Equal, Greater}
use Rattle.std.proofs.lemmas.Bool.Decides.{nat_tests}

-- where neither is less, they are equal
pub equal_both : (o p : Ordering) → o ≡ ordering_reverse p → is_lt o ≡ false → is_lt p ≡ false → o ≡ Equal
equal_both Less p e h k = absurd (cc)
equal_both Equal p e h k = refl
equal_both Greater Less e h k = absurd (cc)
equal_both Greater Equal e h k = e
equal_both Greater Greater e h k = absurd (cc)

-- the two of a comparison by one and then by another
pub first_equal : (o p : Ordering) → ordering_then o p ≡ Equal → o ≡ Equal
first_equal Less p e = absurd (cc)
first_equal Equal p e = refl
first_equal Greater p e = absurd (cc)

pub second_equal : (o p : Ordering) → ordering_then o p ≡ Equal → p ≡ Equal
second_equal Less p e = absurd (cc)
second_equal Equal p e = e
second_equal Greater p e = absurd (cc)

-- numbers that do are one
pub same_number : (v w : ℕ) → nat_cmp v w ≡ Equal → v ≡ w
same_number v w e = grind (arith, nat_tests, e)
