-- The sum of the values of a group is at most the sum of the values of all rows, in any order.
use Rattle.std.proofs.Common.{◌≡◌, ◌+◌, ◌<◌, ◌≤◌, ℕ, zero, suc, List, [], ◌∷◌, ◌++◌, length, get_or}
use Rattle.std.proofs.Common.{ap, ap₂, sym, ◌∙◌, arith, nat_eq}
use Rattle.std.proofs.lemmas.List.Sums.{sum-map, sum_by-append}
use Rattle.std.proofs.lemmas.List.Sorted.{sum_by-IsPermutation}
use Rattle.std.specs.Prelude.{All, sum}
use Rattle.std.specs.List.Sorted.{IsPermutation}
use Rattle.nonempty_collections.specs.Divisions.{concat}
use Rattle.nonempty_collections.specs.Keys.{IsDividedBy}
use Rattle.user_programs.specs.Reports.{values}
use Rattle.user_programs.specs.declared.report.Row.{Row}

sum_of_both : (g rows : List Row) → sum (values (g ++ rows)) ≡ sum (values g) + sum (values rows)
sum_of_both g rows = sum-map value (g ++ rows) ∙ sum_by-append value g rows
    ∙ sym (ap₂ (λ m n. m + n) (sum-map value g) (sum-map value rows))
  where
    value : Row → ℕ
    value r = r.value

group_fits : (gs : List (List Row)) (i : ℕ) (d : List Row) → i < length gs
    → sum (values (get_or gs i d)) ≤ sum (values (concat gs))
group_fits [] i d h = absurd (omega (arith, h))
group_fits (g ∷ gs) zero d h = omega (arith, sum_of_both g (concat gs))
group_fits (g ∷ gs) (suc i) d h =
    omega (arith, sum_of_both g (concat gs), group_fits gs i d (omega (arith, h)))

pub groups_fit : (rows : List Row) (gs : List (List Row)) (n : ℕ)
    → IsDividedBy (λ r. r.key) nat_eq rows gs → sum (values rows) < n
    → All (λ g. sum (values g) < n) gs
unfolding IsDividedBy
groups_fit rows gs n h fits i d less =
    omega (arith, group_fits gs i d less, ap (λ l. sum (values l)) h.whole, fits)

pub sums_stay : (rows sorted : List Row) → IsPermutation rows sorted
    → sum (values sorted) ≡ sum (values rows)
sums_stay rows sorted same = sum-map value sorted ∙ sum_by-IsPermutation value rows sorted same
    ∙ sym (sum-map value rows)
  where
    value : Row → ℕ
    value r = r.value
