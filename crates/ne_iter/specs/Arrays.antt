-- The items of an array as a source; its iterator yields them.
use Rattle.std.specs.Prelude.{ℕ, List}
use Rattle.std.proofs.Common.{subst, ◌≡◌}
use Rattle.std.proofs.lemmas.List.{nil_from_length}
use Rattle.std.specs.Array.Iter.{array_into_iter_items, array_steps}
use Rattle.std.specs.declared.array.IntoIter.{IntoIter}
use Rattle.ne_vec.specs.Lists.{IsPrefix, Lists, Listed}
use Rattle.ne_vec.specs.ListLaws.{is_prefix, lists_of, triggered}
use Rattle.ne_iter.specs.declared.array.ArrayNonEmptyIterator.{ArrayNonEmptyIterator}

-- The items of an array as a source.
abbrev pub array_items : {T : Type 0} {N : ℕ} → ArrayNonEmptyIterator T N → List T
array_items s = s.items

module _ {U T : Type 0} {N : ℕ} (becomes : U → IntoIter T N → Type 0) (s : U) (a : List T)
    (same : (it : IntoIter T N) → becomes s it → array_into_iter_items it ≡ a) where
  lists : Lists becomes array_steps (λ x. x) s a
  lists = lists_of becomes array_steps s a (λ it made whole ys given.
      subst (λ l. IsPrefix whole l ys) (same it made)
      (is_prefix array_steps array_into_iter_items (λ s t x st. st)
      (λ s t st. nil_from_length (array_into_iter_items s) st.0) it ys given))

  pub array_gives : Listed becomes array_steps (λ x. x) s a
  array_gives = (triggered s a, lists)
