use Rattle.ne_runs.proofs.texts.push_run.Goals as goal
use Rattle.std.proofs.Common.{lit<, sym, subst, ◌≡◌, ◌∷◌, ◌++◌, string_bytes, OnOk, drop, take}
use Rattle.std.proofs.Common.{length, ◌-◌, ◌∙◌, arith, List, ℕ, [], ap}
use Rattle.std.specs.Prelude.{slice_get, Some}
use Rattle.std.proofs.Math.Seq.{take-length}
use Rattle.ne_runs.specs.Modes.{row_text}
use Rattle.ne_runs.proofs.Rows.{row_ended}

-- A list that has a first item is that item followed by the others.
first_and_rest : (xs : List ℕ) (first : ℕ) → slice_get xs 0 ≡ Some first
    → xs ≡ first ∷ take (length xs - 1) (drop 1 xs)
first_and_rest [] first e = let e = e in cc
first_and_rest (x ∷ xs) first e =
    let count : length (x ∷ xs) - 1 ≡ length xs = omega arith in
    let all : take (length (x ∷ xs) - 1) xs ≡ xs = ap (λ n. take n xs) count ∙ take-length xs in
    let is : x ≡ first = let e = e in cc in
    subst (λ y. x ∷ xs ≡ y ∷ take (length (x ∷ xs) - 1) xs) is (ap (λ l. x ∷ l) (sym all))

pub returns : goal.returns
returns c =
    let run = c.args.run.now in
    let first = c.first-first.result.now in
    let whole = subst (λ items. run ≡ first ∷ take (length items - 1) (drop 1 items))
    (sym c.as_slice.ensures.same) (first_and_rest run _ c.first-first.ensures) in
    subst (λ row. OnOk c.push.result
    (string_bytes c.push.new.self ≡ string_bytes c.args.text.now ++ row_text row)) (sym whole)
    (row_ended c.push.result _ _ _ _ _ _ c.loop-number.number-index c.in_ok-write.ensures.bytes
    c.loop-number.invariant c.loop-number-test.false
    (rw (c.push.ensures.ascii (lit< tt)) at c.push.ensures.bytes))
