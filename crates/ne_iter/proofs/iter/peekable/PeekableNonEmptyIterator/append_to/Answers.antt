use Rattle.ne_iter.proofs.iter.peekable.PeekableNonEmptyIterator.append_to.Goals as goal
use Rattle.std.proofs.Common.{◌≡◌, [], ◌∷◌, ◌++◌, refl, sym, ap, ◌∙◌, append_assoc, true, false}
use Rattle.std.specs.Prelude.{Option, Some, None}
use Rattle.std.specs.Iterator.Adapters.{chain_steps, once_steps}
use Rattle.std.proofs.lemmas.List.{append-nil}
use Rattle.std.specs.declared.iter.Once.{Once}
use Rattle.ne_iter.proofs.Appended.{list_appended, DrainsIf-failed}
use Rattle.ne_iter.proofs.Chain.{chain_of, DrainsIf-chained}

abbrev once_of : {A : Type 0} → Option A → Once A
once_of x = record { item = x }

pub append-requires : goal.append-requires
append-requires g c =
    let first = c.args.self.first in
    let ready = c.requires (chain_of (once_of (Some first)) c.args.self.rest false)
    (refl, refl, refl, refl) in (ready.0.1 refl, ready.1)

pub returns-clause-gives : goal.returns-clause-gives
returns-clause-gives g c =
    let first = c.args.self.first in
    let rest = c.args.self.rest in
    let fresh = once_of (Some first) in
    let over = once_of {A = g.row.I-Item.Denot} None in
    let read = c.in_ok-_rest.ensures in (
      first ∷ read.0,
      record {
        it = chain_of fresh rest false;
        made = (refl, refl, refl, refl);
        given = DrainsIf-chained once_steps g.I.Iterator.next_gives (true ≡ true) (first ∷ [])
            read.0 fresh over over rest (over, (refl, refl), refl) (refl, refl) read.1;
      },
      read.2 ∙ ap (λ l. l ++ read.0) c.in_ok-push_first.ensures.items
          ∙ append_assoc c.args.items.now.items (first ∷ []) read.0,
    )

pub returns-in_err-_rest-clause-gives : goal.returns-in_err-_rest-clause-gives
returns-in_err-_rest-clause-gives g c =
    let first = c.args.self.first in
    let rest = c.args.self.rest in
    let fresh = once_of (Some first) in
    let over = once_of {A = g.row.I-Item.Denot} None in
    let read = c.in_err-_rest.ensures in
    let ran = DrainsIf-chained once_steps g.I.Iterator.next_gives (false ≡ true) (first ∷ [])
    read.0 fresh over over rest (over, (refl, refl), refl) (refl, refl) read.1 in (
      first ∷ read.0,
      record {
        it = chain_of fresh rest false;
        made = (refl, refl, refl, refl);
        given = DrainsIf-failed (chain_steps once_steps g.I.Iterator.next_gives)
            c.from_residual-in_err-_rest.result c.from_residual-in_err-_rest.ensures.0
            (chain_of fresh rest false) ran.0 (first ∷ read.0) ran.1;
      },
      read.2 ∙ ap (λ l. l ++ read.0) c.in_ok-push_first.ensures.items
          ∙ append_assoc c.args.items.now.items (first ∷ []) read.0,
    )

pub returns-in_err-push_first-clause-gives : goal.returns-in_err-push_first-clause-gives
returns-in_err-push_first-clause-gives g c =
    let begun = chain_of (once_of (Some c.args.self.first)) c.args.self.rest false in (
      [],
      record {
        it = begun;
        made = (refl, refl, refl, refl);
        given = DrainsIf-failed (chain_steps once_steps g.I.Iterator.next_gives)
            c.from_residual.result c.from_residual.ensures.0 begun begun [] refl;
      },
      c.in_err-push_first.ensures.items ∙ sym (append-nil c.args.items.now.items),
    )

pub returns-clause-lists : goal.returns-clause-lists
returns-clause-lists g c = list_appended _ _ c.args.self c.args.items.now.items
    c.append.new.items.items (returns-clause-gives g c)
