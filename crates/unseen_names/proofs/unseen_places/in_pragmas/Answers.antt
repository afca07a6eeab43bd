use Rattle.std.proofs.Common.{◌≡◌, List, [], length, sym, subst, rules, ◌∙◌}
use Rattle.cs_base.specs.declared.positions.Part.{Part}
use Rattle.class_marks.specs.Keeping.{Keeps}
use Rattle.class_marks.proofs.KeepLemmas.{keeps_none}
use Rattle.unseen_names.specs.Unseen.{IsUnprocessed}
use Rattle.unseen_names.proofs.UnseenLemmas.{empty_list}
use Rattle.unseen_names.proofs.unseen_places.in_pragmas.Goals as goal

pub returns-then-is_empty : goal.returns-then-is_empty
returns-then-is_empty c =
    let P : Part → Type 0 = IsUnprocessed c.args.a.now.value in
    let items = c.in_ok-words.words.items in
    let zero : length items ≡ 0 = search rules in
    let none : items ≡ [] = empty_list items zero in
    subst (λ (ps : List Part). Keeps P ps items) (sym none ∙ c.in_ok-words.ensures) (keeps_none P items none)

pub returns : goal.returns
returns c =
    let a = c.args.a.now.value in
    rw (c.deref.ensures.value ∙ c.in_ok-words.ensures) at c.unprocessed.ensures
