use Rattle.std.proofs.Common.{◌≡◌, List, [], length, sym, subst, rules}
use Rattle.cs_base.specs.declared.positions.Part.{Part}
use Rattle.class_marks.specs.Keeping.{Keeps}
use Rattle.class_marks.proofs.AnswerLemmas.{if_ok_then}
use Rattle.class_marks.proofs.KeepLemmas.{keeps_none}
use Rattle.unseen_names.specs.Unseen.{IsIdle, IsUnprocessed, IsUnstated}
use Rattle.unseen_names.proofs.UnseenLemmas.{empty_list, keeps_from, keeps_idle}
use Rattle.unseen_names.proofs.idle.idle.Goals as goal

pub returns-then-is_empty : goal.returns-then-is_empty
returns-then-is_empty c =
    let P : Part → Type 0 = IsIdle c.args.a.now.value in
    let items = c.args.places.items in
    let zero : length items ≡ 0 = search rules in
    let none : items ≡ [] = empty_list items zero in
    subst (λ (ps : List Part). Keeps P ps items) (sym none) (keeps_none P items none)

pub unstated-requires : goal.unstated-requires
unstated-requires c = λ k place at.
    let P : Part → Type 0 = IsUnprocessed c.args.a.now.value in
    let apart = c.in_ok-apart.apart.items in
    let kept : Keeps P c.args.places.items apart = subst (λ (ps : List Part). Keeps P ps apart) c.deref.ensures.value c.in_ok-apart.ensures in
    let was = keeps_from P c.args.places.items apart kept k place at in
    c.requires was.0 place was.1

pub returns : goal.returns
returns c =
    let a = c.args.a.now.value in
    let P : Part → Type 0 = IsUnprocessed a in
    let places = c.args.places.items in
    let apart = c.in_ok-apart.apart.items in
    let kept : Keeps P places apart = subst (λ (ps : List Part). Keeps P ps apart) c.deref.ensures.value c.in_ok-apart.ensures in
    if_ok_then c.unstated.result (λ out. Keeps (IsUnstated a) apart out.items) (λ out. Keeps (IsIdle a) places out.items) c.unstated.ensures
    (λ out more. keeps_idle a places apart out.items kept more)
