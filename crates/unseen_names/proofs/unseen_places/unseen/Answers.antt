use Rattle.std.proofs.Common.{◌≡◌, ℕ, ◌++◌, List, ap, ◌∙◌, subst, rules}
use Rattle.cs_base.specs.declared.positions.Part.{Part}
use Rattle.analysis.specs.Spellings.{spelling_of}
use Rattle.class_marks.specs.Keeping.{Keeps}
use Rattle.class_marks.proofs.KeepLemmas.{keeps_each}
use Rattle.unseen_names.specs.declared.words.Source.TheVariants.{Names, Pragmas}
use Rattle.unseen_names.specs.Reach.{ReachesStart}
use Rattle.unseen_names.specs.Unseen.{IsOther, IsUnprocessed}
use Rattle.unseen_names.specs.Words.{words_of}
use Rattle.unseen_names.proofs.UnseenLemmas.{are_unseen}
use Rattle.unseen_names.proofs.unseen_places.unseen.Goals as goal

pub idle-requires : goal.idle-requires
idle-requires c = λ k place at.
    let a = c.args.a.now.value in
    let other = keeps_each (IsOther a c.args.part) c.deref.result.now c.in_ok-apart.apart.items c.in_ok-apart.ensures k place at in
    other.whole

pub returns : goal.returns
returns c =
    let a = c.args.a.now.value in
    let part = c.args.part in
    let others = c.in_ok-apart.apart.items in
    let idle = c.in_ok-left.left.items in
    let quoted = c.in_ok-quoted.quoted.items in
    let reached = c.in_ok-places.places.items in
    let words : c.deref.result.now ≡ words_of a Names (spelling_of a part) =
    c.deref.ensures.value ∙ c.in_ok-words.ensures ∙ ap (words_of a Names) c.spelling.ensures in
    let other = subst (λ (ps : List Part). Keeps (IsOther a part) ps others) words c.in_ok-apart.ensures in
    let unread = subst (λ (name : List ℕ). Keeps (IsUnprocessed a) (words_of a Pragmas name) quoted) c.spelling-2.ensures c.in_ok-quoted.ensures in
    let both : c.extend_from_slice.new.self.items ≡ idle ++ quoted = search rules in
    let reaches = subst (λ (ps : List Part). Keeps (ReachesStart a part) ps reached) both c.in_ok-places.ensures in
    are_unseen a part others idle quoted reached c.sort.new.parts.items other c.in_ok-left.ensures unread reaches c.in_ok-sort.ensures.moved
    c.in_ok-sort.ensures.sorted
