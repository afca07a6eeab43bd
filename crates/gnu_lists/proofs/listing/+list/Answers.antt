use Rattle.std.proofs.Common.{sym, ap, ◌∙◌, ◌++◌, arith}
use Rattle.std.proofs.lemmas.List.{append-nil}
use Rattle.gnu_lists.specs.declared.tokens.Mark.TheVariants.{Text as AText, Count as ACount}
use Rattle.gnu_lists.specs.Lists.{places_in, texts_in, told_below, blocks_in}
use Rattle.c_types.proofs.ChildWalks.{from_child-end}
use Rattle.gnu_lists.proofs.listing.+list.Goals as goal

pub list-returns-clause-places : goal.list-returns-clause-places
list-returns-clause-places t c =
    sym (append-nil c.children.all.places.items)
    ∙ (ap (λ f. c.children.all.places.items ++ places_in c.args.toks.now f)
    (sym (from_child-end c.args.tree.now.under c.children.k (omega (arith, c.children-test.false, c.len-count.ensures))))
    ∙ c.children.invariant.places)

pub list-returns-clause-texts : goal.list-returns-clause-texts
list-returns-clause-texts t c =
    sym (append-nil c.children.all.texts.items)
    ∙ (ap (λ f. c.children.all.texts.items ++ texts_in c.args.toks.now c.args.inside f)
    (sym (from_child-end c.args.tree.now.under c.children.k (omega (arith, c.children-test.false, c.len-count.ensures))))
    ∙ c.children.invariant.texts)

pub list-returns-clause-counts : goal.list-returns-clause-counts
list-returns-clause-counts t c =
    sym (append-nil c.children.all.counts.items)
    ∙ (ap (λ f. c.children.all.counts.items ++ told_below c.args.toks.now ACount f)
    (sym (from_child-end c.args.tree.now.under c.children.k (omega (arith, c.children-test.false, c.len-count.ensures))))
    ∙ c.children.invariant.counts)

pub list-returns-clause-symbols : goal.list-returns-clause-symbols
list-returns-clause-symbols t c =
    sym (append-nil c.children.all.symbols.items)
    ∙ (ap (λ f. c.children.all.symbols.items ++ told_below c.args.toks.now AText f)
    (sym (from_child-end c.args.tree.now.under c.children.k (omega (arith, c.children-test.false, c.len-count.ensures))))
    ∙ c.children.invariant.symbols)

pub list-returns-clause-begins : goal.list-returns-clause-begins
list-returns-clause-begins t c =
    sym (append-nil c.children.all.begins.items)
    ∙ (ap (λ f. c.children.all.begins.items ++ blocks_in f)
    (sym (from_child-end c.args.tree.now.under c.children.k (omega (arith, c.children-test.false, c.len-count.ensures))))
    ∙ c.children.invariant.begins)
