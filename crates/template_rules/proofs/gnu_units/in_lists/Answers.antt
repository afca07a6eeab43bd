use Rattle.std.proofs.Common.{◌++◌}
use Rattle.std.specs.Prelude.{map}
use Rattle.std.specs.List.{flat_map}
use Rattle.cs_base.specs.declared.causes.Cause.TheVariants as cause
use Rattle.offences.specs.First.{standing}
use Rattle.offences.proofs.FirstLemmas.{then_both}
use Rattle.template_rules.specs.GnuOffences.{block_place, first_call_place, text_place, told_place}
use Rattle.template_rules.proofs.gnu_units.in_lists.Goals as goal

pub returns : goal.returns
returns c =
    let f = c.args.unit.now in
    let table = c.args.a.now.value.table in
    let lists = c.args.lists.now in
    let told = told_place f.class.members f.text.now.toks f.bound.now.names in
    let counts = standing cause.CountedParameter (flat_map told lists.counts) in
    let symbols = standing cause.AssemblerText (flat_map told lists.symbols) in
    let texts = standing cause.AssemblerText (flat_map (text_place (map (λ t. t.now) c.args.words.now) f.text.now.toks) lists.texts) in
    let begins = standing cause.DeclarationInArgument
    (flat_map (block_place f.class.members f.text.now.toks f.bound.now.names (f.bound.now.declarators ++ f.bound.now.calls)) lists.begins) in
    let calls = standing cause.DeclarationInArgument
    (flat_map (first_call_place f.class.members f.text.now.toks f.bound.now.names (f.bound.now.declarators ++ f.bound.now.calls)) f.bound.now.names) in
    let one = rw c.counts.ensures at c.at_each-counted.ensures in
    let two = rw c.symbols.ensures at c.at_each-named.ensures in
    let three = rw (c.toks.ensures, c.texts.ensures) at c.in_ok-told.ensures in
    let four = rw c.begins.ensures at c.at_blocks-begun.ensures in
    let five = rw c.names.ensures at c.at_first_calls.ensures in
    then_both table counts (symbols ++ (texts ++ (begins ++ calls))) c.args.first c.at_each-counted.result c.at_first_calls.result one
    (then_both table symbols (texts ++ (begins ++ calls)) c.at_each-counted.result c.at_each-named.result c.at_first_calls.result two
    (then_both table texts (begins ++ calls) c.at_each-named.result c.in_ok-told.told c.at_first_calls.result three
    (then_both table begins calls c.in_ok-told.told c.at_blocks-begun.result c.at_first_calls.result four five)))
