use Rattle.std.proofs.Common.{◌≡◌, ◌≤◌, ◌+◌, ◌-◌, Result, length, drop, refl, sym, ap, subst, arith, ◌∙◌}
use Rattle.std.specs.Prelude.{IfErr, IfOk}
use Rattle.std.specs.List.{take_while}
use Rattle.std.proofs.lemmas.List.{length-drop, take_all}
use Rattle.query_words.specs.declared.faults.QueryFault.{QueryFault}
use Rattle.query_words.specs.Reading.{Read, atom, attribute_read, is_of_pattern, pattern_read}
use Rattle.query_words.specs.Steps.{IsCompiled, IsFault}
use Rattle.query_words.proofs.AtomLemmas.{atom_is, atom_named}
use Rattle.query_words.proofs.atoms.atom.Goals as goal

named : (c : goal.After-pattern_read) → pattern_read (c.args.at + 5) c.pattern_of.result.now ≡ atom c.args.at c.args.rest.now
named c =
    let rest = drop 5 c.args.rest.now in
    let short : length rest ≤ length c.args.rest.now - 5 = omega (arith, length-drop 5 c.args.rest.now) in
    let all = c.pattern_of.ensures ∙ ap (take_while is_of_pattern) (take_all (length c.args.rest.now - 5) rest short) in
    ap (pattern_read (c.args.at + 5)) all ∙ sym (atom_named c.args.at c.args.rest.now (sym c.if-begins_name.ensures.answer))

pub returns-then-begins_name-clause-answer : goal.returns-then-begins_name-clause-answer
returns-then-begins_name-clause-answer c =
    subst (λ (r : Result Read QueryFault). IfOk c.pattern_read.result (IsCompiled r c.args.steps.now.items c.pattern_read.new.steps.items)) (named c)
    c.pattern_read.ensures.answer

pub returns-then-begins_name-clause-refused : goal.returns-then-begins_name-clause-refused
returns-then-begins_name-clause-refused c =
    subst (λ (r : Result Read QueryFault). IfErr c.pattern_read.result (IsFault r)) (named c) c.pattern_read.ensures.refused

plain : (c : goal.After-attribute_read) → attribute_read c.args.at c.word_of-word.result.now c.attribute_of.result ≡ atom c.args.at c.args.rest.now
plain c =
    let is = atom_is c.args.at c.args.rest.now (sym c.if-begins_name.ensures.answer) in
    rw (is, c.attribute_of.ensures, c.word_of-word.ensures) refl

pub returns-clause-answer : goal.returns-clause-answer
returns-clause-answer c =
    subst (λ (r : Result Read QueryFault). IfOk c.attribute_read.result (IsCompiled r c.args.steps.now.items c.attribute_read.new.steps.items)) (plain c)
    c.attribute_read.ensures.answer

pub returns-clause-refused : goal.returns-clause-refused
returns-clause-refused c =
    subst (λ (r : Result Read QueryFault). IfErr c.attribute_read.result (IsFault r)) (plain c) c.attribute_read.ensures.refused
