use Rattle.std.proofs.Common.{◌∷◌}
use Rattle.c99_grammar.specs.declared.classes.Class.TheVariants.{Semicolon}
use Rattle.c99_grammar.specs.First.{specifiers, expressions}
use Rattle.c99_grammar.proofs.AmongLemmas.{among-append, in_first, in_second}
use Rattle.c99_grammar.proofs.first.starts_for_init.Goals as goal

pub returns-then-starts_specifier : goal.returns-then-starts_specifier
returns-then-starts_specifier c =
    in_first _ _ _ _ c.starts_specifier.ensures c.if-starts_specifier.true (among-append specifiers (Semicolon ∷ expressions) c.args.class)

pub returns-else-starts_specifier : goal.returns-else-starts_specifier
returns-else-starts_specifier c =
    in_second _ _ _ _ _ c.starts_specifier.ensures c.if-starts_specifier.false c.starts_expression_line.ensures (among-append specifiers (Semicolon ∷ expressions) c.args.class)
