-- Which grammar reads the C of a standard.
use Rattle.cs_base.specs.declared.ws_units.Standard.{Standard}
use Rattle.cs_base.specs.declared.ws_units.Standard.TheVariants as standard
use Rattle.c99_grammar.specs.declared.dialects.Dialect.{Dialect}
use Rattle.c99_grammar.specs.declared.dialects.Dialect.TheVariants.{Iso, Gnu}
use Rattle.c99_grammar.specs.declared.dialects.Edition.{Edition}
use Rattle.c99_grammar.specs.declared.dialects.Edition.TheVariants.{C99, C11}

-- the edition of ISO/IEC 9899 that a standard follows: GNU C has the words of the later one also in `gnu99`
abbrev pub edition : Standard → Edition
edition standard.C99 = C99
edition standard.C11 = C11
edition standard.Gnu99 = C11
edition standard.Gnu11 = C11

-- Each standard of ISO/IEC 9899 is read by the grammar of its edition, those of GNU C by that of gcc.
abbrev pub dialect : Standard → Dialect
dialect standard.C99 = Iso C99
dialect standard.C11 = Iso C11
dialect standard.Gnu99 = Gnu
dialect standard.Gnu11 = Gnu
