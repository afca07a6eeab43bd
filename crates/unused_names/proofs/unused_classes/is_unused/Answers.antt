use Rattle.std.proofs.Common.{◌≡◌, List, ℕ, sym, ap, ◌∙◌}
use Rattle.std.specs.Prelude.{codes}
use Rattle.std.specs.Str.{bytes_eq}
use Rattle.analysis.specs.Spellings.{spelling_of}
use Rattle.unused_names.specs.Unused.{IsUnused}
use Rattle.class_marks.proofs.AnswerLemmas.{told_not}
use Rattle.unused_names.proofs.unused_classes.is_unused.Goals as goal

pub is_declared_alone-requires : goal.is_declared_alone-requires
is_declared_alone-requires c = record { part = c.requires.first.is_part; declared = c.requires.declared; used = c.requires.used }

pub returns-then-not-is_declared_alone : goal.returns-then-not-is_declared_alone
returns-then-not-is_declared_alone c = λ x. c.if-not-is_declared_alone.ensures x.alone

pub returns-then-has_read_only : goal.returns-then-has_read_only
returns-then-has_read_only c = λ x. x.edited c.if-has_read_only.ensures

pub returns : goal.returns
returns c =
    let a = c.args.a.now.value in
    let name : c.is_main-is_main.result ≡ bytes_eq (spelling_of a c.args.part) (codes "main") =
    c.is_main-is_main.ensures ∙ ap (λ (text : List ℕ). bytes_eq text (codes "main")) c.spelling.ensures in
    told_not c.is_main-is_main.result (IsUnused a c.args.part)
    (λ yes x. let not = x.other_name in cc)
    (λ not. record {
      first = c.requires.first;
      alone = c.if-not-is_declared_alone.ensures;
      edited = c.if-has_read_only.ensures;
      other_name = sym name ∙ not;
    })
