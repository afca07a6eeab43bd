use Rattle.std.proofs.Common.{◌≡◌, List, ℕ, sym, ap, ◌∙◌}
use Rattle.std.specs.Prelude.{codes}
use Rattle.std.specs.Str.{bytes_eq}
use Rattle.analysis.specs.Spellings.{spelling_of}
use Rattle.class_marks.proofs.AnswerLemmas.{told_false, told_not, told_true}
use Rattle.unused_names.specs.Unused.{IsUnused}
use Rattle.unused_names.proofs.unused_classes.is_unused_class.Goals as goal

pub returns : goal.returns
returns c =
    let a = c.args.a.now.value in
    let name : c.is_main-is_main.result ≡ bytes_eq (spelling_of a c.args.part) (codes "main") =
    c.is_main-is_main.ensures ∙ ap (λ (text : List ℕ). bytes_eq text (codes "main")) c.spelling.ensures in
    told_not c.is_main-is_main.result (IsUnused a c.args.part)
    (λ yes x. let not = x.other_name in cc)
    (λ not. record {
      first = c.requires.first;
      alone = record {
        declared = told_true c.args.declared _ _ c.if-not-declared.false c.requires.declared;
        unused = told_false c.args.used _ _ c.if-used.false c.requires.used;
      };
      edited = told_false c.args.read_only _ _ c.if-read_only.false c.requires.read_only;
      other_name = sym name ∙ not;
    })
