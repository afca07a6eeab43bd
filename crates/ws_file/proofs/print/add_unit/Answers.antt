use Rattle.std.proofs.Common.{◌≡◌, ◌++◌, List, ℕ, map, ap, sym, ◌∙◌, append_assoc, rules}
use Rattle.std.specs.Prelude.{IfOk}
use Rattle.std.proofs.lemmas.Result.{IfOk-equal}
use Rattle.cs_base.specs.Units.{ended_line}
use Rattle.ws_file.specs.Printing.{project_line, standard_lines, qpath_line, ipath_line, define_line, included_line, file_line, unit_lines, lines_text}
use Rattle.ws_file.proofs.PrintLemmas.{lines_text-unit_lines}
use Rattle.ws_file.proofs.print.add_unit.Goals as goal

seven_parts : (old a s q b c i d : List ℕ) → ((((((old ++ a) ++ s) ++ q) ++ b) ++ c) ++ i) ++ d ≡ old ++ (a ++ (s ++ (q ++ (b ++ (c ++ (i ++ d))))))
seven_parts old a s q b c i d = simp append_assoc

pub returns : goal.returns
returns c =
    let old = c.args.text.now.items in
    let u = c.args.unit.now in
    let project = ended_line (project_line u.project) in
    let standard = lines_text (standard_lines u.standard) in
    let qpath = lines_text (map qpath_line u.qpath) in
    let ipath = lines_text (map ipath_line u.ipath) in
    let defines = lines_text (map define_line u.settings) in
    let includes = lines_text (map included_line u.includes) in
    let file = ended_line (file_line u.path) in
    let now = c.add_line-2.new.text.items in
    let so_far : c.add_includes.new.text.items ≡ (((((old ++ project) ++ standard) ++ qpath) ++ ipath) ++ defines) ++ includes = search rules in
    let added : IfOk c.add_line-2.result (λ _. now ≡ c.add_includes.new.text.items ++ file) = search rules in
    let whole : c.add_includes.new.text.items ++ file ≡ old ++ lines_text (unit_lines u) =
    ap (λ (text : List ℕ). text ++ file) so_far
    ∙ seven_parts old project standard qpath ipath defines includes file
    ∙ ap (λ (text : List ℕ). old ++ text) (sym (lines_text-unit_lines u)) in
    IfOk-equal c.add_line-2.result now (c.add_includes.new.text.items ++ file) (old ++ lines_text (unit_lines u)) added whole
