-- What contracts see of the request that words make.
use Rattle.std.specs.Prelude.{List, ℕ, []}
use Rattle.cs_base.specs.Paths.{normal_path_of}
use Rattle.generated.specs.Generated.{workspace_path}
use Rattle.command_words.specs.declared.requests.Ask.{Ask}
use Rattle.command_words.specs.declared.requests.Ask.TheVariants as ask
use Rattle.command_words.specs.declared.requests.Edit.{Edit}
use Rattle.command_words.specs.declared.requests.Edit.TheVariants.{Renaming, Template, Macro}
use Rattle.command_words.specs.declared.requests.NamedClass.{NamedClass}
use Rattle.command_words.specs.declared.requests.Rename.{Rename}
use Rattle.command_words.specs.declared.requests.Reordering.{Reordering}
use Rattle.command_words.specs.declared.requests.Report.{Report}
use Rattle.command_words.specs.declared.requests.Report.TheVariants.{Class, Unused, Includes, Calls, Find}
use Rattle.command_words.specs.declared.requests.Request.{Request}
use Rattle.command_words.specs.declared.requests.Request.TheVariants.{Help, Version, Generated, Over}
use Rattle.command_words.specs.Request.{RenameValue, rename, TemplateValue, template_at, order_of, ClassValue, class_at, EditValue, rename_asked, template_asked, macro_asked, ReportValue, class_asked, unused_asked, includes_asked, calls_asked, find_asked, AskValue, tokens_asked, skipped_asked, check_asked, report_asked, edit_asked, trim_asked, batch_asked, RequestValue, help_asked, version_asked, generated_asked, asked_over}

-- a rename in words, its path in its normal form
abbrev pub rename_value : Rename → RenameValue
rename_value r = rename (normal_path_of r.path.now) r.line r.column r.name.now r.strings

-- a new order of parameters in words, its path in its normal form
abbrev pub template_value : Reordering → TemplateValue
template_value t = template_at (normal_path_of t.path.now) t.line t.column (order_of t.order.now)

-- a report on the class of a name, in words, its path in its normal form
abbrev pub class_value : NamedClass → ClassValue
class_value q = class_at (normal_path_of q.path.now) q.line q.column

-- an edit in words
abbrev pub edit_value : Edit → EditValue
edit_value (Renaming r) = rename_asked (rename_value r)
edit_value (Template t) = template_asked (template_value t)
edit_value (Macro t) = macro_asked (template_value t)

-- a report in words
abbrev pub report_value : Report → ReportValue
report_value (Class q) = class_asked (class_value q)
report_value Unused = unused_asked
report_value Includes = includes_asked
report_value Calls = calls_asked
report_value (Find query) = find_asked query.now

-- what is asked over a workspace, in words
abbrev pub ask_value : Ask → AskValue
ask_value (ask.Tokens unit) = tokens_asked unit
ask_value ask.Skipped = skipped_asked
ask_value ask.Check = check_asked
ask_value (ask.Report report) = report_asked (report_value report)
ask_value (ask.Edit edit) = edit_asked (edit_value edit)
ask_value (ask.Trim stays) = trim_asked stays
ask_value (ask.Batch file) = batch_asked file.now

-- the request that words make
abbrev pub request_value : Request → RequestValue
request_value Help = help_asked
request_value Version = version_asked
request_value (Generated n) = generated_asked n
request_value (Over ws asks) = asked_over ws.now (ask_value asks)

-- the workspace file of a request, or nothing where it has none
abbrev pub workspace_file : Request → List ℕ
workspace_file Help = []
workspace_file Version = []
workspace_file (Generated n) = workspace_path
workspace_file (Over ws asks) = ws.now
