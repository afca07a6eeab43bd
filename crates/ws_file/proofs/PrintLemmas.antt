-- The text of a workspace, part by part.
use Rattle.std.proofs.Common.{◌≡◌, ℕ, List, [], ◌∷◌, ◌++◌, map, ap, ◌∙◌}
use Rattle.std.specs.List.{flat_map}
use Rattle.std.proofs.lemmas.List.{append-nil}
use Rattle.std.proofs.lemmas.Grind.{flat_map-append}
use Rattle.cs_base.specs.Units.{UnitValue, ended_line}
use Rattle.ws_file.specs.Workspace.{WorkspaceValue}
use Rattle.ws_file.specs.Printing.{readonly_line, project_line, standard_lines, qpath_line, ipath_line, define_line, included_line, file_line, unit_lines, lines_text, workspace_lines, workspace_text}

pub lines_text-append : (xs ys : List (List ℕ)) → lines_text (xs ++ ys) ≡ lines_text xs ++ lines_text ys
lines_text-append xs ys = flat_map-append ended_line xs ys

-- the text of lines before others
before : (xs ys : List (List ℕ)) (text : List ℕ) → lines_text ys ≡ text → lines_text (xs ++ ys) ≡ lines_text xs ++ text
before xs ys text h = lines_text-append xs ys ∙ ap (λ (more : List ℕ). lines_text xs ++ more) h

-- the text of a unit
pub lines_text-unit_lines : (u : UnitValue)
    → lines_text (unit_lines u)
    ≡ ended_line (project_line u.project) ++ (lines_text (standard_lines u.standard) ++ (lines_text (map qpath_line u.qpath)
    ++ (lines_text (map ipath_line u.ipath) ++ (lines_text (map define_line u.settings)
    ++ (lines_text (map included_line u.includes) ++ ended_line (file_line u.path))))))
unfolding unit_lines
lines_text-unit_lines u =
    let end : lines_text (file_line u.path ∷ []) ≡ ended_line (file_line u.path) = append-nil (ended_line (file_line u.path)) in
    ap (λ (text : List ℕ). ended_line (project_line u.project) ++ text)
    (before (standard_lines u.standard) _ _
    (before (map qpath_line u.qpath) _ _
    (before (map ipath_line u.ipath) _ _
    (before (map define_line u.settings) _ _
    (before (map included_line u.includes) _ _ end)))))

-- the text of a workspace
pub workspace_text-is : (ws : WorkspaceValue)
    → workspace_text ws ≡ lines_text (map readonly_line ws.readonly) ++ lines_text (flat_map unit_lines ws.units)
unfolding workspace_text workspace_lines
workspace_text-is ws = lines_text-append (map readonly_line ws.readonly) (flat_map unit_lines ws.units)
