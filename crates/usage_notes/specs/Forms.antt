-- The words behind each command, as the manual has them (this project's).
use Rattle.std.specs.Prelude.{ℕ, ◌||◌, bytes_eq, if◌then◌else◌, Bool, Option, Some, None, List, codes}

-- commands with a place, and a name or an order behind it
abbrev pub is_edit : List ℕ → Bool
is_edit command = bytes_eq command (codes "rename") || (bytes_eq command (codes "template") || bytes_eq command (codes "macro"))

-- commands without a word behind them
abbrev pub is_alone : List ℕ → Bool
is_alone command =
    bytes_eq command (codes "skipped") || (bytes_eq command (codes "check") || (bytes_eq command (codes "unused")
    || (bytes_eq command (codes "includes") || bytes_eq command (codes "calls"))))

-- what a command takes; none for a word that is no command
abbrev pub form_of : List ℕ → Option (List ℕ)
form_of command =
    if bytes_eq command (codes "rename") then Some (codes "PATH LINE COL NAME [strings]")
    else (if is_edit command then Some (codes "PATH LINE COL ORDER")
    else (if bytes_eq command (codes "class") then Some (codes "PATH LINE COL")
    else (if bytes_eq command (codes "tokens") then Some (codes "UNIT")
    else (if bytes_eq command (codes "trim") then Some (codes "[stays]")
    else (if bytes_eq command (codes "find") then Some (codes "QUERY")
    else (if bytes_eq command (codes "batch") then Some (codes "FILE")
    else (if is_alone command then Some (codes "no word behind it") else None)))))))
