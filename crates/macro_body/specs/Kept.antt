-- What is kept of what happens in expansions.
use Rattle.std.specs.Prelude.{ℕ, List, ◌++◌, map, Result, Ok, Err}
use Rattle.cs_base.specs.declared.tokens.Link.{Link}
use Rattle.cs_base.specs.Token.{Token, origin_at}
use Rattle.macro_body.specs.declared.notes.Work.{Work}
use Rattle.macro_body.specs.declared.notes.Replacement.{Replacement}
use Rattle.macro_body.specs.Hides.{Hidden, toks_of}
use Rattle.macro_body.specs.Notes.{Fault, Note, links_in, pasted_in, stringized_in, replaced_in, counted_in, Expanded}
use Rattle.macro_body.specs.Substitution.{Made}

-- Links, pasted tokens, tokens that strings were made of, replacements, and numbers of the unit, each in order.
pub record Kept : Type 0 where
  pub links : List Link
  pub pasted : List Token
  pub stringized : List Token
  pub replaced : List Replacement
  pub counted : List Token

abbrev pub kept : List Link → List Token → List Token → List Replacement → List Token → Kept
kept links pasted stringized replaced counted = record {
  links = links;
  pasted = pasted;
  stringized = stringized;
  replaced = replaced;
  counted = counted;
}

-- a link as it is kept
abbrev pub link_of : Token × Token → Link
link_of pair = record { x = pair.0; y = pair.1 }

-- a replacement as it is kept: of the macro's name only the position stays
abbrev pub replacement_of : Token × Token × ℕ → Replacement
replacement_of row = record { name = row.0; def = origin_at row.1 0; before = row.2 }

-- what is kept, with what happened then
abbrev pub kept_with : Kept → List Note → Kept
kept_with before notes =
    kept (before.links ++ map link_of (links_in notes)) (before.pasted ++ pasted_in notes)
    (before.stringized ++ stringized_in notes) (before.replaced ++ map replacement_of (replaced_in notes))
    (before.counted ++ counted_in notes)

-- what was made, and what is kept of what happened
abbrev pub made_kept : {A : Type 0} → Kept → Result (Made A) Fault → Result (A × Kept) Fault
made_kept before (Ok m) = Ok (m.value, kept_with before m.notes)
made_kept before (Err fault) = Err fault

-- the tokens of an expansion behind those that were put out before, the work that is left, and what is
-- kept of what happened
abbrev pub finished : Kept → List Hidden → Result Expanded Fault → Result (List Hidden × Work × Kept) Fault
finished before out (Ok e) = Ok (out ++ e.toks, e.left, kept_with before e.notes)
finished before out (Err fault) = Err fault

-- the tokens of an expansion without their hide sets, the work that is left, and what is kept of what
-- happened
abbrev pub expanded_kept : Kept → Result Expanded Fault → Result (List Token × Work × Kept) Fault
expanded_kept before (Ok e) = Ok (toks_of e.toks, e.left, kept_with before e.notes)
expanded_kept before (Err fault) = Err fault
