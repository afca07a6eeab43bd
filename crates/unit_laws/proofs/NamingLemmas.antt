-- Names that are processed: their links, and the state behind them.
use Rattle.std.proofs.Common.{◌≡◌, Bool, true, false, cond, List, [], ◌∷◌, ◌++◌, Option, Some, None, is_some, refl}
use Rattle.cs_base.specs.Token.{Token}
use Rattle.unit_steps.specs.State.{State}
use Rattle.unit_steps.specs.Names.{spelled_in, linked_with, name_links, with_name}
use Rattle.source_files.specs.Tables.{IsGrown}
use Rattle.source_files.proofs.TableLemmas.{grown_refl}
use Rattle.unit_laws.proofs.DoneLemmas.{AllIn, all_both, NotedSo, NameHas, StateHas}
use Rattle.unit_laws.proofs.PartLemmas.{spelled_has}

cond_table : (b : Bool) (s : State) (names : List Token) → IsGrown s.table (cond b s (record s { names = names })).table
cond_table true s names = grown_refl s.table
cond_table false s names = grown_refl s.table

pub name_grown : (name : Token) (s : State) → IsGrown s.table (with_name name s).table
name_grown name s = cond_table (is_some (spelled_in s.names name.text)) s (s.names ++ name ∷ [])

module _ (P : Token → Type 0) where
  pub linked_so : (name : Token) (o : Option Token) → NameHas P name → ((first : Token) → o ≡ Some first → NameHas P first × (name.text ≡ first.text))
      → AllIn (NotedSo P) (linked_with name o)
  linked_so name None here h = tt
  linked_so name (Some first) here h =
      let k = h first refl in
      ((here.0, k.0.0, record { first = here.1; second = k.0.1; text = k.1 }), tt)

  pub name_links_so : (name : Token) (s : State) → NameHas P name → StateHas P s → AllIn (NotedSo P) (name_links name s)
  name_links_so name s here has =
      linked_so name (spelled_in s.names name.text) here (λ first e. spelled_has P s.names name.text first has.names e)

  cond_names : (b : Bool) (name : Token) (s : State) → NameHas P name → StateHas P s → StateHas P (cond b s (record s { names = s.names ++ name ∷ [] }))
  cond_names true name s here has = has
  cond_names false name s here has = record { macros = has.macros; names = all_both (NameHas P) s.names (name ∷ []) has.names (here, tt) }

  pub with_name_has : (name : Token) (s : State) → NameHas P name → StateHas P s → StateHas P (with_name name s)
  with_name_has name s here has = cond_names (is_some (spelled_in s.names name.text)) name s here has
