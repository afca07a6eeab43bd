-- Names that directives and conditions take, over the edited files: their links, and whether they name a macro.
use Rattle.std.proofs.Common.{◌≡◌, Bool, true, false, cond, List, [], ◌∷◌, ◌++◌, map, Option, Some, None, is_some, refl, ap, sym, ◌∙◌, inl, inr}
use Rattle.std.specs.Option.{option_map}
use Rattle.std.specs.Str.{bytes_eq}
use Rattle.std.proofs.lemmas.Bool.{cases_Bool}
use Rattle.std.proofs.lemmas.Bool.Decides.{same_from_decides}
use Rattle.std.proofs.lemmas.List.{map-append}
use Rattle.std.proofs.lemmas.Slice.Eq.{bytes_eq-Decides}
use Rattle.cs_base.specs.Token.{Token}
use Rattle.macro_body.specs.declared.definitions.Definition.{Definition}
use Rattle.macro_body.specs.Macro.{Table as Macros}
use Rattle.macro_expand.specs.Renaming.{Renaming, spelled, renamed, renamed_macro}
use Rattle.unit_steps.specs.State.{State}
use Rattle.unit_steps.specs.Names.{spelled_in, linked_with, name_links, with_name}
use Rattle.unit_steps.specs.Conditions.{is_macro}
use Rattle.source_files.specs.Tables.{IsGrown}
use Rattle.source_files.proofs.TableLemmas.{grown_refl}
use Rattle.edited_unit_laws.specs.Lines.{Each}
use Rattle.edited_unit_laws.specs.Keeping.{Change, KeepsNames}
use Rattle.edited_unit_laws.specs.Renamed.{renamed_happening}
use Rattle.edited_unit_laws.specs.Steps.{IsTaken, KeepsState, moved}
use Rattle.edited_unit_laws.proofs.FollowLemmas.{each-both}

-- the links of names, renamed
pub linked-renamed : (r : Renaming) (name : Token) (o : Option Token) → linked_with (renamed r name) (option_map (renamed r) o) ≡ map (renamed_happening r) (linked_with name o)
linked-renamed r name None = refl
linked-renamed r name (Some first) = refl

-- the first token of a spelling, where spellings are alike anew exactly where they were
pub spelled_in-renamed : (r : Renaming) (name : Token) (ts : List Token) → Each (λ t. bytes_eq (spelled r name) (spelled r t) ≡ bytes_eq name.text t.text) ts
    → spelled_in (map (renamed r) ts) (spelled r name) ≡ option_map (renamed r) (spelled_in ts name.text)
spelled_in-renamed r name [] h = refl
spelled_in-renamed r name (t ∷ ts) h = elim (cases_Bool (bytes_eq name.text t.text)) [
  | inl same ↦ rw (h.0, same) refl
  | inr other ↦ rw (h.0, other) (spelled_in-renamed r name ts h.1)
]

some-same : (r : Renaming) (o : Option Token) → is_some (option_map (renamed r) o) ≡ is_some o
some-same r None = refl
some-same r (Some t) = refl

pub name-grows : (name : Token) (s : State) → IsGrown s.table (with_name name s).table
name-grows name s = by (is_some (spelled_in s.names name.text))
  where
    by : (b : Bool) → IsGrown s.table (cond b s (record s { names = s.names ++ name ∷ [] })).table
    by true = grown_refl s.table
    by false = grown_refl s.table

module _ (c : Change) (names : KeepsNames c) where
  alike-texts : (a b : Token) → IsTaken c a → IsTaken c b → bytes_eq (spelled c.renaming a) (spelled c.renaming b) ≡ bytes_eq a.text b.text
  alike-texts a b h k =
      same_from_decides {P = a.text ≡ b.text} (bytes_eq (spelled c.renaming a) (spelled c.renaming b)) (bytes_eq a.text b.text) (
        (λ e. names.apart a b h.occurs k.occurs h.named k.named ((bytes_eq-Decides (spelled c.renaming a) (spelled c.renaming b)).0 e)),
        (λ e. (bytes_eq-Decides (spelled c.renaming a) (spelled c.renaming b)).1 (h.keeps ∙ ap c.renaming.macro_name e ∙ sym k.keeps)),
      )
      (bytes_eq-Decides a.text b.text)

  all-alike : (name : Token) (ts : List Token) → IsTaken c name → Each (IsTaken c) ts → Each (λ t. bytes_eq (spelled c.renaming name) (spelled c.renaming t) ≡ bytes_eq name.text t.text) ts
  all-alike name [] h k = tt
  all-alike name (t ∷ ts) h k = (alike-texts name t h k.0, all-alike name ts h k.1)

  taken-spelled : (name : Token) (s : State) → IsTaken c name → Each (IsTaken c) s.names
      → spelled_in (map (renamed c.renaming) s.names) (spelled c.renaming name) ≡ option_map (renamed c.renaming) (spelled_in s.names name.text)
  taken-spelled name s h k = spelled_in-renamed c.renaming name s.names (all-alike name s.names h k)

  -- the link of a name that is taken
  pub name_links-renamed : (name : Token) (macros : Macros) (s : State) → IsTaken c name → Each (IsTaken c) s.names
      → name_links (renamed c.renaming name) (moved c macros s) ≡ map (renamed_happening c.renaming) (name_links name s)
  name_links-renamed name macros s h k =
      ap (linked_with (renamed c.renaming name)) (taken-spelled name s h k) ∙ linked-renamed c.renaming name (spelled_in s.names name.text)

  -- the state behind it
  pub with_name-renamed : (name : Token) (macros : Macros) (s : State) → IsTaken c name → Each (IsTaken c) s.names
      → with_name (renamed c.renaming name) (moved c macros s) ≡ moved c macros (with_name name s)
  with_name-renamed name macros s h k =
      let told : is_some (spelled_in (map (renamed c.renaming) s.names) (spelled c.renaming name)) ≡ is_some (spelled_in s.names name.text) =
      ap (λ (o : Option Token). is_some o) (taken-spelled name s h k) ∙ some-same c.renaming (spelled_in s.names name.text) in
      ap (λ (b : Bool). cond b (moved c macros s) (record (moved c macros s) { names = map (renamed c.renaming) s.names ++ renamed c.renaming name ∷ [] })) told
      ∙ by (is_some (spelled_in s.names name.text))
    where
      by : (b : Bool) → cond b (moved c macros s) (record (moved c macros s) { names = map (renamed c.renaming) s.names ++ renamed c.renaming name ∷ [] })
          ≡ moved c macros (cond b s (record s { names = s.names ++ name ∷ [] }))
      by true = refl
      by false = ap (λ (ns : List Token). record (moved c macros s) { names = ns }) (sym (map-append (renamed c.renaming) s.names (name ∷ [])))

  pub with_name-taken : (name : Token) (s : State) → IsTaken c name → Each (IsTaken c) s.names → Each (IsTaken c) (with_name name s).names
  with_name-taken name s h k = by (is_some (spelled_in s.names name.text))
    where
      by : (b : Bool) → Each (IsTaken c) (cond b s (record s { names = s.names ++ name ∷ [] })).names
      by true = k
      by false = each-both (IsTaken c) s.names (name ∷ []) k (h, tt)

  pub with_name-kept : (name : Token) (macros : Macros) (s : State) → IsTaken c name → KeepsState c macros s → KeepsState c macros (with_name name s)
  with_name-kept name macros s h kept = by (is_some (spelled_in s.names name.text))
    where
      by : (b : Bool) → KeepsState c macros (cond b s (record s { names = s.names ++ name ∷ [] }))
      by true = kept
      by false = record { macros = kept.macros; bodies = kept.bodies; names = each-both (IsTaken c) s.names (name ∷ []) kept.names (h, tt) }

  -- ---- whether a name is that of a macro

  none-anew : (name : Token) (macros : Macros) (s : State) (o : Option Definition) → IsTaken c name → KeepsState c macros s → s.macros name.text ≡ None → macros (spelled c.renaming name) ≡ o → o ≡ None
  none-anew name macros s None h kept none is = refl
  none-anew name macros s (Some m) h kept none is =
      let before = kept.macros.no_other (spelled c.renaming name) m is in
      let same : name.text ≡ before.0 = kept.macros.spelled_like name before.0 before.1 h.occurs h.named before.2 before.3 in
      absurd (let wrong : ◌≡◌ {A = Option Definition} (Some before.1) None = sym before.2 ∙ ap s.macros (sym same) ∙ none in cc)

  macro-by : (name : Token) (macros : Macros) (s : State) (o : Option Definition) → IsTaken c name → KeepsState c macros s → s.macros name.text ≡ o
      → macros (spelled c.renaming name) ≡ option_map (renamed_macro c.renaming) o
  macro-by name macros s None h kept is = none-anew name macros s (macros (spelled c.renaming name)) h kept is refl
  macro-by name macros s (Some m) h kept is = ap macros h.keeps ∙ kept.macros.stands name.text m is

  -- the macro of a name that is taken
  pub macro-renamed : (name : Token) (macros : Macros) (s : State) → IsTaken c name → KeepsState c macros s
      → macros (spelled c.renaming name) ≡ option_map (renamed_macro c.renaming) (s.macros name.text)
  macro-renamed name macros s h kept = macro-by name macros s (s.macros name.text) h kept refl

  some-macro : (o : Option Definition) → is_some (option_map (renamed_macro c.renaming) o) ≡ is_some o
  some-macro None = refl
  some-macro (Some m) = refl

  pub is_macro-same : (name : Token) (macros : Macros) (s : State) → IsTaken c name → KeepsState c macros s
      → is_macro (renamed c.renaming name) (moved c macros s) ≡ is_macro name s
  is_macro-same name macros s h kept =
      ap (λ (o : Option Definition). is_some o) (macro-renamed name macros s h kept) ∙ some-macro (s.macros name.text)
