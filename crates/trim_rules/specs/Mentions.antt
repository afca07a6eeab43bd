-- Where the names of a unit are mentioned first and last.
use Rattle.std.specs.Prelude.{ℕ, ◌≡◌, ◌≢◌, ◌<◌, ◌||◌, min, max, nat_le, nat_lt, if◌then◌else◌, Bool, true, false, Option, None, Some, List, [], ◌∷◌, slice_get}
use Rattle.std.specs.Borrow.{Bor}
use Rattle.std.specs.Option.{option_map, option_map_or}
use Rattle.std.specs.Str.{bytes_eq}
use Rattle.cs_base.specs.Token.{Token}
use Rattle.indexmap.specs.IndexMap.{IndexMap, get_by}
use Rattle.analysis.specs.Below.source_files.Files.{Table}
use Rattle.analysis.specs.Below.unit_steps.declared.events.Event.{Event}
use Rattle.analysis.specs.Below.unit_steps.declared.events.Reached.{Reached}
use Rattle.analysis.specs.Below.unit_steps.Texts.{UnitTextValue}
use Rattle.unused_names.specs.Unneeded.{gives_meaning, name_of}
use Rattle.trim_rules.specs.declared.mentions.Mention.{Mention}
use Rattle.trim_rules.specs.Inside.{toks_reached}

-- what the map holds for a spelling
abbrev pub told_at : {S : Type 0} → IndexMap (Bor (List ℕ)) (Option Mention) S → List ℕ → Option (Option Mention)
told_at map text = get_by (λ k. bytes_eq text k.now) map

-- the mention with one more, behind so many events
abbrev pub widened : Option Mention → ℕ → Mention
widened None e = record { first = e; last = e }
widened (Some m) e = record { first = min m.first e; last = max m.last e }

-- where a name is mentioned, with a token, with tokens, and with the items that were reached
abbrev pub with_token : List ℕ → ℕ → Option Mention → Token → Option Mention
with_token name e m t = if bytes_eq name t.text then Some (widened m e) else m

unfoldable pub with_tokens : List ℕ → ℕ → Option Mention → List Token → Option Mention
with_tokens name e m [] = m
with_tokens name e m (t ∷ toks) = with_tokens name e (with_token name e m t) toks

unfoldable pub with_items : Table → List ℕ → Option Mention → List Reached → Option Mention
with_items table name m [] = m
with_items table name m (r ∷ reached) = with_items table name (with_tokens name r.events m (toks_reached table r)) reached

-- A token that `##` made counts as one that is reached before all events, so that it is outside every inclusion.
abbrev pub mention_of : Table → UnitTextValue → List ℕ → Option Mention
mention_of table text name = with_items table name (with_tokens name 0 None text.pasted) text.reached

-- The map tells of the same names, each of which was mentioned also by what this adds.
abbrev pub Widens : (List ℕ → Option Mention → Option Mention) → (List ℕ → Option (Option Mention)) → (List ℕ → Option (Option Mention)) → Type 0
Widens adds old new = (name : List ℕ) → new name ≡ option_map (adds name) (old name)

-- The map tells of each name that one of the first n events gives a meaning to or takes it from, and of none a mention.
pub record HasNames (events : List Event) (n : ℕ) (told : List ℕ → Option (Option Mention)) : Type 0 where
  pub has : (i : ℕ) (e : Event) → i < n → slice_get events i ≡ Some e → gives_meaning e.kind ≡ true → told (name_of e) ≡ Some None
  pub none : (name : List ℕ) (m : Mention) → told name ≢ Some (Some m)

-- some mention is outside the inclusion that event k begins and event number `end` ends
abbrev pub lies_outside : ℕ → ℕ → Mention → Bool
lies_outside k end m = nat_le m.first k || nat_lt end m.last

abbrev pub is_outside_of : ℕ → ℕ → Option Mention → Bool
is_outside_of k end m = option_map_or (lies_outside k end) m false

-- The map tells of each name to which an event gives a meaning, or from which it takes it, where the unit mentions it.
pub record AreMentions (table : Table) (text : UnitTextValue) (told : List ℕ → Option (Option Mention)) : Type 0 where
  pub each : (i : ℕ) (e : Event) → slice_get text.events i ≡ Some e → gives_meaning e.kind ≡ true
      → told (name_of e) ≡ Some (mention_of table text (name_of e))

-- a spelling is that of a name which is looked for and mentioned outside
abbrev pub is_told_outside : ℕ → ℕ → Option (Option Mention) → Bool
is_told_outside k end told = option_map_or (is_outside_of k end) told false
