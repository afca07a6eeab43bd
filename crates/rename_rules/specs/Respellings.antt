-- A table of the old and new spellings of tokens.
use Rattle.std.specs.Prelude.{ℕ, ◌≡◌, ◌||◌, ◌&&◌, not, if◌then◌else◌, Bool, List, [], slice_get}
use Rattle.std.specs.Option.{option_map_or}
use Rattle.std.specs.List.{list_any}
use Rattle.std.specs.Str.{bytes_eq}
use Rattle.cs_base.specs.declared.positions.Part.{Part}
use Rattle.cs_base.specs.declared.positions.Pos.{Pos}
use Rattle.cs_base.specs.Token.{Token}
use Rattle.analysis.specs.Below.c_types.declared.lists.Range.{Range}
use Rattle.part_respell.specs.Respelled.{spelled}
use Rattle.rename_rules.specs.Offences.{is_shadow}
use Rattle.offences.specs.Tokens.{first_place}

-- The old and the new spelling of a token.
pub record RespellingValue : Type 0 where
  pub old : List ℕ
  pub new : List ℕ

abbrev pub respelling : List ℕ → List ℕ → RespellingValue
respelling old new = record { old = old; new = new }

abbrev pub respelling_of : List Part → List ℕ → Token → RespellingValue
respelling_of members name t = respelling t.text (spelled members name t)

-- one more stands in the table, unless it stood there
abbrev pub Adds : RespellingValue → List RespellingValue → List RespellingValue → Type 0
Adds r old new = (test : RespellingValue → Bool) → list_any test new ≡ (list_any test old || test r)

-- The table has the spellings of these tokens, each once or more often, and no others.
abbrev pub AreRespellings : List Part → List ℕ → List Token → List RespellingValue → Type 0
AreRespellings members name toks table =
    (test : RespellingValue → Bool) → list_any test table ≡ list_any (λ t. test (respelling_of members name t)) toks

-- the old spelling is the one, or the new one is
abbrev pub is_old : List ℕ → RespellingValue → Bool
is_old text r = bytes_eq r.old text

abbrev pub is_new : List ℕ → RespellingValue → Bool
is_new text r = bytes_eq r.new text

-- the new spelling is the one, and the old one is another
abbrev pub is_clash : List ℕ → List ℕ → RespellingValue → Bool
is_clash old new r = bytes_eq r.new new && not (bytes_eq r.old old)

-- ---- bare names, by the table

-- where token k would turn into a typedef name
abbrev pub bare_place_by : List RespellingValue → List Token → List Range → ℕ → Token → List Pos
bare_place_by table toks typedefs k t =
    if list_any (is_shadow toks t.text k) typedefs && list_any (is_old t.text) table then first_place t else []

abbrev pub bare_places_by : List RespellingValue → List Token → List Range → ℕ → List Pos
bare_places_by table toks typedefs k = option_map_or (bare_place_by table toks typedefs k) (slice_get toks k) []
