-- What is known of declarations, at other places (this project's, over ISO/IEC 9899:1999, 6.2.1 to 6.2.3): token numbers change,
-- and all else stays.
use Rattle.std.specs.Prelude.{ℕ, ◌≡◌, List, Option}
use Rattle.std.specs.Option.{option_map}
use Rattle.cs_base.specs.Token.{Token}
use Rattle.c_types.specs.declared.types.Base.{Base}
use Rattle.c_types.specs.declared.types.Base.TheVariants.{Structure, Union, Enumeration}
use Rattle.c_types.specs.declared.declarations.Space.TheVariants.{Ordinary, Tags, Members, Inner, Unnamed, Labels}
use Rattle.c_types.specs.Types.{CType}
use Rattle.c_types.specs.Declarations.{spelling_at}
use Rattle.scope_bind.specs.Named.{Space, Declaration, Occurrence, Body, Frame}

module _ (m : ℕ → ℕ) where
  abbrev pub moved_base : Base → Base
  moved_base (Structure n) = Structure (m n)
  moved_base (Union n) = Union (m n)
  moved_base (Enumeration n) = Enumeration (m n)
  moved_base b = b

  abbrev pub moved_type : CType → CType
  moved_type t = record { base = moved_base t.base; derivations = t.derivations }

  abbrev pub moved_space : Space → Space
  moved_space Ordinary = Ordinary
  moved_space Tags = Tags
  moved_space (Members n) = Members (m n)
  moved_space (Inner n) = Inner (m n)
  moved_space (Unnamed n) = Unnamed (m n)
  moved_space (Labels n) = Labels (m n)

  abbrev pub moved_body : Body → Body
  moved_body b = record { from = m b.from; to = m b.to }

  abbrev pub moved_occurrence : Occurrence → Occurrence
  moved_occurrence o = record { index = m o.index; entity = m o.entity; declares = o.declares }

  -- the frame, but for its last token, the end of its scope and the list that a body may begin with
  abbrev pub moved_frame : ℕ → ℕ → Option ℕ → Frame → Frame
  moved_frame at to kept f = record {
    label = f.label;
    nth = f.nth;
    token = at;
    scope = record { depth = f.scope.depth; to = to };
    body = option_map moved_body f.body;
    listing = f.listing;
    alone = f.alone;
    has_body = f.has_body;
    base = moved_type f.base;
    words = f.words;
    kept = kept;
    owner = m f.owner;
    given = moved_type f.given;
    found = moved_type f.found;
    position = f.position;
  }

  -- the second declaration is the first one at its moved place; their ranges may differ
  pub record IsMoved (d e : Declaration) : Type 0 where
    pub space : e.space ≡ moved_space d.space
    pub name_at : e.name_at ≡ m d.name_at
    pub entity : e.entity ≡ m d.entity
    pub kind : e.kind ≡ d.kind
    pub linkage : e.linkage ≡ d.linkage
    pub ctype : e.ctype ≡ moved_type d.ctype
    pub depth : e.depth ≡ d.depth
    pub listed : e.listed ≡ d.listed

-- Token i of the one text is token `m i` of the other, which is spelled so; no two go to one place, and the first one stays.
pub record AreMovedTexts (m : ℕ → ℕ) (old new : List Token) : Type 0 where
  pub first : m 0 ≡ 0
  pub apart : (i j : ℕ) → m i ≡ m j → i ≡ j
  pub spelled : (k : ℕ) → spelling_at new (m k) ≡ spelling_at old k
