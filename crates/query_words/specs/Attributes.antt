-- The attributes that a query may ask for, and their names (this project's).
use Rattle.std.specs.Prelude.{ℕ, Bool, if◌then◌else◌, Option, Some, None, List, codes}
use Rattle.std.specs.Str.{bytes_eq}
use Rattle.query_words.specs.declared.attributes.Attribute.{Attribute}
use Rattle.query_words.specs.declared.attributes.Attribute.TheVariants.{Macro, Function, Object, Typedef, Parameter, Enumerator, Tag, Member, Label, External, ReadOnly, Unused, Cut}
use Rattle.query_words.specs.declared.attributes.Facts.{Facts}

-- the attribute with a name, if there is one
unfoldable pub attribute_of : List ℕ → Option Attribute
attribute_of word =
    if bytes_eq word (codes "macro") then Some Macro
    else (if bytes_eq word (codes "function") then Some Function
    else (if bytes_eq word (codes "object") then Some Object
    else (if bytes_eq word (codes "typedef") then Some Typedef
    else (if bytes_eq word (codes "parameter") then Some Parameter
    else (if bytes_eq word (codes "enumerator") then Some Enumerator
    else (if bytes_eq word (codes "tag") then Some Tag
    else (if bytes_eq word (codes "member") then Some Member
    else (if bytes_eq word (codes "label") then Some Label
    else (if bytes_eq word (codes "external") then Some External
    else (if bytes_eq word (codes "readonly") then Some ReadOnly
    else (if bytes_eq word (codes "unused") then Some Unused
    else (if bytes_eq word (codes "cut") then Some Cut else None))))))))))))

-- the attribute is among the facts
abbrev pub has : Facts → Attribute → Bool
has facts Macro = facts.macro_
has facts Function = facts.function
has facts Object = facts.object
has facts Typedef = facts.typedef
has facts Parameter = facts.parameter
has facts Enumerator = facts.enumerator
has facts Tag = facts.tag
has facts Member = facts.member
has facts Label = facts.label
has facts External = facts.external
has facts ReadOnly = facts.read_only
has facts Unused = facts.unused
has facts Cut = facts.cut
