-- What a query says of attributes whatever the spelling, as it is remembered.
use Rattle.std.specs.Prelude.{ℕ, ◌≡◌, Bool, false, Ok, Some, List, slice_get}
use Rattle.query_words.specs.declared.attributes.Facts.{Facts}
use Rattle.query_words.specs.declared.told.Said.{Said}
use Rattle.query_words.specs.declared.told.Told.{Told}
use Rattle.query_words.specs.Queries.{value}
use Rattle.query_words.specs.Reading.{parsed}
use Rattle.query_words.specs.Walk.{decided}

abbrev pub said_of : Facts → Bool → Said
said_of facts holds = record { facts = facts; holds = holds }

-- What is remembered is what the query says, whatever the spelling.
pub record AreTold (query : List ℕ) (told : Told) : Type 0 where
  pub said : (k : ℕ) (facts : Facts) (holds : Bool) (spelling : List ℕ) → slice_get told.said.items k ≡ Some (said_of facts holds)
      → Ok holds ≡ decided (value facts spelling) (parsed query)
  pub unspelled : told.spelled ≡ false → (facts : Facts) (spelling other : List ℕ)
      → decided (value facts spelling) (parsed query) ≡ decided (value facts other) (parsed query)

-- ---- facts that are the same

abbrev pub AreSameKinds : Facts → Facts → Type 0
AreSameKinds x y = (x.macro_ ≡ y.macro_) × (x.function ≡ y.function) × (x.object ≡ y.object) × (x.typedef ≡ y.typedef)

abbrev pub AreSameNames : Facts → Facts → Type 0
AreSameNames x y = (x.parameter ≡ y.parameter) × (x.enumerator ≡ y.enumerator) × (x.tag ≡ y.tag) × (x.member ≡ y.member) × (x.label ≡ y.label)

abbrev pub AreSameUses : Facts → Facts → Type 0
AreSameUses x y = (x.external ≡ y.external) × (x.read_only ≡ y.read_only) × (x.unused ≡ y.unused) × (x.cut ≡ y.cut)
