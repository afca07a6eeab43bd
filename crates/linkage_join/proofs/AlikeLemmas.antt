-- The two tokens of a link are spelled alike.
use Rattle.std.proofs.Common.{List, [], ◌∷◌, ◌++◌, ◌≡◌, arith, inl, inr}
use Rattle.std.specs.Prelude.{All}
use Rattle.std.specs.List.{flat_map}
use Rattle.std.specs.Str.{bytes_eq}
use Rattle.std.specs.Cmp.Lexicographic.{bytes_decides}
use Rattle.std.proofs.lemmas.Bool.{cases_Bool}
use Rattle.std.proofs.lemmas.List.Elements.{All-append, All-cons}
use Rattle.cs_base.specs.Token.{Token}
use Rattle.cs_base.specs.declared.tokens.Link.{Link}
use Rattle.linkage_join.specs.Linkage.{UnitValue, first_spelled, names_of, link_to, unit_links, links_after, links_of}

abbrev IsAlike : Link → Type 0
IsAlike l = l.x.text ≡ l.y.text

All-empty : {X : Type 0} (P : X → Type 0) → All P []
All-empty P = λ k d within. absurd (omega arith)

All-flat_map : {X Y : Type 0} (P : Y → Type 0) (f : X → List Y) → ((x : X) → All P (f x)) → (xs : List X) → All P (flat_map f xs)
All-flat_map P f each [] = All-empty P
All-flat_map P f each (x ∷ xs) = All-append P (f x) (flat_map f xs) (each x) (All-flat_map P f each xs)

-- a token and the first one of its spelling
link_to-alike : (t : Token) (toks : List Token) → All IsAlike (link_to (first_spelled t.text toks) t)
link_to-alike t [] = All-empty IsAlike
link_to-alike t (v ∷ toks) = elim (cases_Bool (bytes_eq t.text v.text)) [
  | inl same ↦ rw same (All-cons IsAlike (record { x = t; y = v }) [] ((bytes_decides t.text v.text).0 same) (All-empty IsAlike))
  | inr apart ↦ rw apart (link_to-alike t toks)
]

links_after-alike : (earlier units : List UnitValue) → All IsAlike (links_after earlier units)
links_after-alike earlier [] = All-empty IsAlike
links_after-alike earlier (u ∷ units) =
    All-append IsAlike (unit_links earlier u) (links_after (earlier ++ u ∷ []) units)
    (All-flat_map IsAlike (λ (t : Token). link_to (first_spelled t.text (names_of u.project earlier)) t) (λ t. link_to-alike t (names_of u.project earlier)) u.names)
    (links_after-alike (earlier ++ u ∷ []) units)

pub links_of-alike : (units : List UnitValue) (links : List Link) → links ≡ links_of units → All (λ (l : Link). l.x.text ≡ l.y.text) links
links_of-alike units links given = rw given (links_after-alike [] units)
