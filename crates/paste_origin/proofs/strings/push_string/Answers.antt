use Rattle.std.proofs.Common.{◌≡◌, ◌++◌, ◌∷◌, [], refl, List}
use Rattle.std.specs.Prelude.{ℕ, None, Option}
use Rattle.cs_base.specs.declared.positions.Pos.{Pos}
use Rattle.cs_base.specs.declared.spans.Span.{Span}
use Rattle.cs_base.proofs.OriginLemmas.{origins_by-none}
use Rattle.paste_origin.specs.Strings.{all_origins}
use Rattle.paste_origin.specs.Told.{told_so_far}
use Rattle.paste_origin.proofs.strings.push_string.Goals as goal

nothing : (text : List ℕ) (spans : List Span) → text ≡ [] → spans ≡ [] → told_so_far text spans ≡ []
nothing text spans no_text no_spans = rw (no_text, no_spans) origins_by-none

in_turn : {X : Type 0} (none first then_ last all : List X) (x : X) → none ≡ [] → first ≡ none ++ x ∷ [] → then_ ≡ first ++ all → last ≡ then_ ++ x ∷ []
    → last ≡ x ∷ all ++ x ∷ []
in_turn none first then_ last all x e f g h = rw (h, g, f, e) refl

pub returns-clause-origins : goal.returns-clause-origins
returns-clause-origins c =
    in_turn (told_so_far c.args.text.now.items c.args.spans.now.items) (told_so_far c.push_character.new.text.items c.push_character.new.spans.items)
    (told_so_far c.push_spellings.new.text.items c.push_spellings.new.spans.items) (told_so_far c.push_character-2.new.text.items c.push_character-2.new.spans.items)
    (all_origins c.args.toks.now) None (nothing c.args.text.now.items c.args.spans.now.items c.requires.no_text c.requires.no_spans)
    c.in_ok-push_character.ensures.origins c.in_ok-push_spellings.ensures.origins c.in_ok-push_character-2.ensures.origins
