-- What a replacement puts in, under a renaming: the renamed tokens, and renamed notes.
use Rattle.std.proofs.Common.{◌≡◌, Bool, true, false, nat_lt, List, [], ◌∷◌, ◌++◌, length, map, get_or, Result, Ok, Err, refl, ap, subst, ◌∙◌, ℕ}
use Rattle.line_shape.specs.Signs.{is_identifier}
use Rattle.cs_base.specs.Token.{Token}
use Rattle.cs_base.specs.declared.tokens.Kind.{Kind}
use Rattle.cs_base.specs.declared.tokens.Kind.TheVariants.{Ident}
use Rattle.macro_body.specs.Below.paste_origin.Strings.{StringFault, stringize_of, string_text, string_origins, string_token}
use Rattle.lexer.specs.Spelling.{is_plain_string_text, is_identifier_text}
use Rattle.macro_body.specs.declared.definitions.Definition.{Definition}
use Rattle.macro_body.specs.Hides.{Hidden, hidden, toks_of}
use Rattle.macro_body.specs.Bodies.{Part, Plain, Param, Quote, Paste, Rest, chains_of}
use Rattle.macro_body.specs.Notes.{Fault, Note, Stringized}
use Rattle.macro_body.specs.Substitution.{Arguments, Made, made, put_in, string_made, operand_made, argument_for, rest_tokens, rest_for}
use Rattle.macro_expand.specs.Renaming.{renamed, renamed_hidden, renamed_note, occurs, AllOccur, KeepsBody, AllRespected}
use Rattle.macro_body.proofs.ResultLemmas.{ok_same, err_ok}
use Rattle.macro_body.proofs.Below.paste_origin.MadeLemmas.{cond_made as string_kind}
use Rattle.expansion_laws.proofs.RenamedLemmas.{renamed_part, renamed_lists, renamed_arguments, toks_of-renamed, get_or-renamed, tokens_for-renamed}
use Rattle.expansion_laws.proofs.PartLemmas.{PartOccurs as PartFits, PartsOccur as PartsFit, ChainsOccur as ChainsFit, chains_of-occur as chains_of-fit}
use Rattle.expansion_laws.proofs.WorldLemmas.{ground, World, Good, GoodLists, Good-get_or, Good-moved_in, Good-argument_for}
use Rattle.expansion_laws.specs.Spelled.{fits}

-- Notes.

abbrev pub notes_renamed : World → List Note → List Note
notes_renamed w notes = map (renamed_note w.r) notes

pub respected_split : (w : World) (xs ys : List Note) → AllRespected w.o w.r (xs ++ ys) → AllRespected w.o w.r xs × AllRespected w.o w.r ys
respected_split w [] ys h = (tt, h)
respected_split w (x ∷ xs) ys h = let k = respected_split w xs ys h.1 in ((h.0, k.0), k.1)

-- Parts of a replacement list.

abbrev pub PartOccurs : World → Part → Type 0
PartOccurs w p = PartFits (ground w) p

abbrev pub PartsOccur : World → List Part → Type 0
PartsOccur w ps = PartsFit (ground w) ps

abbrev pub ChainsOccur : World → List (List Part) → Type 0
ChainsOccur w cs = ChainsFit (ground w) cs

body_occurs : (w : World) (m : Definition) (ts : List Token) → KeepsBody w.o w.r m ts → AllOccur w.o ts
body_occurs w m [] h = tt
body_occurs w m (t ∷ ts) h = (h.0, body_occurs w m ts h.2)

pub chains_of-occur : (w : World) (m : Definition) → KeepsBody w.o w.r m m.body → ChainsOccur w (chains_of m)
chains_of-occur w m h = chains_of-fit (ground w) m (body_occurs w m m.body h)

-- What is made, and that it is renamed.

-- what a call brings is good
pub record GoodArguments (w : World) (args : Arguments) : Type 0 where
  pub raw : GoodLists w args.raw
  pub full : GoodLists w args.full

abbrev pub made_renamed : World → Made (List Hidden) → Made (List Hidden)
made_renamed w m = made (map (renamed_hidden w.r) m.value) (notes_renamed w m.notes)

abbrev pub lists_renamed : World → Made (List (List Hidden)) → Made (List (List Hidden))
lists_renamed w m = made (renamed_lists w.r m.value) (notes_renamed w m.notes)

abbrev pub chains_renamed : World → Made (List (List (List Hidden))) → Made (List (List (List Hidden)))
chains_renamed w m = made (map (renamed_lists w.r) m.value) (notes_renamed w m.notes)

abbrev pub GoodChains : World → List (List (List Hidden)) → Type 0
GoodChains w [] = Unit {0}
GoodChains w (c ∷ cs) = GoodLists w c × GoodChains w cs

-- what is made of tokens that are renamed is what was made, renamed; and it is good
abbrev pub IsMade : World → Made (List Hidden) → Result (Made (List Hidden)) Fault → Type 0
IsMade w m res = (res ≡ Ok (made_renamed w m)) × Good w m.value

-- a string occurs
stringize-occurs : (w : World) (toks : List Token) (s : Token) → stringize_of toks ≡ Ok s → occurs w.o s ≡ true
unfolding stringize_of
stringize-occurs w toks s e =
    subst (λ t. occurs w.o t ≡ true) (string_kind (is_plain_string_text (string_text toks)) (string_token (string_text toks) (string_origins toks)) s e)
    (w.keeps.others _ _ _ refl refl)

string-renamed : (w : World) (name sign : Token) (toks : List Token) (res : Result Token StringFault) → stringize_of toks ≡ res
    → (m : Made (List Hidden)) → string_made name sign toks res ≡ Ok m → AllRespected w.o w.r m.notes
    → IsMade w m (string_made (renamed w.r name) (renamed w.r sign) (map (renamed w.r) toks) (stringize_of (map (renamed w.r) toks)))
string-renamed w name sign toks (Err f) is m e resp = err_ok _ m e
string-renamed w name sign toks (Ok s) is m e resp =
    let P : Made (List Hidden) → Type 0 = λ v. AllRespected w.o w.r v.notes → IsMade w v (string_made (renamed w.r name) (renamed w.r sign) (map (renamed w.r) toks) (stringize_of (map (renamed w.r) toks))) in
    subst P (ok_same (made (hidden (put_in name sign.gap s) [] ∷ []) (Stringized toks s ∷ [])) m e)
    (λ r. (ap (string_made (renamed w.r name) (renamed w.r sign) (map (renamed w.r) toks)) r.0, (stringize-occurs w toks s is, tt, tt)))
    resp

Good-rest : (w : World) (b : Bool) (name t : Token) (hs : List Hidden) → occurs w.o t ≡ true → Good w hs → Good w (rest_tokens b name t hs)
Good-rest w true name t hs here g = (here, tt, Good-moved_in w hs g)
Good-rest w false name t hs here g = tt

pub operand-renamed : (w : World) (name : Token) (args : Arguments) → GoodArguments w args → (lone : Bool) (p : Part) → PartOccurs w p → (m : Made (List Hidden))
    → operand_made name args lone p ≡ Ok m → AllRespected w.o w.r m.notes
    → IsMade w m (operand_made (renamed w.r name) (renamed_arguments w.r args) lone (renamed_part w.r p))
operand-renamed w name args g lone (Plain t) here m e resp =
    let P : Made (List Hidden) → Type 0 = λ v. IsMade w v (operand_made (renamed w.r name) (renamed_arguments w.r args) lone (Plain (renamed w.r t))) in
    subst P (ok_same (made (hidden (put_in name t.gap t) [] ∷ []) []) m e) (refl, (here, tt, tt))
operand-renamed w name args g lone (Paste t) here m e resp =
    let P : Made (List Hidden) → Type 0 = λ v. IsMade w v (operand_made (renamed w.r name) (renamed_arguments w.r args) lone (Paste (renamed w.r t))) in
    subst P (ok_same (made (hidden (put_in name t.gap t) [] ∷ []) []) m e) (refl, (here, tt, tt))
operand-renamed w name args g true (Param t i) here m e resp =
    let P : Made (List Hidden) → Type 0 = λ v. IsMade w v (operand_made (renamed w.r name) (renamed_arguments w.r args) true (Param (renamed w.r t) i)) in
    subst P (ok_same (made (argument_for t (get_or args.full i [])) []) m e)
    (ap (λ v. Ok (made v [])) (tokens_for-renamed w.r name args true (Param t i)), Good-argument_for w t (get_or args.full i []) (Good-get_or w args.full i g.full))
operand-renamed w name args g false (Param t i) here m e resp =
    let P : Made (List Hidden) → Type 0 = λ v. IsMade w v (operand_made (renamed w.r name) (renamed_arguments w.r args) false (Param (renamed w.r t) i)) in
    subst P (ok_same (made (argument_for t (get_or args.raw i [])) []) m e)
    (ap (λ v. Ok (made v [])) (tokens_for-renamed w.r name args false (Param t i)), Good-argument_for w t (get_or args.raw i []) (Good-get_or w args.raw i g.raw))
operand-renamed w name args g lone (Quote t i) here m e resp =
    let toks = toks_of (get_or args.raw i []) in
    let k = string-renamed w name t toks (stringize_of toks) refl m e resp in
    let same : toks_of (get_or (renamed_lists w.r args.raw) i []) ≡ map (renamed w.r) toks =
    ap toks_of (get_or-renamed w.r args.raw i) ∙ toks_of-renamed w.r (get_or args.raw i []) in
    (ap (λ ts. string_made (renamed w.r name) (renamed w.r t) ts (stringize_of ts)) same ∙ k.0, k.1)
operand-renamed w name args g lone (Rest t i) here m e resp =
    let P : Made (List Hidden) → Type 0 = λ v. IsMade w v (operand_made (renamed w.r name) (renamed_arguments w.r args) lone (Rest (renamed w.r t) i)) in
    subst P (ok_same (made (rest_for name t args.raw i) []) m e) (
      ap (λ v. Ok (made v [])) (tokens_for-renamed w.r name args lone (Rest t i)),
      Good-rest w (nat_lt i (length args.raw)) name t (get_or args.raw i []) here (Good-get_or w args.raw i g.raw),
    )

pub fits_name : (k : Kind) (text : List ℕ) → is_identifier k ≡ true → fits k text ≡ true → is_identifier_text text ≡ true
fits_name Ident text h fit = fit
fits_name _ text h fit = absurd (cc)
