use Rattle.std.proofs.Common.{◌≡◌, ◌∷◌, [], ◌∙◌, ap, sym, rules, Ok}
use Rattle.cs_base.specs.Answer.{result_map_err}
use Rattle.paste_origin.specs.Strings.{stringize_of}
use Rattle.macro_body.specs.Hides.{hidden, toks_of}
use Rattle.macro_body.specs.Notes.{NotAString, Stringized}
use Rattle.macro_body.specs.Substitution.{put_in}
use Rattle.macro_body.specs.Kept.{kept_with}
use Rattle.macro_body.proofs.MakingLemmas.{string-is}
use Rattle.macro_body.proofs.operands.string_made.Goals as goal

pub returns : goal.returns
returns c =
    let name = c.args.name.now in
    let toks = toks_of c.args.argument.now in
    let made : c.as_slice.result.now ≡ toks = c.as_slice.ensures.value ∙ c.in_ok-toks.ensures in
    let again : c.as_slice-2.result.now ≡ toks = c.as_slice-2.ensures.value ∙ c.in_ok-toks.ensures in
    let string : result_map_err (λ _. NotAString name.at) (stringize_of toks) ≡ Ok c.in_ok-string.string =
    ap (λ ts. result_map_err (λ _. NotAString name.at) (stringize_of ts)) (sym made) ∙ c.in_ok-string.ensures.answer in
    let value : c.new.result ≡ hidden (put_in name c.args.sign.now.gap c.in_ok-string.string) [] ∷ [] = search rules in
    let notes : c.note_stringized.new.self ≡ kept_with c.args.notes.now (Stringized toks c.in_ok-string.string ∷ []) =
    c.in_ok-note_stringized.ensures c.in_ok-string.string ∙ ap (λ ts. kept_with c.args.notes.now (Stringized ts c.in_ok-string.string ∷ [])) again in
    record { answer = string-is name c.args.sign.now toks (stringize_of toks) c.in_ok-string.string c.args.notes.now c.note_stringized.new.self c.new.result string value notes }
