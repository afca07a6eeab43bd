-- What comes from no edited file stays under a renaming.
use Rattle.std.proofs.Common.{◌≡◌, ℕ, zero, suc, ◌+◌, true, List, [], ◌∷◌, ◌++◌, length, Option, Some, None, refl, ap, ◌∙◌}
use Rattle.std.specs.List.{list_all}
use Rattle.std.specs.Option.{option_map_or, is_none}
use Rattle.cs_base.specs.declared.positions.Part.{Part}
use Rattle.cs_base.specs.declared.positions.Pos.{Pos}
use Rattle.lexer.specs.Places.{pos, origins_from}
use Rattle.macro_body.specs.Substitution.{digit_origins}
use Rattle.source_files.specs.KeptFiles.{KeptValue}
use Rattle.analysis.proofs.Below.eclass_map.TokenFacts.{holding}
use Rattle.part_respell.specs.Respelled.{member_over, put_at}
use Rattle.analysis.specs.Analysed.{Analysed}
use Rattle.analysis.specs.Analysis.{AnalysisValue}
use Rattle.rename_meaning.specs.Allowed.{IsAllowed}
use Rattle.rename_meaning.specs.Renamings.{RenamingsKeepUnedited}
use Rattle.rename_meaning.proofs.KeptLemmas.{nothing}
use Rattle.rename_meaning.proofs.MemberLemmas.{over_in}
use Rattle.rename_meaning.proofs.NoneLemmas.{none_stand, no_line}
use Rattle.rename_meaning.proofs.PutLemmas.{put-stays}
use Rattle.edited_unit_laws.proofs.AnalysedUnitLemmas.{no_lines}
use Rattle.renamed.specs.Renamed.{spell_from, moved_in, move_to, origins_for, trace_from}

spell_untraced : (members : List Part) (name : List ℕ) (os : List (Option Pos)) (text : List ℕ) → list_all is_none os ≡ true → spell_from members name os text ≡ text
unfolding spell_from
spell_untraced members name [] text h = refl
spell_untraced members name (o ∷ os) [] h = refl
spell_untraced members name (None ∷ os) (c ∷ text) h = ap (λ (w : List ℕ). c ∷ w) (spell_untraced members name os text h)
spell_untraced members name (Some p ∷ os) (c ∷ text) h = absurd (cc)

trace_untraced : (a : AnalysisValue) (members : List Part) (name : List ℕ) (os : List (Option Pos)) (text : List ℕ) → list_all is_none os ≡ true
    → trace_from a members name os text ≡ os
unfolding trace_from
trace_untraced a members name [] text h = refl
trace_untraced a members name (o ∷ os) [] h = refl
trace_untraced a members name (None ∷ os) (c ∷ text) h = ap (λ (ps : List (Option Pos)). None ∷ ps) (trace_untraced a members name os text h)
trace_untraced a members name (Some p ∷ os) (c ∷ text) h = absurd (cc)

module _ (a : Analysed) (members : List Part) (name : List ℕ) (h : IsAllowed a members name) where
  -- no member stands in the pseudo file of lines
  line_put : (at c : ℕ) → put_at members name (pos 0 at) c ≡ c ∷ []
  line_put at c =
      put-stays members name (pos 0 at) c
      (nothing (member_over members (pos 0 at)) (λ m over.
      let i = over_in a.value members h.class.part h.class.listed (pos 0 at) m over in
      no_line a.value members name (none_stand a.value members name h.first) m i.0 (holding m (pos 0 at) i.1).file))

  line_still : (at : ℕ) → move_to a.value members name (pos 0 at) ≡ pos 0 at
  line_still at = ap (λ (o : Option KeptValue). option_map_or (moved_in members name (pos 0 at)) o (pos 0 at)) (no_lines h.source h.workspace a.value h.accepted)

  line_spelled : (at n : ℕ) (text : List ℕ) → spell_from members name (digit_origins at n) text ≡ text
  unfolding spell_from
  line_spelled at zero text = refl
  line_spelled at (suc n) [] = refl
  line_spelled at (suc n) (c ∷ text) =
      ap (λ (w : List ℕ). w ++ spell_from members name (digit_origins (at + 1) n) text) (line_put at c) ∙ ap (λ (w : List ℕ). c ∷ w) (line_spelled (at + 1) n text)

  line_origins : (at c : ℕ) → origins_for a.value members name (Some (pos 0 at)) c ≡ Some (pos 0 at) ∷ []
  line_origins at c =
      ap (λ (w : List ℕ). origins_from 0 (move_to a.value members name (pos 0 at)).at (length w)) (line_put at c)
      ∙ ap (λ (p : Pos). origins_from 0 p.at 1) (line_still at)

  line_traced : (at n : ℕ) (text : List ℕ) → trace_from a.value members name (digit_origins at n) text ≡ digit_origins at n
  unfolding trace_from
  line_traced at zero text = refl
  line_traced at (suc n) [] = refl
  line_traced at (suc n) (c ∷ text) =
      ap (λ (os : List (Option Pos)). os ++ trace_from a.value members name (digit_origins (at + 1) n) text) (line_origins at c)
      ∙ ap (λ (os : List (Option Pos)). Some (pos 0 at) ∷ os) (line_traced (at + 1) n text)

pub renamings_keep_unedited : RenamingsKeepUnedited
renamings_keep_unedited = λ a members name text h. record {
  untraced = λ origins word none. (spell_untraced members name origins word none, trace_untraced a.value members name origins word none);
  numbers = λ n len word. (line_spelled a members name h n len word, line_traced a members name h n len word);
  still = line_still a members name h;
}
