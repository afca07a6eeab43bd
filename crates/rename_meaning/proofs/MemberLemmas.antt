-- Members of a class lie in tokens of kept files, and none begins inside the part before it.
use Rattle.std.proofs.Common.{◌≡◌, ℕ, zero, suc, ◌+◌, ◌-◌, true, List, [], ◌∷◌, Option, Some, inl, inr, refl, sym, subst, arith}
use Rattle.std.specs.Prelude.{slice_get}
use Rattle.std.specs.List.{flat_map}
use Rattle.std.specs.Option.{option_map_or, option_and_then}
use Rattle.std.proofs.lemmas.Bool.{cases_lt}
use Rattle.cs_base.specs.declared.positions.Part.{Part}
use Rattle.cs_base.specs.declared.positions.Pos.{Pos}
use Rattle.cs_base.specs.Token.{Token, has_origins}
use Rattle.cs_base.proofs.PlaceLemmas.{pos_is as same_pos}
use Rattle.lexer.specs.Tokens.{tokens_of}
use Rattle.analysis.specs.Below.eclass_map.Chain.{here}
use Rattle.analysis.specs.Below.eclass_map.Positions.{along, holds}
use Rattle.analysis.proofs.Below.eclass_map.TokenFacts.{holding}
use Rattle.source_files.specs.Files.{Table}
use Rattle.source_files.specs.KeptFiles.{KeptValue, kept_in, kept_at}
use Rattle.part_respell.specs.Respelled.{member_over}
use Rattle.analysis.specs.Analysis.{UnitAnalysis, AnalysisValue}
use Rattle.analysis.specs.FileTokens.{numbers_brought, span_of, IsFileToken}
use Rattle.analysis.specs.Parts.{IsCharacter, IsStart, IsPart, AreMembers}
use Rattle.analysis.proofs.NamingLemmas.{in_left, in_right}
use Rattle.analysis.proofs.PartLemmas.{held_character}
use Rattle.rename_rules.specs.Tokens.{all_file_tokens}
use Rattle.offences.specs.Tokens.{file_toks, entry_tokens as entry_toks, kept_tokens as kept_toks}
use Rattle.edited_unit_laws.proofs.ListLemmas.{In, found}

-- ---- tokens of the table of files

pub toks_in : (table : Table) (n k : ℕ) (f : KeptValue) (t : Token) → option_and_then (kept_in (n + k)) (slice_get table k) ≡ Some f → In t (file_toks f)
    → In t (kept_toks n table)
unfolding kept_toks
toks_in [] n k f t is i = absurd (cc)
toks_in (e ∷ table) n zero f t is i =
    let same : n + 0 ≡ n = omega arith in
    let entry : kept_in n e ≡ Some f = subst (λ (m : ℕ). kept_in m e ≡ Some f) same is in
    in_left t (entry_toks n e) (kept_toks (n + 1) table) (subst (λ (o : Option KeptValue). In t (option_map_or file_toks o [])) (sym entry) i)
toks_in (e ∷ table) n (suc k) f t is i =
    let on : n + suc k ≡ n + 1 + k = omega arith in
    in_right t (entry_toks n e) (kept_toks (n + 1) table)
    (toks_in table (n + 1) k f t (subst (λ (m : ℕ). option_and_then (kept_in m) (slice_get table k) ≡ Some f) on is) i)

module _ (a : AnalysisValue) where
  -- any token of it is one of all
  pub any_file_token : (n : ℕ) (f : KeptValue) (t : Token) → kept_at a.table n ≡ Some f → In t (tokens_of f.number f.bytes) → In t (all_file_tokens a)
  unfolding all_file_tokens
  any_file_token n f t is i =
      let same : n ≡ 0 + n = omega arith in
      let there : option_and_then (kept_in (0 + n)) (slice_get a.table n) ≡ Some f =
      subst (λ (m : ℕ). option_and_then (kept_in m) (slice_get a.table n) ≡ Some f) same is in
      in_left t (kept_toks 0 a.table) (flat_map (λ (u : UnitAnalysis). numbers_brought u.text) a.units) (toks_in a.table 0 n f t there i)

-- ---- the token of a character

-- an identifier or pp-number of a kept file holds the character
pub record InFile (table : Table) (p : Pos) (t : Token) : Type 0 where
  pub file : KeptValue
  pub is_kept : kept_at table p.file ≡ Some file
  pub there : In t (tokens_of file.number file.bytes)
  pub parted : has_origins t.kind ≡ true
  pub held : holds (span_of t) p ≡ true

-- ---- members

module _ (a : AnalysisValue) (members : List Part) (part : Part) (listed : AreMembers a part members) where
  pub over_in : (p : Pos) (m : Part) → member_over members p ≡ Some m → In m members × (holds m p ≡ true)
  over_in p m over = found (λ (q : Part). holds q p) members m over

  over_part : (p : Pos) (m : Part) → member_over members p ≡ Some m → IsPart a m
  over_part p m over = let i = (over_in p m over).0 in (listed.each i.0 m i.1).is_part

  pub over_character : (p : Pos) (m : Part) → member_over members p ≡ Some m → IsCharacter a p
  over_character p m over = held_character a m p (over_part p m over) (over_in p m over).1

  -- what holds the first character of a file token begins there
  pub over_begins : (token : Part) (m : Part) → IsFileToken a token → member_over members token.start ≡ Some m → m.start.at ≡ token.start.at
  over_begins token m is over =
      let p = token.start in
      let h = holding m p (over_in p m over).1 in
      let o = p.at - m.start.at in
      elim (cases_lt 0 o) [
        | inl some ↦
            let same : along m.start o ≡ p = same_pos (along m.start o) p h.file (omega (arith, h)) in
            let goes = (over_part p m over).goes_on o some (omega (arith, h)) in
            let start : IsStart a p = (p, (token, is, refl), here) in
            let P : Pos → Type 0 = IsStart a in
            absurd (goes.1 (subst P (sym same) start))
        | inr none ↦ omega (arith, h, none)
      ]
