-- Units, files and tokens, one after another.
use Rattle.std.proofs.Common.{◌≡◌, ℕ, ◌+◌, ◌<◌, ◌≤◌, Bool, List, [], ◌∷◌, ◌++◌, length, take, drop, get_or, Option, Some, None, slice_get, sym, ap, ◌∙◌, append_assoc, append-nil}
use Rattle.std.specs.Prelude.{filter}
use Rattle.std.specs.List.{flat_map}
use Rattle.std.specs.Option.{option_map_or}
use Rattle.std.proofs.lemmas.Grind.{flat_map-append}
use Rattle.std.proofs.lemmas.List.{at_drop_all, map-append, take_more}
use Rattle.std.proofs.lemmas.List.Elements.{filter-append}
use Rattle.std.proofs.lemmas.Option.{slice_get_within, slice_get-get_or, get_or_from_slice_get}
use Rattle.cs_base.specs.declared.causes.Cause.{Cause}
use Rattle.cs_base.specs.declared.positions.Part.{Part}
use Rattle.cs_base.specs.declared.positions.Pos.{Pos}
use Rattle.cs_base.specs.Token.{Token, origin_at}
use Rattle.analysis.specs.Below.source_files.Files.{Table}
use Rattle.analysis.specs.Below.source_files.KeptFiles.{kept_at}
use Rattle.analysis.specs.Analysis.{AnalysisValue, UnitAnalysis}
use Rattle.analysis.specs.BroughtNumbers.{all_brought}
use Rattle.analysis.specs.FileTokens.{file_tokens, kept_tokens as parted_tokens, table_tokens}
use Rattle.analysis.proofs.TableLemmas.{parted-more}
use Rattle.offences.specs.declared.firsts.Offence.{Offence}
use Rattle.offences.specs.First.{offence, standing, FirstThen}
use Rattle.rename_rules.specs.Tokens.{holders, pasted_tokens}
use Rattle.offences.specs.Tokens.{file_toks, holds_member, kept_tokens}
use Rattle.offences.proofs.FirstLemmas.{then_none, then_both, then_next}
use Rattle.offences.proofs.UnitLemmas.{kept-more}

-- ---- units

pub unit_next : (table : Table) (cause : Cause) (g : UnitAnalysis → List Pos) (units : List UnitAnalysis) (k : ℕ) (u : UnitAnalysis)
    (a b c : Option Offence) → slice_get units k ≡ Some u → FirstThen table (standing cause (flat_map g (take k units))) a b
    → FirstThen table (standing cause (g u)) b c → FirstThen table (standing cause (flat_map g (take (k + 1) units))) a c
unit_next table cause g units k u a b c at before here =
    then_next table cause g units k u a b c (slice_get_within units k u at) (sym (get_or_from_slice_get units k u u at)) before here

-- the tokens of units, and what stands at them
pub unit_tokens_next : (table : Table) (cause : Cause) (f : Token → List Pos) (g : UnitAnalysis → List Token) (units : List UnitAnalysis) (k : ℕ)
    (u : UnitAnalysis) (a b c : Option Offence) → slice_get units k ≡ Some u
    → FirstThen table (standing cause (flat_map f (flat_map g (take k units)))) a b → FirstThen table (standing cause (flat_map f (g u))) b c
    → FirstThen table (standing cause (flat_map f (flat_map g (take (k + 1) units)))) a c
unit_tokens_next table cause f g units k u a b c at before here =
    let within = slice_get_within units k u at in
    let more : take (k + 1) units ≡ take k units ++ u ∷ [] =
    take_more units k u within ∙ ap (λ (v : UnitAnalysis). take k units ++ v ∷ []) (get_or_from_slice_get units k u u at) in
    let old = flat_map g (take k units) in
    let toks : flat_map g (take (k + 1) units) ≡ old ++ g u =
    ap (flat_map g) more ∙ flat_map-append g (take k units) (u ∷ []) ∙ ap (λ (ts : List Token). old ++ ts) (append-nil (g u)) in
    let all : standing cause (flat_map f (flat_map g (take (k + 1) units))) ≡ standing cause (flat_map f old) ++ standing cause (flat_map f (g u)) =
    ap (λ (ts : List Token). standing cause (flat_map f ts)) toks
    ∙ ap (standing cause) (flat_map-append f old (g u)) ∙ map-append (offence cause) (flat_map f old) (flat_map f (g u)) in
    rw all (then_both table (standing cause (flat_map f old)) (standing cause (flat_map f (g u))) a b c before here)

pub held_units_more : (p : Token → Bool) (g : UnitAnalysis → List Token) (units : List UnitAnalysis) (k : ℕ) (u : UnitAnalysis) (old out more : List Token)
    → slice_get units k ≡ Some u → out ≡ old ++ filter p (flat_map g (take k units)) → more ≡ out ++ filter p (g u)
    → more ≡ old ++ filter p (flat_map g (take (k + 1) units))
held_units_more p g units k u old out more at before added =
    let within = slice_get_within units k u at in
    let next : take (k + 1) units ≡ take k units ++ u ∷ [] =
    take_more units k u within ∙ ap (λ (v : UnitAnalysis). take k units ++ v ∷ []) (get_or_from_slice_get units k u u at) in
    let here = flat_map g (take k units) in
    let toks : flat_map g (take (k + 1) units) ≡ here ++ g u =
    ap (flat_map g) next ∙ flat_map-append g (take k units) (u ∷ []) ∙ ap (λ (ts : List Token). here ++ ts) (append-nil (g u)) in
    added
    ∙ ap (λ (ts : List Token). ts ++ filter p (g u)) before
    ∙ append_assoc old (filter p here) (filter p (g u))
    ∙ ap (λ (ts : List Token). old ++ ts) (sym (filter-append p here (g u)))
    ∙ ap (λ (ts : List Token). old ++ filter p ts) (sym toks)

-- ---- files

pub held_files_more : (p : Token → Bool) (table : Table) (k : ℕ) (out more whole : List Token) → k < length table
    → out ++ filter p (table_tokens k (drop k table)) ≡ whole → more ≡ out ++ filter p (option_map_or parted_tokens (kept_at table k) [])
    → more ++ filter p (table_tokens (k + 1) (drop (k + 1) table)) ≡ whole
held_files_more p table k out more whole within so_far added =
    let here = option_map_or parted_tokens (kept_at table k) [] in
    let rest = table_tokens (k + 1) (drop (k + 1) table) in
    ap (λ (ts : List Token). ts ++ filter p rest) added
    ∙ append_assoc out (filter p here) (filter p rest)
    ∙ ap (λ (ts : List Token). out ++ ts) (sym (filter-append p here rest))
    ∙ ap (λ (ts : List Token). out ++ filter p ts) (sym (parted-more table k within))
    ∙ so_far

pub held_files_all : (p : Token → Bool) (table : Table) (k : ℕ) (out whole : List Token) → length table ≤ k
    → out ++ filter p (table_tokens k (drop k table)) ≡ whole → out ≡ whole
unfolding table_tokens
held_files_all p table k out whole past so_far =
    sym (append-nil out) ∙ ap (λ (ts : List Token). out ++ filter p ts) (sym (at_drop_all (table_tokens k) table k past)) ∙ so_far

pub files_next : (table : Table) (all : List Offence) (cause : Cause) (f : Token → List Pos) (k : ℕ) (a b c : Option Offence) → k < length table
    → ((last : Option Offence) → FirstThen table (standing cause (flat_map f (kept_tokens k (drop k table)))) b last → FirstThen table all a last)
    → FirstThen table (standing cause (flat_map f (option_map_or file_toks (kept_at table k) []))) b c
    → (last : Option Offence) → FirstThen table (standing cause (flat_map f (kept_tokens (k + 1) (drop (k + 1) table)))) c last → FirstThen table all a last
files_next table all cause f k a b c within so_far here last later =
    let toks = option_map_or file_toks (kept_at table k) [] in
    let rest = kept_tokens (k + 1) (drop (k + 1) table) in
    let both : standing cause (flat_map f (kept_tokens k (drop k table))) ≡ standing cause (flat_map f toks) ++ standing cause (flat_map f rest) =
    ap (λ (ts : List Token). standing cause (flat_map f ts)) (kept-more table k within)
    ∙ ap (standing cause) (flat_map-append f toks rest) ∙ map-append (offence cause) (flat_map f toks) (flat_map f rest) in
    so_far last (rw both (then_both table (standing cause (flat_map f toks)) (standing cause (flat_map f rest)) b c last here later))

pub files_all : (table : Table) (all : List Offence) (cause : Cause) (f : Token → List Pos) (k : ℕ) (a b : Option Offence) → length table ≤ k
    → ((last : Option Offence) → FirstThen table (standing cause (flat_map f (kept_tokens k (drop k table)))) b last → FirstThen table all a last)
    → FirstThen table all a b
unfolding kept_tokens
files_all table all cause f k a b past so_far =
    let none : kept_tokens k (drop k table) ≡ [] = at_drop_all (kept_tokens k) table k past in
    so_far b (rw none (then_none table b))

-- ---- characters of a token

pub origin_next : (table : Table) (cause : Cause) (f : Option Pos → List Pos) (t : Token) (k : ℕ) (a b c : Option Offence) → k < length t.origins
    → FirstThen table (standing cause (flat_map f (take k t.origins))) a b → FirstThen table (standing cause (f (origin_at t k))) b c
    → FirstThen table (standing cause (flat_map f (take (k + 1) t.origins))) a c
origin_next table cause f t k a b c within before here =
    let x : Option Pos = get_or t.origins k None in
    let at : slice_get t.origins k ≡ Some x = slice_get-get_or t.origins k None within in
    let here' : FirstThen table (standing cause (f x)) b c = rw at at here in
    then_next table cause f t.origins k x a b c within (sym (get_or_from_slice_get t.origins k x x at)) before here'

-- ---- all tokens that hold members

pub holders_are : (a : AnalysisValue) (members : List Part) (files numbers all : List Token)
    → files ≡ filter (holds_member members) (table_tokens 0 a.table)
    → numbers ≡ files ++ filter (holds_member members) (all_brought a.units)
    → all ≡ numbers ++ filter (holds_member members) (pasted_tokens a) → all ≡ holders a members
unfolding holders file_tokens
holders_are a members files numbers all f n p =
    let held : List Token → List Token = filter (holds_member members) in
    let both : held (table_tokens 0 a.table ++ all_brought a.units) ≡ numbers =
    filter-append (holds_member members) (table_tokens 0 a.table) (all_brought a.units) ∙ ap (λ (ts : List Token). ts ++ held (all_brought a.units)) (sym f) ∙ sym n in
    p ∙ ap (λ (ts : List Token). ts ++ held (pasted_tokens a)) (sym both)
    ∙ sym (filter-append (holds_member members) (table_tokens 0 a.table ++ all_brought a.units) (pasted_tokens a))
