-- The lists of the files may move, where nothing stands against a new order of their items.
use Rattle.std.proofs.Common.{ℕ, ◌≡◌, inl, List, [], ◌∷◌, map, Some, Ok, refl, sym, ap, subst, ◌∙◌}
use Rattle.cs_base.specs.Token.{Token}
use Rattle.lexer.specs.FileText.{file_text}
use Rattle.lexer.specs.Tokens.{tokens_of, firsts_of}
use Rattle.lexer.proofs.TextLemmas.{file_text-toks as text_toks}
use Rattle.source_files.specs.Files.{SourceFile}
use Rattle.source_files.specs.Sources.{source_at}
use Rattle.unit_laws.specs.UnitLinks.{IsIn}
use Rattle.analysis.specs.Analysis.{UnitAnalysis}
use Rattle.arranged_text_laws.specs.Lists.{ListMoves}
use Rattle.arranged_text_laws.specs.RunTokens.{IsTextList}
use Rattle.expansion_laws.specs.Arranging.{RunsHaveCuts}
use Rattle.arranged_text_laws.specs.FileItems.{placed}
use Rattle.reordered_text_laws.specs.Marks.{spans_by}
use Rattle.reordered_text_laws.specs.Trees.{IsAmong}
use Rattle.edited_unit_laws.specs.TokenRuns.{WorkspaceTokensAreOfRuns}
use Rattle.template_rules.specs.FileLists.{begun_before, all_found, lists_in}
use Rattle.template_meaning.specs.Again.{ListsStandInEach}
use Rattle.template_meaning.specs.Prototypes.{DeclaratorsHavePrototypes}
use Rattle.template_meaning.specs.Spans.{SpansMove}
use Rattle.template_meaning.specs.Files.{file_marks, FilesHaveLists}
use Rattle.template_meaning.specs.Items.{ItemsStand}
use Rattle.template_meaning.specs.Moves.{FileListsMove}
use Rattle.template_meaning.specs.Places.{ListInFile, ListsHaveRuns}
use Rattle.template_meaning.specs.Units.{HavePrototypes, UnitsHaveLists}
use Rattle.template_meaning.proofs.EvenLists.{IsEvenIn, list_even}
use Rattle.template_meaning.proofs.FilesOf.{list_files}
use Rattle.template_meaning.proofs.SpansOf.{text_of, kept_text, list_moves, spans_move}
use Rattle.template_meaning.proofs.TextLists.{list_text}

first_in : (ts : List (List ℕ)) → (ts ≡ [] → ⊥) → (t : List ℕ) × IsAmong ts t
first_in [] h = absurd (h refl)
first_in (t ∷ ts) h = (t, inl refl)

pub file_lists_move : RunsHaveCuts → ListsStandInEach → WorkspaceTokensAreOfRuns → UnitsHaveLists → FilesHaveLists → ListsHaveRuns → ItemsStand → DeclaratorsHavePrototypes → FileListsMove
file_lists_move cuts_law again tokens units nested runs items prototypes source ws a members order h some f holds =
    let first = first_in L holds.some in
    let found = list_files cuts_law again units tokens source ws a members order h some typed f.number first.0 first.1 in
    in_file found.0 found.1 found.2
  where
    typed : (u : UnitAnalysis) → IsIn a.units u → HavePrototypes members u
    typed u i = prototypes source ws a members order h u i

    L : List (List ℕ)
    L = lists_in (all_found members a) f.number

    in_file : (file : SourceFile) → source_at a.table f.number ≡ Some file → file.number ≡ f.number → SpansMove members order a f (map spans_by (file_marks members a f.number (tokens_of f.number f.bytes)))
    in_file file is number =
        let read = kept_text a.table f file holds.kept is in
        spans_move a members order f file read.0 number ((nested source ws a members order h some typed).nested file here) holds.some stand (λ u i. units source ws a members order h u i (typed u i)) some (λ t i. moves read.0 t (stand t i))
      where
        here : source_at a.table file.number ≡ Some file
        here = ap (source_at a.table) number ∙ is

        stand : (t : List ℕ) → IsAmong (lists_in (all_found members a) f.number) t → ListInFile a members file t
        stand t i = runs source ws a members order h some typed file here t (subst (λ (n : ℕ). IsAmong (lists_in (all_found members a) n) t) (sym number) i)

        moves : file_text f.number f.bytes ≡ Ok file.text → (t : List ℕ) → ListInFile a members file t → ListMoves f.number f.bytes (spans_by (map (begun_before file.text.toks) t))
        moves read t x =
            let text = text_of f.number f.bytes file.text read in
            let same : file.text.toks ≡ tokens_of f.number f.bytes = text_toks f.number f.bytes file.text read in
            list_moves a members file t x f.number f.bytes same (items source ws a members order h some typed file here t x)
            (subst (λ (toks : List Token). IsTextList (placed (tokens_of f.number f.bytes) (firsts_of f.bytes)) (spans_by (map (begun_before toks) t))) (sym same)
            (list_text a members file t f.number f.bytes x text.is text.shut))
            (subst (λ (toks : List Token). IsEvenIn toks f.bytes (spans_by (map (begun_before toks) t))) (sym same) (list_even source ws a members order h f file holds.kept here number t x))
