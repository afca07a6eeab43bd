-- A text whose names agree with a tree is read to it, where the same classes are.
use Rattle.std.proofs.Common.{ℕ, zero, suc, ◌≡◌, Bool, false, ◌||◌, not, List, length, refl, sym, ap, ◌∙◌, inl}
use Rattle.std.proofs.lemmas.Bool.{or_parts}
use Rattle.c99_grammar.specs.declared.dialects.Edition.{Edition}
use Rattle.cs_base.specs.Token.{Token}
use Rattle.cs_base.proofs.BoolLemmas.{and_none as and_false}
use Rattle.c99_tree.specs.Tree.{Forest, none, token, node}
use Rattle.c99_tree.specs.declared.production.Label.{Label}
use Rattle.c99_tree.specs.declared.production.Production.TheVariants.{TranslationUnit, Main}
use Rattle.c99_grammar.specs.Standard.{iso}
use Rattle.c99_read.specs.State.{base_at}
use Rattle.c_types.specs.Trees.{is_at}
use Rattle.renamed_tree_laws.specs.TreesAlike.{AgreeingTextsReadAlike}
use Rattle.reordered_text_laws.specs.Fronted.{fronted, used, up, dirty, has_some, labelled_as, with_front, AgreeingTextsAreRead}
use Rattle.reordered_text_laws.proofs.FrontClasses.{base_up}
use Rattle.reordered_text_laws.proofs.FrontTop.{front_kept, front_gone}
use Rattle.reordered_text_laws.proofs.FrontOutlines.{agrees_behind}

-- where none of the tokens stands, none strays
none_strays : (some : ℕ → Bool) (l : Label) (f : Forest) → has_some some f ≡ false → dirty some l f ≡ false
none_strays some l none e = refl
none_strays some l (token i rest) e =
    let both = or_parts (some i) (has_some some rest) e in
    ap (λ b. b || dirty some l rest) (and_false (not (is_at l Main 4)) (some i) both.0) ∙ none_strays some l rest both.1
none_strays some l (node m first under rest) e =
    let both = or_parts (has_some some under) (has_some some rest) e in
    ap (λ b. b || dirty some l rest) (none_strays some m under both.0) ∙ none_strays some l rest both.1

pub classes_behind : (s : Edition) (u z : List Token) → ((k : ℕ) → base_at (iso s) u k ≡ base_at (iso s) z k) → length u ≡ length z
    → (k : ℕ) → base_at (iso s) (fronted u) k ≡ base_at (iso s) (fronted z) k
classes_behind s u z e long zero = refl
classes_behind s u z e long (suc zero) = refl
classes_behind s u z e long (suc (suc zero)) = refl
classes_behind s u z e long (suc (suc (suc zero))) = refl
classes_behind s u z e long (suc (suc (suc (suc k)))) = base_up u (iso s) k ∙ (e k ∙ sym (base_up z (iso s) k))

pub agreeing_read : AgreeingTextsReadAlike → AgreeingTextsAreRead
agreeing_read alike s words u z tree fits clean zero_first e long classes named filled plain agree =
    let behind = front_kept s words u fits tree clean e in
    let other = alike s (fronted u) (fronted z) (with_front s tree) (ap (λ n. up n) long) (classes_behind s u z classes long) behind (agrees_behind s z tree named filled plain agree) in
    front_gone s (iso s).keywords z (λ k. inl (refl, named k)) tree (none_strays (used z) (labelled_as TranslationUnit 1) tree.under plain) zero_first other
