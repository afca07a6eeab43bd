-- Chains of operands and their pasting, under a renaming.
use Rattle.std.proofs.Common.{◌≡◌, Bool, List, [], ◌∷◌, ◌++◌, map, Result, Ok, Err, refl, ap, sym, subst, ◌∙◌}
use Rattle.std.proofs.lemmas.List.{map-append}
use Rattle.cs_base.specs.Token.{Token}
use Rattle.macro_body.specs.Below.paste_origin.Pasting.{PasteFault, glue_of}
use Rattle.macro_body.specs.Hides.{Hidden, hidden, in_both}
use Rattle.macro_body.specs.Bodies.{Part}
use Rattle.macro_body.specs.Notes.{Fault, Pasted, onward}
use Rattle.macro_body.specs.Substitution.{Arguments, Made, made, made_both, with_gap, put_in, is_alone, operand_made, operands_made, chains_made, token_pasted, pasted_behind, two_pasted, chain_pasted, chains_pasted, result_of}
use Rattle.macro_expand.specs.Renaming.{renamed, renamed_hidden, renamed_note, AllRespected}
use Rattle.macro_body.proofs.ResultLemmas.{ok_same, err_ok, onward_ok}
use Rattle.expansion_laws.proofs.RenamedLemmas.{renamed_part, renamed_chains, renamed_lists, renamed_arguments, with_gap-renamed, is_alone-renamed}
use Rattle.expansion_laws.proofs.GroundLemmas.{AllDefined-in_both}
use Rattle.expansion_laws.proofs.WorldLemmas.{World, Good, GoodLists, Good-append, Good-with_gap, in_both-renamed}
use Rattle.expansion_laws.proofs.MadeLemmas.{notes_renamed, respected_split, PartsOccur, ChainsOccur, GoodArguments, made_renamed, lists_renamed, chains_renamed, GoodChains, IsMade, operand-renamed}

abbrev pub put_first : {A : Type 0} → Made A → Made (List A) → Result (Made (List A)) Fault
put_first v vs = Ok (made_both (λ x xs. x ∷ xs) v vs)

operands-renamed : (w : World) (name : Token) (args : Arguments) → GoodArguments w args → (lone : Bool) (ps : List Part) → PartsOccur w ps
    → (m : Made (List (List Hidden))) → operands_made name args lone ps ≡ Ok m → AllRespected w.o w.r m.notes
    → (operands_made (renamed w.r name) (renamed_arguments w.r args) lone (map (renamed_part w.r) ps) ≡ Ok (lists_renamed w m)) × GoodLists w m.value
operands-renamed w name args g lone [] here m e resp =
    let P : Made (List (List Hidden)) → Type 0 = λ v. (operands_made (renamed w.r name) (renamed_arguments w.r args) lone [] ≡ Ok (lists_renamed w v)) × GoodLists w v.value in
    subst P (ok_same (made [] []) m e) (refl, tt)
operands-renamed w name args g lone (p ∷ ps) here m e resp =
    let i = onward_ok {A = Made (List Hidden)} (operand_made name args lone p) (λ v. onward (operands_made name args lone ps) (put_first v)) m e in
    let j = onward_ok {A = Made (List (List Hidden))} (operands_made name args lone ps) (put_first i.0) m i.2 in
    let P : Made (List (List Hidden)) → Type 0 = λ v. AllRespected w.o w.r v.notes
    → (operands_made (renamed w.r name) (renamed_arguments w.r args) lone (map (renamed_part w.r) (p ∷ ps)) ≡ Ok (lists_renamed w v)) × GoodLists w v.value in
    subst P (ok_same (made_both (λ x xs. x ∷ xs) i.0 j.0) m j.2) (λ both.
    let each = respected_split w i.0.notes j.0.notes both in
    let a = operand-renamed w name args g lone p here.0 i.0 i.1 each.0 in
    let b = operands-renamed w name args g lone ps here.1 j.0 j.1 each.1 in (
      ap (λ v. onward v (λ x. onward (operands_made (renamed w.r name) (renamed_arguments w.r args) lone (map (renamed_part w.r) ps)) (put_first x))) a.0
          ∙ ap (λ v. onward v (put_first (made_renamed w i.0))) b.0
          ∙ ap (λ n. Ok (made (map (renamed_hidden w.r) i.0.value ∷ renamed_lists w.r j.0.value) n)) (sym (map-append (renamed_note w.r) i.0.notes j.0.notes)),
      (a.1, b.1),
    ))
    resp

chains-renamed : (w : World) (name : Token) (args : Arguments) → GoodArguments w args → (cs : List (List Part)) → ChainsOccur w cs
    → (m : Made (List (List (List Hidden)))) → chains_made name args cs ≡ Ok m → AllRespected w.o w.r m.notes
    → (chains_made (renamed w.r name) (renamed_arguments w.r args) (renamed_chains w.r cs) ≡ Ok (chains_renamed w m)) × GoodChains w m.value
chains-renamed w name args g [] here m e resp =
    let P : Made (List (List (List Hidden))) → Type 0 = λ v. (chains_made (renamed w.r name) (renamed_arguments w.r args) [] ≡ Ok (chains_renamed w v)) × GoodChains w v.value in
    subst P (ok_same (made [] []) m e) (refl, tt)
chains-renamed w name args g (c ∷ cs) here m e resp =
    let i = onward_ok {A = Made (List (List Hidden))} (operands_made name args (is_alone c) c) (λ v. onward (chains_made name args cs) (put_first v)) m e in
    let j = onward_ok {A = Made (List (List (List Hidden)))} (chains_made name args cs) (put_first i.0) m i.2 in
    let P : Made (List (List (List Hidden))) → Type 0 = λ v. AllRespected w.o w.r v.notes
    → (chains_made (renamed w.r name) (renamed_arguments w.r args) (renamed_chains w.r (c ∷ cs)) ≡ Ok (chains_renamed w v)) × GoodChains w v.value in
    subst P (ok_same (made_both (λ x xs. x ∷ xs) i.0 j.0) m j.2) (λ both.
    let each = respected_split w i.0.notes j.0.notes both in
    let a = operands-renamed w name args g (is_alone c) c here.0 i.0 i.1 each.0 in
    let b = chains-renamed w name args g cs here.1 j.0 j.1 each.1 in (
      ap (λ lone. onward (operands_made (renamed w.r name) (renamed_arguments w.r args) lone (map (renamed_part w.r) c)) (λ x. onward (chains_made (renamed w.r name) (renamed_arguments w.r args) (renamed_chains w.r cs)) (put_first x))) (is_alone-renamed w.r c)
          ∙ ap (λ v. onward v (λ x. onward (chains_made (renamed w.r name) (renamed_arguments w.r args) (renamed_chains w.r cs)) (put_first x))) a.0
          ∙ ap (λ v. onward v (put_first (lists_renamed w i.0))) b.0
          ∙ ap (λ n. Ok (made (renamed_lists w.r i.0.value ∷ map (renamed_lists w.r) j.0.value) n)) (sym (map-append (renamed_note w.r) i.0.notes j.0.notes)),
      (a.1, b.1),
    ))
    resp

-- Pasting.

token-renamed : (w : World) (name : Token) (x y : Hidden) → Good w (x ∷ []) → Good w (y ∷ []) → (res : Result Token PasteFault) → glue_of x.tok y.tok ≡ res
    → (m : Made Hidden) → token_pasted name x y res ≡ Ok m → AllRespected w.o w.r m.notes
    → (token_pasted (renamed w.r name) (renamed_hidden w.r x) (renamed_hidden w.r y) (glue_of (renamed w.r x.tok) (renamed w.r y.tok))
    ≡ Ok (made (renamed_hidden w.r m.value) (notes_renamed w m.notes))) × Good w (m.value ∷ [])
token-renamed w name x y gx gy (Err f) is m e resp = err_ok _ m e
token-renamed w name x y gx gy (Ok z) is m e resp =
    let P : Made Hidden → Type 0 = λ v. AllRespected w.o w.r v.notes →
    (token_pasted (renamed w.r name) (renamed_hidden w.r x) (renamed_hidden w.r y) (glue_of (renamed w.r x.tok) (renamed w.r y.tok))
    ≡ Ok (made (renamed_hidden w.r v.value) (notes_renamed w v.notes))) × Good w (v.value ∷ []) in
    subst P (ok_same (made (hidden (put_in name x.tok.gap z) (in_both x.hides y.hides)) (Pasted x.tok y.tok (put_in name x.tok.gap z) ∷ [])) m e)
    (λ r. (
      ap (token_pasted (renamed w.r name) (renamed_hidden w.r x) (renamed_hidden w.r y)) r.0.0
          ∙ ap (λ hides. Ok (made (hidden (renamed w.r (put_in name x.tok.gap z)) hides) (Pasted (renamed w.r x.tok) (renamed w.r y.tok) (renamed w.r (put_in name x.tok.gap z)) ∷ []))) (in_both-renamed w x.hides y.hides gx.1 gy.1),
      (r.0.1, AllDefined-in_both w.old x.hides y.hides gx.1, tt),
    ))
    resp

behind-renamed : (w : World) (name : Token) (x : Hidden) (xs ys : List Hidden) → Good w (x ∷ xs) → Good w ys → (m : Made (List Hidden))
    → pasted_behind name x xs ys ≡ Ok m → AllRespected w.o w.r m.notes
    → IsMade w m (pasted_behind (renamed w.r name) (renamed_hidden w.r x) (map (renamed_hidden w.r) xs) (map (renamed_hidden w.r) ys))
behind-renamed w name x [] [] gx gy m e resp =
    let P : Made (List Hidden) → Type 0 = λ v. IsMade w v (pasted_behind (renamed w.r name) (renamed_hidden w.r x) [] []) in
    subst P (ok_same (made (x ∷ []) []) m e) (refl, gx)
behind-renamed w name x [] (y ∷ ys) gx gy m e resp =
    let i = onward_ok {A = Made Hidden} (token_pasted name x y (glue_of x.tok y.tok)) (λ z. Ok (made (z.value ∷ ys) z.notes)) m e in
    let P : Made (List Hidden) → Type 0 = λ v. AllRespected w.o w.r v.notes → IsMade w v (pasted_behind (renamed w.r name) (renamed_hidden w.r x) [] (map (renamed_hidden w.r) (y ∷ ys))) in
    subst P (ok_same (made (i.0.value ∷ ys) i.0.notes) m i.2) (λ r.
    let a = token-renamed w name x y gx (gy.0, gy.1, tt) (glue_of x.tok y.tok) refl i.0 i.1 r in
    (ap (λ v. onward v (λ (z : Made Hidden). Ok (made (z.value ∷ map (renamed_hidden w.r) ys) z.notes))) a.0, (a.1.0, a.1.1, gy.2)))
    resp
behind-renamed w name x (x2 ∷ xs) ys gx gy m e resp =
    let i = onward_ok {A = Made (List Hidden)} (pasted_behind name x2 xs ys) (λ zs. Ok (made (x ∷ zs.value) zs.notes)) m e in
    let P : Made (List Hidden) → Type 0 = λ v. AllRespected w.o w.r v.notes → IsMade w v (pasted_behind (renamed w.r name) (renamed_hidden w.r x) (map (renamed_hidden w.r) (x2 ∷ xs)) (map (renamed_hidden w.r) ys)) in
    subst P (ok_same (made (x ∷ i.0.value) i.0.notes) m i.2) (λ r.
    let a = behind-renamed w name x2 xs ys gx.2 gy i.0 i.1 r in
    (ap (λ v. onward v (λ (zs : Made (List Hidden)). Ok (made (renamed_hidden w.r x ∷ zs.value) zs.notes))) a.0, (gx.0, gx.1, a.1)))
    resp

two-renamed : (w : World) (name : Token) (xs ys : List Hidden) → Good w xs → Good w ys → (m : Made (List Hidden))
    → two_pasted name xs ys ≡ Ok m → AllRespected w.o w.r m.notes
    → IsMade w m (two_pasted (renamed w.r name) (map (renamed_hidden w.r) xs) (map (renamed_hidden w.r) ys))
two-renamed w name [] ys gx gy m e resp =
    let P : Made (List Hidden) → Type 0 = λ v. IsMade w v (Ok (made (map (renamed_hidden w.r) ys) [])) in
    subst P (ok_same (made ys []) m e) (refl, gy)
two-renamed w name (x ∷ xs) ys gx gy m e resp = behind-renamed w name x xs ys gx gy m e resp

chain-renamed : (w : World) (name : Token) (xs : List Hidden) (yss : List (List Hidden)) → Good w xs → GoodLists w yss → (m : Made (List Hidden))
    → chain_pasted name xs yss ≡ Ok m → AllRespected w.o w.r m.notes
    → IsMade w m (chain_pasted (renamed w.r name) (map (renamed_hidden w.r) xs) (renamed_lists w.r yss))
chain-renamed w name xs [] gx gy m e resp =
    let P : Made (List Hidden) → Type 0 = λ v. IsMade w v (Ok (made (map (renamed_hidden w.r) xs) [])) in
    subst P (ok_same (made xs []) m e) (refl, gx)
chain-renamed w name xs (ys ∷ yss) gx gy m e resp =
    let i = onward_ok {A = Made (List Hidden)} (two_pasted name xs ys) (λ z. onward (chain_pasted name z.value yss) (λ zs. Ok (made zs.value (z.notes ++ zs.notes)))) m e in
    let j = onward_ok {A = Made (List Hidden)} (chain_pasted name i.0.value yss) (λ zs. Ok (made zs.value (i.0.notes ++ zs.notes))) m i.2 in
    let P : Made (List Hidden) → Type 0 = λ v. AllRespected w.o w.r v.notes → IsMade w v (chain_pasted (renamed w.r name) (map (renamed_hidden w.r) xs) (renamed_lists w.r (ys ∷ yss))) in
    subst P (ok_same (made j.0.value (i.0.notes ++ j.0.notes)) m j.2) (λ both.
    let each = respected_split w i.0.notes j.0.notes both in
    let a = two-renamed w name xs ys gx gy.0 i.0 i.1 each.0 in
    let b = chain-renamed w name i.0.value yss a.1 gy.1 j.0 j.1 each.1 in (
      ap (λ v. onward v (λ (z : Made (List Hidden)). onward (chain_pasted (renamed w.r name) z.value (renamed_lists w.r yss)) (λ zs. Ok (made zs.value (z.notes ++ zs.notes))))) a.0
          ∙ ap (λ v. onward v (λ (zs : Made (List Hidden)). Ok (made zs.value (notes_renamed w i.0.notes ++ zs.notes)))) b.0
          ∙ ap (λ n. Ok (made (map (renamed_hidden w.r) j.0.value) n)) (sym (map-append (renamed_note w.r) i.0.notes j.0.notes)),
      b.1,
    ))
    resp

pasted-renamed : (w : World) (name : Token) (cs : List (List (List Hidden))) → GoodChains w cs → (m : Made (List Hidden))
    → chains_pasted name cs ≡ Ok m → AllRespected w.o w.r m.notes
    → IsMade w m (chains_pasted (renamed w.r name) (map (renamed_lists w.r) cs))
pasted-renamed w name [] g m e resp =
    let P : Made (List Hidden) → Type 0 = λ v. IsMade w v (Ok (made [] [])) in
    subst P (ok_same (made [] []) m e) (refl, tt)
pasted-renamed w name (c ∷ cs) g m e resp =
    let i = onward_ok {A = Made (List Hidden)} (chain_pasted name [] c) (λ v. onward (chains_pasted name cs) (λ vs. Ok (made_both (λ x xs. x ++ xs) v vs))) m e in
    let j = onward_ok {A = Made (List Hidden)} (chains_pasted name cs) (λ vs. Ok (made_both (λ x xs. x ++ xs) i.0 vs)) m i.2 in
    let P : Made (List Hidden) → Type 0 = λ v. AllRespected w.o w.r v.notes → IsMade w v (chains_pasted (renamed w.r name) (map (renamed_lists w.r) (c ∷ cs))) in
    subst P (ok_same (made_both (λ x xs. x ++ xs) i.0 j.0) m j.2) (λ both.
    let each = respected_split w i.0.notes j.0.notes both in
    let a = chain-renamed w name [] c tt g.0 i.0 i.1 each.0 in
    let b = pasted-renamed w name cs g.1 j.0 j.1 each.1 in (
      ap (λ v. onward v (λ (x : Made (List Hidden)). onward (chains_pasted (renamed w.r name) (map (renamed_lists w.r) cs)) (λ vs. Ok (made_both (λ x xs. x ++ xs) x vs)))) a.0
          ∙ ap (λ v. onward v (λ (vs : Made (List Hidden)). Ok (made_both (λ x xs. x ++ xs) (made_renamed w i.0) vs))) b.0
          ∙ ap (λ l. Ok (made l (notes_renamed w i.0.notes ++ notes_renamed w j.0.notes))) (sym (map-append (renamed_hidden w.r) i.0.value j.0.value))
          ∙ ap (λ n. Ok (made (map (renamed_hidden w.r) (i.0.value ++ j.0.value)) n)) (sym (map-append (renamed_note w.r) i.0.notes j.0.notes)),
      Good-append w i.0.value j.0.value a.1 b.1,
    ))
    resp

-- the result of a replacement
pub result-renamed : (w : World) (name : Token) (args : Arguments) → GoodArguments w args → (cs : List (List Part)) → ChainsOccur w cs → (m : Made (List Hidden))
    → result_of name args cs ≡ Ok m → AllRespected w.o w.r m.notes
    → IsMade w m (result_of (renamed w.r name) (renamed_arguments w.r args) (renamed_chains w.r cs))
unfolding result_of
result-renamed w name args g cs here m e resp =
    let i = onward_ok {A = Made (List (List (List Hidden)))} (chains_made name args cs) (λ s. onward (chains_pasted name s.value) (λ v. Ok (made (with_gap name.gap v.value) (s.notes ++ v.notes)))) m e in
    let j = onward_ok {A = Made (List Hidden)} (chains_pasted name i.0.value) (λ v. Ok (made (with_gap name.gap v.value) (i.0.notes ++ v.notes))) m i.2 in
    let P : Made (List Hidden) → Type 0 = λ v. AllRespected w.o w.r v.notes → IsMade w v
    (onward (chains_made (renamed w.r name) (renamed_arguments w.r args) (renamed_chains w.r cs)) (λ s. onward (chains_pasted (renamed w.r name) s.value) (λ v. Ok (made (with_gap name.gap v.value) (s.notes ++ v.notes))))) in
    subst P (ok_same (made (with_gap name.gap j.0.value) (i.0.notes ++ j.0.notes)) m j.2) (λ both.
    let each = respected_split w i.0.notes j.0.notes both in
    let a = chains-renamed w name args g cs here i.0 i.1 each.0 in
    let b = pasted-renamed w name i.0.value a.1 j.0 j.1 each.1 in (
      ap (λ v. onward v (λ (s : Made (List (List (List Hidden)))). onward (chains_pasted (renamed w.r name) s.value) (λ v. Ok (made (with_gap name.gap v.value) (s.notes ++ v.notes))))) a.0
          ∙ ap (λ v. onward v (λ (v : Made (List Hidden)). Ok (made (with_gap name.gap v.value) (notes_renamed w i.0.notes ++ v.notes)))) b.0
          ∙ ap (λ l. Ok (made l (notes_renamed w i.0.notes ++ notes_renamed w j.0.notes))) (with_gap-renamed w.r name.gap j.0.value)
          ∙ ap (λ n. Ok (made (map (renamed_hidden w.r) (with_gap name.gap j.0.value)) n)) (sym (map-append (renamed_note w.r) i.0.notes j.0.notes)),
      Good-with_gap w name.gap j.0.value b.1,
    ))
    resp
