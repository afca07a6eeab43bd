-- The parts of a replacement list whose tokens occur.
use Rattle.std.proofs.Common.{◌≡◌, ℕ, Bool, true, false, cond, List, [], ◌∷◌, map, Option, Some, None, is_some, subst}
use Rattle.cs_base.specs.Token.{Token}
use Rattle.line_shape.specs.Signs.{is_paste}
use Rattle.macro_body.specs.declared.definitions.Definition.{Definition}
use Rattle.macro_body.specs.Bodies.{Part, Plain, Param, Quote, Paste, Rest, quoted_parameter, param_or_plain, lone_part, quote_or, parts_from, is_operator, pasted_to, chains_in, rest_or_chain, chains_of}
use Rattle.macro_body.proofs.ChainLemmas.{rest_by}
use Rattle.macro_body.specs.Macro.{parameter_at}
use Rattle.macro_expand.specs.Renaming.{occurs, AllOccur}
use Rattle.expansion_laws.proofs.GroundLemmas.{Ground}

abbrev pub PartOccurs : Ground → Part → Type 0
PartOccurs w (Plain t) = occurs w.o t ≡ true
PartOccurs w (Paste t) = occurs w.o t ≡ true
PartOccurs w (Param t i) = Unit {0}
PartOccurs w (Quote t i) = Unit {0}
PartOccurs w (Rest t i) = occurs w.o t ≡ true

abbrev pub PartsOccur : Ground → List Part → Type 0
PartsOccur w [] = Unit {0}
PartsOccur w (p ∷ ps) = PartOccurs w p × PartsOccur w ps

abbrev pub ChainsOccur : Ground → List (List Part) → Type 0
ChainsOccur w [] = Unit {0}
ChainsOccur w (c ∷ cs) = PartsOccur w c × ChainsOccur w cs

param_or_plain-occurs : (w : Ground) (t : Token) (p : Option ℕ) → occurs w.o t ≡ true → PartOccurs w (param_or_plain t p)
param_or_plain-occurs w t (Some i) h = tt
param_or_plain-occurs w t None h = h

cond_occurs : (w : Ground) (b : Bool) (p q : Part) → PartOccurs w p → PartOccurs w q → PartOccurs w (cond b p q)
cond_occurs w true p q h k = h
cond_occurs w false p q h k = k

quote_or-occurs : (w : Ground) (t : Token) (part : Part) (q : Option ℕ) → PartOccurs w part → PartOccurs w (quote_or t part q)
quote_or-occurs w t part (Some i) h = tt
quote_or-occurs w t part None h = h

parts_from-occur : (w : Ground) (m : Definition) (taken : Bool) (ts : List Token) → AllOccur w.o ts → PartsOccur w (parts_from m taken ts)
unfolding parts_from
parts_from-occur w m taken [] h = tt
parts_from-occur w m true (t ∷ ts) h = parts_from-occur w m false ts h.1
parts_from-occur w m false (t ∷ ts) h = (
  quote_or-occurs w t (lone_part m t) (quoted_parameter m t ts)
      (cond_occurs w (is_paste t) (Paste t) (param_or_plain t (parameter_at m t)) h.0 (param_or_plain-occurs w t (parameter_at m t) h.0)),
  parts_from-occur w m (is_some (quoted_parameter m t ts)) ts h.1,
)

pasted_to-occur : (w : Ground) (p : Part) (cs : List (List Part)) → PartOccurs w p → ChainsOccur w cs → ChainsOccur w (pasted_to p cs)
pasted_to-occur w p [] h k = ((h, tt), tt)
pasted_to-occur w p (c ∷ cs) h k = ((h, k.0), k.1)

cond_chains : (w : Ground) (b : Bool) (x y : List (List Part)) → ChainsOccur w x → ChainsOccur w y → ChainsOccur w (cond b x y)
cond_chains w true x y h k = h
cond_chains w false x y h k = k

chains_in-occur : (w : Ground) (ps : List Part) → PartsOccur w ps → ChainsOccur w (chains_in ps)
unfolding chains_in
chains_in-occur w [] h = tt
chains_in-occur w (p ∷ []) h = ((h.0, tt), tt)
chains_in-occur w (p ∷ q ∷ ps) h =
    cond_chains w (is_operator q) (pasted_to p (chains_in ps)) ((p ∷ []) ∷ chains_in (q ∷ ps))
    (pasted_to-occur w p (chains_in ps) h.0 (chains_in-occur w ps h.1.1))
    ((h.0, tt), chains_in-occur w (q ∷ ps) h.1)

rests-occur : (w : Ground) (m : Definition) (cs : List (List Part)) → ChainsOccur w cs → ChainsOccur w (map (rest_or_chain m) cs)
rests-occur w m [] h = tt
rests-occur w m (c ∷ cs) h = (rest_by (PartsOccur w) m c h.0 (λ t q i is. ((subst (PartsOccur w) is h.0).0, tt)), rests-occur w m cs h.1)

pub chains_of-occur : (w : Ground) (m : Definition) → AllOccur w.o m.body → ChainsOccur w (chains_of m)
unfolding chains_of
chains_of-occur w m h = rests-occur w m (chains_in (parts_from m false m.body)) (chains_in-occur w (parts_from m false m.body) (parts_from-occur w m false m.body h))
