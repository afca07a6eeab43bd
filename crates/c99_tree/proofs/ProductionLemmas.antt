-- What the tests of productions tell.
use Rattle.std.proofs.Common.{refl, true, ◌≡◌}
use Rattle.std.proofs.lemmas.Bool.{false≢true}
use Rattle.c99_tree.specs.declared.production.Production.{Production}
use Rattle.c99_tree.specs.contracts.production.ProductionPartialEq.TheImpl.{ghosts}
use Rattle.c99_tree.specs.declared.production.Production.TheVariants.{Declarator, Pdirect, Post, Suffix}

pub direct_is : (p : Production) → ghosts.eq p Pdirect ≡ true → p ≡ Pdirect
direct_is Pdirect e = refl
direct_is _ e = absurd (false≢true e)

pub post_named : (p : Production) → ghosts.eq p Post ≡ true → p ≡ Post
post_named Post e = refl
post_named _ e = absurd (false≢true e)

pub suffix_named : (p : Production) → ghosts.eq p Suffix ≡ true → p ≡ Suffix
suffix_named Suffix e = refl
suffix_named _ e = absurd (false≢true e)

pub declarator_named : (p : Production) → ghosts.eq p Declarator ≡ true → p ≡ Declarator
declarator_named Declarator e = refl
declarator_named _ e = absurd (false≢true e)
