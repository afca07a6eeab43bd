-- Numbered causes: no two have one number.
use Rattle.std.proofs.Common.{◌≡◌, refl, sym, ap, ◌∙◌}
use Rattle.cs_base.specs.declared.causes.Cause.{Cause}
use Rattle.cs_base.specs.declared.causes.Cause.TheVariants as cause
use Rattle.cs_base.specs.Order.{number_of, cause_of}

-- the number of a cause tells it
pub cause-numbered : (c : Cause) → cause_of (number_of c) ≡ c
cause-numbered cause.ReadOnly = refl
cause-numbered cause.Reserved = refl
cause-numbered cause.NoPrototype = refl
cause-numbered cause.FunctionAsValue = refl
cause-numbered cause.NoParameters = refl
cause-numbered cause.InMacro = refl
cause-numbered cause.AcrossDirective = refl
cause-numbered cause.InDirective = refl
cause-numbered cause.LineNumber = refl
cause-numbered cause.NotExpanded = refl
cause-numbered cause.Stringized = refl
cause-numbered cause.HeaderName = refl
cause-numbered cause.NotIdentifier = refl
cause-numbered cause.Occurs = refl
cause-numbered cause.Clash = refl
cause-numbered cause.TooLarge = refl
cause-numbered cause.ShadowedTypedef = refl
cause-numbered cause.DeclarationInArgument = refl
cause-numbered cause.ParameterDependence = refl
cause-numbered cause.ArgumentCount = refl
cause-numbered cause.OddToken = refl
cause-numbered cause.CountedParameter = refl
cause-numbered cause.AssemblerText = refl
cause-numbered cause.UnknownDirective = refl
cause-numbered cause.NoMacroName = refl
cause-numbered cause.BadMacroName = refl
cause-numbered cause.BadParameters = refl
cause-numbered cause.BadHash = refl
cause-numbered cause.BadPaste = refl
cause-numbered cause.BadVaArgs = refl
cause-numbered cause.NoHeader = refl
cause-numbered cause.OpenComment = refl
cause-numbered cause.FileTooLarge = refl
cause-numbered cause.TooManyFiles = refl
cause-numbered cause.TooManyBytes = refl
cause-numbered cause.IncludeDepth = refl
cause-numbered cause.MissingFile = refl
cause-numbered cause.OpenCall = refl
cause-numbered cause.WrongArguments = refl
cause-numbered cause.NotOneToken = refl
cause-numbered cause.NotAString = refl
cause-numbered cause.TooMuchWork = refl
cause-numbered cause.TooDeep = refl
cause-numbered cause.BadDirective = refl
cause-numbered cause.UnbalancedIf = refl
cause-numbered cause.ErrorDirective = refl
cause-numbered cause.DefinedFromMacro = refl
cause-numbered cause.BadCondition = refl
cause-numbered cause.DivideByZero = refl
cause-numbered cause.Overflow = refl
cause-numbered cause.TooManyTokens = refl
cause-numbered cause.Syntax = refl
cause-numbered cause.Undeclared = refl
cause-numbered cause.NoMember = refl
cause-numbered cause.NoLabel = refl
cause-numbered cause.Redeclared = refl
cause-numbered cause.TagRedefined = refl
cause-numbered cause.MixedLinkage = refl
cause-numbered cause.DesignatorAfterElision = refl

-- causes of one number are one
pub one_cause : (c d : Cause) → number_of c ≡ number_of d → c ≡ d
one_cause c d same = sym (cause-numbered c) ∙ (ap cause_of same ∙ cause-numbered d)
