-- One numbering of all causes. Of two offences at one place that of the lower number is named, so those against an
-- edit come first; each kind of edit asks for some of them.
use Rattle.std.specs.Prelude.{ℕ, ◌-◌, List, [], ◌∷◌, slice_get}
use Rattle.std.specs.Option.{unwrap_or}
use Rattle.cs_base.specs.declared.causes.Cause.{Cause}
use Rattle.cs_base.specs.declared.causes.Cause.TheVariants as cause

-- the number of a cause, from 1
abbrev pub number_of : Cause → ℕ
number_of cause.ReadOnly = 1
number_of cause.Reserved = 2
number_of cause.NoPrototype = 3
number_of cause.FunctionAsValue = 4
number_of cause.NoParameters = 5
number_of cause.InMacro = 6
number_of cause.AcrossDirective = 7
number_of cause.InDirective = 8
number_of cause.LineNumber = 9
number_of cause.NotExpanded = 10
number_of cause.Stringized = 11
number_of cause.HeaderName = 12
number_of cause.NotIdentifier = 13
number_of cause.Occurs = 14
number_of cause.Clash = 15
number_of cause.TooLarge = 16
number_of cause.ShadowedTypedef = 17
number_of cause.DeclarationInArgument = 18
number_of cause.ParameterDependence = 19
number_of cause.ArgumentCount = 20
number_of cause.OddToken = 21
number_of cause.CountedParameter = 22
number_of cause.AssemblerText = 23
number_of cause.UnknownDirective = 24
number_of cause.NoMacroName = 25
number_of cause.BadMacroName = 26
number_of cause.BadParameters = 27
number_of cause.BadHash = 28
number_of cause.BadPaste = 29
number_of cause.BadVaArgs = 30
number_of cause.NoHeader = 31
number_of cause.OpenComment = 32
number_of cause.FileTooLarge = 33
number_of cause.TooManyFiles = 34
number_of cause.TooManyBytes = 35
number_of cause.IncludeDepth = 36
number_of cause.MissingFile = 37
number_of cause.OpenCall = 38
number_of cause.WrongArguments = 39
number_of cause.NotOneToken = 40
number_of cause.NotAString = 41
number_of cause.TooMuchWork = 42
number_of cause.TooDeep = 43
number_of cause.BadDirective = 44
number_of cause.UnbalancedIf = 45
number_of cause.ErrorDirective = 46
number_of cause.DefinedFromMacro = 47
number_of cause.BadCondition = 48
number_of cause.DivideByZero = 49
number_of cause.Overflow = 50
number_of cause.TooManyTokens = 51
number_of cause.Syntax = 52
number_of cause.Undeclared = 53
number_of cause.NoMember = 54
number_of cause.NoLabel = 55
number_of cause.Redeclared = 56
number_of cause.TagRedefined = 57
number_of cause.MixedLinkage = 58
number_of cause.DesignatorAfterElision = 59

-- the causes by their numbers
abbrev pub numbered_causes : List Cause
numbered_causes =
    cause.ReadOnly ∷ cause.Reserved ∷ cause.NoPrototype ∷ cause.FunctionAsValue ∷ cause.NoParameters ∷
    cause.InMacro ∷ cause.AcrossDirective ∷ cause.InDirective ∷ cause.LineNumber ∷ cause.NotExpanded ∷
    cause.Stringized ∷ cause.HeaderName ∷ cause.NotIdentifier ∷ cause.Occurs ∷ cause.Clash ∷ cause.TooLarge ∷
    cause.ShadowedTypedef ∷ cause.DeclarationInArgument ∷ cause.ParameterDependence ∷ cause.ArgumentCount ∷
    cause.OddToken ∷ cause.CountedParameter ∷ cause.AssemblerText ∷ cause.UnknownDirective ∷
    cause.NoMacroName ∷ cause.BadMacroName ∷ cause.BadParameters ∷ cause.BadHash ∷ cause.BadPaste ∷
    cause.BadVaArgs ∷ cause.NoHeader ∷ cause.OpenComment ∷ cause.FileTooLarge ∷ cause.TooManyFiles ∷
    cause.TooManyBytes ∷ cause.IncludeDepth ∷ cause.MissingFile ∷ cause.OpenCall ∷ cause.WrongArguments ∷
    cause.NotOneToken ∷ cause.NotAString ∷ cause.TooMuchWork ∷ cause.TooDeep ∷ cause.BadDirective ∷
    cause.UnbalancedIf ∷ cause.ErrorDirective ∷ cause.DefinedFromMacro ∷ cause.BadCondition ∷
    cause.DivideByZero ∷ cause.Overflow ∷ cause.TooManyTokens ∷ cause.Syntax ∷ cause.Undeclared ∷
    cause.NoMember ∷ cause.NoLabel ∷ cause.Redeclared ∷ cause.TagRedefined ∷ cause.MixedLinkage ∷
    cause.DesignatorAfterElision ∷ []

-- the cause of a number; numbers past the last have the first one
abbrev pub cause_of : ℕ → Cause
cause_of number = unwrap_or (slice_get numbered_causes (number - 1)) cause.ReadOnly
