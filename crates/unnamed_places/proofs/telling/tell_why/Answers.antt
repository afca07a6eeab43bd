use Rattle.unnamed_places.proofs.telling.tell_why.Goals as goal

pub returns-in-NoFile : goal.returns-in-NoFile
returns-in-NoFile g c = rw c.in-NoFile.is c.tell.ensures

pub returns-in-NoCharacter : goal.returns-in-NoCharacter
returns-in-NoCharacter g c = rw c.in-NoCharacter.is c.tell-in-NoCharacter.ensures

pub returns-in-NoIdentifier : goal.returns-in-NoIdentifier
returns-in-NoIdentifier g c = rw c.in-NoIdentifier.is c.tell-in-NoIdentifier.ensures

pub returns-in-Unprocessed : goal.returns-in-Unprocessed
returns-in-Unprocessed g c = rw c.in-Unprocessed.is c.tell-in-Unprocessed.ensures
