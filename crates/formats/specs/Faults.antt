-- What is told of each fault of an input. Assumes nothing.
use Rattle.std.specs.Prelude.{codes}
use Rattle.verdicts.specs.Verdicts.{Told}
use Rattle.formats.specs.declared.fault.Fault.{Fault}
use Rattle.formats.specs.declared.fault.Fault.TheVariants.{CutShort, UnknownCommand, OperandBeyondRange, NoSuchDefinition, SiteUnknown, FreeVariable, TooLong, TrailingBytes, WindowBeforeRow, EmptyRow, SecondBelowFirst, TooMany}

abbrev pub told : Fault → Told
told (CutShort p) = record { number = 1; place = p; name = codes "Cut short" }
told (UnknownCommand p) = record { number = 2; place = p; name = codes "Unknown command" }
told (OperandBeyondRange p) = record { number = 3; place = p; name = codes "Operand beyond its range" }
told (NoSuchDefinition p) = record { number = 4; place = p; name = codes "Definition number at or above the count" }
told (SiteUnknown p) = record { number = 5; place = p; name = codes "Site unknown to the host" }
told (FreeVariable p) = record { number = 6; place = p; name = codes "Free variable" }
told TooLong = record { number = 7; place = 4096; name = codes "Over 4,096 bytes" }
told (TrailingBytes p) = record { number = 8; place = p; name = codes "Bytes after a complete form" }
told (WindowBeforeRow p) = record { number = 9; place = p; name = codes "Window before any row" }
told (EmptyRow p) = record { number = 10; place = p; name = codes "Row without silence or window" }
told (SecondBelowFirst p) = record { number = 11; place = p; name = codes "Second of a pair below the first" }
told (TooMany p) = record { number = 12; place = p; name = codes "Row 65 or window 5 of a row" }
