-- 02, E11, "The ceiling's sheet value", for C: of the frames that a list of calls writes. The claim is `LibrarySheetValue`, which takes no argument;
-- `library_sheet_value` in proofs/SheetValue.antt is a term of it. What is claimed of a list is crate strip's `SheetValueOf`.
use Rattle.rate.specs.declared.Rate.{Rate}
use Rattle.rate.specs.Rate.{rate_of}
use Rattle.strip.specs.SheetValue.{SheetValueOf}
use Rattle.goqhari.specs.Promise.{EveryLibraryList}

unfoldable pub LibrarySheetValueAt : Rate → Type 0
LibrarySheetValueAt r = EveryLibraryList r (SheetValueOf r)

-- E11 for C, at the rate that is sold
pub record LibrarySheetValue : Type 0 where
  pub at_44100 : LibrarySheetValueAt (rate_of 44100)
