-- The sheet value of a list of calls through the library (specs/SheetValue.antt): its answers are the machine's. Assumes nothing.
use mathlib.Core.List.{map}
use Rattle.rate.specs.declared.Rate.{Rate}
use Rattle.rate.specs.Ceiling.{SheetValueUsable}
use Rattle.rate.specs.Rate.{rate_of, RateUsable}
use Rattle.rate.proofs.Rates.{usable_44100, sheet_value_usable_44100}
use Rattle.strip.proofs.SheetValue.{sheet_value_of}
use Rattle.setup.specs.Setup.{setup_of}
use Rattle.goqhari.specs.Promise.{call_of}
use Rattle.goqhari.specs.SheetValue.{LibrarySheetValueAt, LibrarySheetValue}
use Rattle.goqhari.proofs.Joined.{library_answers}

pub library_sheet_value_at : (r : Rate) → RateUsable r → SheetValueUsable r.ceiling → LibrarySheetValueAt r
unfolding LibrarySheetValueAt
library_sheet_value_at r u v singles doubles flags l ns ws store counts f z cs =
    sheet_value_of r u v (setup_of singles doubles flags) l (map call_of cs) _ (library_answers r u singles doubles flags l ns ws store counts f z cs)

-- E11 for C
pub library_sheet_value : LibrarySheetValue
library_sheet_value = record { at_44100 = library_sheet_value_at (rate_of 44100) usable_44100 sheet_value_usable_44100 }
