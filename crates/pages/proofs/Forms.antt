-- The form of the page of every word fits, so that what is said of forms that fit holds of each page that is written. By cases on the width. Assumes nothing.
use mathlib.Core.Bool.{Bool, true, false}
use Rattle.periods.specs.declared.word.Word.{Word}
use Rattle.periods.specs.Width.{wide?}
use Rattle.page_lines.specs.Line.{Fits}
use Rattle.page_lines.proofs.LineClaims.{byte_form_fits, code_form_fits}
use Rattle.pages.specs.Page.{form_of, form_in}

-- CLAIM: the form of a page fits, of bytes and of 16-bit codes
pub form_of_fits : (wide : Bool) → Fits (form_of wide)
form_of_fits false = byte_form_fits
form_of_fits true = code_form_fits

-- CLAIM: so does that of a word's page
pub form_in_fits : (w : Word) → Fits (form_in w)
form_in_fits w = form_of_fits (wide? w)
