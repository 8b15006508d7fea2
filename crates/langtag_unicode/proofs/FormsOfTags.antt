-- The form of the extensions of a tag is its own form, and ignores case.
use Rattle.langtag_scan.proofs.Prelude.{ℕ, List}
use Rattle.langtag.proofs.FormLaws.{alike_forms, composed}
use Rattle.langtag.specs.Definitions.{IsAlikeForm}
use Rattle.langtag_keyword.proofs.ExtensionCase.{record-alike}
use Rattle.langtag_keyword.proofs.FormRecords.{form_well_formed}
use Rattle.langtag_keyword.proofs.FormTwice.{record-again}
use Rattle.langtag_keyword.specs.Form.{extensions_record}
use Rattle.langtag_unicode.specs.ExtensionsForm.{IsExtensionsForm}

pub extensions_settled : (old new : List ℕ) → IsExtensionsForm old new → IsExtensionsForm new new
extensions_settled old new is = composed extensions_record extensions_record extensions_record form_well_formed record-again old new new is is

-- tags that are alike have forms that are
pub extensions_form-alike : (tag form : List ℕ) → IsExtensionsForm tag form → IsAlikeForm IsExtensionsForm tag form
extensions_form-alike tag form is = alike_forms extensions_record record-alike tag form is
