-- Texts of extensions that a Unicode locale identifier may have. Only contracts of private functions cite this page.
use Rattle.std.specs.Prelude.{◌≡◌, ℕ, true, List}
use Rattle.langtag_scan.specs.Grammar.{list_all, Extension}
use Rattle.langtag.specs.Definitions.{SpellsExtension, SpellsExtensions}
use Rattle.langtag_locale.specs.Locale.{is_locale_extension}

abbrev pub IsAllowed : List ℕ → Type 0
IsAllowed text = (e : Extension) × SpellsExtension e text × (is_locale_extension e ≡ true)

abbrev pub AreAllowed : List ℕ → Type 0
AreAllowed text = (es : List Extension) × SpellsExtensions es text × (list_all is_locale_extension es ≡ true)
