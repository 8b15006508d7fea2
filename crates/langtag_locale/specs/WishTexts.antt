-- The texts of what a range asks for. Only contracts of private functions cite this page.
use Rattle.langtag_scan.specs.Grammar.{subtags}
use Rattle.langtag_locale.specs.declared.wish.Wish.{Wish}
use Rattle.langtag_locale.specs.Resolved as spec

abbrev pub wish_texts : Wish → spec.Wish
wish_texts wish = record { region = wish.region.now; unicode = subtags wish.unicode.now }
