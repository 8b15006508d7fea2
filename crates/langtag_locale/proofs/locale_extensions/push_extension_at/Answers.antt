use Rattle.std.proofs.lemmas.Bool.Decides.{nat_tests}
use Rattle.std.proofs.Common.{arith}
use Rattle.langtag_keyword.proofs.Common.{◌≡◌, option_map, sym, ap, ◌∙◌, find_extension, extension_text, pushes_same, found_has}
use Rattle.langtag_extension.specs.Text.{singleton_byte}
use Rattle.langtag_locale.proofs.LocaleRecords.{at_found, at_nothing, found_one, none_found}
use Rattle.langtag_locale.specs.Locale.{is_locale_extension}
use Rattle.langtag_locale.proofs.locale_extensions.push_extension_at.Goals as goal

pub push_extension-requires : goal.push_extension-requires
push_extension-requires c =
    let (es, spells, all) = c.requires.allowed in
    let found = found_one (singleton_byte c.in-Ok.singleton) es spells.members (extension_text c.in-Some.extension) (sym (ap (option_map extension_text) c.in-Some.is) ∙ c.get.ensures.first_match es spells) in
    (found.one, found.spells, found_has is_locale_extension _ es found.one all found.found)

pub returns-in-Some : goal.returns-in-Some
returns-in-Some c = λ es spells.
    let byte : singleton_byte c.in-Ok.singleton ≡ c.args.singleton = c.in-Ok.ensures.same_byte in
    let found = found_one (singleton_byte c.in-Ok.singleton) es spells.members (extension_text c.in-Some.extension) (sym (ap (option_map extension_text) c.in-Some.is) ∙ c.get.ensures.first_match es spells) in
    pushes_same _ _ _ _ (sym (at_found es c.args.singleton found.one (sym (ap (λ b. find_extension b es) byte) ∙ found.found))) (c.push_extension.ensures found.one found.spells)

pub returns-in_default-get : goal.returns-in_default-get
returns-in_default-get c = grind (arith, nat_tests, c.in-Ok.ensures.same_byte, at_nothing, none_found, c.in_default-get.is, c.get.ensures.first_match)
