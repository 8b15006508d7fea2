use Rattle.langtag_keyword.proofs.Common.{◌≡◌, [], option_map, sym, ap, ◌∙◌, find_extension, extension_text, extensions_text, option_map_or, SpellsExtensions}
use Rattle.langtag_extension.specs.Text.{singleton_byte}
use Rattle.langtag_locale.proofs.LocaleRecords.{found_one}
use Rattle.langtag_locale.proofs.wish.unicode_subtags.Goals as goal

pub returns-in-Some-clause-subtags : goal.returns-in-Some-clause-subtags
returns-in-Some-clause-subtags c = λ r spells.
    let byte : singleton_byte c.in-Ok.singleton ≡ 117 = c.in-Ok.ensures.same_byte in
    let members : SpellsExtensions r.extensions (extensions_text c.extensions.result) = record { members = spells.0.extensions; joined = sym (c.extensions.ensures.part r spells) } in
    let found = found_one (singleton_byte c.in-Ok.singleton) r.extensions spells.0.extensions (extension_text c.in-Some.extension) (sym (ap (option_map extension_text) c.in-Some.is) ∙ c.get.ensures.first_match r.extensions members) in
    c.subtags_of.ensures.subtags found.one found.spells
    ∙ sym (ap (λ o. option_map_or (λ e. e.subtags) o []) (sym (ap (λ b. find_extension b r.extensions) byte) ∙ found.found))
