use Rattle.langtag_keyword.proofs.Common.{ap, refl, sym, ◌∙◌, list_all, are_alike, segments, alias_for, option_map}
use Rattle.langtag_text.specs.FieldClasses.{is_region_field}
use Rattle.langtag_locale.specs.LocaleAliases.{region_heirs}
use Rattle.langtag_locale.proofs.LocaleTables.{all_good, found_good, heir_good}
use Rattle.langtag_locale.proofs.locale_fields.new_region.Goals as goal

pub returns-in-Some-alias_for-clause-in_class : goal.returns-in-Some-alias_for-clause-in_class
returns-in-Some-alias_for-clause-in_class c =
    ap is_region_field c.heir.ensures
    ∙ heir_good is_region_field c.likely_region.result.now (segments c.in-Some-alias_for.regions.now) (λ has. c.likely_region.ensures.in_class) refl
    (found_good (λ text. list_all is_region_field (segments text)) (λ alias. are_alike alias.old c.args.fields.region.now) region_heirs _ all_good.heirs
    (sym (c.alias_for.ensures ∙ ap (λ rows. alias_for rows c.args.fields.region.now) c.region_heirs.ensures) ∙ ap (option_map (λ t. t.now)) c.in-Some-alias_for.is))
