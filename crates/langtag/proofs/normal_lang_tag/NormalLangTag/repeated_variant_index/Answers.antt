use Rattle.std.proofs.Common.{ap, ◌∙◌}
use Rattle.langtag_scan.specs.Grammar.{are_alike, is_variant, subtags}
use Rattle.langtag_scan.proofs.Laws.{of_variant, each_subtag, subtags-joined}
use Rattle.langtag_place.specs.Repeat.{repeat_index}
use Rattle.langtag.proofs.normal_lang_tag.NormalLangTag.repeated_variant_index.Goals as goal

pub returns-clause-repeated : goal.returns-clause-repeated
returns-clause-repeated c r spells =
    c.first_repeated_variant.ensures
    ∙ ap (λ text. repeat_index are_alike (subtags text)) (c.variants.ensures.part r spells)
    ∙ ap (repeat_index are_alike) (subtags-joined r.variants (each_subtag is_variant of_variant r.variants spells.0.variants))
