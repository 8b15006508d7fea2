use Rattle.langtag_scan.proofs.Prelude.{ap, ◌∙◌, slice_get, option_and_then, YieldsList-from_first, nth_from_yields_List}
use Rattle.langtag_scan.specs.Grammar.{is_variant, subtags}
use Rattle.langtag_scan.proofs.Laws.{of_variant, each_subtag, subtags-joined}
use Rattle.langtag_place.specs.Text.{variant_text, variants_left}
use Rattle.langtag.proofs.normal_lang_tag.NormalLangTag.repeated_variant.Goals as goal

pub returns-clause-repeated : goal.returns-clause-repeated
returns-clause-repeated c r spells =
    let walk = YieldsList-from_first variant_text variants_left _ c.iter.ensures.list in
    let listed = ap subtags (c.variants.ensures.part r spells) ∙ subtags-joined r.variants (each_subtag is_variant of_variant r.variants spells.0.variants) in
    nth_from_yields_List c.nth.result c.nth.new.self c.in_ok-index.index c.nth.ensures.ran walk
    ∙ ap (λ texts. slice_get texts c.in_ok-index.index) listed
    ∙ ap (option_and_then (slice_get r.variants)) (c.in_ok-index.ensures.repeated r spells)
