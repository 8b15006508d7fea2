use Rattle.langtag_keyword.proofs.Common.{◌≡◌, sym, ap, subst, ◌∙◌, is_region, is_script, segments_left, after_one, are_different_variants, is_unicode_language, both}
use Rattle.langtag_keyword.specs.Form.{is_language_id}
use Rattle.langtag_keyword.proofs.IdentifierParts.{AreVariants, different_variants}
use Rattle.langtag_locale.proofs.locale_extensions.push_locale_language_id.Goals as goal

pub push_identifier-requires : goal.push_identifier-requires
push_identifier-requires c =
    let s = c.split_first.result.0.now in
    let vs = after_one is_region (after_one is_script (segments_left c.split_first.result.1)) in
    let rest : segments_left c.take_region.result.1 ≡ vs = c.take_region.ensures.others ∙ ap (after_one is_region) c.take_script.ensures.others in
    let parts = both (is_unicode_language s) (are_different_variants vs) (ap is_language_id (sym c.split_first.ensures) ∙ c.requires) in
    subst AreVariants (sym rest) (different_variants vs parts.1)
