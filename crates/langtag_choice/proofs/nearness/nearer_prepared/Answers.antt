use Rattle.std.proofs.Common.{option_map, Some, ◌≡◌, sym, ap, ◌∙◌}
use Rattle.langtag_choice.proofs.FarTags.{none_between_forms}
use Rattle.langtag_choice.proofs.PreparedForms.{near_forms}
use Rattle.langtag_cldr.specs.Definitions.{matching_form, field_texts}
use Rattle.langtag_range.specs.Listed.{basic_text}
use Rattle.langtag_choice.proofs.nearness.nearer_prepared.Goals as goal

pub returns-in-Some-form : goal.returns-in-Some-form
returns-in-Some-form c = λ prepared.
    let range = basic_text c.args.wish.now.range.now in
    let tag = c.args.tag.now in
    let d = field_texts c.in-Some-form.desired in
    let s = field_texts c.in-Some.form in
    let range_is : matching_form range ≡ Some d = sym c.args.wish.now.known ∙ ap (option_map field_texts) c.in-Some-form.is in
    let tag_is : matching_form tag ≡ Some s = c.form.ensures c.in-Some.form c.in-Some.is tag prepared in
    near_forms c.nearer_places.result c.args.limit range tag d s range_is tag_is
    (c.nearer_places.ensures (none_between_forms (matching_form range) (matching_form tag) d s (c.has_language_of.ensures c.if-has_language_of.true tag prepared) range_is tag_is))
