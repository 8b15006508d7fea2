use Rattle.std.proofs.lemmas.Grind.{common_steps}
use Rattle.std.proofs.Common.{arith}
use Rattle.langtag_keyword.proofs.Common.{◌≡◌, ◌++◌, [], list_all, true, sym, ap, subst, ◌∙◌, rules, flat_map, HasText, pushes_both, pushes_same, extension_flat, private_part_flat, each_from_test}
use Rattle.langtag_scan.specs.Grammar.{Record}
use Rattle.langtag.specs.Definitions.{SpellsExtensions, extensions_text, normal_lang_tag_text}
use Rattle.langtag_cldr.specs.Texts.{field_texts}
use Rattle.langtag.proofs.PartRules.{variants_listed}
use Rattle.langtag_likely.specs.Marked.{as_read}
use Rattle.langtag_likely.proofs.MarkLaws.{read_fits, read_keeps}
use Rattle.langtag_locale.specs.LocaleForm.{extensions_in_order, identifier_form, new_variants, record_fields}
use Rattle.langtag_keyword.specs.Identifier.{identifier_flat}
use Rattle.langtag_locale.specs.Locale.{is_locale_extension}
use Rattle.langtag_locale.proofs.IdentifierForms.{locale_joined}
use Rattle.langtag_locale.proofs.LocaleRecords.{all_allowed}
use Rattle.langtag_locale.proofs.WholeLaws.{spelled_locale}
use Rattle.langtag_locale.proofs.canonical_locale.put_parts.Goals as goal

pub push_identifier-requires : goal.push_identifier-requires
push_identifier-requires c = grind (arith, common_steps, c.nonempty.ensures.segments, each_from_test, c.variants.result.in_class)

pub push_locale_extensions-requires : goal.push_locale_extensions-requires
push_locale_extensions-requires c =
    let (r, spells, locale) = c.requires in
    let allowed = subst (λ es. list_all is_locale_extension es ≡ true) (read_keeps r).extensions (all_allowed (as_read r) locale) in
    (r.extensions, record { members = spells.0.extensions; joined = sym (c.extensions.ensures.part r spells) }, allowed)

pub returns : goal.returns
returns c = λ r spells.
    let q : Record = as_read r in
    let fits = read_fits r spells.0 in
    let kept = read_keeps r in
    let variants = c.nonempty.ensures.segments ∙ variants_listed r c.as_str.result.now spells.0 (c.as_str.ensures.same_text ∙ c.variants.ensures.part r spells) ∙ sym kept.variants in
    let fields = field_texts c.fields_of.result in
    let name = identifier_flat (identifier_form q.variants (record_fields q)) (new_variants q.variants (record_fields q)) in
    let extensions = flat_map extension_flat (extensions_in_order q.extensions) in
    let private_use = private_part_flat q.private_use in
    let spelled = subst (λ es. SpellsExtensions es (extensions_text c.extensions.result)) (sym kept.extensions) (record { members = spells.0.extensions; joined = sym (c.extensions.ensures.part r spells) }) in
    let pushed =
    pushes_both name (extensions ++ private_use) _ _ _
    (pushes_same _ name _ _
    (ap (λ vs. identifier_flat (identifier_form vs fields) (new_variants vs fields)) variants ∙ ap (λ f. identifier_flat (identifier_form q.variants f) (new_variants q.variants f)) (c.fields_of.ensures r spells))
    c.push_identifier.ensures)
    (pushes_both extensions private_use _ _ _ (c.push_locale_extensions.ensures q.extensions spelled) (c.push_private_use.ensures q.private_use (rw kept.private_use (c.private_use.ensures.part r spells)))) in
    let has =
    subst (HasText _ c.push_private_use.new.out) (locale_joined q fits (spelled_locale (normal_lang_tag_text c.args.tag) r c.requires spells)) (pushed _ [] c.new-out.ensures) in
    record { counted = c.len.ensures ∙ has.counted; written = λ fits. search (rules, has.same_buffer, has.written fits) }
