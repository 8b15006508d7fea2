use Rattle.std.proofs.Common.{is_some, refl, sym, ap, ◌∙◌}
use Rattle.std.proofs.lemmas.List.{map-id}
use Rattle.langtag_scan.specs.Record.{Spells}
use Rattle.langtag.specs.Text.{normal_lang_tag_text}
use Rattle.langtag_c.specs.Members.{singleton_place, variant_place}
use Rattle.langtag_c.proofs.PlaceLaws.{is_some-span}
use Rattle.langtag_c.proofs.repeats.langtag_repeats.Goals as goal

pub returns-clause-flags : goal.returns-clause-flags
returns-clause-flags c r spells =
    let tag : Spells r (normal_lang_tag_text c.in-Some.tag) = (spells.0, spells.1 ∙ sym c.in-Some.ensures.0) in
    let variant = c.is_some.ensures ∙ ap is_some (c.repeated_variant-variant.ensures r tag) ∙ is_some-span (variant_place r) (λ v. v) r.variants _ in
    let singleton = c.is_some-2.ensures ∙ ap is_some (c.repeated_singleton-singleton.ensures r tag) ∙ is_some-span (singleton_place r) (λ e. e.singleton) r.extensions _ in
    c.flags.ensures ∙ rw (variant, singleton, map-id r.variants) refl
