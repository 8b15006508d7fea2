use Rattle.langtag_scan.proofs.Prelude.{None, Some, map, slice_get, sym, ap, ◌∙◌, option_and_then, option_map, YieldsList-from_first, nth_from_yields_List}
use Rattle.langtag.specs.Definitions.{extension_spelling, extension_text, extensions_left, singleton_byte}
use Rattle.langtag.proofs.SingletonRepeats.{singleton_at, singletons}
use Rattle.langtag_registry.proofs.validity.find_repeated_singleton.Goals as goal

pub returns-in_err-extension-clause-first : goal.returns-in_err-extension-clause-first
returns-in_err-extension-clause-first c r spells =
    let at = nth_from_yields_List c.nth.result c.nth.new.self c.in_ok-index.index c.nth.ensures.ran
    (YieldsList-from_first extension_text extensions_left (map extension_spelling r.extensions)
    (c.iter.ensures.list r.extensions (record { members = spells.0.extensions; joined = sym (c.extensions.ensures.part r spells) }))) in
    ap (option_map (λ found. singleton_byte found.0)) c.from_residual-in_err-extension.ensures
    ∙ singleton_at r.extensions c.in_ok-index.index None (ap (option_map extension_text) (sym c.in_err-extension.was) ∙ at)
    ∙ ap (option_and_then (slice_get (singletons r.extensions))) (c.in_ok-index.ensures.repeated r spells)

pub returns-clause-first : goal.returns-clause-first
returns-clause-first c r spells =
    let at = nth_from_yields_List c.nth.result c.nth.new.self c.in_ok-index.index c.nth.ensures.ran
    (YieldsList-from_first extension_text extensions_left (map extension_spelling r.extensions)
    (c.iter.ensures.list r.extensions (record { members = spells.0.extensions; joined = sym (c.extensions.ensures.part r spells) }))) in
    ap Some c.singleton.ensures.first_byte
    ∙ singleton_at r.extensions c.in_ok-index.index (Some (extension_text c.in_ok-extension.extension)) (ap (option_map extension_text) (sym c.in_ok-extension.was) ∙ at)
    ∙ ap (option_and_then (slice_get (singletons r.extensions))) (c.in_ok-index.ensures.repeated r spells)
