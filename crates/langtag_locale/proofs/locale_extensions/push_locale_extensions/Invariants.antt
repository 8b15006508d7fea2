use Rattle.langtag_keyword.proofs.Common.{List, drop, flat_map, SpellsExtensions, extensions_text, Output, Pushes}
use Rattle.langtag_scan.specs.Record as model
use Rattle.langtag_extension.specs.Noted.{singletons}
use Rattle.langtag_locale.specs.LocaleForm.{extension_at}
use Rattle.langtag_locale.proofs.locale_extensions.push_locale_extensions.Given as goal

-- the extensions from this singleton on are put after those before it
abbrev pub invariant-loop-singleton : goal.invariant-loop-singleton
invariant-loop-singleton l = (es : List model.Extension) → SpellsExtensions es (extensions_text l.fn.extensions) → (new : Output) →
    Pushes (flat_map (λ singleton. flat_map model.extension_flat (extension_at es singleton)) (drop l.singleton-index singletons)) l.out new →
    Pushes (flat_map (λ singleton. flat_map model.extension_flat (extension_at es singleton)) singletons) l.fn.out new
