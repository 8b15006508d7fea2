use Rattle.langtag_keyword.proofs.Common.{List, length, flat_map, SpellsExtensions, extensions_left, extensions_text, Extension, extension_flat, changed_from, with_changed_u}
use Rattle.langtag_keyword.specs.EditText.{replaces}
use Rattle.langtag_locale.specs.Resolved.{resolved_subtags}
use Rattle.langtag_locale.specs.WishTexts.{wish_texts}
use Rattle.langtag_keyword.proofs.ExtensionsPut.{AreLeft, ArePut}
use Rattle.langtag_locale.proofs.resolved_extensions.push_resolved_extensions.Given as goal

-- those that are left, with `u` in its place, are put after those before them
abbrev pub invariant-loop-extension : goal.invariant-loop-extension
invariant-loop-extension l = (es : List Extension) → SpellsExtensions es (extensions_text l.fn.extensions) →
    AreLeft (ArePut (λ left. flat_map extension_flat (changed_from (resolved_subtags (wish_texts l.wish)) (replaces l.place) left)) (flat_map extension_flat (with_changed_u (resolved_subtags (wish_texts l.wish)) es)) l.fn.out l.out)
    (extensions_left l.rest)

abbrev pub decreases-loop-extension : goal.decreases-loop-extension
decreases-loop-extension l = length (extensions_left l.rest)
