use Rattle.langtag_keyword.proofs.Common.{List, length, flat_map, SpellsExtensions, extensions_left, extensions_text, Extension, extension_flat, changed_from, with_changed_u}
use Rattle.langtag_keyword.specs.EditText.{edited_by, replaces}
use Rattle.langtag_keyword.proofs.ExtensionsPut.{AreLeft, ArePut}
use Rattle.langtag_keyword.proofs.keyword_edit.push_edited.Given as goal

-- those that are left, with `u` in its place, are put after those before them
abbrev pub invariant-loop-extension : goal.invariant-loop-extension
invariant-loop-extension l = (es : List Extension) → SpellsExtensions es (extensions_text l.fn.extensions) →
    AreLeft (ArePut (λ left. flat_map extension_flat (changed_from (edited_by l.edit) (replaces l.place) left)) (flat_map extension_flat (with_changed_u (edited_by l.edit) es)) l.fn.out l.out)
    (extensions_left l.rest)

abbrev pub decreases-loop-extension : goal.decreases-loop-extension
decreases-loop-extension l = length (extensions_left l.rest)
