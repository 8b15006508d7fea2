use Rattle.langtag_keyword.proofs.Common.{List, SpellsExtensions, extensions_left, extensions_text}
use Rattle.langtag_scan.specs.Record as model
use Rattle.langtag_locale.proofs.LocaleRecords.{AreAsked}
use Rattle.langtag_locale.proofs.locale.are_locale_extensions.Given as goal

-- those before this one are allowed
abbrev pub invariant-loop-extension : goal.invariant-loop-extension
invariant-loop-extension l = record {
  can_next : (goal.iterator-loop-extension).can_next l.extension-iterator;
  is_finite : (goal.iterator-loop-extension).is_finite l.extension-iterator;
  so_far : (es : List model.Extension) → SpellsExtensions es (extensions_text l.fn.extensions) → AreAsked es (extensions_left l.extension-iterator);
}
