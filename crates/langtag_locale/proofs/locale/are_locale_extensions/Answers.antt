use Rattle.std.proofs.lemmas.Bool.Decides.{nat_tests}
use Rattle.std.proofs.Common.{arith}
use Rattle.langtag_keyword.proofs.Common.{true, false, sym, ◌∙◌, extension_text, extensions_left}
use Rattle.langtag_locale.proofs.LocaleRecords.{asked-first}
use Rattle.langtag_keyword.proofs.ExtensionsPut.{left-none}
use Rattle.langtag_locale.proofs.locale.are_locale_extensions.Goals as goal

pub loop-extension-init : goal.loop-extension-init
loop-extension-init c = grind (arith, nat_tests, c.iter-extension-items.ensures.list)

pub loop-extension-preserved : goal.loop-extension-preserved
loop-extension-preserved c = record {
  can_next = tt;
  is_finite = tt;
  so_far = λ es spells.
      asked-first es _ (extensions_left c.next.new.self) (extension_text c.in-Some.extension) true c.in-Some.ensures.steps (c.loop-extension.invariant.so_far es spells)
      (λ e is. sym c.if-not-is_locale_extension.false ∙ c.is_locale_extension.ensures e is);
}

pub returns-then-not-is_locale_extension : goal.returns-then-not-is_locale_extension
returns-then-not-is_locale_extension c = λ es spells.
    (asked-first es _ (extensions_left c.next.new.self) (extension_text c.in-Some.extension) false c.in-Some.ensures.steps (c.loop-extension.invariant.so_far es spells)
    (λ e is. sym c.if-not-is_locale_extension.true ∙ c.is_locale_extension.ensures e is)).holds

pub returns : goal.returns
returns c = λ es spells. left-none _ _ (c.loop-extension.invariant.so_far es spells) c.in-None.ensures.steps.0
