use Rattle.std.proofs.Common.{rules, sym, ◌∙◌, ap}
use Rattle.langtag_extension.specs.ExtensionTexts.{texts_left}
use Rattle.langtag_extension.proofs.ExtensionLookUp.{group_texts-split}
use Rattle.langtag_extension.proofs.extension_texts.ExtensionTextsIterator.next.Goals as goal

pub returns : goal.returns
returns c =
    let first =
    sym c.self.view_is ∙ ap texts_left c.in_ok-text.was
    ∙ group_texts-split _ _ c.split_extension.result.1 c.split_extension.ensures.joined c.split_extension.ensures.one c.split_extension.ensures.next in
    record { steps = first; goes = rw first (search rules) }
