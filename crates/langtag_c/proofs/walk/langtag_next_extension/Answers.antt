use Rattle.langtag_c.proofs.ExtensionSpans.{extension-taken}
use Rattle.langtag_c.proofs.walk.langtag_next_extension.Goals as goal

pub returns-clause-extension : goal.returns-clause-extension
returns-clause-extension c is_true first others spells =
    let part = c.in-Some.ensures in
    extension-taken _ _ _ _ c.in-Some.part _ first others part.0 part.1 c.first_extension_end.ensures c.take_first.ensures.first c.take_first.ensures.rest spells
