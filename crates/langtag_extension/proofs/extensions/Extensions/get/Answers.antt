use Rattle.langtag_scan.proofs.Prelude.{◌∙◌, rules, map, YieldsList-from_first}
use Rattle.std.proofs.lemmas.Iterator.Search.{find_from_yields_List}
use Rattle.langtag_extension.specs.Decided.{opens_alike}
use Rattle.langtag_extension.specs.Spelling.{extension_spelling}
use Rattle.langtag_extension.specs.Text.{extension_text, extensions_left}
use Rattle.langtag_extension.proofs.ExtensionLookUp.{find_spellings}
use Rattle.langtag_extension.proofs.extensions.Extensions.get.Goals as goal

pub returns : goal.returns
returns c = record {
  first_match = λ es spells.
      find_from_yields_List (opens_alike c.args.singleton.byte) c.find.new.self _ _ c.find.ensures.ran
      (YieldsList-from_first extension_text extensions_left (map extension_spelling es) (c.iter.ensures.list es spells)) (λ x b q k. search rules)
      ∙ find_spellings c.args.singleton.byte es;
}
