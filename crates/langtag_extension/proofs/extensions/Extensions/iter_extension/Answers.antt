use Rattle.langtag_extension.specs.Text.{extension_text}
use Rattle.langtag_extension.proofs.ExtensionLookUp.{subtags_found}
use Rattle.langtag_extension.proofs.extensions.Extensions.iter_extension.Goals as goal

pub returns : goal.returns
returns c = record {
  list = λ es spells.
      subtags_found c.args.singleton.byte es spells.members (extension_text c.in-Some.extension) _ (c.in-Some.ensures.first_match es spells) c.iter.ensures.list;
}
