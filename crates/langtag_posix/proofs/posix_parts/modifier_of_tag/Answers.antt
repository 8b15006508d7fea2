use Rattle.langtag_cldr.specs.Texts.{field_texts}
use Rattle.langtag_posix.proofs.PosixNameRead.{modifier_few}
use Rattle.langtag_posix.proofs.posix_parts.modifier_of_tag.Goals as goal

pub returns-clause-few : goal.returns-clause-few
returns-clause-few c = modifier_few (field_texts c.fields_of.result) _ _ _ c.name_modifier.ensures
