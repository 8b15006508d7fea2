use Rattle.langtag_scan.proofs.Laws.{spelled_once, join-parts}
use Rattle.langtag.proofs.PartRules.{parts_stand}
use Rattle.langtag.proofs.normal_lang_tag.NormalLangTag.new.Goals as goal

pub returns-in_default-clause-one_record : goal.returns-in_default-clause-one_record
returns-in_default-clause-one_record c = spelled_once

pub returns-in_default-clause-joined_parts : goal.returns-in_default-clause-joined_parts
returns-in_default-clause-joined_parts c r _ = join-parts r

pub returns-in_default-clause-part_offsets : goal.returns-in_default-clause-part_offsets
returns-in_default-clause-part_offsets c = parts_stand

pub returns-clause-one_record : goal.returns-clause-one_record
returns-clause-one_record c = spelled_once

pub returns-clause-joined_parts : goal.returns-clause-joined_parts
returns-clause-joined_parts c r _ = join-parts r

pub returns-clause-part_offsets : goal.returns-clause-part_offsets
returns-clause-part_offsets c = parts_stand
