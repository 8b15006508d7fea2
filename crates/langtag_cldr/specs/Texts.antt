-- The texts of fields.
use Rattle.langtag_cldr.specs.declared.tag_fields.TagFields.{TagFields}
use Rattle.langtag_text.specs.Fields.{Fields}

abbrev pub field_texts : TagFields → Fields
field_texts fields = record { language = fields.language.now; script = fields.script.now; region = fields.region.now }
