-- The fields of a base. Only contracts of private functions, and what an iterator has left, cite this page.
use Rattle.langtag_text.specs.Fields.{Fields}
use Rattle.langtag_parent.specs.declared.base.Base.{Base}

abbrev pub base_fields : Base → Fields
base_fields base = record { language = base.language.now; script = base.script.now; region = base.region.now }
