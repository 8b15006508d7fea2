-- The parts of the names of the code. Only contracts of private functions cite this page.
use Rattle.langtag_posix.specs.ToPosix.{NameParts}
use Rattle.langtag_posix.specs.declared.posix_name.PosixName.{PosixName}

abbrev pub posix_name_parts : PosixName → NameParts
posix_name_parts name = record { language = name.language.now; territory = name.territory.now; variant = name.variant.now; modifier = name.modifier.now }
