use Rattle.langtag_scan.proofs.Prelude.{Some, map, sym, ap, ◌∙◌, option_map, arith, length-map}
use Rattle.langtag_text.proofs.Letters.{primary_letters}
use Rattle.langtag_text.specs.Numbers.{letter_number}
use Rattle.langtag_cldr.specs.Definitions.{language_rows, field_texts}
use Rattle.langtag_cldr.specs.Rows.{places_of}
use Rattle.langtag_cldr.proofs.TableRows.{first_index-is}
use Rattle.langtag_cldr.proofs.RowLaws.{language_found}
use Rattle.langtag_cldr.proofs.rows.language_row.Goals as goal

pub returns-in_err-index : goal.returns-in_err-index
returns-in_err-index c =
    ap (option_map field_texts) c.from_residual.ensures
    ∙ ap (option_map places_of) (language_found _ _ _ (primary_letters _ c.requires.primary) c.letter_number.ensures.number c.in_err-index.ensures)

pub language_places-requires : goal.language_places-requires
language_places-requires c =
    let at = first_index-is (map (λ row. letter_number row.from.language) language_rows) c.letter_number.result c.in_ok-index.index (sym c.in_ok-index.ensures) in
    omega (arith, at.inside, length-map language_rows (λ row. letter_number row.from.language))

pub returns : goal.returns
returns c =
    ap Some c.language_places.ensures
    ∙ ap (option_map places_of) (language_found _ _ _ (primary_letters _ c.requires.primary) c.letter_number.ensures.number c.in_ok-index.ensures)
