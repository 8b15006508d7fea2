use Rattle.langtag_scan.proofs.Prelude.{◌==◌, sym, ap, ◌∙◌, searched, list_any}
use Rattle.langtag_scan.specs.Case.{folded_number}
use Rattle.langtag_scan.proofs.FoldedNumbers.{among-folded}
use Rattle.langtag_text.proofs.Rising.{climb_searched, found_among}
use Rattle.langtag_fields.proofs.table.is_among.Goals as goal

pub returns : goal.returns
returns c = λ list of.
    let keys = c.args.keys.now in
    c.is_ok.ensures.value
    ∙ found_among keys c.folded_number.result c.binary_search.result
    (searched keys c.folded_number.result c.binary_search.result c.binary_search.ensures.position (climb_searched keys of.climb))
    ∙ ap (λ key. list_any (λ n. n == key) keys) c.folded_number.ensures.number
    ∙ ap (list_any (λ n. n == folded_number c.args.text.now)) of.numbers
    ∙ sym (among-folded c.args.text.now list c.requires.alphanumeric of.plain)
