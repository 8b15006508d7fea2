use Rattle.langtag_scan.proofs.Prelude.{◌<◌, [], Some, Ok, Err, get_or, length, map, sym, ap, ◌∙◌, arith, get_or-map, ltb, ltb-true, searched, eqb-true}
use Rattle.langtag_text.proofs.Elements.{list_all_get}
use Rattle.langtag_text.proofs.Rising.{climb_searched}
use Rattle.langtag_fields.proofs.Values.{value_searched}
use Rattle.langtag_fields.proofs.table.value_of.Goals as goal

pub returns-in-Ok : goal.returns-in-Ok
returns-in-Ok c = λ list of.
    let keys = c.args.keys.now in
    let texts = map (λ text. text.now) c.args.values.now in
    let indices = c.args.indices.now in
    let at = searched keys c.folded_number.result (Ok c.in-Ok.index) c.in-Ok.ensures.position (climb_searched keys of.numbers.climb) in
    let beside : c.in-Ok.index < length indices = omega (arith, at.0, eqb-true (length keys) (length indices) c.requires.beside) in
    let inside : c.from.result < length c.args.values.now =
    omega (arith, c.from.ensures, ltb-true _ _ (list_all_get (λ index. ltb index (length c.args.values.now)) indices c.in-Ok.index 0 c.requires.inside beside)) in
    sym (value_searched keys list c.args.text.now c.folded_number.result (Ok c.in-Ok.index) of.numbers c.requires.subtag.alphanumeric c.folded_number.ensures.number at
    ∙ ap (λ found. Some (get_or found c.in-Ok.index [])) (sym of.beside)
    ∙ ap Some (get_or-map (λ index. get_or texts index []) indices c.in-Ok.index 0 [] beside
    ∙ ap (λ index. get_or texts index []) (sym c.from.ensures)
    ∙ get_or-map (λ text. text.now) c.args.values.now c.from.result _ [] inside))

pub returns-in-Err : goal.returns-in-Err
returns-in-Err c = λ list of.
    let keys = c.args.keys.now in
    let at = searched keys c.folded_number.result (Err c.in-Err.field-0) c.in-Err.ensures.position (climb_searched keys of.numbers.climb) in
    sym (value_searched keys list c.args.text.now c.folded_number.result (Err c.in-Err.field-0) of.numbers c.requires.subtag.alphanumeric c.folded_number.ensures.number at)
