use Rattle.langtag_scan.proofs.Prelude.{ℕ, List, Bor, Ok, Err, sym, subst, arith, common_steps, searched}
use Rattle.langtag_fields.specs.Entry.{Entry}
use Rattle.langtag_fields.specs.Tables.{AreEndsOf}
use Rattle.langtag_text.proofs.Rising.{climb_searched}
use Rattle.langtag_fields.proofs.Values.{end_searched, end_of, subtags-view, end_decided}
use Rattle.langtag_fields.proofs.preferred.value_beside.Goals as goal

abbrev entry_of : Bor (List ℕ) × Bor (List ℕ) → Entry
entry_of pair = record { subtag = pair.0.now; value = pair.1.now }

pub returns-in_default : goal.returns-in_default
returns-in_default c =
    let keys = c.args.keys.now in
    let of = subst (AreEndsOf keys) (sym (subtags-view entry_of c.args.table.now)) c.requires in
    sym (end_searched keys _ c.args.bytes.now c.folded_number.result (Err c.in_default.field-0) of
    (end_of c.args.bytes.now c.saturating_sub.result c.folded_number.result c.saturating_sub.ensures c.folded_number.ensures.number)
    (searched keys c.folded_number.result (Err c.in_default.field-0) c.in_default.ensures.position (climb_searched keys c.requires.climb)))

pub returns : goal.returns
returns c =
    let keys = c.args.keys.now in
    let of = subst (AreEndsOf keys) (sym (subtags-view entry_of c.args.table.now)) c.requires in
    let at = searched keys c.folded_number.result (Ok c.in-Ok.index) c.in-Ok.ensures.position (climb_searched keys c.requires.climb) in
    let end = end_of c.args.bytes.now c.saturating_sub.result c.folded_number.result c.saturating_sub.ensures c.folded_number.ensures.number in
    let found = end_searched keys _ c.args.bytes.now c.folded_number.result (Ok c.in-Ok.index) of end at in
    grind (arith, common_steps, found, of, at, end_decided entry_of keys c.args.table.now c.args.bytes.now c.in-Ok.index)
