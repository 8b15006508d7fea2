use Rattle.std.proofs.Common.{◌≡◌, [], ◌++◌, length, ap, sym, arith}
use Rattle.langtag_scan.specs.Record.{Record, Spells, spell}
use Rattle.langtag.specs.Text.{normal_lang_tag_text}
use Rattle.langtag_cldr.specs.Definitions.{field_texts}
use Rattle.langtag_likely.proofs.Definitions.{put_fields}
use Rattle.langtag_cldr.proofs.FieldClasses.{language_length, script_length}
use Rattle.langtag_likely.proofs.PutLaws.{put_length, put_spelled, region_three}
use Rattle.langtag_likely.proofs.put.pieces.Goals as goal

pub returns : goal.returns
returns c =
    let f = field_texts c.args.fields in
    let text = c.put_language.result.now ++ (c.hyphen_before.result.now ++ (f.script ++ (c.hyphen_before-2.result.now ++ (f.region ++ (c.after_region.result.now ++ []))))) in
    let whole : (r : Record) → Spells r (normal_lang_tag_text c.args.tag) → text ≡ spell (put_fields r f) = λ r spells.
    rw (c.put_language.ensures r.primary r.extended (record { first = spells.0.primary; others = spells.0.extended; few = spells.0.few; short = spells.0.short; joined = sym (c.language.ensures.part r spells) }), c.after_region.ensures r spells)
    (put_spelled r f c.hyphen_before.result.now c.hyphen_before-2.result.now c.hyphen_before.ensures c.hyphen_before-2.ensures) in
    let l = language_length c.args.fields.language.now c.args.fields.language_class in
    let s = script_length c.args.fields.script.now c.args.fields.script_class in
    let g = region_three c.args.fields.region.now c.args.fields.region_class in
    record { whole = whole; short = λ r spells. omega (arith, ap length (whole r spells), put_length r f, ap length spells.1, l, s, g) }
