use Rattle.std.proofs.Common.{◌≤◌, length, take, drop, refl, sym, ap, subst, ◌∙◌, arith, take_at, Some}
use Rattle.langtag.specs.Definitions.{lang_tag_text, script_text, SetsScript}
use Rattle.langtag_scan.specs.Tag.{IsTag}
use Rattle.langtag.proofs.FormLaws.{kept_form}
use Rattle.langtag_posix.proofs.PosixLaws.{set_script}
use Rattle.langtag_posix.proofs.posix.tag_with_script.Goals as goal

pub returns-in_default-as_normal : goal.returns-in_default-as_normal
returns-in_default-as_normal c = kept_form _ _ _ (λ normal. let no = c.in_default-as_normal.ensures.kind.1 normal in absurd cc) refl

pub shared_ref_as_front-from_bytes : goal.shared_ref_as_front-from_bytes
shared_ref_as_front-from_bytes c =
    let w = c.write_part-len.ensures.set in
    let set = set_script (lang_tag_text c.args.tag) w.text (script_text c.in-Some.script) c.in-Some.script.in_class in
    grind (arith, set, w, c.in-Some-as_normal.ensures)

pub unreachable-requires : goal.unreachable-requires
unreachable-requires c =
    let w = c.write_part-len.ensures.set in
    let set = subst (λ t. SetsScript (Some (script_text c.in-Some.script)) t w.text) c.in-Some-as_normal.ensures.same_text w.is_so.0 in
    let (is_tag, few, form) = set_script (lang_tag_text c.args.tag) w.text (script_text c.in-Some.script) c.in-Some.script.in_class (c.in-Some-as_normal.ensures.kind.0 refl) set in
    let room : c.write_part-len.result ≤ length c.args.room.now = omega (arith, w.whole, few, c.requires, c.fits-room) in
    let is = ap (take c.write_part-len.result) (w.written room) ∙ take_at w.text (drop c.write_part-len.result c.args.room.now) c.write_part-len.result (sym w.whole) in
    let no = c.in-Err.ensures.accepts.1 (subst IsTag (sym is) is_tag) in
    absurd cc
