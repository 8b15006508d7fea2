use Rattle.std.proofs.Common.{◌≡◌, ◌<◌, ◌^◌, [], ◌++◌, length, length-append, ◌∙◌, arith}
use Rattle.langtag.proofs.FormLaws.{rewritten}
use Rattle.langtag_text.specs.Fields.{Fields}
use Rattle.langtag_parent.specs.Chain.{text_of}
use Rattle.langtag_parent.proofs.Texts.{text_in_pieces}
use Rattle.langtag_parent.proofs.parent_tag.ParentTag.write.Goals as goal

pub returns-clause-written : goal.returns-clause-written
returns-clause-written c =
    let tag = c.args.self in
    let f : Fields = record { language = tag.language.now; script = tag.script.now; region = tag.region.now } in
    let text = f.language ++ (c.hyphen_before.result.now ++ (f.script ++ (c.hyphen_before-2.result.now ++ (f.region ++ (tag.rest.now ++ []))))) in
    let same : text ≡ text_of f tag.rest.now =
    text_in_pieces f c.hyphen_before.result.now c.hyphen_before-2.result.now tag.rest.now c.hyphen_before.ensures.hyphen c.hyphen_before-2.ensures.hyphen in
    let short : length text < 2 ^ 64 = simp length-append (omega (arith, tag.fits, tag.short_script, tag.short_region, c.hyphen_before.ensures.few, c.hyphen_before-2.ensures.few)) in
    rewritten _ _ _ (λ new is. is ∙ same) (c.write_pieces.ensures.written short)
