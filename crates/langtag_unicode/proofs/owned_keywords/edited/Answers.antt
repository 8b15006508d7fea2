use Rattle.langtag_keyword.proofs.Common.{inl, sym, offsets_kept}
use Rattle.langtag_scan.specs.Tag.{IsNormal, IsTag}
use Rattle.langtag_keyword.specs.EditText.{edited_record_by, value_subtags}
use Rattle.langtag_keyword.proofs.FormRecords.{edited_well_formed}
use Rattle.langtag_unicode.proofs.owned_keywords.edited.Goals as goal

-- the record of the tag, with the edit, is that of the new text
pub tag_of-requires : goal.tag_of-requires
unfolding IsTag IsNormal
tag_of-requires c =
    let (r, spells) = (offsets_kept _ _ c.args.tag.kept_ends).normal in
    inl (edited_record_by c.args.edit r, (edited_well_formed c.args.edit.key.now (value_subtags c.args.edit) c.requires r spells.0, sym (c.in_ok-edited_bytes.ensures r spells)))
