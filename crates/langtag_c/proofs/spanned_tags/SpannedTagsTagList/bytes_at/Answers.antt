use Rattle.langtag_c.proofs.TagsAt.{tag_bytes}
use Rattle.langtag_c.proofs.spanned_tags.SpannedTagsTagList.bytes_at.Goals as goal

pub returns : goal.returns
returns c = tag_bytes _ _ _ _ c.requires c.bytes_in.ensures.bytes
