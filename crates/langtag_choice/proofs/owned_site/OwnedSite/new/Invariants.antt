use Rattle.std.proofs.Common.{◌≡◌, take}
use Rattle.langtag_choice.specs.Sites.{prepared_tags}
use Rattle.langtag_choice.proofs.owned_site.OwnedSite.new.Given as goal

abbrev pub invariant-loop-tag : goal.invariant-loop-tag
invariant-loop-tag l = prepared_tags l.prepared.items ≡ take l.tag-index l.tags
